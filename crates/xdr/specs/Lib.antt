-- XDR (RFC 4506): what a number is as bytes.
pub mod Words
pub mod Items
