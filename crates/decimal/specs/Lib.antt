-- Numbers as text: decimal digits, and bytes put at a place of lent bytes.
pub mod Digits
pub mod Text
