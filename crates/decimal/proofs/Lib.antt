-- Laws of text put at a place, and of decimal digits.
pub mod Text
pub mod Decimal
pub mod Columns
