-- Laws of XDR numbers, and of items one behind another.
pub mod Laws
pub mod Items
