-- Laws of items put through the writer.
pub mod Items
