-- What a message, a proposal and a decision do to the memory that play is lent.
pub mod Memory
pub mod Effects
