-- Laws shared by the other crates: Booleans and tests, lists, memberships, refusals in order.
pub mod Tests
pub mod Conjunction
pub mod Numbers
pub mod Widths
pub mod Lists
pub mod Elements
pub mod Parts
pub mod Zeros
pub mod First
pub mod Answers
