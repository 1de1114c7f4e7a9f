-- What the tree's calls promise, and what a plan that is carried out comes to.
pub mod Promises
pub mod Carried
