-- Laws for what the tree's calls promise.
pub mod Calling
pub mod Previewing
pub mod PathCalls
