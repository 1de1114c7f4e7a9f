-- What the proofs of the functions of one member use.
pub mod MemberResults
