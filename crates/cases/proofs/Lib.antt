-- What is proved of the definitions, which proofs cite.
pub mod Laws
