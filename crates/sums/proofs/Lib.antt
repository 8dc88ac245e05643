-- What is proved of the definitions: the laws, which proofs cite, then the theorems.
pub mod Laws
pub mod Theorems
