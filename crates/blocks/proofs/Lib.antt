-- What is proved of the definitions: the laws, which proofs cite, then the theorems.
pub mod Laws
pub mod SearchTheorems
pub mod UseTheorems
pub mod WorkedCuts
pub mod WorkedUses
