-- The laws, which proofs cite; then, sentence by sentence, the demands and the requests of document 02, and the checked list.
pub mod Laws
pub mod Demands
pub mod Requests
pub mod CheckedList
