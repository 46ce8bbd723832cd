pub mod SlotLemmas
pub mod Dead
