pub mod Laws
pub mod Carried
pub mod Needs
pub mod Alls
pub mod Lending
pub use Rattle.iigs_places.specs.Holder
pub use Rattle.iigs_memory.specs.Overlay
