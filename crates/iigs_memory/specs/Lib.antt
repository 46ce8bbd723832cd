pub mod Store
pub mod Overlay
pub mod Cleared
pub use Rattle.iigs_places.specs.Holder
