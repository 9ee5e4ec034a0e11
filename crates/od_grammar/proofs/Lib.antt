-- The lemmas of this crate.
pub mod Among
pub mod Appearing
pub mod Asked
pub mod Items
pub mod KnownLabels
pub mod Refusals
pub mod Sent
pub mod SurfaceLabels
pub mod Telling
pub mod Wholes
