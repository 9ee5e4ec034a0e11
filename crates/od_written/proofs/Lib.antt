-- The lemmas of this crate.
pub mod Events
pub mod Hops
pub mod PathEnds
pub mod PathShapes
pub mod Paths
pub mod Plain
pub mod ReadBack
pub mod Rows
pub mod StepEnds
pub mod Steps
pub mod SurfaceShapes
pub mod Surfaces
pub mod Texts
