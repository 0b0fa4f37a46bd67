pub mod Codings
pub mod Listings
pub mod MediaTypes
pub mod Pages
pub mod Path
pub mod Redirect
pub mod Tags
