-- Laws of differences, headroom and previews.
pub mod Differences
pub mod Headrooms
pub mod Previews
