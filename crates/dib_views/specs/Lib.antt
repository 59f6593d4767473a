pub mod Results
pub mod Pictures
pub mod Pixels
pub mod Headers
pub mod Dibs
pub mod Rows
pub mod PictureOf
