pub mod MediaRows
