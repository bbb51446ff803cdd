mod Layouts
mod Samples
mod Shared
mod Sizes
