mod Within
mod Same
