mod Ordered
mod Standing
mod Tabled
