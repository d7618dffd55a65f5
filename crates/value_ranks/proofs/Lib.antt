mod Siding
mod Finding
