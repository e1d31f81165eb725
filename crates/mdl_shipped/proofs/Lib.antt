pub mod ShippedSmall
mod Lined
mod Spelled
