mod Cuts
mod Spelled
