pub mod Desks
pub mod Feeds
pub mod Glances
pub mod Lines
pub mod Relays
pub mod Sampling
pub mod SeatLists
