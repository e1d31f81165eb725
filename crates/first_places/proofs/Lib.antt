pub mod Pushed
pub mod Somewhere
pub mod Firsts
pub mod AllPlaces
pub mod Under
pub mod Grouped
