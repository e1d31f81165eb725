pub mod HartStops
pub mod Heads
pub mod HeadCounts
pub mod Words
pub mod Beginnings
pub mod Knowing
pub mod Results
