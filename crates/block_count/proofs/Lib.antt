mod Pairs
pub mod Agreeing
pub mod Answered
pub mod Bodies
pub mod Chains
pub mod Courses
pub mod Ended
pub mod Forces
pub mod Going
pub mod Legal
pub mod Measured
pub mod Placed
pub mod Quanta
pub mod ReadyHarts
pub mod Sampled
pub mod Slots
pub mod Taken
