pub mod FirstTurns
pub mod LoopCounted
pub mod ThreeCounters
pub mod HartInside
pub mod WarmTimer
