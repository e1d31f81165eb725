mod Behind
mod Each
mod FewItems
mod Directed
mod FileReadingSteps
mod PlanLemmas
mod Inside
mod Wished
mod Numbered
mod Given
mod Counted
mod Profiled
mod Asked
mod AskedNames
mod AskedFoci
pub mod OneDue
pub mod Rising
pub mod Procs
pub mod Runnable
mod Opened
mod Prepared
