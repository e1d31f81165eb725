pub mod SeenNames
pub mod Unthreaded
pub mod WordKinds
pub mod Rows
pub mod Settling
pub mod Walks
pub mod Fitting
pub mod Simple
pub mod Reading
pub mod Ranges
mod Machine
mod ValuesTaken
mod LeftToTake
mod MachineAndGrammar
mod Slots
mod Agreeing
mod Commas
mod CommandsChecked
mod Words
mod GrammarRows
mod GivenLogs
mod SettingsGiven
