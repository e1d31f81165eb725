pub mod Causes
pub mod GivenFile
pub mod MemFiles
pub mod Outside
pub mod SinkState
pub mod SureFiles
