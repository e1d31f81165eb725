pub mod Executions
pub mod HartEnds
pub mod Numbers
pub mod Laws
pub mod Transfers
