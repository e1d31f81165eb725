-- The faults of logs.
use Rattle.quanta_log.specs.declared.fault.LogFault.{LogFault}
use Rattle.quanta_log.specs.declared.fault.LogFault.TheVariants as log
use Rattle.refusals.specs.declared.fault.Fault.{Fault}
use Rattle.refusals.specs.declared.fault.Fault.TheVariants.{BadLog}
use Rattle.refusals.specs.declared.log.LogCause.TheVariants.{BadHead, Short, BadField, Trailing}

-- the fault of a log's bytes, and where it stands
abbrev pub log_fault_at : LogFault → Fault
log_fault_at log.BadHead = BadLog 0 BadHead
log_fault_at (log.Short n) = BadLog n Short
log_fault_at (log.BadField n) = BadLog n BadField
log_fault_at (log.Trailing n) = BadLog n Trailing
