-- For proofs alone: what is returned for the items.
use Rattle.std.specs.Prelude.{◌≡◌, Some, None, Result, Ok, Err, List}
use Rattle.mdl_check.specs.Placed.{Entry}
use Rattle.mdl_check.specs.Checking.{first_fault, checked_of, CheckRefuses}
use Rattle.mdl_check.specs.declared.checked.Checked.{Checked}
use Rattle.mdl_check.specs.declared.fault.CheckError.{CheckError}

abbrev pub IsJudged : List Entry → Result Checked CheckError → Type 0
IsJudged es (Ok checked) = (first_fault es ≡ None) × (checked ≡ checked_of es)
IsJudged es (Err e) = CheckRefuses e (λ fault. first_fault es ≡ Some fault)
