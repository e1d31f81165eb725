-- What files hold of which standard input is one.
use Rattle.std.specs.Prelude.{ℕ, List, Option, Some, None, bytes_eq, codes, if◌then◌else◌}
use Rattle.outside.specs.Outside.{Holding}
use Rattle.outside.specs.SureFiles.{held_in}
use Rattle.outside.specs.declared.sure_files.SureFiles.{SureFiles}
use Rattle.std_input.specs.declared.with_input.WithInput.{WithInput}

-- the name of standard input
abbrev pub input_name : List ℕ
input_name = codes "-"

-- a name's own where standard input was read and it is its name, and else another
abbrev pub input_or_file : {X : Type 0} → Option SureFiles → List ℕ → (SureFiles → X) → X → X
input_or_file None name given other = other
input_or_file (Some input) name given other = if bytes_eq name input_name then given input else other

abbrev pub holds_with : {F : Type 0} → (F → List ℕ → Holding) → WithInput F → List ℕ → Holding
holds_with holds all name = input_or_file all.input name (λ input. held_in input name) (holds all.files name)

-- a reading of standard input that was read never fails
abbrev pub faults_with : {F : Type 0} → (F → List ℕ → ℕ) → WithInput F → List ℕ → ℕ
faults_with faults all name = input_or_file all.input name (λ input. 0) (faults all.files name)
