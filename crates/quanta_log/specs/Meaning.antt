-- What bytes mean as a log: its settings and quanta, or their first fault.
use Rattle.std.specs.Prelude.{◌≡◌, ⊤, ℕ, zero, suc, ◌+◌, ◌==◌, nat_lt, nat_eq, not, if◌then◌else◌, Bool, true, false, Option, Some, None, List, [], ◌∷◌, Result, Ok, Err, MatchResult, length, map, take}
use Rattle.std.specs.List.{starts_with}
use Rattle.std.specs.Global.{Vec}
use Rattle.pn_types.specs.declared.limits.TheConstants.{USUAL_INSTRUMENTS}
use Rattle.pn_types.specs.declared.settings.Settings.{Settings}
use Rattle.pn_types.specs.declared.settings.Start.{Start}
use Rattle.pn_types.specs.declared.settings.Start.TheVariants.{Cold, Warm}
use Rattle.quanta_log.specs.declared.version.Version.{Version}
use Rattle.quanta_log.specs.declared.version.Version.TheVariants.{One, Two}
use Rattle.pn_types.specs.declared.quantum.Quantum.{Quantum}
use Rattle.quanta_log.specs.declared.fault.LogFault.{LogFault}
use Rattle.quanta_log.specs.declared.fault.LogFault.TheVariants.{BadHead, Short, BadField, Trailing}
use Rattle.quanta_log.specs.declared.fault.LogError.{LogError}
use Rattle.quanta_log.specs.declared.fault.LogError.TheVariants as error
use Rattle.quanta_log.specs.Fields.{Field, magic, head_len, entry_len, log_len, head_fields, entry_fields, number, is_within}

-- the first bytes, up to 8, are those of a version's magic
abbrev pub begins_as : Version → List ℕ → Bool
begins_as v b = starts_with nat_eq (magic v) (take 8 b)

-- the version as which bytes begin; fewer than 8 may begin as both, and are too short for either
abbrev pub version_of : List ℕ → Option Version
version_of b = if begins_as Two b then Some Two else (if begins_as One b then Some One else None)

-- ---- what stands there

abbrev pub log_harts : List ℕ → ℕ
log_harts b = number 4 b 8

abbrev pub count_of : List ℕ → ℕ
count_of b = number 8 b 32

abbrev pub start_of : ℕ → Start
start_of n = if n == 0 then Cold else Warm

abbrev pub settings_with : List ℕ → Start → ℕ → Settings
settings_with b start instruments = record {
  harts = log_harts b;
  budget = number 8 b 16;
  bins = number 4 b 12;
  width = number 8 b 24;
  start = start;
  instruments = instruments;
}

abbrev pub settings_of : Version → List ℕ → Settings
settings_of One b = settings_with b Cold USUAL_INSTRUMENTS
settings_of Two b = settings_with b (start_of (number 4 b 40)) (number 4 b 44)

-- the quantum of an entry at a place
abbrev pub quantum_at : Version → List ℕ → ℕ → Quantum
quantum_at One b at = record {
  worker = number 4 b at;
  hart = number 4 b (at + 4);
  turns = number 4 b (at + 8);
  owns = number 4 b (at + 12);
}
quantum_at Two b at = record { worker = number 1 b at; hart = number 1 b (at + 1); turns = number 2 b (at + 2); owns = number 2 b (at + 4) }

-- the quanta of n entries from a place on
abbrev pub quanta_at : Version → List ℕ → ℕ → ℕ → List Quantum
quanta_at v b zero at = []
quanta_at v b (suc n) at = quantum_at v b at ∷ quanta_at v b n (at + entry_len v)

-- ---- what is wrong

abbrev pub fault_where : Bool → LogFault → Option LogFault
fault_where true fault = Some fault
fault_where false fault = None

-- what the first check gives that gives a fault
abbrev pub first_fault : List (Option LogFault) → Option LogFault
first_fault [] = None
first_fault (None ∷ checks) = first_fault checks
first_fault (Some fault ∷ checks) = Some fault

-- a number outside its range is a fault at its place
abbrev pub field_fault : List ℕ → Field → Option LogFault
field_fault b f = fault_where (not (is_within f.least f.most (number f.size b f.place))) (BadField f.place)

-- the first fault of a head, and of an entry at a place
unfoldable pub head_fault : Version → List ℕ → Option LogFault
head_fault v b = first_fault (map (field_fault b) (head_fields v))

unfoldable pub entry_fault : Version → ℕ → List ℕ → ℕ → Option LogFault
entry_fault v harts b at = first_fault (map (field_fault b) (entry_fields v harts at))

-- the first fault of n entries from a place on
abbrev pub entries_fault : Version → ℕ → List ℕ → ℕ → ℕ → Option LogFault
entries_fault v harts b zero at = None
entries_fault v harts b (suc n) at = first_fault (entry_fault v harts b at ∷ entries_fault v harts b n (at + entry_len v) ∷ [])

-- the first fault of bytes that begin as a log of this version
unfoldable pub log_fault : Version → List ℕ → Option LogFault
log_fault v b =
    first_fault (fault_where (nat_lt (length b) (head_len v)) (Short (length b))
    ∷ head_fault v b
    ∷ fault_where (nat_lt (length b) (log_len v (count_of b))) (Short (length b))
    ∷ entries_fault v (log_harts b) b (count_of b) (head_len v)
    ∷ fault_where (nat_lt (log_len v (count_of b)) (length b)) (Trailing (log_len v (count_of b)))
    ∷ [])

-- ---- what they mean

-- a value, unless there is a fault
abbrev pub unless_fault : {A : Type 0} → Option LogFault → A → Result A LogFault
unless_fault None value = Ok value
unless_fault (Some fault) value = Err fault

abbrev pub meaning_as : Option Version → List ℕ → Result (Settings × List Quantum) LogFault
meaning_as None b = Err BadHead
meaning_as (Some v) b = unless_fault (log_fault v b) (settings_of v b, quanta_at v b (count_of b) (head_len v))

-- The settings and quanta of a log, or its first fault.
unfoldable pub meaning_of : List ℕ → Result (Settings × List Quantum) LogFault
meaning_of b = meaning_as (version_of b) b

-- why a call was refused; running out of memory is always allowed
abbrev pub LogRefuses : LogError → (LogFault → Type 0) → Type 0
LogRefuses (error.Fault fault) why = why fault
LogRefuses error.NoMemory why = ⊤

-- the result is what bytes mean, unless memory runs out
abbrev pub Means : Result (Settings × Vec Quantum) LogError → Result (Settings × List Quantum) LogFault → Type 0
Means result meaning = MatchResult result (λ log. meaning ≡ Ok (log.0, log.1.items)) (λ e. LogRefuses e (λ fault. meaning ≡ Err fault))
