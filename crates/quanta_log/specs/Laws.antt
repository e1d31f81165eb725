-- That reading and writing of logs are each other's inverse.
use Rattle.std.specs.Prelude.{◌≡◌, ℕ, Ok, Some, List}
use Rattle.outside.specs.Outside.{IsBytes}
use Rattle.pn_types.specs.declared.settings.Settings.{Settings}
use Rattle.quanta_log.specs.declared.version.Version.{Version}
use Rattle.pn_types.specs.declared.quantum.Quantum.{Quantum}
use Rattle.quanta_log.specs.Spelling.{spelled, CanSpell}
use Rattle.quanta_log.specs.Meaning.{meaning_of, version_of}

-- what is spelled means what was spelled
abbrev pub IsReadAgain : Type 0
IsReadAgain = (v : Version) (s : Settings) (quanta : List Quantum) → CanSpell v s quanta → meaning_of (spelled v s quanta) ≡ Ok (s, quanta)

-- bytes that mean a log are its spelling in their version
abbrev pub IsSpelled : Type 0
IsSpelled =
    (b : List ℕ) (v : Version) (s : Settings) (quanta : List Quantum) → IsBytes b → version_of b ≡ Some v → meaning_of b ≡ Ok (s, quanta)
    → CanSpell v s quanta × (b ≡ spelled v s quanta)

-- bytes of one version that mean the same log are the same
abbrev pub IsOne : Type 0
IsOne =
    (b c : List ℕ) (v : Version) (s : Settings) (quanta : List Quantum) → IsBytes b → IsBytes c
    → version_of b ≡ Some v → version_of c ≡ Some v
    → meaning_of b ≡ Ok (s, quanta) → meaning_of c ≡ Ok (s, quanta) → b ≡ c
