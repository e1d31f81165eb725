-- The bytes of a log of each version.
use Rattle.std.specs.Prelude.{◌≡◌, ℕ, ◌<◌, ◌≤◌, List, [], ◌++◌, length}
use Rattle.std.specs.List.{flat_map, AllByRecursion}
use Rattle.byteorder.specs.Endian.{little_bytes}
use Rattle.pn_types.specs.declared.limits.TheConstants.{MAX_WORKERS, MAX_QUANTA, MAX_QUANTUM, USUAL_INSTRUMENTS}
use Rattle.pn_types.specs.declared.settings.Settings.{Settings}
use Rattle.pn_types.specs.declared.settings.Start.{Start}
use Rattle.pn_types.specs.declared.settings.Start.TheVariants.{Cold, Warm}
use Rattle.pn_types.specs.Settings.{AreInRange}
use Rattle.quanta_log.specs.declared.version.Version.{Version}
use Rattle.quanta_log.specs.declared.version.Version.TheVariants.{One, Two}
use Rattle.pn_types.specs.declared.quantum.Quantum.{Quantum}
use Rattle.quanta_log.specs.Fields.{magic, most_harts}

abbrev pub start_number : Start → ℕ
start_number Cold = 0
start_number Warm = 1

-- after the magic: harts, bins, budget, width, count; in version 2 start and instruments too
abbrev pub shared_head : Settings → ℕ → List ℕ
shared_head s count =
    little_bytes 4 s.harts ++ (little_bytes 4 s.bins
    ++ (little_bytes 8 s.budget ++ (little_bytes 8 s.width ++ little_bytes 8 count)))

abbrev pub later_head : Version → Settings → List ℕ
later_head One s = []
later_head Two s = little_bytes 4 (start_number s.start) ++ little_bytes 4 s.instruments

unfoldable pub head : Version → Settings → ℕ → List ℕ
head v s count = magic v ++ (shared_head s count ++ later_head v s)

-- worker, hart, turns, owns; in version 2 a zero too
unfoldable pub entry : Version → Quantum → List ℕ
entry One q = little_bytes 4 q.worker ++ (little_bytes 4 q.hart ++ (little_bytes 4 q.turns ++ little_bytes 4 q.owns))
entry Two q = little_bytes 1 q.worker ++ (little_bytes 1 q.hart ++ (little_bytes 2 q.turns ++ (little_bytes 2 q.owns ++ little_bytes 2 0)))

-- The bytes of a log of a version.
unfoldable pub spelled : Version → Settings → List Quantum → List ℕ
spelled v s quanta = head v s (length quanta) ++ flat_map (entry v) quanta

-- ---- what has a log

-- the numbers of a quantum, in a log of that many harts
pub record IsQuantum (harts : ℕ) (q : Quantum) : Type 0 where
  pub worker : q.worker < MAX_WORKERS
  pub hart : q.hart < harts
  pub turns : (1 ≤ q.turns) × (q.turns ≤ MAX_QUANTUM)
  pub owns : q.owns ≤ 65535

-- version 1 has no start and no number of instruments
abbrev pub IsPlain : Version → Settings → Type 0
IsPlain One s = (s.start ≡ Cold) × (s.instruments ≡ USUAL_INSTRUMENTS)
IsPlain Two s = Unit {0}

-- settings and quanta that a log of a version can have
pub record CanSpell (v : Version) (s : Settings) (qs : List Quantum) : Type 0 where
  pub settings : AreInRange s
  pub harts : s.harts ≤ most_harts v
  pub plain : IsPlain v s
  pub few : length qs ≤ MAX_QUANTA
  pub quanta : AllByRecursion (IsQuantum s.harts) qs
