-- Instruments in the patched machine: what one carries, when it is in force, and its readings.
use Rattle.std.specs.Prelude.{◌≡◌, ℕ, ◌+◌, ◌-◌, ◌⊎◌, true, false, List, [], ◌∷◌, ◌++◌, length, take, zero, suc, unwrap_or}
use Rattle.std.specs.FinMap.{get}
use Rattle.pn_types.specs.declared.placed.Placed.{Placed}
use Rattle.pn_types.specs.declared.placed.PlacedSite.{PlacedSite}
use Rattle.pn_types.specs.declared.plan.Plan.{Plan}
use Rattle.pn_types.specs.declared.plan.Site.{Site}
use Rattle.tramp_spec.specs.Codes.{Code}
use Rattle.tramp_spec.specs.Marks.{tool}
use Rattle.tramp_spec.specs.Bodies.{LeavesSlot}
use Rattle.tramp_spec.specs.Harts.{Hart}
use Rattle.tramp_spec.specs.Slots.{places_of, reading_of, IsSlotOf, ArePlaces, ShareNone}
use Rattle.tramp_spec.specs.Statements.{body_of}
use Rattle.tramp_spec.specs.declared.block.Block.{Block}
use Rattle.tramp_spec.specs.declared.mark.MarkedWord.{MarkedWord}
use Rattle.machine.specs.Cores.{In, Row, Core}
use Rattle.machine.specs.Events.{Event, Turn, Write, LinkMini, UnlinkMini, LinkPoint, UnlinkPoint, Free, Arm, Sample}
use Rattle.machine.specs.Replays.{replay}

-- ---- readings

-- The reading of an instrument for a hart.
abbrev pub reading : Placed → Hart → ℕ
reading i x = reading_of i x.ticks x.bank

-- ---- what an instrument carries

-- n words of the code from an address on
abbrev pub words_at : ℕ → Code → ℕ → List MarkedWord
words_at zero code at = []
words_at (suc n) code at = unwrap_or (get code at) (tool 0) ∷ words_at n code (at + 4)

-- the body of a mini block: its words but the last
abbrev pub body_in : Code → Row → List MarkedWord
body_in code r = words_at (r.len - 1) code r.at

-- a mini block of a point has this body
pub record HasBody (c : Core) (p m : ℕ) (body : List MarkedWord) : Type 0 where
  pub row : Row
  pub listed : In row c.rows
  pub mini : row.base ≡ false
  pub point : row.point ≡ p
  pub at : row.at ≡ m
  pub is : body_in c.code row ≡ body

-- site by site: the plan's statements on the instrument's slots are the body of its mini block there, and it has no others
abbrev pub CarriesSites : Core → List ℕ → List PlacedSite → List Site → Type 0
CarriesSites c slots [] [] = Unit {0}
CarriesSites c slots (s ∷ ss) (q ∷ qs) = (s.at ≡ q.at) × HasBody c s.at s.mini (body_of slots q.stmts) × CarriesSites c slots ss qs
CarriesSites c slots [] (q ∷ qs) = ⊥
CarriesSites c slots (s ∷ ss) [] = ⊥

-- The instrument carries a plan: its variables, each on slots of its own, the code of its sites, and its Opens.
pub record Carries (c : Core) (i : Placed) (plan : Plan) : Type 0 where
  pub vars : i.vars ≡ plan.vars
  pub many : length i.slots ≡ length i.vars
  pub places : ArePlaces (places_of i)
  pub sites : CarriesSites c i.slots i.sites plan.sites
  pub opens : i.opens ≡ plan.opens

-- ---- in force

-- a body names no slot of the instrument
abbrev pub Spares : Placed → List MarkedWord → Type 0
Spares i body = (slot : ℕ) → IsSlotOf (places_of i) slot → LeavesSlot body slot

-- the mini block at an address is the instrument's
abbrev pub IsMiniOf : Placed → ℕ → Type 0
IsMiniOf i m = (s : PlacedSite) × In s i.sites × (s.mini ≡ m)

abbrev pub IsSiteOf : Placed → ℕ → Type 0
IsSiteOf i p = (s : PlacedSite) × In s i.sites × (s.at ≡ p)

-- no mini block that isn't freed names a slot of the instrument, but its own
abbrev pub IsSpared : Core → Placed → Type 0
IsSpared c i = (r : Row) → In r c.rows → r.base ≡ false → IsMiniOf i r.at ⊎ Spares i (body_in c.code r)

-- the body of a mini block that is written; a base block has none
abbrev pub body_of_block : Block → List MarkedWord
body_of_block b = take (length b.words - 1) b.words

-- what no event does to an instrument that is in force: it writes no mini block that names one of its slots, unlinks none of its
-- mini blocks or points, and sets no slot of it
abbrev pub Lets : Placed → Event → Type 0
Lets i (Write b) = (b.base ≡ true) ⊎ Spares i (body_of_block b)
Lets i (UnlinkMini p m) = IsMiniOf i m → ⊥
Lets i (UnlinkPoint p) = IsSiteOf i p → ⊥
Lets i (Arm j) = ShareNone (places_of i) (places_of j)
Lets i (Turn h) = Unit {0}
Lets i (LinkMini p m) = Unit {0}
Lets i (LinkPoint p) = Unit {0}
Lets i (Free p) = Unit {0}
Lets i (Sample j) = Unit {0}

abbrev pub AllLet : Placed → List Event → Type 0
AllLet i [] = Unit {0}
AllLet i (e ∷ es) = Lets i e × AllLet i es

-- The instrument was armed in the course of these events, and is in force since.
pub record InForce (i : Placed) (es : List Event) (c : Core) : Type 0 where
  pub before : List Event
  pub since : List Event
  pub is : es ≡ before ++ Arm i ∷ since
  pub spared : IsSpared (replay before c) i
  pub lets : AllLet i since
