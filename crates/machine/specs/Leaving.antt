-- How soon a hart that takes turns with no event of the tool between is outside.
use Rattle.std.specs.Prelude.{◌≡◌, ℕ, zero, suc, ◌+◌, ◌==◌, ◌||◌, ◌⊎◌, not, if◌then◌else◌, Bool, true, false, IsTrue, Option, Some, None, is_none, List, [], ◌∷◌, slice_get}
use Rattle.pn_types.specs.declared.image.Image.{Image}
use Rattle.tramp_spec.specs.Harts.{Hart}
use Rattle.tramp_spec.specs.Marks.{enter}
use Rattle.machine.specs.Cores.{Row, Core, start_core}
use Rattle.machine.specs.Places.{block_at}
use Rattle.machine.specs.Turns.{fetched, turn, is_runnable}
use Rattle.machine.specs.Events.{Event}
use Rattle.machine.specs.Replays.{replay, Legal}
use Rattle.machine.specs.Laws.{IsProgram}

-- the words of the blocks of a point that aren't freed
abbrev pub words_at : ℕ → List Row → ℕ
words_at p [] = 0
words_at p (r ∷ rs) = (if r.point == p then r.len else 0) + words_at p rs

abbrev pub is_out_now : Option Hart → Bool
is_out_now None = true
is_out_now (Some x) = not (is_none x.stop) || not x.inside

-- hart h is stopped or outside
abbrev pub is_out : Core → ℕ → Bool
is_out c h = is_out_now (slice_get c.harts h)

-- hart h is out after at most this many turns, each of which it can take
abbrev pub OutWithin : ℕ → Core → ℕ → Type 0
OutWithin zero c h = is_out c h ≡ true
OutWithin (suc most) c h = (is_out c h ≡ true) ⊎ (IsTrue (is_runnable c h) × OutWithin most (turn c h) h)

-- a hart that is inside stands in a block, and is out within the words of the blocks of its point
abbrev pub OutSoon : Core → Type 0
OutSoon c =
    (h : ℕ) (x : Hart) → slice_get c.harts h ≡ Some x → x.inside ≡ true
    → (r : Row) × (block_at c.rows x.pc ≡ Some r) × OutWithin (words_at r.point c.rows) c h

-- A hart outside that can take the jump into a trampoline is out within one turn more than that: after the jump, within the words
-- of the blocks of the point at which it stood.
abbrev pub OutSoonBehindEnter : Core → Type 0
OutSoonBehindEnter c =
    (h : ℕ) (x : Hart) (jump : ℕ) → slice_get c.harts h ≡ Some x → x.inside ≡ false → IsTrue (is_runnable c h)
    → fetched c.program c.code x ≡ Some (enter jump)
    → OutWithin (words_at x.pc c.rows) (turn c h) h

-- Both hold after every list of events each of which may happen when it comes.
abbrev pub LeavesSoon : Type 0
LeavesSoon =
    (image : Image) (n budget : ℕ) (es : List Event) → IsProgram image → Legal es (start_core image n budget)
    → OutSoon (replay es (start_core image n budget)) × OutSoonBehindEnter (replay es (start_core image n budget))
