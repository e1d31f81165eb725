-- What a plan measures over a run of the unpatched program. The run is a list of hart numbers from a state on, and T, the time, is
-- how many of them there were.
use Rattle.std.specs.Prelude.{◌≡◌, ℕ, ◌+◌, ◌-◌, ◌%◌, ◌^◌, ◌≤◌, ◌==◌, if◌then◌else◌, Bool, false, Option, Some, None, List, [], ◌∷◌, ◌++◌, find, take, drop, slice_get, slice_index}
use Rattle.pn_types.specs.declared.plan.Plan.{Plan}
use Rattle.pn_types.specs.declared.plan.Site.{Site}
use Rattle.pn_types.specs.declared.plan.Var.{Var}
use Rattle.rv_word.specs.Plain.{Words, PlainHart, Plain, plain}
use Rattle.rv_word.specs.Registers.{arguments_of}
use Rattle.rv_exec.specs.Run.{run_from}
use Rattle.tramp_spec.specs.Values.{values_after}
use Rattle.frame_walk.specs.Openings.{opening}
use Rattle.frame_walk.specs.Walks.{walk}

-- ---- values

-- the values of a plan's variables for one hart, and at how many of its positions so far the first wasn't 0 after the
-- position's own statements
pub record Level : Type 0 where
  pub values : List ℕ
  pub runs : ℕ

-- the statements of the site at an address act, if there is one
abbrev pub site_values : Option Site → List ℕ → List ℕ → List ℕ
site_values None arguments values = values
site_values (Some s) arguments values = values_after s.stmts arguments values

abbrev pub site_at : Plan → ℕ → Option Site
site_at plan a = find (λ s. s.at == a) plan.sites

abbrev pub counted : List ℕ → ℕ → Level
counted values runs = record { values = values; runs = if slice_index values 0 == 0 then runs else runs + 1 }

-- after a position of the hart
abbrev pub level_after : Plan → PlainHart → Level → Level
level_after plan x v = counted (site_values (site_at plan x.pc) (arguments_of x.regs) v.values) v.runs

abbrev pub passed_by : Option PlainHart → Plan → Level → Level
passed_by None plan v = v
passed_by (Some x) plan v = level_after plan x v

-- hart h's level after these turns, from a state and its level there
abbrev pub level : Words → Plan → ℕ → List ℕ → Plain → Level → Level
level t plan h [] s v = v
level t plan h (g ∷ turns) s v = level t plan h turns (plain t g s) (if g == h then passed_by (slice_get s.harts h) plan v else v)

-- before any position: with the opening values of the variables
abbrev pub opening_level : Plan → Plain → ℕ → Level
opening_level plan s h = record { values = opening plan.opens (walk s h) plan.vars; runs = 0 }

-- Hart h's level after its positions from time a to time k.
abbrev pub level_at : Words → Plan → ℕ → ℕ → ℕ → List ℕ → Plain → Level
level_at t plan h a k turns s =
    level t plan h (drop a (take k turns)) (run_from t (take a turns) s) (opening_level plan (run_from t (take a turns) s) h)

-- ---- measures

abbrev pub is_timer : List Var → Bool
is_timer [] = false
is_timer (v ∷ vs) = v.timer

-- what is measured is the first variable: a timer's runs, or a counter's value
abbrev pub measured : Plan → Level → ℕ
measured plan v = if is_timer plan.vars then v.runs else slice_index v.values 0

-- from one number to another, modulo 2^64
abbrev pub difference : ℕ → ℕ → ℕ
difference from to = (to + (2 ^ 64 - from % 2 ^ 64)) % 2 ^ 64

-- over the time from b to c, for a hart
abbrev pub measure_of : Words → Plan → ℕ → ℕ → ℕ → ℕ → List ℕ → Plain → ℕ
measure_of t plan a b c h turns s =
    difference (measured plan (level_at t plan h a b turns s)) (measured plan (level_at t plan h a c turns s))

-- What a plan measures over the time from b to c, for these harts together, where it was armed at time a.
abbrev pub measure : Words → Plan → List ℕ → ℕ → ℕ → ℕ → List ℕ → Plain → ℕ
measure t plan [] a b c turns s = 0
measure t plan (h ∷ harts) a b c turns s = (measure_of t plan a b c h turns s + measure t plan harts a b c turns s) % 2 ^ 64

-- ---- laws

-- levels go on where they were
abbrev pub LevelsGoOn : Type 0
LevelsGoOn =
    (t : Words) (plan : Plan) (h a b c : ℕ) (turns : List ℕ) (s : Plain) → a ≤ b → b ≤ c
    → level_at t plan h a c turns s ≡ level t plan h (drop b (take c turns)) (run_from t (take b turns) s) (level_at t plan h a b turns s)

-- measures add up, over times and over harts
pub record MeasuresAdd : Type 0 where
  pub times : (t : Words) (plan : Plan) (harts : List ℕ) (a b c d : ℕ) (turns : List ℕ) (s : Plain)
      → (measure t plan harts a b c turns s + measure t plan harts a c d turns s) % 2 ^ 64 ≡ measure t plan harts a b d turns s
  pub harts : (t : Words) (plan : Plan) (harts others : List ℕ) (a b c : ℕ) (turns : List ℕ) (s : Plain)
      → measure t plan (harts ++ others) a b c turns s ≡ (measure t plan harts a b c turns s + measure t plan others a b c turns s) % 2 ^ 64
