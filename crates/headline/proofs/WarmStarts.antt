-- An instrument that begins with the values that it would have measures the same.
use Rattle.std.proofs.Common.{◌≡◌, ℕ, ◌+◌, ◌%◌, ◌^◌, ◌≤◌, Bool, true, false, cond, List, [], ◌∷◌, Option, Some, None, take, drop, refl, sym, ap, ◌∙◌, arith}
use Rattle.std.specs.Prelude.{◌==◌, if◌then◌else◌, slice_get, slice_index}
use Rattle.std.specs.List.{AllByRecursion}
use Rattle.machine.proofs.Levels.{levels_go_on}
use Rattle.machine.specs.Measures.{Level, counted, difference, is_timer, level, level_at, measure, measure_of, measured, opening_level, passed_by, site_at, site_values}
use Rattle.pn_types.specs.declared.plan.Plan.{Plan}
use Rattle.rv_exec.specs.Run.{run_from}
use Rattle.rv_word.specs.Plain.{Plain, PlainHart, Words, plain}
use Rattle.rv_word.specs.Registers.{arguments_of}
use Rattle.headline.specs.WarmStarts.{IsTrueOpening, WarmIsWhole}

-- a level with more runs
abbrev later : ℕ → Level → Level
later n v = record { values = v.values; runs = v.runs + n }

counted_later : (n : ℕ) (values : List ℕ) (runs : ℕ) → counted values (runs + n) ≡ later n (counted values runs)
counted_later n values runs = by (slice_index values 0 == 0)
  where
    by : (b : Bool) → ◌≡◌ {A = Level} (record { values = values; runs = cond b (runs + n) (runs + n + 1) }) (record { values = values; runs = (cond b runs (runs + 1)) + n })
    by true = refl
    by false = let same : runs + n + 1 ≡ runs + 1 + n = omega arith in ap (λ (m : ℕ). record { values = values; runs = m }) same

passed_later : (n : ℕ) (o : Option PlainHart) (plan : Plan) (v : Level) → passed_by o plan (later n v) ≡ later n (passed_by o plan v)
passed_later n None plan v = refl
passed_later n (Some x) plan v = counted_later n (site_values (site_at plan x.pc) (arguments_of x.regs) v.values) v.runs

level_later : (n : ℕ) (t : Words) (plan : Plan) (h : ℕ) (turns : List ℕ) (s : Plain) (v : Level) → level t plan h turns s (later n v) ≡ later n (level t plan h turns s v)
level_later n t plan h [] s v = refl
level_later n t plan h (g ∷ turns) s v =
    ap (level t plan h turns (plain t g s)) (by (g == h)) ∙ level_later n t plan h turns (plain t g s) (if g == h then passed_by (slice_get s.harts h) plan v else v)
  where
    by : (b : Bool) → cond b (passed_by (slice_get s.harts h) plan (later n v)) (later n v) ≡ later n (cond b (passed_by (slice_get s.harts h) plan v) v)
    by true = passed_later n (slice_get s.harts h) plan v
    by false = refl

measured_later : (n : ℕ) (plan : Plan) (v w : Level) → difference (measured plan (later n v)) (measured plan (later n w)) ≡ difference (measured plan v) (measured plan w)
measured_later n plan v w = by (is_timer plan.vars)
  where
    by : (b : Bool) → difference (cond b (v.runs + n) (slice_index v.values 0)) (cond b (w.runs + n) (slice_index w.values 0))
        ≡ difference (cond b v.runs (slice_index v.values 0)) (cond b w.runs (slice_index w.values 0))
    by true = omega arith
    by false = refl

module _ (t : Words) (plan : Plan) (a b c : ℕ) (turns : List ℕ) (s : Plain) (early : a ≤ b) (late : b ≤ c) where
  module _ (h : ℕ) (true_opening : IsTrueOpening t plan turns s a h) where
    abbrev before : Level
    before = level_at t plan h 0 a turns s

    abbrev opening : Level
    opening = opening_level plan (run_from t (take a turns) s) h

    same : before ≡ later before.runs opening
    same =
        let none : before.runs ≡ 0 + before.runs = omega arith in
        ap (λ (values : List ℕ). record { values = values; runs = before.runs }) (sym true_opening)
        ∙ ap (λ (n : ℕ). record { values = opening.values; runs = n }) none

    to : (k : ℕ) → a ≤ k → level_at t plan h 0 k turns s ≡ later before.runs (level_at t plan h a k turns s)
    to k far =
        levels_go_on t plan h 0 a k turns s (omega arith) far
        ∙ ap (level t plan h (drop a (take k turns)) (run_from t (take a turns) s)) same
        ∙ level_later before.runs t plan h (drop a (take k turns)) (run_from t (take a turns) s) opening

    of_hart : measure_of t plan a b c h turns s ≡ measure_of t plan 0 b c h turns s
    of_hart =
        sym (measured_later before.runs plan (level_at t plan h a b turns s) (level_at t plan h a c turns s))
        ∙ ap (λ (v : Level). difference (measured plan v) (measured plan (later before.runs (level_at t plan h a c turns s)))) (sym (to b early))
        ∙ ap (λ (v : Level). difference (measured plan (level_at t plan h 0 b turns s)) (measured plan v)) (sym (to c (omega arith)))

  of_harts : (harts : List ℕ) → AllByRecursion (IsTrueOpening t plan turns s a) harts → measure t plan harts a b c turns s ≡ measure t plan harts 0 b c turns s
  of_harts [] all = refl
  of_harts (h ∷ harts) all =
      ap (λ (n : ℕ). (n + measure t plan harts a b c turns s) % 2 ^ 64) (of_hart h all.0)
      ∙ ap (λ (n : ℕ). (measure_of t plan 0 b c h turns s + n) % 2 ^ 64) (of_harts harts all.1)

pub warm_is_whole : WarmIsWhole
warm_is_whole t plan harts a b c turns s early late all = of_harts t plan a b c turns s early late harts all
