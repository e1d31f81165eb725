-- The costs of the tests whose instruments aren't gone stay within the limit.
use Rattle.std.proofs.Common.{◌≡◌, ℕ, ◌+◌, ◌<◌, ◌≤◌, List, [], ◌∷◌, ◌++◌, Option, Some, None, Ok, refl, sym, ap, ◌∙◌, subst, arith}
use Rattle.std.specs.Prelude.{Bool, true, false, cond, not, ◌&&◌, is_some, nat_lt}
use Rattle.std.proofs.lemmas.Bool.{cond_both, le-leb, ltb-false}
use Rattle.prim_code.specs.Counts.{predicted}
use Rattle.instrument.specs.Placements.{Placements, admission, or_same, state_of}
use Rattle.instrument.specs.Scenes.{Admits, Drops}
use Rattle.instrument.specs.declared.number.State.{State as Stage}
use Rattle.instrument.specs.declared.number.State.TheVariants.{Placing, Armed, Leaving, Gone}
use Rattle.instrument.proofs.Numbers as numbers
use Rattle.instrumented.specs.Instrumented.{Instrumented, after_act}
use Rattle.session_spec.specs.declared.data.MetricFocusPair.{MetricFocusPair}
use Rattle.session_spec.specs.Inputs.{Inputs, planned}
use Rattle.session_spec.specs.Searches.{rules_of}
use Rattle.session_spec.specs.States.{SessionState}
use Rattle.session_spec.specs.Admission.{with_admitted, shown_next}
use Rattle.session_spec.specs.Tests.{counts, in_force, is_gone, must_wait, tested, tests_next, words_by, words_of}
use Rattle.session_spec.specs.Rosters.{AreBelow, AreNumbered}
use Rattle.session_spec.specs.Costs.{IsWithinLimit}
use Rattle.session_spec.proofs.Standing.{Since}
use Rattle.session_spec.proofs.Acting.{admitted_placer, done_since}
use Rattle.session_spec.proofs.AdmittingSteps.{Keeps}
use Rattle.session_spec.proofs.Likes.{AreLike, below_like, below_more, below_push, force_like, like_itself}

pub record IsCounted (i : Inputs) (k : SessionState) : Type 0 where
  pub roster : AreNumbered k.machine.placer
  pub below : AreBelow k.machine.placer.count k.shown
  pub within : IsWithinLimit i k

-- those that are gone stay gone
pub record Later (p q : Placements) : Type 0 where
  pub roster : AreNumbered q
  pub count : p.count ≤ q.count
  pub gone : (n : ℕ) → n < p.count → state_of p n ≡ Gone → state_of q n ≡ Gone

pub later_since : (p q : Placements) → Since p q → Later p q
later_since p q s = record { roster = s.roster; count = s.count; gone = s.gone }

-- ---- sums

gone_is : (s : Stage) → is_gone s ≡ true → s ≡ Gone
gone_is Gone e = refl
gone_is Placing e = cc
gone_is Armed e = cc
gone_is Leaving e = cc

-- an instrument that counts no more
counts_less : (p q : Placements) (s : MetricFocusPair) (n : ℕ) → (state_of p s.instrument.n ≡ Gone → state_of q s.instrument.n ≡ Gone) → cond (counts q s) n 0 ≤ cond (counts p s) n 0
counts_less p q s n g = by (is_some s.node) (is_gone (state_of p s.instrument.n)) refl
  where
    by : (b d : Bool) → is_gone (state_of p s.instrument.n) ≡ d → cond (b && not (is_gone (state_of q s.instrument.n))) n 0 ≤ cond (b && not d) n 0
    by false d e = omega arith
    by true true e = subst (λ (x : Bool). cond (not x) n 0 ≤ 0) (sym (ap is_gone (g (gone_is (state_of p s.instrument.n) e)))) (omega arith)
    by true false e = cond_both (not (is_gone (state_of q s.instrument.n))) n 0 (λ m. m ≤ n) (λ _. omega arith) (λ _. omega arith)

pub force_less : (i : Inputs) (p q : Placements) (ss : List MetricFocusPair) → Later p q → AreBelow p.count ss → in_force i q ss ≤ in_force i p ss
force_less i p q [] l b = omega arith
force_less i p q (s ∷ ss) l b = omega (arith, counts_less p q s (words_of i s) (l.gone s.instrument.n b.0), force_less i p q ss l b.1)

force_push : (i : Inputs) (p : Placements) (ss : List MetricFocusPair) (s : MetricFocusPair) → in_force i p (ss ++ s ∷ []) ≡ in_force i p ss + cond (counts p s) (words_of i s) 0
force_push i p [] s = omega arith
force_push i p (t ∷ ss) s = omega (arith, force_push i p ss s)

-- ---- what doesn't admit

-- with instruments that are later, and maybe sampled or armed
pub counted_later : (i : Inputs) (k j : SessionState) → Later k.machine.placer j.machine.placer → AreLike k.shown j.shown → IsCounted i k → IsCounted i j
counted_later i k j l a c =
    let count = l.count in
    record {
      roster = l.roster;
      below = below_more k.machine.placer.count j.machine.placer.count j.shown count (below_like k.machine.placer.count k.shown j.shown a c.below);
      within = omega (arith, c.within, force_less i k.machine.placer j.machine.placer k.shown l c.below, force_like i j.machine.placer k.shown j.shown a);
    }

-- with a machine in which no instrument was armed since
pub counted_machine : (i : Inputs) (k : SessionState) (m : Instrumented) → Since k.machine.placer m.placer → IsCounted i k → IsCounted i (record k { machine = m })
counted_machine i k m s c = counted_later i k (record k { machine = m }) (later_since k.machine.placer m.placer s) (like_itself k.shown) c

pub counted_same : (i : Inputs) (k j : SessionState) → j.machine ≡ k.machine → j.shown ≡ k.shown → IsCounted i k → IsCounted i j
counted_same i k j m s c =
    let p = ap (λ (x : Instrumented). x.placer) m in
    record {
      roster = subst AreNumbered (sym p) c.roster;
      below = subst (AreBelow j.machine.placer.count) (sym s) (subst (λ (q : Placements). AreBelow q.count k.shown) (sym p) c.below);
      within = subst (λ ss. in_force i j.machine.placer ss ≤ (rules_of i).decl.cost) (sym s) (subst (λ q. in_force i q k.shown ≤ (rules_of i).decl.cost) (sym p) c.within);
    }

-- ---- an admission

fits : (limit cost force : ℕ) → cost ≤ limit → must_wait limit cost force ≡ false → force + cost ≤ limit
fits limit cost force l e = ltb-false limit (force + cost) (sym (ap (λ (b : Bool). b && nat_lt limit (force + cost)) (le-leb cost limit l)) ∙ e)

words_of_test : (i : Inputs) (s : MetricFocusPair) (plan : _) → planned i s.metric s.focus ≡ Ok plan → words_of i s ≡ predicted plan
unfolding words_of
words_of_test i s plan e = ap words_by e

-- an instrument more
counted_push : (i : Inputs) (k : SessionState) (plan : _) (cost : Option ℕ) (placer : Placements) (s : MetricFocusPair) → admission k.machine.placer plan cost ≡ Ok placer
    → s.instrument.n ≡ k.machine.placer.count → cond (is_some s.node) (words_of i s) 0 + in_force i k.machine.placer k.shown ≤ (rules_of i).decl.cost
    → (j : SessionState) → j.machine ≡ after_act (Admits plan cost) k.machine → j.shown ≡ k.shown ++ s ∷ [] → IsCounted i k → IsCounted i j
counted_push i k plan cost placer s e number fit j m is c =
    let p = k.machine.placer in
    let q = (after_act (Admits plan cost) k.machine).placer in
    let l : Later p q = later_since p q (done_since (Admits plan cost) tt k.machine c.roster) in
    let more : q.count ≡ p.count + 1 =
    ap (λ (x : Placements). x.count) (admitted_placer plan cost k.machine ∙ ap (or_same p) e) ∙ ((numbers.admissions_tell p plan cost placer (c.roster).numbered e).count) in
    let new : cond (counts q s) (words_of i s) 0 ≤ cond (is_some s.node) (words_of i s) 0 = by (is_some s.node) (not (is_gone (state_of q s.instrument.n))) (words_of i s) in
    counted_same i (record k { machine = after_act (Admits plan cost) k.machine; shown = k.shown ++ s ∷ [] }) j m is
    (record {
      roster = l.roster;
      below = below_push q.count k.shown s (below_more p.count q.count k.shown l.count c.below) (omega (arith, more, number));
      within = omega (arith, force_push i q k.shown s, force_less i p q k.shown l c.below, new, fit);
    })
  where
    by : (b d : Bool) (n : ℕ) → cond (b && d) n 0 ≤ cond b n 0
    by true true n = omega arith
    by true false n = omega arith
    by false d n = omega arith

pub counted_keeps : (i : Inputs) → Keeps i (IsCounted i)
counted_keeps i = record {
  beside = λ k j b c. counted_same i k j b.machine b.shown c;
  drops = λ k n c. counted_machine i k (after_act (Drops n) k.machine) (done_since (Drops n) tt k.machine c.roster) c;
  wished = λ k plan w placer is e c.
      counted_push i k plan None placer (shown_next w k) e refl (omega (arith, c.within)) (record (with_admitted plan k) { shown = k.shown ++ shown_next w k ∷ [] }) refl refl c;
  barred = λ k n node cause stands waits by c. record { roster = c.roster; below = c.below; within = c.within };
  tested = λ k n node plan placer stands waits is room e c.
      counted_push i k plan (Some (rules_of i).decl.cost) placer (tests_next i n node k) e refl
      (omega (
        arith,
        words_of_test i (tests_next i n node k) plan is,
        fits (rules_of i).decl.cost (predicted plan) (in_force i k.machine.placer k.shown)
            ((numbers.admissions_tell k.machine.placer plan (Some (rules_of i).decl.cost) placer (c.roster).numbered e).within (rules_of i).decl.cost refl) room,
      )) (tested i n node plan k) refl refl c;
}
