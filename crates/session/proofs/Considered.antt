-- Wishes are looked at one after another.
use Rattle.std.proofs.Common.{◌≡◌, ℕ, suc, ◌+◌, ◌≤◌, List, [], ◌∷◌, ◌++◌, Option, Some, None, refl, sym, ap, ◌∙◌, subst, arith, length}
use Rattle.std.specs.Prelude.{false, drop, map, slice_get}
use Rattle.pn_types.specs.declared.focus.CodePart.TheVariants.{All}
use Rattle.pn_types.specs.declared.plan.Plan.{Plan}
use Rattle.rv_mem.specs.Start.{program_of}
use Rattle.mdl_check.specs.declared.checked.CheckedWish.{CheckedWish}
use Rattle.machine.specs.Cores.{In}
use Rattle.instrument.specs.Needs.{Need, need_of}
use Rattle.session_spec.specs.Inputs.{Inputs}
use Rattle.session_spec.specs.Admission.{with_wish}
use Rattle.session_spec.specs.Opening.{with_all}
use Rattle.session_pairs.specs.SampledPairs.{AreLive}
use Rattle.session.specs.declared.candidate.Candidate.{Candidate}
use Rattle.session.specs.Candidates.{AreOfWishes}
use Rattle.session.specs.Outcomes.{IsAdmissionStep}
use Rattle.session.specs.Tables.{AreReady, StateTable, kept_of}
use Rattle.session.proofs.Readiness.{drop_step, ready_behind, ready_in}
use Rattle.session.proofs.Steps.{AreSteps, next_step, no_steps}

-- the wish at a place is next
pub record Considering (i : Inputs) (wishes : List CheckedWish) (plans : List Plan) (old : StateTable) (place : ℕ) (t : StateTable) (cs : List (Option Candidate)) : Type 0 where
  pub kept : (ws : List CheckedWish) → with_all i (drop place wishes) (kept_of ws t) ≡ with_all i wishes (kept_of ws old)
  pub steps : AreSteps i old t place
  pub some : length wishes ≤ old.room
  pub search : t.search ≡ old.search
  pub program : old.machine.state.core.program ≡ program_of i.image
  pub each : AreOfWishes i (drop place wishes) (drop place plans) cs
  pub ready : AreReady (map need_of (drop place plans)) t.machine.ready
  pub left : (needs : List Need) → AreReady (map need_of plans ++ needs) old.machine.ready → AreReady (map need_of (drop place plans) ++ needs) t.machine.ready

pub first : (i : Inputs) (wishes : List CheckedWish) (plans : List Plan) (old : StateTable) (cs : List (Option Candidate)) → length wishes ≤ old.room → old.machine.state.core.program ≡ program_of i.image
    → AreOfWishes i wishes plans cs → AreReady (map need_of plans) old.machine.ready → AreLive old.machine.state.placer old.pairs old.live → Considering i wishes plans old 0 old cs
first i wishes plans old cs some program each ready live = record {
  kept = λ ws. refl;
  steps = no_steps i old live;
  some = some;
  search = refl;
  program = program;
  each = each;
  ready = ready;
  left = λ needs r. r;
}

module _ (i : Inputs) (wishes : List CheckedWish) (plans : List Plan) (old : StateTable) (place : ℕ) (t : StateTable) (all cs : List (Option Candidate)) (w : CheckedWish) (plan : Plan) (c : Option Candidate)
    (k : Considering i wishes plans old place t all) (is_w : slice_get wishes place ≡ Some w) (is_plan : slice_get plans place ≡ Some plan) (is_c : all ≡ c ∷ cs) where
  heads : AreOfWishes i (w ∷ drop (place + 1) wishes) (plan ∷ drop (place + 1) plans) (c ∷ cs)
  heads =
      subst (AreOfWishes i (w ∷ drop (place + 1) wishes) (plan ∷ drop (place + 1) plans)) is_c
      (subst (λ ps. AreOfWishes i (w ∷ drop (place + 1) wishes) ps all) (drop_step plans place plan is_plan)
      (subst (λ vs. AreOfWishes i vs (drop place plans) all) (drop_step wishes place w is_w) k.each))

  abbrev rest : List Need
  rest = map need_of (drop (place + 1) plans)

  needed : AreReady (need_of plan ∷ rest) t.machine.ready
  needed = subst (λ (ps : List Plan). AreReady (map need_of ps) t.machine.ready) (drop_step plans place plan is_plan) k.ready

  pub ready_here : In (need_of plan) t.machine.ready
  ready_here = ready_in (need_of plan) rest t.machine.ready needed

  pub next : (new : StateTable) → ((ws : List CheckedWish) → kept_of ws new ≡ with_wish i w (kept_of ws t)) → IsAdmissionStep i plan t new → new.search ≡ t.search → Considering i wishes plans old (place + 1) new cs
  next new kept step search = record {
    kept = λ ws. ap (with_all i (drop (place + 1) wishes)) (kept ws) ∙ (sym (ap (λ vs. with_all i vs (kept_of ws t)) (drop_step wishes place w is_w)) ∙ k.kept ws);
    steps = next_step i plan old t new place k.steps step;
    some = k.some;
    search = search ∙ k.search;
    program = k.program;
    each = heads.1;
    ready = ready_behind plan rest t.machine.ready new.machine.ready needed step.ready;
    left = λ needs all_ready.
        ready_behind plan (rest ++ needs) t.machine.ready new.machine.ready
        (subst (λ (ps : List Plan). AreReady (map need_of ps ++ needs) t.machine.ready) (drop_step plans place plan is_plan) (k.left needs all_ready)) step.ready;
  }

-- there are as many plans as wishes
pub plans_many : (i : Inputs) (ws : List CheckedWish) (ps : List Plan) (cs : List (Option Candidate)) → AreOfWishes i ws ps cs → length ps ≡ length ws
plans_many i [] [] [] a = refl
plans_many i [] [] (c ∷ cs) a = absurd a
plans_many i [] (p ∷ ps) cs a = absurd a
plans_many i (w ∷ ws) [] cs a = absurd a
plans_many i (w ∷ ws) (p ∷ ps) [] a = absurd a
plans_many i (w ∷ ws) (p ∷ ps) (c ∷ cs) a = ap suc (plans_many i ws ps cs a.1)

-- no wish is without what it needs
pub none_left : (i : Inputs) (wishes : List CheckedWish) (plans : List Plan) (old : StateTable) (place : ℕ) (t : StateTable) (w : CheckedWish) → Considering i wishes plans old place t [] → slice_get wishes place ≡ Some w → ⊥
none_left i wishes plans old place t w k e = by (drop place plans) (subst (λ vs. AreOfWishes i vs (drop place plans) []) (drop_step wishes place w e) k.each)
  where
    by : (ps : List Plan) → AreOfWishes i (w ∷ drop (place + 1) wishes) ps [] → ⊥
    by [] a = a
    by (p ∷ ps) a = a

-- a list that is its own rest
pub is_empty : (xs ys : List (Option Candidate)) → xs ≡ ys → ys ≡ drop 1 xs → xs ≡ []
is_empty [] ys e f = refl
is_empty (x ∷ xs) ys e f = absurd (let l = ap (λ (l : List (Option Candidate)). length l) (e ∙ f) in omega arith)

-- any wish
pub nothing : CheckedWish
nothing = record { at = 0; show = false; metric = 0; focus = record { code = All; hart = None; object = None } }
