-- The plans of wishes, and those of nodes after them.
use Rattle.std.proofs.Common.{◌≡◌, ℕ, zero, suc, ◌≤◌, List, [], ◌∷◌, ◌++◌, Option, sym, ap, ◌∙◌, subst, arith, length}
use Rattle.std.specs.Prelude.{drop, map, take}
use Rattle.pn_types.specs.declared.plan.Plan.{Plan}
use Rattle.mdl_check.specs.declared.checked.CheckedWish.{CheckedWish}
use Rattle.instrument.specs.Needs.{Need, need_of}
use Rattle.session_spec.specs.Inputs.{Inputs}
use Rattle.session.specs.declared.candidate.Candidate.{Candidate}
use Rattle.session.specs.Candidates.{AreOfWishes}
use Rattle.session.specs.Tables.{AreReady}
use Rattle.session.proofs.Considered.{plans_many}
use Rattle.session.proofs.OfNodeCandidates.{needs_parted}
use Rattle.session.proofs.Readiness.{all_ready}

take_short : (n : ℕ) (xs : List Plan) → length (take n xs) ≤ length xs
take_short zero xs = omega arith
take_short (suc n) [] = omega arith
take_short (suc n) (x ∷ xs) = let l = take_short n xs in omega arith

pub record Parted (wishes : List CheckedWish) (plans all : List Plan) : Type 0 where
  pub within : length wishes ≤ length all
  pub front : take (length wishes) all ≡ plans
  pub back : drop (length wishes) all ≡ drop (length plans) all

pub parted : (i : Inputs) (wishes : List CheckedWish) (plans : List Plan) (cs : List (Option Candidate)) (all : List Plan) → AreOfWishes i wishes plans cs → take (length plans) all ≡ plans → Parted wishes plans all
parted i wishes plans cs all each others =
    let many = plans_many i wishes plans cs each in
    let short = take_short (length plans) all in
    let len = ap (λ (l : List Plan). length l) others in
    record {
      within = omega arith;
      front = ap (λ n. take n all) (sym many) ∙ others;
      back = ap (λ n. drop n all) (sym many);
    }

-- all of them are ready, those of the wishes first
pub all_ready_in : (n : ℕ) (plans front back : List Plan) (ready : List Need) → front ≡ take n plans → back ≡ drop n plans → ready ≡ map need_of plans → AreReady (map need_of front ++ map need_of back) ready
all_ready_in n plans front back ready f b r =
    let needs : map need_of plans ≡ map need_of front ++ map need_of back =
    needs_parted n plans ∙ (ap (λ (l : List Plan). map need_of l ++ map need_of (drop n plans)) (sym f) ∙ ap (λ (l : List Plan). map need_of front ++ map need_of l) (sym b)) in
    subst (λ (ns : List Need). AreReady ns ready) needs (subst (AreReady (map need_of plans)) (sym r) (all_ready (map need_of plans)))
