-- Room is taken for two blocks at each site of plans, beside those that the agenda is to write.
use Rattle.std.proofs.Common.{◌≡◌, ℕ, zero, suc, ◌+◌, ◌*◌, ◌≤◌, List, [], ◌∷◌, length, Some, Ok, Err, refl, sym, ap, ◌∙◌, subst, arith}
use Rattle.std.specs.Prelude.{Result, OnErr, OnOk, drop, map, max, slice_get}
use Rattle.std.specs.declared.alloc.AllocError.{AllocError}
use Rattle.std.proofs.lemmas.List.{length-map}
use Rattle.prim_code.specs.Counts.{site_words}
use Rattle.pn_types.specs.declared.plan.Plan.{Plan}
use Rattle.machine.specs.States.{Machine}
use Rattle.instrument.specs.Needs.{need_of, sites_in}
use Rattle.instrument.specs.Placers.{PlacerData}
use Rattle.instrument.specs.declared.entry.Entry.{Entry}
use Rattle.instrument.specs.declared.entry.Entry.TheVariants.{WriteBase, WriteMini, LinkMini, LinkPoint, UnlinkMini, UnlinkPoint, Free}
use Rattle.instrumented.specs.Data.{AreReached, state_of}
use Rattle.instrumented.specs.Doing.{writes_in}
use Rattle.instrumented.specs.Reached.{IsReachedByActs}

-- the sites of the plans from a place on
abbrev pub sites_from : ℕ → List Plan → ℕ
sites_from i plans = sites_in (map need_of (drop i plans))

next_plan : (plans : List Plan) (i : ℕ) (p : Plan) → slice_get plans i ≡ Some p → sites_from i plans ≡ length p.sites + sites_from (suc i) plans
next_plan [] i p e = absurd cc
next_plan (x ∷ xs) zero p e =
    let same : x ≡ p = cc in
    let l = length-map x.sites site_words in
    let k = ap (λ (y : Plan). length y.sites) same in
    omega arith
next_plan (x ∷ xs) (suc i) p e = next_plan xs i p e

pub one_plan : (plans : List Plan) (i : ℕ) (p : Plan) → slice_get plans i ≡ Some p → sites_from i plans ≡ length p.sites + sites_from (i + 1) plans
one_plan plans i p e =
    let next : suc i ≡ i + 1 = omega arith in
    next_plan plans i p e ∙ ap (λ k. length p.sites + sites_from k plans) next

pub no_plan : (plans : List Plan) (i : ℕ) → length plans ≤ i → sites_from i plans ≡ 0
no_plan [] zero l = refl
no_plan [] (suc i) l = refl
no_plan (x ∷ xs) zero l = absurd (omega arith)
no_plan (x ∷ xs) (suc i) l = no_plan xs i (omega arith)

few_writes : (es : List Entry) → writes_in es ≤ length es
few_writes [] = omega arith
few_writes (WriteBase b ∷ es) = let h = few_writes es in omega arith
few_writes (WriteMini b ∷ es) = let h = few_writes es in omega arith
few_writes (LinkMini p m ∷ es) = let h = few_writes es in omega arith
few_writes (LinkPoint p m ∷ es) = let h = few_writes es in omega arith
few_writes (UnlinkMini p m ∷ es) = let h = few_writes es in omega arith
few_writes (UnlinkPoint p m ∷ es) = let h = few_writes es in omega arith
few_writes (Free p ∷ es) = let h = few_writes es in omega arith

ready_few : (plans : List Plan) (q : PlacerData) (r : Result (Unit {0}) AllocError) → OnOk r (q.ready ≡ map need_of plans) → OnErr r (q.ready ≡ []) → sites_in q.ready ≤ sites_in (map need_of plans)
ready_few plans q (Ok u) ok err = let e = ap sites_in ok in omega arith
ready_few plans q (Err x) ok err = let e = ap sites_in err in omega arith

pub reserved : (m n : Machine) (p q : PlacerData) (plans : List Plan) (blocks beside : ℕ) (r : Result (Unit {0}) AllocError) → AreReached m p → n ≡ record m { room = max blocks m.room }
    → beside ≡ length p.placements.book.agenda → beside + 2 * sites_in (map need_of plans) ≤ blocks
    → q.placements ≡ p.placements → OnOk r (q.ready ≡ map need_of plans) → OnErr r (q.ready ≡ []) → AreReached n q
reserved m n p q plans blocks beside r s e agenda room placements ok err =
    let is : state_of n q ≡ state_of m p = ap (λ (x : Machine). record { core = x.core; placer = q.placements }) e ∙ ap (λ x. record { core = m.core; placer = x }) placements in
    let few = few_writes p.placements.book.agenda in
    let ready = ready_few plans q r ok err in
    let same = ap (λ (x : _). writes_in x.book.agenda) placements in
    let now = ap (λ (x : Machine). x.room) e in
    record { reached = subst IsReachedByActs (sym is) s.reached; room = omega arith }
