-- How a session begins.
use Rattle.std.proofs.Common.{◌≡◌, suc, ◌+◌, ◌<◌, ◌≤◌, ◌^◌, List, [], ◌∷◌, Ok, Err, refl, sym, ap, ◌∙◌, subst, arith, length, inl, inr}
use Rattle.std.specs.Prelude.{Bool, true, false, cond, IfErr, IfOk, Result, filter, nat_le, not, ◌==◌}
use Rattle.std.specs.List.{AllByRecursion}
use Rattle.std.proofs.lemmas.List.Filters.{length-filter_both}
use Rattle.mdl_check.specs.declared.checked.CheckedWish.{CheckedWish}
use Rattle.machine.specs.Cores.{In}
use Rattle.machine.specs.Laws.{IsProgram}
use Rattle.session_spec.specs.Inputs.{Inputs, by_tick, first_wishes, later_wishes, put_by_tick}
use Rattle.session_spec.specs.Opening.{wished, with_all}
use Rattle.session_spec.specs.Tests.{taken_at_once, with_tests}
use Rattle.session_spec.specs.States.{SessionState}
use Rattle.session_pairs.specs.declared.pair.SampledPair.{SampledPair}
use Rattle.session.specs.Given.{AreGiven, AreNarrow, IsWishOf}
use Rattle.session_pairs.specs.SampledPairs.{AreLive}
use Rattle.session.specs.NodeCandidates.{HasCost, first_search}
use Rattle.rv_mem.specs.Start.{program_of}
use Rattle.session_spec.specs.Searches.{rules_of}
use Rattle.session.specs.Kept.{IsWished}
use Rattle.std.specs.Result.{IsErrAnd}
use Rattle.session.specs.declared.fault.StartFault.{StartFault}
use Rattle.session.specs.declared.fault.StartFault.TheVariants.{NoMemory}
use Rattle.session.specs.Sessions.{IsStartFault}
use Rattle.session.specs.Tables.{IsMore, IsStill, StateTable, first_table, kept_of}
use Rattle.session.proofs.Plans.{all_good}
use Rattle.session_spec.proofs.Queues.{tests_refused}

-- ---- which wishes there are

filter_in : (test : CheckedWish → Bool) (ws : List CheckedWish) (w : CheckedWish) → In w (filter test ws) → In w ws
filter_in test [] w h = absurd h
filter_in test (v ∷ ws) w h = by (test v) (filter_in test ws w) h
  where
    by : (b : Bool) → (In w (filter test ws) → In w ws) → In w (cond b (v ∷ filter test ws) (filter test ws)) → In w (v ∷ ws)
    by true f (inl e) = inl e
    by true f (inr k) = inr (f k)
    by false f k = inr (f k)

put_in : (v : CheckedWish) (ws : List CheckedWish) (w : CheckedWish) → In w (put_by_tick v ws) → In w (v ∷ ws)
put_in v [] w h = h
put_in v (x ∷ xs) w h = by (nat_le v.at x.at) (put_in v xs w) h
  where
    by : (b : Bool) → (In w (put_by_tick v xs) → In w (v ∷ xs)) → In w (cond b (v ∷ x ∷ xs) (x ∷ put_by_tick v xs)) → In w (v ∷ x ∷ xs)
    by true f k = k
    by false f (inl e) = inr (inl e)
    by false f (inr k) = swap (f k)
      where
        swap : In w (v ∷ xs) → In w (v ∷ x ∷ xs)
        swap (inl e) = inl e
        swap (inr k) = inr (inr k)

by_tick_in : (ws : List CheckedWish) (w : CheckedWish) → In w (by_tick ws) → In w ws
by_tick_in [] w h = h
by_tick_in (v ∷ ws) w h = step (by_tick_in ws w) (put_in v (by_tick ws) w h)
  where
    step : (In w (by_tick ws) → In w ws) → In w (v ∷ by_tick ws) → In w (v ∷ ws)
    step f (inl e) = inl e
    step f (inr k) = inr (f k)

put_many : (v : CheckedWish) (ws : List CheckedWish) → length (put_by_tick v ws) ≡ suc (length ws)
put_many v [] = refl
put_many v (x ∷ xs) = by (nat_le v.at x.at) (put_many v xs)
  where
    by : (b : Bool) → length (put_by_tick v xs) ≡ suc (length xs) → length (cond b (v ∷ x ∷ xs) (x ∷ put_by_tick v xs)) ≡ suc (suc (length xs))
    by true f = refl
    by false f = ap suc f

by_tick_many : (ws : List CheckedWish) → length (by_tick ws) ≡ length ws
by_tick_many [] = refl
by_tick_many (v ∷ ws) = put_many v (by_tick ws) ∙ ap suc (by_tick_many ws)

pub all_wishes : (i : Inputs) → length (first_wishes i) + length (later_wishes i) ≡ length i.checked.wishes
all_wishes i =
    ap (λ n. length (first_wishes i) + n) (by_tick_many (filter (λ (w : CheckedWish). not (w.at == 0)) i.checked.wishes))
    ∙ length-filter_both (λ (w : CheckedWish). w.at == 0) (λ (w : CheckedWish). not (w.at == 0)) (λ w. refl) i.checked.wishes

pub first_given : (i : Inputs) → AreGiven i → (w : CheckedWish) → In w (first_wishes i) → IsWishOf i w
first_given i g w h = g.wishes w (filter_in (λ (v : CheckedWish). v.at == 0) i.checked.wishes w h)

pub later_given : (i : Inputs) → AreGiven i → (w : CheckedWish) → In w (later_wishes i) → IsWishOf i w
later_given i g w h = g.wishes w (filter_in (λ (v : CheckedWish). not (v.at == 0)) i.checked.wishes w (by_tick_in (filter (λ (v : CheckedWish). not (v.at == 0)) i.checked.wishes) w h))

-- ---- the admissions of the opening

-- what is asked for them
module _ (i : Inputs) (t : StateTable) (e : t ≡ first_table i) where
  pub first_rules : t.search.rules ≡ rules_of i
  unfolding first_search
  first_rules = ap (λ (x : StateTable). x.search.rules) e

  pub first_program : t.machine.state.core.program ≡ program_of i.image
  first_program = ap (λ (x : StateTable). x.machine.state.core.program) e

  pub first_costs : AllByRecursion (HasCost i) t.pairs
  first_costs = subst (λ (x : StateTable). AllByRecursion (HasCost i) x.pairs) (sym e) tt

  pub first_few : AreGiven i → (wishes : List CheckedWish) → wishes ≡ first_wishes i → length t.pairs + length wishes + taken_at_once < 2 ^ 31
  first_few g wishes w =
      let none = ap (λ (x : StateTable). length x.pairs) e in
      let many = ap (λ (l : List CheckedWish). length l) w in
      let all = all_wishes i in
      let few = g.few_wishes in
      omega arith

-- the wishes were looked at, and the first nodes taken
pub wished_is : (i : Inputs) (first t : StateTable) → first ≡ first_table i → AreGiven i → AreNarrow i → ((ws : List CheckedWish) → kept_of ws t ≡ with_tests i (with_all i (first_wishes i) (kept_of ws first))) → IsMore i first.pairs t.pairs
    → length t.pairs ≤ length first.pairs + length (first_wishes i) + taken_at_once → AreLive t.machine.state.placer t.pairs t.live → IsStill first t → IsProgram i.image → IsWished i t
unfolding wished first_search
wished_is i first t e g narrow kept pairs few live still program =
    let none : first.pairs ≡ [] = ap (λ (x : StateTable). x.pairs) e in
    let l = ap (λ (x : List SampledPair). length x) none in
    record {
      program = program;
      good = all_good i g narrow;
      kept = kept (later_wishes i) ∙ ap (λ (x : StateTable). with_tests i (with_all i (first_wishes i) (kept_of (later_wishes i) x))) e;
      pairs = subst (λ (x : List SampledPair). IsMore i x t.pairs) none pairs;
      few = omega arith;
      live = live;
      still = subst (λ (x : StateTable). IsStill x t) e still;
    }

-- a wish that is refused is refused whatever nodes are taken
pub wished_refused : (i : Inputs) (first t : StateTable) → first ≡ first_table i → ((ws : List CheckedWish) → kept_of ws t ≡ with_tests i (with_all i (first_wishes i) (kept_of ws first))) → t.refused ≡ (wished i).refused
unfolding wished first_search
wished_refused i first t e kept =
    let all = kept (later_wishes i) ∙ ap (λ (x : StateTable). with_tests i (with_all i (first_wishes i) (kept_of (later_wishes i) x))) e in
    ap (λ (k : SessionState). k.refused) all ∙ tests_refused i (wished i)

-- out of memory
pub fails : {A : Type 0} (i : Inputs) (r : Result A StartFault) → IsErrAnd r (λ fault. fault ≡ NoMemory) → IfErr r (IsStartFault i)
fails i (Ok a) e = tt
fails i (Err fault) e = subst (IsStartFault i) (sym e) tt

-- a fault is handed on
pub passed : {A : Type 0} (i : Inputs) (r : Result A StartFault) (fault : StartFault) → IsErrAnd r (λ x. x ≡ fault) → IsStartFault i fault → IfErr r (IsStartFault i)
passed i (Ok a) fault is f = absurd is
passed i (Err x) fault is f = subst (IsStartFault i) (sym is) f

-- nothing is asked of a fault where there is a value
pub never : {A : Type 0} (P : A → Type 0) (Q : StartFault → Type 0) (r : Result A StartFault) → IsErrAnd r Q → IfOk r P
never P Q (Ok a) is = absurd is
never P Q (Err x) is = tt
