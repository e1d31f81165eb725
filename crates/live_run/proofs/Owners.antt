-- Where views and lists are after a step.
use Rattle.std.proofs.Common.{◌≡◌, ◌≢◌, inl, inr, ⊎_elim, ℕ, ◌<◌, ◌==◌, eq-eqb, ne_eqb, List, [], ◌∷◌, ◌++◌, cond, refl, sym, ap, ◌∙◌, subst}
use Rattle.std.specs.Prelude.{slice_set}
use mathlib.Core.Option.{some, some-injective}
use mathlib.Core.Logic.{dite}
use native.Mathlib.Decide.{ℕ_discrete}
use lib.ListN.{get_elem?}
use Rattle.atomic_table.proofs.Lists.{set_here, set_else, at_longer}
use Rattle.live_run.specs.declared.view.OwnList.{OwnList}
use Rattle.live_run.specs.declared.view.View.{View}
use Rattle.live_run.specs.Rule.{HasList}
use Rattle.live_run.proofs.Entries.{in_range}

-- n, but where it is `from`
abbrev pub moved : ℕ → ℕ → ℕ → ℕ
moved from to n = cond (n == from) to n

pub moved_here : (from to n : ℕ) → n ≡ from → moved from to n ≡ to
moved_here from to n e = ap (λ b. cond b to n) (eq-eqb n from e)

pub moved_else : (from to n : ℕ) → n ≢ from → moved from to n ≡ n
moved_else from to n ne = ap (λ b. cond b to n) (ne_eqb n from ne)

-- the owners with one more worker
abbrev pub with_owner : ℕ → ℕ → (ℕ → ℕ) → ℕ → ℕ
with_owner worker seat owner w = cond (w == worker) seat (owner w)

pub with_owner_here : (worker seat : ℕ) (owner : ℕ → ℕ) → with_owner worker seat owner worker ≡ seat
with_owner_here worker seat owner = ap (λ b. cond b seat (owner worker)) (eq-eqb worker worker refl)

pub with_owner_else : (worker seat : ℕ) (owner : ℕ → ℕ) (w : ℕ) → w ≢ worker → with_owner worker seat owner w ≡ owner w
with_owner_else worker seat owner w ne = ap (λ b. cond b seat (owner w)) (ne_eqb w worker ne)

-- views, one of which was set
pub placed : (views : List View) (id : ℕ) (v u : View) → get_elem? views id ≡ some v → get_elem? (slice_set views id u) id ≡ some u
placed views id v u at = set_here views id u (in_range views id v at)

pub elsewhere : (views : List View) (id : ℕ) (u : View) (j : ℕ) (x : View) → j ≢ id → get_elem? views j ≡ some x → get_elem? (slice_set views id u) j ≡ some x
elsewhere views id u j x ne e = set_else views id j u ne ∙ e

pub one_view : (views : List View) (i j : ℕ) (x y : View) → i ≡ j → get_elem? views i ≡ some x → get_elem? views j ≡ some y → x ≡ y
one_view views i j x y same e f = some-injective x y (sym e ∙ ap (λ n. get_elem? views n) same ∙ f)

-- each worker below n has its list where its owner is
abbrev pub AreOwned : List View → (ℕ → ℕ) → ℕ → Type 0
AreOwned views owner n = (worker : ℕ) → worker < n → (v : View) × (get_elem? views (owner worker) ≡ some v) × HasList worker v.lists

pub owned_set : (views : List View) (id : ℕ) (v u : View) (owner : ℕ → ℕ) (n : ℕ) → get_elem? views id ≡ some v → ((worker : ℕ) → HasList worker v.lists → HasList worker u.lists) → AreOwned views owner n → AreOwned (slice_set views id u) owner n
owned_set views id v u owner n at f h worker lt =
    let t = h worker lt in
    dite (ℕ_discrete (owner worker) id)
    (λ same. (u, ap (λ k. get_elem? (slice_set views id u) k) same ∙ placed views id v u at, f worker (subst (λ (x : View). HasList worker x.lists) (one_view views (owner worker) id t.0 v same t.1 at) t.2)))
    (λ other. (t.0, elsewhere views id u (owner worker) t.0 other t.1, t.2))

pub owned_longer : (views : List View) (a : View) (owner : ℕ → ℕ) (n : ℕ) → AreOwned views owner n → AreOwned (views ++ a ∷ []) owner n
owned_longer views a owner n h worker lt = let t = h worker lt in (t.0, at_longer views (a ∷ []) (owner worker) t.0 t.1, t.2)

pub has_front : (worker : ℕ) (xs ys : List OwnList) → HasList worker xs → HasList worker (xs ++ ys)
has_front worker [] ys h = absurd h
has_front worker (x ∷ xs) ys h = ⊎_elim (λ (e : x.worker ≡ worker). inl e) (λ (r : HasList worker xs). inr (has_front worker xs ys r)) h

pub has_back : (worker : ℕ) (xs ys : List OwnList) → HasList worker ys → HasList worker (xs ++ ys)
has_back worker [] ys h = h
has_back worker (x ∷ xs) ys h = inr (has_back worker xs ys h)
