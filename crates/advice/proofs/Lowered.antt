-- One more true verdict.
use Rattle.std.proofs.Common.{◌≡◌, ℕ, ◌+◌, ◌<◌, ◌&&◌, cond, min, Bool, true, false, Option, Some, List, [], ◌∷◌, ◌++◌, length, take, get_or, map, filter, refl, sym, ap, ◌∙◌, bytes_eq}
use Rattle.std.specs.List.{fold, reduce}
use Rattle.std.specs.Map.{lookup}
use Rattle.std.proofs.lemmas.List.Elements.{filter_more}
use Rattle.std.proofs.lemmas.Slice.Eq.{bytes_eq-Decides}
use Rattle.indexmap.specs.IndexMap.{insert_entry}
use Rattle.advice.specs.Advice.{rate, is_true_of, threshold_of}
use Rattle.advice.specs.Lowering.{least_with, lowered}
use Rattle.advice.specs.declared.verdict.Verdict.{Verdict}

-- ---- entries by names

module _ {K : Type 0} (now : K → List ℕ) where
  abbrev found : List ℕ → List (K × ℕ) → Option ℕ
  found name es = lookup (λ k. bytes_eq name (now k)) es

  -- an entry with the same name has the new value
  same_entry : (e : K × ℕ) (es : List (K × ℕ)) (name : List ℕ) (key : K) (value : ℕ) → now key ≡ now e.0 → found name ((e.0, value) ∷ es) ≡ cond (bytes_eq name (now key)) (Some value) (found name (e ∷ es))
  same_entry e es name key value same = rw same (by (bytes_eq name (now e.0)))
    where
      by : (b : Bool) → cond b (Some value) (found name es) ≡ cond b (Some value) (cond b (Some e.1) (found name es))
      by true = refl
      by false = refl

  -- another stays
  other_entry : (e : K × ℕ) (name : List ℕ) (key : K) (value : ℕ) (old new : Option ℕ) (b c : Bool) → bytes_eq name (now e.0) ≡ b → bytes_eq name (now key) ≡ c → bytes_eq (now key) (now e.0) ≡ false → new ≡ cond c (Some value) old → cond b (Some e.1) new ≡ cond c (Some value) (cond b (Some e.1) old)
  other_entry e name key value old new false c p q apart more = more
  other_entry e name key value old new true false p q apart more = refl
  other_entry e name key value old new true true p q apart more =
      let one : name ≡ now e.0 = (bytes_eq-Decides name (now e.0)).0 p in
      let two : name ≡ now key = (bytes_eq-Decides name (now key)).0 q in
      let same : bytes_eq (now key) (now e.0) ≡ true = (bytes_eq-Decides (now key) (now e.0)).1 (sym two ∙ one) in
      cc

  pub found_inserted : (name : List ℕ) (es : List (K × ℕ)) (key : K) (value : ℕ) → found name (insert_entry (λ a b. bytes_eq (now a) (now b)) es key value) ≡ cond (bytes_eq name (now key)) (Some value) (found name es)
  found_inserted name [] key value = refl
  found_inserted name (e ∷ es) key value = by (bytes_eq (now key) (now e.0)) refl (found_inserted name es key value)
    where
      by : (b : Bool) → bytes_eq (now key) (now e.0) ≡ b → found name (insert_entry (λ a c. bytes_eq (now a) (now c)) es key value) ≡ cond (bytes_eq name (now key)) (Some value) (found name es) → found name (cond b ((e.0, value) ∷ es) (e ∷ insert_entry (λ a b. bytes_eq (now a) (now b)) es key value)) ≡ cond (bytes_eq name (now key)) (Some value) (found name (e ∷ es))
      by true p more = same_entry e es name key value ((bytes_eq-Decides (now key) (now e.0)).0 p)
      by false p more = other_entry e name key value (found name es) (found name (insert_entry (λ a b. bytes_eq (now a) (now b)) es key value)) (bytes_eq name (now e.0)) (bytes_eq name (now key)) refl refl p more

-- ---- the least rate

fold_push : (a : ℕ) (ns : List ℕ) (n : ℕ) → fold min a (ns ++ n ∷ []) ≡ min (fold min a ns) n
fold_push a [] n = refl
fold_push a (m ∷ ns) n = fold_push (min a m) ns n

least_push : (ns : List ℕ) (n : ℕ) → reduce min (ns ++ n ∷ []) ≡ Some (least_with n (reduce min ns))
least_push [] n = refl
least_push (m ∷ ns) n = ap Some (fold_push m ns n)

map_push : (vs : List Verdict) (v : Verdict) → map rate (vs ++ v ∷ []) ≡ map rate vs ++ rate v ∷ []
map_push [] v = refl
map_push (u ∷ vs) v = ap (λ (ns : List ℕ). rate u ∷ ns) (map_push vs v)

append_none : (vs : List Verdict) → vs ++ [] ≡ vs
append_none [] = refl
append_none (v ∷ vs) = ap (λ (us : List Verdict). v ∷ us) (append_none vs)

with_one : (vs : List Verdict) (v : Verdict) (b : Bool) → reduce min (map rate (vs ++ cond b (v ∷ []) [])) ≡ cond b (Some (least_with (rate v) (reduce min (map rate vs)))) (reduce min (map rate vs))
with_one vs v true = ap (reduce min) (map_push vs v) ∙ least_push (map rate vs) (rate v)
with_one vs v false = ap (λ (us : List Verdict). reduce min (map rate us)) (append_none vs)

one_more : (vs : List Verdict) (i : ℕ) (d : Verdict) (name : List ℕ) → i < length vs → threshold_of (take (i + 1) vs) name ≡ cond (is_true_of name (get_or vs i d)) (Some (least_with (rate (get_or vs i d)) (threshold_of (take i vs) name))) (threshold_of (take i vs) name)
one_more vs i d name h =
    ap (λ (us : List Verdict). reduce min (map rate us)) (filter_more (is_true_of name) vs i d h)
    ∙ with_one (filter (is_true_of name) (take i vs)) (get_or vs i d) (is_true_of name (get_or vs i d))

-- a true verdict lowers the threshold of its name
pub true_more : (vs : List Verdict) (i : ℕ) (d : Verdict) (name : List ℕ) → i < length vs → (get_or vs i d).holds ≡ true → threshold_of (take (i + 1) vs) name ≡ lowered (get_or vs i d) name (threshold_of (take i vs) name)
true_more vs i d name h e =
    one_more vs i d name h
    ∙ ap (λ (b : Bool). cond (b && bytes_eq name (get_or vs i d).hypothesis) (Some (least_with (rate (get_or vs i d)) (threshold_of (take i vs) name))) (threshold_of (take i vs) name)) e

-- and a false one leaves all
pub false_more : (vs : List Verdict) (i : ℕ) (d : Verdict) (name : List ℕ) → i < length vs → (get_or vs i d).holds ≡ false → threshold_of (take (i + 1) vs) name ≡ threshold_of (take i vs) name
false_more vs i d name h e =
    one_more vs i d name h
    ∙ ap (λ (b : Bool). cond (b && bytes_eq name (get_or vs i d).hypothesis) (Some (least_with (rate (get_or vs i d)) (threshold_of (take i vs) name))) (threshold_of (take i vs) name)) e

-- the new least threshold of a verdict's name
pub lowered_at : (v : Verdict) (name : List ℕ) (find : List ℕ → Option ℕ) (least : ℕ) → least ≡ least_with (rate v) (find v.hypothesis) → cond (bytes_eq name v.hypothesis) (Some least) (find name) ≡ lowered v name (find name)
lowered_at v name find least is = by (bytes_eq name v.hypothesis) refl
  where
    by : (b : Bool) → bytes_eq name v.hypothesis ≡ b → cond b (Some least) (find name) ≡ cond b (Some (least_with (rate v) (find name))) (find name)
    by false e = refl
    by true e = ap Some (is ∙ ap (λ (n : List ℕ). least_with (rate v) (find n)) (sym ((bytes_eq-Decides name v.hypothesis).0 e)))
