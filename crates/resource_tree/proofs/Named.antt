-- The names of a tree's nodes tell them apart where those of its procedures do.
use Rattle.std.proofs.Common.{◌≡◌, ℕ, zero, suc, not, cond, Bool, true, false, List, [], ◌∷◌, map, slice_get, filter, bytes_eq, Some, refl, sym, ap, ◌∙◌, subst}
use Rattle.std.specs.Cmp.Lexicographic.{bytes_decides}
use Rattle.first_places.specs.Groups.{first_mentions, firsts}
use Rattle.first_places.proofs.Firsts.{first_names}
use Rattle.pn_types.specs.GoodNames.{is_good_name}
use Rattle.pn_types.specs.declared.code.Proc.{Proc}
use Rattle.pn_types.specs.declared.image.Symbol.{Symbol}
use Rattle.resource_tree.specs.Names.{AreApart, AreGoodNames, AreNamed, IsNamed}
use Rattle.resource_tree.specs.Resources.{has_prefix, is_listed, module_of, object_of, objects_of, proc_of, tree_of}
use Rattle.resource_tree.proofs.FormStates.{both}
use Rattle.resource_tree.proofs.InTree.{none_at, mapped_at}

-- what a filter keeps is there, and passes
kept_at : {X : Type 0} (p : X → Bool) (xs : List X) (k : ℕ) (x : X) → slice_get (filter p xs) k ≡ Some x → ((j : ℕ) × (slice_get xs j ≡ Some x)) × (p x ≡ true)
kept_at p [] k x h = absurd (none_at k x h)
kept_at {X} p (y ∷ ys) k x h = by (p y) refl k h (λ j g. kept_at p ys j x g)
  where
    on : ((j : ℕ) × (slice_get ys j ≡ Some x)) × (p x ≡ true) → ((j : ℕ) × (slice_get (y ∷ ys) j ≡ Some x)) × (p x ≡ true)
    on r = ((suc r.0.0, r.0.1), r.1)

    by : (b : Bool) → p y ≡ b → (j : ℕ) → slice_get (cond b (y ∷ filter p ys) (filter p ys)) j ≡ Some x
        → ((i : ℕ) → slice_get (filter p ys) i ≡ Some x → ((i : ℕ) × (slice_get ys i ≡ Some x)) × (p x ≡ true))
        → ((i : ℕ) × (slice_get (y ∷ ys) i ≡ Some x)) × (p x ≡ true)
    by true e zero g rest = let same : y ≡ x = cc in ((0, g), ap p (sym same) ∙ e)
    by true e (suc j) g rest = on (rest j g)
    by false e j g rest = on (rest j g)

-- a filter leaves names apart
filter_apart : (p : List ℕ → Bool) (names : List (List ℕ)) → AreApart names → AreApart (filter p names)
filter_apart p [] apart j k name a b = absurd (none_at j name a)
filter_apart p (n ∷ ns) apart j k name a b = by (p n) j k a b (filter_apart p ns tail)
  where
    tail : AreApart ns
    tail i l x c d = let e = apart (suc i) (suc l) x c d in cc

    own : (l : ℕ) → n ≡ name → slice_get (filter p ns) l ≡ Some name → ⊥
    own l same h =
        let there = kept_at p ns l name h in
        let e = apart 0 (suc there.0.0) name (ap Some same) there.0.1 in
        cc

    by : (c : Bool) (i l : ℕ) → slice_get (cond c (n ∷ filter p ns) (filter p ns)) i ≡ Some name → slice_get (cond c (n ∷ filter p ns) (filter p ns)) l ≡ Some name → AreApart (filter p ns) → i ≡ l
    by true zero zero g h rest = refl
    by true zero (suc l) g h rest = let same : n ≡ name = cc in absurd (own l same h)
    by true (suc i) zero g h rest = let same : n ≡ name = cc in absurd (own i same g)
    by true (suc i) (suc l) g h rest = ap suc (rest i l name g h)
    by false i l g h rest = rest i l name g h

-- first mentions are apart
mentions_apart : (names : List (List ℕ)) → AreApart (first_mentions names)
mentions_apart [] j k name a b = absurd (none_at j name a)
mentions_apart (n ∷ ns) j k name a b = by j k a b (filter_apart other (first_mentions ns) (mentions_apart ns))
  where
    other : List ℕ → Bool
    other x = not (bytes_eq n x)

    own : (l : ℕ) → n ≡ name → slice_get (filter other (first_mentions ns)) l ≡ Some name → ⊥
    own l same h =
        let passes = (kept_at other (first_mentions ns) l name h).1 in
        let equal : bytes_eq n name ≡ true = (bytes_decides n name).1 same in
        cc

    by : (i l : ℕ) → slice_get (n ∷ filter other (first_mentions ns)) i ≡ Some name → slice_get (n ∷ filter other (first_mentions ns)) l ≡ Some name → AreApart (filter other (first_mentions ns)) → i ≡ l
    by zero zero g h rest = refl
    by zero (suc l) g h rest = let same : n ≡ name = cc in absurd (own l same h)
    by (suc i) zero g h rest = let same : n ≡ name = cc in absurd (own i same g)
    by (suc i) (suc l) g h rest = ap suc (rest i l name g h)

-- each of them is one of the names
mentioned : (names : List (List ℕ)) (k : ℕ) (name : List ℕ) → slice_get (first_mentions names) k ≡ Some name → (j : ℕ) × (slice_get names j ≡ Some name)
mentioned [] k name h = absurd (none_at k name h)
mentioned (n ∷ ns) zero name h = (0, h)
mentioned (n ∷ ns) (suc k) name h =
    let there = (kept_at (λ x. not (bytes_eq n x)) (first_mentions ns) k name h).0 in
    let r = mentioned ns there.0 name there.1 in
    (suc r.0, r.1)

good_mentions : (names : List (List ℕ)) → ((k : ℕ) (name : List ℕ) → slice_get names k ≡ Some name → is_good_name name ≡ true) → AreGoodNames (first_mentions names)
good_mentions names each = record {
  good = λ k name h. let r = mentioned names k name h in each r.0 name r.1;
  apart = mentions_apart names;
}

-- names of modules
module_names : (all names : List (List ℕ)) → map (λ m. m.name) (map (module_of all) names) ≡ names
module_names all [] = refl
module_names all (n ∷ ns) = ap (λ (l : List (List ℕ)). n ∷ l) (module_names all ns)

-- names of objects
object_names : (ss : List Symbol) → map (λ o. o.name) (map object_of ss) ≡ map (λ s. s.name) ss
object_names [] = refl
object_names (s ∷ ss) = ap (λ (l : List (List ℕ)). s.name ∷ l) (object_names ss)

objects_good : (prefixes : List (List ℕ)) (symbols : List Symbol) → AreGoodNames (map (λ o. o.name) (objects_of prefixes symbols))
objects_good prefixes symbols =
    let listed = filter (is_listed prefixes) symbols in
    subst AreGoodNames (sym (object_names (firsts (λ s. s.name) listed) ∙ first_names (λ s. s.name) listed))
    (good_mentions (map (λ s. s.name) listed) (λ k name h.
    let s = mapped_at (λ s. s.name) listed k name h in
    let own = both (is_good_name s.0.name) (has_prefix prefixes s.0.name) (kept_at (is_listed prefixes) symbols k s.0 s.1).1 in
    subst (λ (n : List ℕ). is_good_name n ≡ true) s.2 own.0))

-- the names of a tree
pub tree_named : (procs : List Proc) (symbols : List Symbol) (harts : ℕ) (prefixes : List (List ℕ)) → AreNamed procs → IsNamed (tree_of procs symbols harts prefixes)
tree_named procs symbols harts prefixes n = record {
  modules = subst AreGoodNames (sym (module_names modules (first_mentions modules))) (good_mentions modules (λ k name h.
      let p = mapped_at (λ p. p.«module») procs k name h in
      subst (λ (x : List ℕ). is_good_name x ≡ true) p.2 (n.good k p.0 p.1).0));
  procs = λ k node h.
      let p = mapped_at proc_of procs k node h in
      subst (λ x. (is_good_name x.«module» ≡ true) × (is_good_name x.name ≡ true)) p.2 (n.good k p.0 p.1);
  procs_apart = λ j k x y a b e f.
      let p = mapped_at proc_of procs j x a in
      let q = mapped_at proc_of procs k y b in
      n.apart j k p.0 q.0 p.1 q.1 (ap (λ x. x.«module») p.2 ∙ e ∙ sym (ap (λ x. x.«module») q.2)) (ap (λ x. x.name) p.2 ∙ f ∙ sym (ap (λ x. x.name) q.2));
  objects = objects_good prefixes symbols;
}
  where
    modules : List (List ℕ)
    modules = map (λ p. p.«module») procs
