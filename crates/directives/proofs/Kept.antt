-- What directives keep.
use Rattle.std.proofs.Common.{◌≡◌, ℕ, zero, suc, ◌+◌, ◌<◌, ◌≤◌, ◌||◌, ◌&&◌, ◌⊎◌, inl, inr, not, cond, Bool, true, false, Option, Some, None, List, [], ◌∷◌, ◌++◌, length, map, bytes_eq, is_some, refl, sym, ap, ◌∙◌, subst, arith}
use Rattle.std.specs.List.{list_any, filter}
use Rattle.std.proofs.lemmas.Bool.{or_parts}
use Rattle.mdl_ast.specs.declared.items.Item.{Item}
use Rattle.mdl_ast.specs.declared.items.Item.TheVariants.{Include, Sync, Metric, Constraint, Hypothesis, Search, Phase, Wish}
use Rattle.mdl_ast.specs.declared.items.Hypothesis.{Hypothesis as TheHypothesis}
use Rattle.mdl_check.specs.Placed.{Entry}
use Rattle.mdl_check.specs.Names.{metric_number}
use Rattle.directives.specs.Hypotheses.{is_named, has_hypothesis, lacks, is_orphan}
use Rattle.directives.specs.Acts.{leads_up, is_under, pruned, with_hypothesis}
use Rattle.directives.proofs.Stripped.{or_none, count_filter, count_none, none_counted, tally, strip, stripped, lift, bare, named, misses, is_lost, has_parent, is_pair, Leads, is_unmeasured, is_strange, Fine, any_stripped}
use Rattle.directives.proofs.Settling.{settled, pruned_in_rounds, filter_few, round, still}

-- ---- fewer hypotheses

-- no test passes more of them
abbrev pub Part : List TheHypothesis → List TheHypothesis → Type 0
Part new old = (q : TheHypothesis → Bool) → tally q new ≤ tally q old

pub none_in : (new old : List TheHypothesis) → Part new old → (q : TheHypothesis → Bool) → list_any q old ≡ false → list_any q new ≡ false
none_in new old p q h = none_counted q new (omega (arith, p q, count_none q old h))

pub some_in : (new old : List TheHypothesis) → Part new old → (q : TheHypothesis → Bool) → list_any q new ≡ true → list_any q old ≡ true
some_in new old p q h = by (list_any q old) refl
  where
    by : (b : Bool) → list_any q old ≡ b → list_any q old ≡ true
    by true e = e
    by false e = let g = sym (none_in new old p q e) ∙ h in absurd cc

leads_in : (new old : List TheHypothesis) → ((b p : List ℕ) → list_any (is_pair b p) new ≡ true → list_any (is_pair b p) old ≡ true) → (n : ℕ) (a b : List ℕ) → Leads new n a b → Leads old n a b
leads_in new old f zero a b l = l
leads_in new old f (suc n) a b l = (l.0, f b l.0 l.1, by l.2 (λ k. leads_in new old f n a l.0 k))
  where
    by : (l.0 ≡ a) ⊎ Leads new n a l.0 → (Leads new n a l.0 → Leads old n a l.0) → (l.0 ≡ a) ⊎ Leads old n a l.0
    by (inl e) g = inl e
    by (inr k) g = inr (g k)

pub fine_part : (o : List Entry) (n : ℕ) (new old : List TheHypothesis) → Part new old → list_any (is_lost new) new ≡ false → Fine o n old → Fine o n new
fine_part o n new old p lost f = record {
  once = λ name. omega (arith, p (named name), f.once name);
  metrics = none_in new old p (is_unmeasured o) f.metrics;
  axes = none_in new old p is_strange f.axes;
  parents = lost;
  acyclic = λ a l. f.acyclic a (leads_in new old (λ b q. some_in new old p (is_pair b q)) n a a l);
}

tally_all : {A : Type 0} (xs : List A) → tally (λ _. true) xs ≡ length xs
tally_all [] = refl
tally_all (x ∷ xs) = omega (arith, tally_all xs)

pub part_few : (new old : List TheHypothesis) → Part new old → length new ≤ length old
part_few new old p = omega (arith, p (λ _. true), tally_all new, tally_all old)

-- ---- prune

module _ (p : Item → Bool) (q : TheHypothesis → Bool) (h : (x : TheHypothesis) → p (Hypothesis x) ≡ q (bare x)) where
  dropped : (item : Item) (items : List Item) → strip item ≡ [] → (b : Bool) → stripped (cond b (item ∷ items) items) ≡ stripped items
  dropped item items e true = ap (λ (l : List TheHypothesis). l ++ stripped items) e
  dropped item items e false = refl

  strip_filter : (items : List Item) → stripped (filter p items) ≡ filter q (stripped items)
  strip_filter [] = refl
  strip_filter (Include i ∷ xs) = dropped (Include i) (filter p xs) refl (p (Include i)) ∙ strip_filter xs
  strip_filter (Sync s ∷ xs) = dropped (Sync s) (filter p xs) refl (p (Sync s)) ∙ strip_filter xs
  strip_filter (Metric m ∷ xs) = dropped (Metric m) (filter p xs) refl (p (Metric m)) ∙ strip_filter xs
  strip_filter (Constraint c ∷ xs) = dropped (Constraint c) (filter p xs) refl (p (Constraint c)) ∙ strip_filter xs
  strip_filter (Hypothesis x ∷ xs) = by (p (Hypothesis x)) (q (bare x)) (h x) (strip_filter xs)
    where
      by : (b c : Bool) → b ≡ c → stripped (filter p xs) ≡ filter q (stripped xs) → stripped (cond b (Hypothesis x ∷ filter p xs) (filter p xs)) ≡ cond c (bare x ∷ filter q (stripped xs)) (filter q (stripped xs))
      by true true e k = ap (λ (l : List TheHypothesis). bare x ∷ l) k
      by true false e k = absurd cc
      by false true e k = absurd cc
      by false false e k = k
  strip_filter (Search s ∷ xs) = dropped (Search s) (filter p xs) refl (p (Search s)) ∙ strip_filter xs
  strip_filter (Phase f ∷ xs) = dropped (Phase f) (filter p xs) refl (p (Phase f)) ∙ strip_filter xs
  strip_filter (Wish w ∷ xs) = dropped (Wish w) (filter p xs) refl (p (Wish w)) ∙ strip_filter xs

  part_filter : (items : List Item) → Part (stripped (filter p items)) (stripped items)
  part_filter items r = omega (arith, ap (tally r) (strip_filter items), count_filter r q (stripped items))

pub named_lift : (name : List ℕ) (item : Item) → is_named name item ≡ lift (named name) item
named_lift name (Include i) = refl
named_lift name (Sync s) = refl
named_lift name (Metric m) = refl
named_lift name (Constraint c) = refl
named_lift name (Hypothesis h) = refl
named_lift name (Search s) = refl
named_lift name (Phase p) = refl
named_lift name (Wish w) = refl

pub stands_named : (name : List ℕ) (items : List Item) → has_hypothesis name items ≡ list_any (named name) (stripped items)
stands_named name items = ap (λ (t : Item → Bool). list_any t items) (λ i item. named_lift name item i) ∙ sym (any_stripped (named name) items)

lacks_misses : (items : List Item) (parent : Option (List ℕ)) → lacks items parent ≡ misses (stripped items) parent
lacks_misses items None = refl
lacks_misses items (Some p) = ap not (stands_named p items)

orphan_lost : (all : List Item) (item : Item) → is_orphan all item ≡ lift (is_lost (stripped all)) item
orphan_lost all (Include i) = refl
orphan_lost all (Sync s) = refl
orphan_lost all (Metric m) = refl
orphan_lost all (Constraint c) = refl
orphan_lost all (Hypothesis h) = lacks_misses all h.parent
orphan_lost all (Search s) = refl
orphan_lost all (Phase p) = refl
orphan_lost all (Wish w) = refl

pub orphans_lost : (items : List Item) → list_any (is_orphan items) items ≡ list_any (is_lost (stripped items)) (stripped items)
orphans_lost items = ap (λ (t : Item → Bool). list_any t items) (λ i item. orphan_lost items item i) ∙ sym (any_stripped (is_lost (stripped items)) items)

pub all_stay : {A : Type 0} (q : A → Bool) (xs : List A) → list_any q xs ≡ false → filter (λ x. not (q x)) xs ≡ xs
all_stay q [] h = refl
all_stay q (x ∷ xs) h = let k = or_parts (q x) (list_any q xs) h in ap (λ (b : Bool). cond (not b) (x ∷ filter (λ x. not (q x)) xs) (filter (λ x. not (q x)) xs)) k.0 ∙ ap (λ (l : List _). x ∷ l) (all_stay q xs k.1)

shorter : {A : Type 0} (q : A → Bool) (xs : List A) → list_any q xs ≡ true → length (filter (λ x. not (q x)) xs) < length xs
shorter q [] h = absurd cc
shorter q (x ∷ xs) h = by (q x) h (filter_few (λ x. not (q x)) xs) (λ k. shorter q xs k)
  where
    by : (b : Bool) → (b || list_any q xs) ≡ true → length (filter (λ x. not (q x)) xs) ≤ length xs → (list_any q xs ≡ true → length (filter (λ x. not (q x)) xs) < length xs) →
        length (cond (not b) (x ∷ filter (λ x. not (q x)) xs) (filter (λ x. not (q x)) xs)) < length (x ∷ xs)
    by true h f k = omega arith
    by false h f k = let g = k h in omega arith

abbrev pub Homeless : List Item → Type 0
Homeless items = list_any (is_orphan items) items ≡ false

pub settled_done : (n : ℕ) (items : List Item) → length items ≤ n → Homeless (settled n items)
settled_done zero [] h = refl
settled_done zero (i ∷ items) h = absurd (omega arith)
settled_done (suc n) items h = by (list_any (is_orphan items) items) refl (λ k. settled_done n (round items) k)
  where
    by : (b : Bool) → list_any (is_orphan items) items ≡ b → (length (round items) ≤ n → Homeless (settled n (round items))) → Homeless (settled n (round items))
    by true e f = let k = shorter (is_orphan items) items e in f (omega arith)
    by false e f = subst Homeless (sym (still (suc n) items (all_stay (is_orphan items) items e))) e

pub part_pruned : (name : List ℕ) (items : List Item) → Part (stripped (pruned name items)) (stripped items)
unfolding pruned
part_pruned name items =
    part_filter (λ item. not (is_under items (length items) name item)) (λ h. not (bytes_eq name h.name || leads_up items (length items) name h.parent)) (λ x. refl) items

pub rounds_done : (name : List ℕ) (items : List Item) → Homeless (pruned_in_rounds name items)
unfolding pruned_in_rounds
rounds_done name items = settled_done (length items) (filter (λ item. not (is_named name item)) items) (filter_few (λ item. not (is_named name item)) items)

-- lists in which as many pass pass alike
pub same_any : (q : TheHypothesis → Bool) (new old : List TheHypothesis) → tally q new ≡ tally q old → list_any q new ≡ list_any q old
same_any q new old e = by (list_any q new) (list_any q old) refl refl
  where
    by : (b c : Bool) → list_any q new ≡ b → list_any q old ≡ c → list_any q new ≡ list_any q old
    by true true k l = k ∙ sym l
    by false false k l = k ∙ sym l
    by true false k l = let g = sym (none_counted q new (e ∙ count_none q old l)) ∙ k in absurd cc
    by false true k l = let g = sym (none_counted q old (sym e ∙ count_none q new k)) ∙ l in absurd cc

-- ---- a change

module _ (name : List ℕ) (f : TheHypothesis → TheHypothesis) where
  change_tally : (q : TheHypothesis → Bool) → ((h : TheHypothesis) → q (bare (f h)) ≡ q (bare h)) → (items : List Item) → tally q (stripped (map (with_hypothesis name f) items)) ≡ tally q (stripped items)
  change_tally q e [] = refl
  change_tally q e (Include i ∷ xs) = change_tally q e xs
  change_tally q e (Sync s ∷ xs) = change_tally q e xs
  change_tally q e (Metric m ∷ xs) = change_tally q e xs
  change_tally q e (Constraint c ∷ xs) = change_tally q e xs
  change_tally q e (Hypothesis x ∷ xs) = by (bytes_eq name x.name) (change_tally q e xs)
    where
      by : (b : Bool) → tally q (stripped (map (with_hypothesis name f) xs)) ≡ tally q (stripped xs) →
          tally q (strip (cond b (Hypothesis (f x)) (Hypothesis x)) ++ stripped (map (with_hypothesis name f) xs)) ≡ cond (q (bare x)) 1 0 + tally q (stripped xs)
      by true k = ap (λ (c : Bool). cond c 1 0 + tally q (stripped (map (with_hypothesis name f) xs))) (e x) ∙ ap (λ (n : ℕ). cond (q (bare x)) 1 0 + n) k
      by false k = ap (λ (n : ℕ). cond (q (bare x)) 1 0 + n) k
  change_tally q e (Search s ∷ xs) = change_tally q e xs
  change_tally q e (Phase p ∷ xs) = change_tally q e xs
  change_tally q e (Wish w ∷ xs) = change_tally q e xs

  pub change_none : (q : TheHypothesis → Bool) → ((h : TheHypothesis) → bytes_eq name h.name ≡ true → q (bare h) ≡ false → q (bare (f h)) ≡ false) → (items : List Item) → list_any q (stripped items) ≡ false → list_any q (stripped (map (with_hypothesis name f) items)) ≡ false
  change_none q e [] h = refl
  change_none q e (Include i ∷ xs) h = change_none q e xs h
  change_none q e (Sync s ∷ xs) h = change_none q e xs h
  change_none q e (Metric m ∷ xs) h = change_none q e xs h
  change_none q e (Constraint c ∷ xs) h = change_none q e xs h
  change_none q e (Hypothesis x ∷ xs) h = let k = or_parts (q (bare x)) (list_any q (stripped xs)) h in by (bytes_eq name x.name) refl k.0 (change_none q e xs k.1)
    where
      by : (b : Bool) → bytes_eq name x.name ≡ b → q (bare x) ≡ false → list_any q (stripped (map (with_hypothesis name f) xs)) ≡ false → list_any q (strip (cond b (Hypothesis (f x)) (Hypothesis x)) ++ stripped (map (with_hypothesis name f) xs)) ≡ false
      by true t k l = or_none (q (bare (f x))) (list_any q (stripped (map (with_hypothesis name f) xs))) (e x t k) l
      by false t k l = or_none (q (bare x)) (list_any q (stripped (map (with_hypothesis name f) xs))) k l
  change_none q e (Search s ∷ xs) h = change_none q e xs h
  change_none q e (Phase p ∷ xs) h = change_none q e xs h
  change_none q e (Wish w ∷ xs) h = change_none q e xs h

  -- what the change gives, and what no other hypothesis has
  pub change_sets : (q : TheHypothesis → Bool) → ((h : TheHypothesis) → bytes_eq name h.name ≡ true → q (bare (f h)) ≡ false) → ((h : TheHypothesis) → bytes_eq name h.name ≡ false → q (bare h) ≡ false) → (items : List Item) →
      list_any q (stripped (map (with_hypothesis name f) items)) ≡ false
  change_sets q e g [] = refl
  change_sets q e g (Include i ∷ xs) = change_sets q e g xs
  change_sets q e g (Sync s ∷ xs) = change_sets q e g xs
  change_sets q e g (Metric m ∷ xs) = change_sets q e g xs
  change_sets q e g (Constraint c ∷ xs) = change_sets q e g xs
  change_sets q e g (Hypothesis x ∷ xs) = by (bytes_eq name x.name) refl (change_sets q e g xs)
    where
      by : (b : Bool) → bytes_eq name x.name ≡ b → list_any q (stripped (map (with_hypothesis name f) xs)) ≡ false → list_any q (strip (cond b (Hypothesis (f x)) (Hypothesis x)) ++ stripped (map (with_hypothesis name f) xs)) ≡ false
      by true t l = or_none (q (bare (f x))) (list_any q (stripped (map (with_hypothesis name f) xs))) (e x t) l
      by false t l = or_none (q (bare x)) (list_any q (stripped (map (with_hypothesis name f) xs))) (g x t) l
  change_sets q e g (Search s ∷ xs) = change_sets q e g xs
  change_sets q e g (Phase p ∷ xs) = change_sets q e g xs
  change_sets q e g (Wish w ∷ xs) = change_sets q e g xs

  pub change_any : (q : TheHypothesis → Bool) → ((h : TheHypothesis) → q (bare (f h)) ≡ q (bare h)) → (items : List Item) → list_any q (stripped (map (with_hypothesis name f) items)) ≡ list_any q (stripped items)
  change_any q e items = same_any q (stripped (map (with_hypothesis name f) items)) (stripped items) (change_tally q e items)

  pub fine_changed : (o : List Entry) (n : ℕ) (items : List Item) → ((h : TheHypothesis) → (bare (f h)).name ≡ h.name) → ((h : TheHypothesis) → (bare (f h)).parent ≡ h.parent) → ((h : TheHypothesis) → (bare (f h)).metric ≡ h.metric) →
      ((h : TheHypothesis) → is_strange (bare h) ≡ false → is_strange (bare (f h)) ≡ false) → Fine o n (stripped items) → Fine o n (stripped (map (with_hypothesis name f) items))
  fine_changed o n items en ep em ea fine =
      let new = map (with_hypothesis name f) items in
      let missing : misses (stripped new) ≡ misses (stripped items) = λ i parent. missed parent i in
      record {
        once = λ name. omega (arith, fine.once name, change_tally (named name) (λ h. ap (bytes_eq name) (en h)) items);
        metrics = change_none (is_unmeasured o) (λ h t k. ap (λ (m : List ℕ). not (is_some (metric_number o m))) (em h) ∙ k) items fine.metrics;
        axes = change_none is_strange (λ h t k. ea h k) items fine.axes;
        parents = ap (λ (m : Option (List ℕ) → Bool). list_any (λ h. m h.parent) (stripped new)) missing ∙ change_none (is_lost (stripped items)) (λ h t k. ap (misses (stripped items)) (ep h) ∙ k) items fine.parents;
        acyclic = λ a l. fine.acyclic a (leads_in (stripped new) (stripped items)
            (λ b p h. sym (change_any (is_pair b p) (λ x. ap (λ (m : List ℕ). bytes_eq b m && has_parent p (bare (f x)).parent) (en x) ∙ ap (λ (m : Option (List ℕ)). bytes_eq b x.name && has_parent p m) (ep x)) items) ∙ h) n a a l);
      }
    where
      missed : (parent : Option (List ℕ)) → misses (stripped (map (with_hypothesis name f) items)) parent ≡ misses (stripped items) parent
      missed None = refl
      missed (Some p) = ap not (change_any (named p) (λ h. ap (bytes_eq p) (en h)) items)

  pub changed_few : (items : List Item) → length (stripped (map (with_hypothesis name f) items)) ≤ length (stripped items)
  changed_few items = omega (arith, change_tally (λ _. true) (λ h. refl) items, tally_all (stripped (map (with_hypothesis name f) items)), tally_all (stripped items))
