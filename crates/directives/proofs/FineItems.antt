-- Items are without a fault exactly where the others are by themselves, and the hypotheses are fine beside them.
use Rattle.std.proofs.Common.{◌≡◌, ℕ, zero, suc, ◌+◌, ◌≤◌, ◌||◌, ◌⊎◌, inl, inr, not, cond, Bool, true, false, Option, Some, List, [], ◌∷◌, ◌++◌, length, is_some, slice_get, refl, sym, ap, ◌∙◌, subst, arith}
use Rattle.std.specs.List.{list_any, list_all}
use Rattle.std.proofs.lemmas.Bool.{or_parts}
use Rattle.std.proofs.lemmas.List.{append_assoc, append-nil}
use Rattle.mdl_ast.specs.declared.items.Item.{Item}
use Rattle.mdl_ast.specs.declared.items.Item.TheVariants.{Include, Sync, Metric, Constraint, Hypothesis, Search, Phase, Wish}
use Rattle.mdl_ast.specs.declared.items.Hypothesis.{Hypothesis as TheHypothesis}
use Rattle.mdl_ast.specs.declared.items.Include.{Include as TheInclude}
use Rattle.mdl_check.specs.Placed.{Entry}
use Rattle.mdl_check.specs.Names.{metric_number}
use Rattle.mdl_check.specs.Rules.{is_axis, is_include, is_repeated, is_unknown, is_wrong, is_astray, parent_place, parents_of, is_cyclic, is_orphan as is_parentless}
use Rattle.directives.proofs.Stripped.{or_none, tally, none_counted, count_none, lift, bare, named, is_lost, Leads, is_unmeasured, is_strange, Fine, hyps_of, is_at, any_one, repeated_is, parentless_is, any_hyps, count_hyps}
use Rattle.directives.proofs.Faultless.{Faultless, Each, is_other, others, metric_of_others, element_at, no_cycle, other_among}
use Rattle.directives.proofs.Cycles.{name_itself, lifted, passes_at, back, no_way_back, same_name, parents_length}

abbrev weight : Bool → ℕ
weight b = cond b 1 0

-- ---- what passes a test stands once

pub tally_append : {A : Type 0} (q : A → Bool) (xs ys : List A) → tally q (xs ++ ys) ≡ tally q xs + tally q ys
tally_append q [] ys = omega arith
tally_append q (x ∷ xs) ys = omega (arith, tally_append q xs ys)

module _ (t : Entry → Bool) (all : List Entry) (alone : (before : List Entry) (e : Entry) → Faultless all before e → t e ≡ true → list_any t before ≡ false) where
  once_more : (before : List Entry) (e : Entry) → Faultless all before e → tally t before ≤ 1 → tally t (before ++ (e ∷ [])) ≤ 1
  once_more before e f h = by (t e) refl
    where
      by : (b : Bool) → t e ≡ b → tally t (before ++ (e ∷ [])) ≤ 1
      by true p = let none = count_none t before (alone before e f p) in let one : weight (t e) ≡ weight true = ap weight p in omega (arith, none, one, tally_append t before (e ∷ []))
      by false p = let one : weight (t e) ≡ weight false = ap weight p in omega (arith, one, tally_append t before (e ∷ []))

  once_from : (before es : List Entry) → Each all before es → tally t before ≤ 1 → tally t (before ++ es) ≤ 1
  once_from before [] f h = subst (λ (l : List Entry). tally t l ≤ 1) (sym (append-nil before)) h
  once_from before (e ∷ es) f h =
      subst (λ (l : List Entry). tally t l ≤ 1) (append_assoc before (e ∷ []) es) (once_from (before ++ (e ∷ [])) es f.1 (once_more before e f.0 h))

named_alone : (name : List ℕ) (all before : List Entry) (e : Entry) → Faultless all before e → is_at name e ≡ true → list_any (is_at name) before ≡ false
named_alone name all before e f h =
    let g = lifted (named name) e.item h in
    let same : name ≡ g.0.name = same_name name g.0.name g.2 in
    sym (any_hyps (named name) before) ∙ ap (λ (n : List ℕ). list_any (named n) (hyps_of before)) same
    ∙ sym (repeated_is all before g.0 e.focus) ∙ sym (ap (λ (i : Item). is_repeated all before i e.focus) g.1) ∙ f.fresh

included_item : (item : Item) → is_include false item ≡ true → (i : TheInclude) × (item ≡ Include i) × (i.metrics ≡ false)
included_item (Include i) h = (i, refl, by i.metrics h)
  where
    by : (b : Bool) → not b ≡ true → b ≡ false
    by true h = absurd cc
    by false h = refl
included_item (Sync s) h = absurd cc
included_item (Metric m) h = absurd cc
included_item (Constraint c) h = absurd cc
included_item (Hypothesis x) h = absurd cc
included_item (Search s) h = absurd cc
included_item (Phase p) h = absurd cc
included_item (Wish w) h = absurd cc

abbrev pub takes : Entry → Bool
takes e = is_include false e.item

include_alone : (all before : List Entry) (e : Entry) → Faultless all before e → takes e ≡ true → list_any takes before ≡ false
include_alone all before e f h =
    let g = included_item e.item h in
    sym (ap (λ (b : Bool). list_any (λ e. is_include b e.item) before) g.2) ∙ sym (ap (λ (i : Item). is_repeated all before i e.focus) g.1) ∙ f.fresh

pub one_include : (all : List Entry) → Each all [] all → tally takes all ≤ 1
one_include all f = once_from takes all (include_alone all) [] all f (omega arith)

-- ---- what each hypothesis has

module _ (all : List Entry) (q : TheHypothesis → Bool) (h : (x : TheHypothesis) → is_unknown all (Hypothesis x) ≡ false → q (bare x) ≡ false) where
  lift_none : (item : Item) → is_unknown all item ≡ false → lift q item ≡ false
  lift_none (Include i) e = refl
  lift_none (Sync s) e = refl
  lift_none (Metric m) e = refl
  lift_none (Constraint c) e = refl
  lift_none (Hypothesis x) e = h x e
  lift_none (Search s) e = refl
  lift_none (Phase p) e = refl
  lift_none (Wish w) e = refl

  none_from : (before es : List Entry) → Each all before es → list_any q (hyps_of es) ≡ false
  none_from before [] f = refl
  none_from before (e ∷ es) f = any_one q e.item (hyps_of es) ∙ or_none (lift q e.item) (list_any q (hyps_of es)) (lift_none e.item f.0.known) (none_from (before ++ (e ∷ [])) es f.1)

known_parts : (all : List Entry) (x : TheHypothesis) → is_unknown all (Hypothesis x) ≡ false →
    (not (is_some (metric_number all x.metric)) ≡ false) × (is_parentless all x.parent ≡ false) × (not (list_all is_axis x.axes) ≡ false)
known_parts all x e =
    let a = or_parts (not (is_some (metric_number all x.metric)) || is_parentless all x.parent) (not (list_all is_axis x.axes)) e in
    let b = or_parts (not (is_some (metric_number all x.metric))) (is_parentless all x.parent) a.0 in
    (b.0, b.1, a.1)

abbrev measured : Option ℕ → Bool
measured o = not (is_some o)

-- hypotheses without a fault are fine
pub fine_from : (all : List Entry) → Each all [] all → Fine (others all) (length all) (hyps_of all)
fine_from all f = record {
  once = λ name. subst (λ (n : ℕ). n ≤ 1) (sym (count_hyps (named name) all)) (once name);
  metrics = none_from all (is_unmeasured (others all)) (λ x e. sym (ap measured (metric_of_others all x.metric)) ∙ (known_parts all x e).0) [] all f;
  axes = none_from all is_strange (λ x e. (known_parts all x e).2) [] all f;
  parents = none_from all (is_lost (hyps_of all)) (λ x e. sym (parentless_is all x.parent) ∙ (known_parts all x e).1) [] all f;
  acyclic = no_way_back all f once;
}
  where
    once : (name : List ℕ) → tally (is_at name) all ≤ 1
    once name = once_from (is_at name) all (named_alone name all) [] all f (omega arith)

-- ---- and back

leads_more : (hs : List TheHypothesis) (m n : ℕ) (a b : List ℕ) → m ≤ n → Leads hs m a b → Leads hs n a b
leads_more hs zero n a b h l = absurd l
leads_more hs (suc m) zero a b h l = absurd (omega arith)
leads_more hs (suc m) (suc n) a b h l = (l.0, l.1, by l.2 (λ k. leads_more hs m n a l.0 (omega arith) k))
  where
    by : (l.0 ≡ a) ⊎ Leads hs m a l.0 → (Leads hs m a l.0 → Leads hs n a l.0) → (l.0 ≡ a) ⊎ Leads hs n a l.0
    by (inl e) f = inl e
    by (inr k) f = inr (f k)

none_at : (q : TheHypothesis → Bool) (all : List Entry) (k : ℕ) (e : Entry) → slice_get all k ≡ Some e → list_any q (hyps_of all) ≡ false → lift q e.item ≡ false
none_at q all k e h n = by (lift q e.item) refl
  where
    by : (b : Bool) → lift q e.item ≡ b → lift q e.item ≡ false
    by true p = let g = sym (passes_at q all k e h p) ∙ n in absurd cc
    by false p = p

module _ (all before after : List Entry) (e : Entry) (place : all ≡ before ++ (e ∷ after)) where
  there : slice_get all (length before) ≡ Some e
  there = ap (λ (l : List Entry). slice_get l (length before)) place ∙ element_at before after e

  single : (t : Entry → Bool) → tally t all ≤ 1 → t e ≡ true → list_any t before ≡ false
  single t c h =
      let one : weight (t e) ≡ weight true = ap weight h in
      none_counted t before (omega (arith, c, one, ap (tally t) place, tally_append t before (e ∷ after)))

  fine_hypothesis : (n : ℕ) (h : TheHypothesis) → e.item ≡ Hypothesis h → Fine (others all) n (hyps_of all) → length all ≤ n → Faultless all before e
  fine_hypothesis n h i f few =
      let passes : is_at h.name e ≡ true = ap (lift (named h.name)) i ∙ name_itself h.name in
      let once = subst (λ (n : ℕ). n ≤ 1) (count_hyps (named h.name) all) (f.once h.name) in
      let metric : is_unmeasured (others all) h ≡ false = sym (ap (lift (is_unmeasured (others all))) i) ∙ none_at (is_unmeasured (others all)) all (length before) e there f.metrics in
      let axes : is_strange h ≡ false = sym (ap (lift is_strange) i) ∙ none_at is_strange all (length before) e there f.axes in
      let parent : is_lost (hyps_of all) h ≡ false = sym (ap (lift (is_lost (hyps_of all))) i) ∙ none_at (is_lost (hyps_of all)) all (length before) e there f.parents in
      record {
        fresh = ap (λ (x : Item). is_repeated all before x e.focus) i ∙ repeated_is all before h e.focus ∙ any_hyps (named h.name) before ∙ single (is_at h.name) once passes;
        known = ap (is_unknown all) i ∙ or_none (not (is_some (metric_number all h.metric)) || is_parentless all h.parent) (not (list_all is_axis h.axes))
            (or_none (not (is_some (metric_number all h.metric))) (is_parentless all h.parent) (ap measured (metric_of_others all h.metric) ∙ metric) (parentless_is all h.parent ∙ parent)) axes;
        right = ap (is_wrong all before) i;
        rooted = rooted (is_cyclic (parents_of all) (length before)) refl;
        found = ap (λ (x : Item). is_astray x e.focus) i;
      }
    where
      rooted : (b : Bool) → is_cyclic (parents_of all) (length before) ≡ b → is_cyclic (parents_of all) (length before) ≡ false
      rooted false p = p
      rooted true p =
          let l = back all (length (parents_of all)) (length before) (length before) e e h h there i there i p in
          absurd (f.acyclic h.name (leads_more (hyps_of all) (length (parents_of all)) n h.name h.name (omega (arith, few, parents_length all all)) l))

  fine_include : (i : TheInclude) → e.item ≡ Include i → i.metrics ≡ false → tally takes all ≤ 1 → Faultless all before e
  fine_include i h m c =
      let passes : takes e ≡ true = ap (is_include false) h ∙ ap not m in
      record {
        fresh = ap (λ (x : Item). is_repeated all before x e.focus) h ∙ ap (λ (b : Bool). list_any (λ e. is_include b e.item) before) m ∙ single takes c passes;
        known = ap (is_unknown all) h;
        right = ap (is_wrong all before) h;
        rooted = no_cycle all before after e place (ap (parent_place all) h);
        found = ap (λ (x : Item). is_astray x e.focus) h;
      }

  fine_hidden : (n : ℕ) (item : Item) → e.item ≡ item → is_other item ≡ false → Fine (others all) n (hyps_of all) → length all ≤ n → tally takes all ≤ 1 → Faultless all before e
  fine_hidden n (Include i) h o f few c = fine_include i h o c
  fine_hidden n (Sync s) h o f few c = absurd cc
  fine_hidden n (Metric m) h o f few c = absurd cc
  fine_hidden n (Constraint x) h o f few c = absurd cc
  fine_hidden n (Hypothesis x) h o f few c = fine_hypothesis n x h f few
  fine_hidden n (Search s) h o f few c = absurd cc
  fine_hidden n (Phase p) h o f few c = absurd cc
  fine_hidden n (Wish w) h o f few c = absurd cc

others_after : (before : List Entry) (e : Entry) (b : Bool) → is_other e.item ≡ b → others (before ++ (e ∷ [])) ≡ others before ++ cond b (e ∷ []) []
others_after [] e b h = ap (λ (c : Bool). cond c (e ∷ []) []) h
others_after (x ∷ xs) e b h = by (is_other x.item) (others_after xs e b h)
  where
    by : (c : Bool) → others (xs ++ (e ∷ [])) ≡ others xs ++ cond b (e ∷ []) [] → cond c (x ∷ others (xs ++ (e ∷ []))) (others (xs ++ (e ∷ []))) ≡ cond c (x ∷ others xs) (others xs) ++ cond b (e ∷ []) []
    by true k = ap (λ (l : List Entry). x ∷ l) k
    by false k = k

pub each_again : (all : List Entry) (n : ℕ) → Fine (others all) n (hyps_of all) → length all ≤ n → tally takes all ≤ 1 → (before es : List Entry) → all ≡ before ++ es →
    Each (others all) (others before) (others es) → Each all before es
each_again all n f few c before [] h g = tt
each_again all n f few c before (e ∷ es) h g = by (is_other e.item) refl g (λ k. each_again all n f few c (before ++ (e ∷ [])) es (h ∙ sym (append_assoc before (e ∷ []) es)) k)
  where
    by : (b : Bool) → is_other e.item ≡ b → Each (others all) (others before) (cond b (e ∷ others es) (others es)) → (Each (others all) (others (before ++ (e ∷ []))) (others es) → Each all (before ++ (e ∷ [])) es) → Each all before (e ∷ es)
    by true o g more = (other_among all before es e h o g.0, more (subst (λ (l : List Entry). Each (others all) l (others es)) (sym (others_after before e true o)) g.1))
    by false o g more = (
      fine_hidden all before es e h n e.item refl o f few c,
      more (subst (λ (l : List Entry). Each (others all) l (others es)) (sym (others_after before e false o ∙ append-nil (others before))) g),
    )
