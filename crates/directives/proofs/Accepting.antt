-- The check accepts what directives make of items that it accepts.
use Rattle.std.proofs.Common.{◌≡◌, ℕ, suc, ◌+◌, ◌≤◌, not, cond, Bool, true, false, Option, Some, None, List, [], ◌∷◌, ◌++◌, length, map, flat_map, Ok, refl, sym, ap, ◌∙◌, subst, arith}
use Rattle.std.specs.List.{list_any, filter}
use Rattle.mdl_ast.specs.declared.items.Item.{Item}
use Rattle.mdl_ast.specs.declared.items.Item.TheVariants.{Include, Sync, Metric, Constraint, Hypothesis, Search, Phase, Wish}
use Rattle.mdl_ast.specs.declared.items.Hypothesis.{Hypothesis as TheHypothesis}
use Rattle.mdl_ast.specs.declared.items.Include.{Include as TheInclude}
use Rattle.resource_tree.specs.Resources.{Resources}
use Rattle.mdl_check.specs.Placed.{PlacedItem, Entry, placed_item, entry, placed_items}
use Rattle.mdl_check.specs.Rules.{is_include}
use Rattle.mdl_check.specs.Checking.{first_fault, HasFocus, HaveFoci, AreEntries, placed_of, checked_of, prefixes_of}
use Rattle.directives.specs.declared.directive.Directive.{Directive}
use Rattle.directives.specs.declared.directive.DirectiveAct.{DirectiveAct}
use Rattle.directives.specs.declared.fault.DirectiveKind.{DirectiveKind}
use Rattle.directives.specs.Acts.{expanded, kind_of, items_after_act, go_on, directed, applied}
use Rattle.directives.specs.Applying.{IsAccepted}
use Rattle.directives.proofs.Stripped.{tally, strip, stripped, lift, named, is_lost, Fine, hyps_of, count_stripped}
use Rattle.directives.proofs.Faultless.{Each, each_from, each_to, is_other, others, others_each}
use Rattle.directives.proofs.FineItems.{takes, one_include, fine_from, each_again}
use Rattle.directives.proofs.Spread.{by_item, placed_by_item, spread_same, bare_placed, placed_stripped, hyp_include, plain_same, expanded_plain, placed_include, fewer_includes, keep, count_placed, placed_sync}
use Rattle.directives.proofs.Acting.{fine_acted, few_acted, hidden_acted}
use Rattle.directives.specs.Hypotheses.{is_named}
use Rattle.directives.specs.Standing.{HaveOwnNames}
use Rattle.directives.proofs.Kept.{named_lift}

-- ---- entries and their places

hyps_at : (es : List Entry) → hyps_of es ≡ flat_map placed_stripped (map placed_of es)
hyps_at [] = refl
hyps_at (e ∷ es) = ap (λ (l : List TheHypothesis). strip e.item ++ l) (hyps_at es)

others_at : (es : List Entry) → map placed_of (others es) ≡ flat_map keep (map placed_of es)
others_at [] = refl
others_at (e ∷ es) = by (is_other e.item) (others_at es)
  where
    by : (b : Bool) → map placed_of (others es) ≡ flat_map keep (map placed_of es) → map placed_of (cond b (e ∷ others es) (others es)) ≡ cond b (placed_of e ∷ []) [] ++ flat_map keep (map placed_of es)
    by true k = ap (λ (l : List PlacedItem). placed_of e ∷ l) k
    by false k = k

takes_one : (item : Item) (rest : List Item) → length (hyp_include item ++ rest) ≡ cond (is_include false item) 1 0 + length rest
takes_one (Include i) rest = by i.metrics
  where
    by : (b : Bool) → length (cond b [] (Include i ∷ []) ++ rest) ≡ cond (not b) 1 0 + length rest
    by true = omega arith
    by false = omega arith
takes_one (Sync s) rest = omega arith
takes_one (Metric m) rest = omega arith
takes_one (Constraint c) rest = omega arith
takes_one (Hypothesis h) rest = omega arith
takes_one (Search s) rest = omega arith
takes_one (Phase p) rest = omega arith
takes_one (Wish w) rest = omega arith

takes_at : (es : List Entry) → tally takes es ≡ length (flat_map placed_include (map placed_of es))
takes_at [] = refl
takes_at (e ∷ es) = omega (arith, takes_at es, takes_one e.item (flat_map placed_include (map placed_of es)))

foci_of_others : (t : Resources) (es : List Entry) → HaveFoci t es → HaveFoci t (others es)
foci_of_others t [] h = tt
foci_of_others t (e ∷ es) h = by (is_other e.item) (foci_of_others t es h.1)
  where
    by : (b : Bool) → HaveFoci t (others es) → HaveFoci t (cond b (e ∷ others es) (others es))
    by true k = (h.0, k)
    by false k = k

-- an item that is no other selects nothing
no_focus : (t : Resources) (item : Item) → is_other item ≡ false → HasFocus t item None
no_focus t (Include i) e = refl
no_focus t (Sync s) e = refl
no_focus t (Metric m) e = refl
no_focus t (Constraint c) e = refl
no_focus t (Hypothesis h) e = refl
no_focus t (Search s) e = refl
no_focus t (Phase p) e = refl
no_focus t (Wish w) e = absurd cc

-- the items at these places, where the others among them have their foci
pub record Entered (t : Resources) (ss : List PlacedItem) (o : List Entry) : Type 0 where
  pub entries : List Entry
  pub places : map placed_of entries ≡ ss
  pub foci : HaveFoci t entries
  pub among : others entries ≡ o

entered : (t : Resources) (ss : List PlacedItem) (o : List Entry) → map placed_of o ≡ flat_map keep ss → HaveFoci t o → Entered t ss o
entered t [] [] h f = record { entries = []; places = refl; foci = tt; among = refl }
entered t [] (e ∷ o) h f = absurd cc
entered t (s ∷ ss) o h f = by (is_other s.item) refl o h f (λ p k g. entered t ss p k g)
  where
    by : (b : Bool) → is_other s.item ≡ b → (o : List Entry) → map placed_of o ≡ cond b (s ∷ []) [] ++ flat_map keep ss → HaveFoci t o → ((p : List Entry) → map placed_of p ≡ flat_map keep ss → HaveFoci t p → Entered t ss p) → Entered t (s ∷ ss) o
    by true e [] h f more = absurd cc
    by true e (x ∷ o) h f more =
        let first : placed_of x ≡ s = cc in
        let rest : map placed_of o ≡ flat_map keep ss = cc in
        let m = more o rest f.1 in
        let other : is_other x.item ≡ true = ap (λ (y : PlacedItem). is_other y.item) first ∙ e in
        record {
          entries = x ∷ m.entries;
          places = ap (λ (y : PlacedItem). y ∷ map placed_of m.entries) first ∙ ap (λ (l : List PlacedItem). s ∷ l) m.places;
          foci = (f.0, m.foci);
          among = ap (λ (b : Bool). cond b (x ∷ others m.entries) (others m.entries)) other ∙ ap (λ (l : List Entry). x ∷ l) m.among;
        }
    by false e o h f more =
        let m = more o h f in
        record {
          entries = entry s.line s.item None ∷ m.entries;
          places = ap (λ (l : List PlacedItem). s ∷ l) m.places;
          foci = (no_focus t s.item e, m.foci);
          among = ap (λ (b : Bool). cond b (entry s.line s.item None ∷ others m.entries) (others m.entries)) e ∙ m.among;
        }

-- ---- what holds of the items on the way

record Ready (shipped : List Item) (o : List Entry) (n : ℕ) (prefixes : List (List ℕ)) (items : List Item) : Type 0 where
  fine : Fine o n (stripped items)
  plain : flat_map hyp_include items ≡ []
  kept : flat_map keep (placed_items shipped items) ≡ map placed_of o
  single : length (flat_map placed_include (placed_items shipped items)) ≤ 1
  few : length o + (length (stripped items) + length (flat_map placed_include (placed_items shipped items))) ≤ n
  begins : flat_map placed_sync (placed_items shipped items) ≡ prefixes

placed_length : (es : List Entry) → length (map placed_of es) ≡ length es
placed_length [] = refl
placed_length (e ∷ es) = ap suc (placed_length es)

others_hide : (line : ℕ) (i : TheInclude) → i.metrics ≡ false → keep (placed_item line (Include i)) ≡ []
others_hide line i m = ap (λ (b : Bool). cond b (placed_item line (Include i) ∷ []) []) m

ready_first : (t : Resources) (shipped items : List Item) (es : List Entry) → AreEntries t (placed_items shipped items) es → Each es [] es → Ready shipped (others es) (length es) (prefixes_of shipped items) (expanded shipped items)
ready_first t shipped items es a f =
    let bare_same : hyps_of es ≡ stripped (expanded shipped items) = hyps_at es ∙ ap (flat_map placed_stripped) a.places_are ∙ bare_placed shipped items in
    let kept_same : flat_map keep (placed_items shipped items) ≡ map placed_of (others es) = ap (flat_map keep) (sym a.places_are) ∙ sym (others_at es) in
    let one = one_include es f in
    let all = count_placed (placed_items shipped items) in
    record {
      fine = subst (Fine (others es) (length es)) bare_same (fine_from es f);
      plain = expanded_plain shipped items;
      kept = spread_same keep (λ l h. refl) others_hide shipped items ∙ kept_same;
      single = omega (arith, fewer_includes shipped items, one, takes_at es, ap (λ (l : List PlacedItem). length (flat_map placed_include l)) a.places_are);
      few = omega (arith, fewer_includes shipped items, all, ap length a.places_are, placed_length es, ap length kept_same, placed_length (others es), ap length (bare_placed shipped items));
      begins = spread_same placed_sync (λ l h. refl) (λ l i m. refl) shipped items;
    }

hidden_placed : {B : Type 0} (g : PlacedItem → List B) → ((l : ℕ) (h : TheHypothesis) → g (placed_item l (Hypothesis h)) ≡ []) → (shipped : List Item) (act : DirectiveAct) (items : List Item) →
    flat_map g (placed_items shipped (items_after_act act items)) ≡ flat_map g (placed_items shipped items)
hidden_placed g hyp shipped act items =
    placed_by_item g shipped (items_after_act act items) ∙ hidden_acted (by_item g shipped) (λ h. ap (λ (l : List _). l ++ []) (hyp h.line h)) act items ∙ sym (placed_by_item g shipped items)

ready_more : (shipped : List Item) (o : List Entry) (n : ℕ) (prefixes : List (List ℕ)) (act : DirectiveAct) (items : List Item) → Ready shipped o n prefixes items → Ready shipped o n prefixes (items_after_act act items)
ready_more shipped o n prefixes act items r =
    let includes = ap length (hidden_placed placed_include (λ l h. refl) shipped act items) in
    record {
      fine = fine_acted o n act items r.fine;
      plain = hidden_acted hyp_include (λ h. refl) act items ∙ r.plain;
      kept = hidden_placed keep (λ l h. refl) shipped act items ∙ r.kept;
      single = omega (arith, r.single, includes);
      few = omega (arith, r.few, includes, few_acted act items);
      begins = hidden_placed placed_sync (λ l h. refl) shipped act items ∙ r.begins;
    }

ready_all : (shipped : List Item) (o : List Entry) (n : ℕ) (prefixes : List (List ℕ)) (ds : List Directive) (items new : List Item) → Ready shipped o n prefixes items → directed ds items ≡ Ok new → Ready shipped o n prefixes new
unfolding directed
ready_all shipped o n prefixes [] items new r e = let same : items ≡ new = cc in subst (Ready shipped o n prefixes) same r
ready_all shipped o n prefixes (d ∷ ds) items new r e = by (kind_of d.act items) e (λ k. ready_all shipped o n prefixes ds (items_after_act d.act items) new (ready_more shipped o n prefixes d.act items r) k)
  where
    by : (k : Option DirectiveKind) → go_on (directed ds) d items k ≡ Ok new → (directed ds (items_after_act d.act items) ≡ Ok new → Ready shipped o n prefixes new) → Ready shipped o n prefixes new
    by None h f = f h
    by (Some kind) h f = absurd cc

-- ---- what is made is accepted

-- the entries of what is made: without a fault, with the same others
pub record Made (t : Resources) (shipped new : List Item) (o : List Entry) : Type 0 where
  pub entries : List Entry
  pub places : AreEntries t (placed_items shipped new) entries
  pub faultless : first_fault entries ≡ None
  pub among : others entries ≡ o
  pub plain : expanded shipped new ≡ new

made : (t : Resources) (shipped new : List Item) (o : List Entry) (n : ℕ) (prefixes : List (List ℕ)) → Ready shipped o n prefixes new → HaveFoci t o → Each o [] o → Made t shipped new o
made t shipped new o n prefixes r foci each =
    let m = entered t (placed_items shipped new) o (sym r.kept) foci in
    let all : List Entry = m.entries in
    let hyps : hyps_of all ≡ stripped new = hyps_at all ∙ ap (flat_map placed_stripped) m.places ∙ bare_placed shipped new ∙ ap stripped (plain_same shipped new r.plain) in
    let fine : Fine (others all) n (hyps_of all) = subst (λ (l : List Entry). Fine l n (hyps_of all)) (sym m.among) (subst (Fine o n) (sym hyps) r.fine) in
    let spread : length all ≡ length (flat_map keep (placed_items shipped new)) + (length (flat_map placed_stripped (placed_items shipped new)) + length (flat_map placed_include (placed_items shipped new))) =
    sym (placed_length all) ∙ ap length m.places ∙ count_placed (placed_items shipped new) in
    let few : length all ≤ n = omega (arith, r.few, spread, ap length r.kept, placed_length o, ap length (bare_placed shipped new), ap (λ (l : List Item). length (stripped l)) (plain_same shipped new r.plain)) in
    let single : tally takes all ≤ 1 = omega (arith, r.single, takes_at all, ap (λ (l : List PlacedItem). length (flat_map placed_include l)) m.places) in
    let alone : Each (others all) [] (others all) = subst (λ (l : List Entry). Each l [] l) (sym m.among) each in
    record {
      entries = all;
      places = record { places_are = m.places; foci = m.foci };
      faultless = each_to all [] all (each_again all n fine few single [] all refl alone);
      among = m.among;
      plain = plain_same shipped new r.plain;
    }

pub made_after : (t : Resources) (shipped items : List Item) (ds : List Directive) (new : List Item) (es : List Entry) → AreEntries t (placed_items shipped items) es → first_fault es ≡ None → applied shipped items ds ≡ Ok new →
    Made t shipped new (others es)
unfolding applied
made_after t shipped items ds new es entries none e =
    let each = each_from es [] es none in
    let ready = ready_all shipped (others es) (length es) (prefixes_of shipped items) ds (expanded shipped items) new (ready_first t shipped items es entries each) e in
    made t shipped new (others es) (length es) (prefixes_of shipped items) ready (foci_of_others t es entries.foci) (others_each es [] es refl each)

pub accepted_after : (t : Resources) (shipped items : List Item) (ds : List Directive) (new : List Item) → IsAccepted t shipped items → applied shipped items ds ≡ Ok new → IsAccepted t shipped new
unfolding IsAccepted
accepted_after t shipped items ds new a e =
    let m = made_after t shipped items ds new a.1.0 a.1.1 a.1.2 e in
    (checked_of m.entries, (m.entries, m.places, m.faultless, refl))

pub prefixes_after : (t : Resources) (shipped items : List Item) (ds : List Directive) (new : List Item) → IsAccepted t shipped items → applied shipped items ds ≡ Ok new → prefixes_of shipped new ≡ prefixes_of shipped items
unfolding IsAccepted applied
prefixes_after t shipped items ds new a e =
    let es : List Entry = a.1.0 in
    let each = each_from es [] es a.1.2 in
    (ready_all shipped (others es) (length es) (prefixes_of shipped items) ds (expanded shipped items) new (ready_first t shipped items es a.1.1 each) e).begins

pub once_before : (t : Resources) (shipped items : List Item) → IsAccepted t shipped items → (name : List ℕ) → tally (named name) (stripped (expanded shipped items)) ≤ 1
unfolding IsAccepted
once_before t shipped items a =
    let es : List Entry = a.1.0 in
    (ready_first t shipped items es a.1.1 (each_from es [] es a.1.2)).fine.once

tally_filter : {A : Type 0} (q : A → Bool) (xs : List A) → length (filter q xs) ≡ tally q xs
tally_filter q [] = refl
tally_filter q (x ∷ xs) = by (q x) (tally_filter q xs)
  where
    by : (b : Bool) → length (filter q xs) ≡ tally q xs → length (cond b (x ∷ filter q xs) (filter q xs)) ≡ cond b 1 0 + tally q xs
    by true h = omega arith
    by false h = omega arith

-- names of hypotheses are unique where directives begin
pub own_names : (t : Resources) (shipped items : List Item) → IsAccepted t shipped items → HaveOwnNames (expanded shipped items)
own_names t shipped items a name =
    let all : List Item = expanded shipped items in
    let same : is_named name ≡ lift (named name) = λ i item. named_lift name item i in
    omega (arith, once_before t shipped items a name, count_stripped (named name) all, ap (λ (q : Item → Bool). tally q all) same, tally_filter (is_named name) all)

pub homes_after : (t : Resources) (shipped items : List Item) (ds : List Directive) (new : List Item) → IsAccepted t shipped items → applied shipped items ds ≡ Ok new → list_any (is_lost (stripped new)) (stripped new) ≡ false
unfolding IsAccepted applied
homes_after t shipped items ds new a e =
    let es : List Entry = a.1.0 in
    let each = each_from es [] es a.1.2 in
    (ready_all shipped (others es) (length es) (prefixes_of shipped items) ds (expanded shipped items) new (ready_first t shipped items es a.1.1 each) e).fine.parents

pub few_after : (t : Resources) (shipped items : List Item) (ds : List Directive) (new : List Item) → IsAccepted t shipped items → applied shipped items ds ≡ Ok new → length (placed_items shipped new) ≤ length (placed_items shipped items)
unfolding IsAccepted applied
few_after t shipped items ds new a e =
    let es : List Entry = a.1.0 in
    let each = each_from es [] es a.1.2 in
    let r = ready_all shipped (others es) (length es) (prefixes_of shipped items) ds (expanded shipped items) new (ready_first t shipped items es a.1.1 each) e in
    omega (
      arith,
      r.few,
      count_placed (placed_items shipped new),
      ap length r.kept,
      placed_length (others es),
      ap length (bare_placed shipped new),
      ap (λ (l : List Item). length (stripped l)) (plain_same shipped new r.plain),
      ap length a.1.1.places_are,
      placed_length es,
    )
