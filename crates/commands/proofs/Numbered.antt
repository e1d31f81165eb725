-- The items of a checked configuration can be numbered, and the window of its search has a sample.
use Rattle.std.proofs.Common.{◌≡◌, ℕ, zero, suc, ◌+◌, ◌==◌, ◌<◌, ◌≤◌, ◌^◌, Bool, true, false, cond, Option, Some, None, Ok, List, [], ◌∷◌, ◌++◌, length, flat_map, map, refl, sym, ap, subst, arith}
use Rattle.std.specs.List.{filter, list_any}
use Rattle.std.proofs.lemmas.List.{length-append, length-map}
use Rattle.mdl_ast.specs.declared.items.Item.{Item}
use Rattle.mdl_ast.specs.declared.items.Item.TheVariants.{Include, Sync, Metric, Constraint, Hypothesis, Search, Phase, Wish}
use Rattle.mdl_ast.specs.declared.items.SearchDecl.{SearchDecl}
use Rattle.mdl_ast.specs.declared.items.Wish.{Wish as TheWish}
use Rattle.mdl_check.specs.Checking.{IsAnswer, fault_from, placed_of, metric_of, hypothesis_of, phase_of, search_behind, search_in, wish_with, wish_of}
use Rattle.mdl_check.specs.Names.{metric_number}
use Rattle.mdl_check.specs.Rules.{fault_of, is_cyclic, is_search, parents_of}
use Rattle.mdl_check.specs.Placed.{PlacedItem, Entry, entry, is_taken, placed_item, placed_items, with_included}
use Rattle.mdl_check.specs.declared.checked.Checked.{Checked}
use Rattle.mdl_check.specs.declared.fault.CheckFault.{CheckFault}
use Rattle.mdl_check.specs.declared.fault.CheckKind.{CheckKind}
use Rattle.mdl_check.specs.declared.fault.CheckKind.TheVariants.{TwiceNamed, WrongKind, CyclicParent}
use Rattle.mdl_shipped.specs.Shipped.{shipped_conf}
use Rattle.pn_types.specs.declared.focus.Focus.{Focus}
use Rattle.resource_tree.specs.Resources.{Resources}
use Rattle.session.specs.Given.{HasWindow}
use Rattle.mdl_check.proofs.Few.{placed_counted}
use Rattle.commands.proofs.FewItems.{shipped_few}

-- ---- how many

one_metric : (line : ℕ) (item : Item) → length (metric_of line item) ≤ 1
one_metric line (Include i) = omega arith
one_metric line (Sync s) = omega arith
one_metric line (Metric m) = omega arith
one_metric line (Constraint c) = omega arith
one_metric line (Hypothesis h) = omega arith
one_metric line (Search s) = omega arith
one_metric line (Phase p) = omega arith
one_metric line (Wish w) = omega arith

one_hypothesis : (line : ℕ) (item : Item) → length (hypothesis_of line item) ≤ 1
one_hypothesis line (Include i) = omega arith
one_hypothesis line (Sync s) = omega arith
one_hypothesis line (Metric m) = omega arith
one_hypothesis line (Constraint c) = omega arith
one_hypothesis line (Hypothesis h) = omega arith
one_hypothesis line (Search s) = omega arith
one_hypothesis line (Phase p) = omega arith
one_hypothesis line (Wish w) = omega arith

one_phase : (line : ℕ) (item : Item) → length (phase_of line item) ≤ 1
one_phase line (Include i) = omega arith
one_phase line (Sync s) = omega arith
one_phase line (Metric m) = omega arith
one_phase line (Constraint c) = omega arith
one_phase line (Hypothesis h) = omega arith
one_phase line (Search s) = omega arith
one_phase line (Phase p) = omega arith
one_phase line (Wish w) = omega arith

-- there are no more of a kind than items
kind_few : {A : Type 0} (f : Entry → List A) → ((e : Entry) → length (f e) ≤ 1) → (es : List Entry) → length (flat_map f es) ≤ length es
kind_few f one [] = omega arith
kind_few f one (e ∷ es) = omega (arith, kind_few f one es, one e, length-append (f e) (flat_map f es))

-- ---- how many wishes, of which none is shipped

abbrev is_wish : Item → ℕ
is_wish (Wish w) = 1
is_wish item = 0

abbrev wishes_in : List Item → ℕ
wishes_in [] = 0
wishes_in (i ∷ items) = is_wish i + wishes_in items

abbrev wishes_at : List PlacedItem → ℕ
wishes_at [] = 0
wishes_at (s ∷ places) = is_wish s.item + wishes_at places

wishes_at-append : (ps qs : List PlacedItem) → wishes_at (ps ++ qs) ≡ wishes_at ps + wishes_at qs
wishes_at-append [] qs = omega arith
wishes_at-append (p ∷ ps) qs = omega (arith, wishes_at-append ps qs)

one_if_found : (w : TheWish) (number : Option ℕ) (focus : Option Focus) → length (wish_with w number focus) ≤ 1
one_if_found w None focus = omega arith
one_if_found w (Some k) None = omega arith
one_if_found w (Some k) (Some focus) = omega arith

one_wish : (all : List Entry) (item : Item) (focus : Option Focus) → length (wish_of all item focus) ≤ is_wish item
one_wish all (Include i) focus = omega arith
one_wish all (Sync s) focus = omega arith
one_wish all (Metric m) focus = omega arith
one_wish all (Constraint c) focus = omega arith
one_wish all (Hypothesis h) focus = omega arith
one_wish all (Search s) focus = omega arith
one_wish all (Phase p) focus = omega arith
one_wish all (Wish w) focus = one_if_found w (metric_number all w.metric) focus

wishes_few : (all es : List Entry) → length (flat_map (λ e. wish_of all e.item e.focus) es) ≤ wishes_at (map placed_of es)
wishes_few all [] = omega arith
wishes_few all (e ∷ es) = omega (arith, wishes_few all es, one_wish all e.item e.focus, length-append (wish_of all e.item e.focus) (flat_map (λ e. wish_of all e.item e.focus) es))

taken_wishes : (line : ℕ) (metrics : Bool) (shipped : List Item) → wishes_at (map (placed_item line) (filter (is_taken metrics) shipped)) ≤ wishes_in shipped
taken_wishes line metrics [] = omega arith
taken_wishes line metrics (i ∷ shipped) = go (is_taken metrics i) (filter (is_taken metrics) shipped) (taken_wishes line metrics shipped)
  where
    go : (b : Bool) (rest : List Item) → wishes_at (map (placed_item line) rest) ≤ wishes_in shipped → wishes_at (map (placed_item line) (cond b (i ∷ rest) rest)) ≤ is_wish i + wishes_in shipped
    go true rest few = omega (arith, few)
    go false rest few = omega (arith, few)

item_wishes : (shipped : List Item) → wishes_in shipped ≡ 0 → (item : Item) → wishes_at (with_included shipped item) ≤ 1
item_wishes shipped none (Include i) = omega (arith, none, taken_wishes i.line i.metrics shipped)
item_wishes shipped none (Sync s) = omega arith
item_wishes shipped none (Metric m) = omega arith
item_wishes shipped none (Constraint c) = omega arith
item_wishes shipped none (Hypothesis h) = omega arith
item_wishes shipped none (Search s) = omega arith
item_wishes shipped none (Phase p) = omega arith
item_wishes shipped none (Wish w) = omega arith

placed_wishes : (shipped : List Item) → wishes_in shipped ≡ 0 → (items : List Item) → wishes_at (placed_items shipped items) ≤ length items
placed_wishes shipped none [] = omega arith
placed_wishes shipped none (i ∷ items) =
    omega (arith, item_wishes shipped none i, placed_wishes shipped none items, wishes_at-append (with_included shipped i) (placed_items shipped items))

none_shipped : wishes_in shipped_conf.items ≡ 0
unfolding shipped_conf
none_shipped = refl

-- ---- what a session asks of how many there are

pub record IsNumbered (c : Checked) : Type 0 where
  pub wishes : length c.wishes < 2 ^ 29
  pub metrics : length c.metrics < 2 ^ 32
  pub hypotheses : length c.hypotheses < 2 ^ 32
  pub phases : length c.phases < 2 ^ 32

pub numbered : (t : Resources) (items : List Item) (c : Checked) → IsAnswer t shipped_conf.items items (Ok c) → length items ≤ 4194304 → IsNumbered c
numbered t items c (es, entries, none, is) few =
    let places = entries.places_are in
    let entries_few : length es < 2 ^ 32 =
    omega (arith, length-map es placed_of, ap (λ (ps : List PlacedItem). length ps) places, placed_counted shipped_conf.items items shipped_few few) in
    subst IsNumbered (sym is) (record {
      wishes = omega (arith, few, wishes_few es es, ap wishes_at places, placed_wishes shipped_conf.items none_shipped items);
      metrics = omega (arith, entries_few, kind_few (λ e. metric_of e.line e.item) (λ e. one_metric e.line e.item) es);
      hypotheses = omega (arith, entries_few, kind_few (λ e. hypothesis_of e.line e.item) (λ e. one_hypothesis e.line e.item) es);
      phases = omega (arith, entries_few, kind_few (λ e. phase_of e.line e.item) (λ e. one_phase e.line e.item) es);
    })

-- ---- the window of the search

wide : (n : ℕ) → (n == 0) ≡ false → 1 ≤ n
wide zero e = cc
wide (suc n) e = omega arith

not_wrong : (repeated wrong : Bool) (rest : Option CheckKind) → cond repeated (Some TwiceNamed) (cond wrong (Some WrongKind) rest) ≡ None → wrong ≡ false
not_wrong true wrong rest e = cc
not_wrong false true rest e = cc
not_wrong false false rest e = cc

abbrev or_later : Option CheckKind → ℕ → Option CheckFault → Option CheckFault
or_later kind line rest = elim kind [ None ↦ rest | Some kind ↦ Some (record { line = line; kind = kind }) ]

no_fault_first : (kind : Option CheckKind) (line : ℕ) (rest : Option CheckFault) → or_later kind line rest ≡ None → (kind ≡ None) × (rest ≡ None)
no_fault_first None line rest e = (cc, e)
no_fault_first (Some kind) line rest e = cc

module _ (all : List Entry) where
  behind : (before : List Entry) (found : Option SearchDecl) (line : ℕ) (item : Item) (focus : Option Focus) → HasWindow found → fault_of all before (entry line item focus) ≡ None → HasWindow (search_behind found line item)
  behind before found line (Include i) focus h none = h
  behind before found line (Sync s) focus h none = h
  behind before found line (Metric m) focus h none = h
  behind before found line (Constraint c) focus h none = h
  behind before found line (Hypothesis x) focus h none = h
  behind before found line (Search s) focus h none =
      let rest : Option CheckKind = cond (is_cyclic (parents_of all) (length before)) (Some CyclicParent) None in
      wide s.window (not_wrong (list_any (λ e. is_search e.item) before) (s.window == 0) rest none)
  behind before found line (Phase p) focus h none = h
  behind before found line (Wish w) focus h none = h

  windows : (before es : List Entry) (found : Option SearchDecl) → HasWindow found → fault_from all before es ≡ None → HasWindow (search_in found es)
  windows before [] found h none = h
  windows before (e ∷ es) found h none =
      let both = no_fault_first (fault_of all before e) e.line (fault_from all (before ++ (e ∷ [])) es) none in
      windows (before ++ (e ∷ [])) es (search_behind found e.line e.item) (behind before found e.line e.item e.focus h both.0) both.1

pub windowed : (t : Resources) (shipped items : List Item) (c : Checked) → IsAnswer t shipped items (Ok c) → HasWindow c.search
windowed t shipped items c (es, entries, none, is) = subst (λ (x : Checked). HasWindow x.search) (sym is) (windows es [] es None tt none)
