-- One more item with its focus.
use Rattle.std.proofs.Common.{◌≡◌, ℕ, ◌+◌, ◌<◌, ◌≤◌, suc, arith, flat_map, Option, List, [], ◌∷◌, ◌++◌, length, map, take, get_or, sym, ap, ◌∙◌, refl}
use Rattle.std.proofs.lemmas.List.{take_more, map-append, length-append}
use Rattle.mdl_ast.specs.declared.items.Item.{Item}
use Rattle.mdl_ast.specs.declared.items.Item.TheVariants.{Include, Sync, Metric, Constraint, Hypothesis, Search, Phase, Wish}
use Rattle.pn_types.specs.declared.focus.Focus.{Focus}
use Rattle.resource_tree.specs.Resources.{Resources}
use Rattle.mdl_check.specs.Placed.{PlacedItem, Entry, entry}
use Rattle.mdl_check.specs.Checking.{HasFocus, HaveFoci, AreEntries, placed_of, metric_of}

have_more : (t : Resources) (es : List Entry) (e : Entry) → HaveFoci t es → HasFocus t e.item e.focus → HaveFoci t (es ++ (e ∷ []))
have_more t [] e hs h = (h, tt)
have_more t (x ∷ es) e hs h = (hs.0, have_more t es e hs.1 h)

-- the next item
pub one_more : (t : Resources) (places : List PlacedItem) (i : ℕ) (s : PlacedItem) (focus : Option Focus) (es : List Entry) → i < length places → s ≡ get_or places i s
    → AreEntries t (take i places) es → HasFocus t s.item focus → AreEntries t (take (i + 1) places) (es ++ (entry s.line s.item focus ∷ []))
one_more t places i s focus es lt is so_far h = record {
  places_are =
      map-append placed_of es (entry s.line s.item focus ∷ [])
      ∙ ap (λ (ps : List PlacedItem). ps ++ (s ∷ [])) so_far.places_are
      ∙ ap (λ (p : PlacedItem). take i places ++ (p ∷ [])) is
      ∙ sym (take_more places i s lt);
  foci = have_more t es (entry s.line s.item focus) so_far.foci h;
}

-- ---- how many

pub entries_length : (t : Resources) (places : List PlacedItem) (es : List Entry) → AreEntries t places es → length es ≡ length places
entries_length t places es are = mapped es ∙ ap length are.places_are
  where
    mapped : (es : List Entry) → length es ≡ length (map placed_of es)
    mapped [] = refl
    mapped (e ∷ es) = ap suc (mapped es)

at_most_one : (line : ℕ) (item : Item) → length (metric_of line item) ≤ 1
at_most_one line (Include i) = omega arith
at_most_one line (Sync s) = omega arith
at_most_one line (Metric m) = omega arith
at_most_one line (Constraint c) = omega arith
at_most_one line (Hypothesis h) = omega arith
at_most_one line (Search s) = omega arith
at_most_one line (Phase p) = omega arith
at_most_one line (Wish w) = omega arith

-- there are no more metrics than items
pub few_metrics : (es : List Entry) → length (flat_map (λ e. metric_of e.line e.item) es) ≤ length es
few_metrics [] = omega arith
few_metrics (e ∷ es) = omega (arith, few_metrics es, at_most_one e.line e.item, length-append (metric_of e.line e.item) (flat_map (λ e. metric_of e.line e.item) es))
