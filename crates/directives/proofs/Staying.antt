-- Of what the check makes of a configuration, directives change the hypotheses alone.
use Rattle.std.proofs.Common.{◌≡◌, ℕ, Bool, true, false, cond, Option, None, List, [], ◌∷◌, ◌++◌, map, flat_map, Result, Ok, refl, sym, ap, ◌∙◌}
use Rattle.std.specs.List.{filter}
use Rattle.std.proofs.lemmas.Grind.{flat_map-append}
use Rattle.pn_types.specs.declared.focus.Focus.{Focus}
use Rattle.mdl_ast.specs.declared.items.Item.{Item}
use Rattle.mdl_ast.specs.declared.items.Item.TheVariants.{Include, Sync, Metric, Constraint, Hypothesis, Search, Phase, Wish}
use Rattle.mdl_ast.specs.declared.items.Hypothesis.{Hypothesis as TheHypothesis}
use Rattle.mdl_ast.specs.declared.items.Include.{Include as TheInclude}
use Rattle.mdl_ast.specs.declared.items.SearchDecl.{SearchDecl}
use Rattle.mdl_ast.specs.declared.items.PhaseDecl.{PhaseDecl}
use Rattle.mdl_ast.specs.declared.metric.Metric.{Metric as TheMetric}
use Rattle.mdl_ast.specs.declared.metric.Constraint.{Constraint as TheConstraint}
use Rattle.resource_tree.specs.Resources.{Resources}
use Rattle.mdl_check.specs.declared.checked.Checked.{Checked}
use Rattle.mdl_check.specs.declared.checked.CheckedWish.{CheckedWish}
use Rattle.mdl_check.specs.declared.fault.CheckFault.{CheckFault}
use Rattle.mdl_check.specs.Placed.{PlacedItem, Entry, placed_item, entry, is_taken, placed_items}
use Rattle.mdl_check.specs.Checking.{AreEntries, placed_of, metric_of, constraint_of, hypothesis_of, phase_of, search_behind, search_in, wish_with, wish_of, checked_of, IsAnswer, OneAnswer}
use Rattle.directives.specs.Acts.{at_line, expansion, expanded}
use Rattle.directives.specs.Laws.{hypothesis_in, SameHypotheses, OthersStay}
use Rattle.directives.proofs.Faultless.{is_other, others, metric_of_others}
use Rattle.directives.proofs.Spread.{by_item, placed_by_item}
use Rattle.directives.proofs.Accepting.{Made, made_after}

-- ---- the other items

module _ {B : Type 0} (g : Entry → List B) (incl : (l : ℕ) (x : TheInclude) (f : Option Focus) → g (entry l (Include x) f) ≡ []) (hyp : (l : ℕ) (x : TheHypothesis) (f : Option Focus) → g (entry l (Hypothesis x) f) ≡ []) where
  shows_none : (l : ℕ) (item : Item) (f : Option Focus) → is_other item ≡ false → g (entry l item f) ≡ []
  shows_none l (Include x) f e = incl l x f
  shows_none l (Sync x) f e = absurd cc
  shows_none l (Metric x) f e = absurd cc
  shows_none l (Constraint x) f e = absurd cc
  shows_none l (Hypothesis x) f e = hyp l x f
  shows_none l (Search x) f e = absurd cc
  shows_none l (Phase x) f e = absurd cc
  shows_none l (Wish x) f e = absurd cc

  shown_by_others : (es : List Entry) → flat_map g es ≡ flat_map g (others es)
  shown_by_others [] = refl
  shown_by_others (e ∷ es) = by (is_other e.item) refl (shown_by_others es)
    where
      by : (b : Bool) → is_other e.item ≡ b → flat_map g es ≡ flat_map g (others es) → g e ++ flat_map g es ≡ flat_map g (cond b (e ∷ others es) (others es))
      by true o k = ap (λ (l : List B). g e ++ l) k
      by false o k = ap (λ (l : List B). l ++ flat_map g es) (shows_none e.line e.item e.focus o) ∙ k

  alike : (all es : List Entry) → others all ≡ others es → flat_map g all ≡ flat_map g es
  alike all es o = shown_by_others all ∙ ap (flat_map g) o ∙ sym (shown_by_others es)

no_search : (before : Option SearchDecl) (line : ℕ) (item : Item) → is_other item ≡ false → search_behind before line item ≡ before
no_search before line (Include x) e = refl
no_search before line (Sync x) e = refl
no_search before line (Metric x) e = refl
no_search before line (Constraint x) e = refl
no_search before line (Hypothesis x) e = refl
no_search before line (Search x) e = absurd cc
no_search before line (Phase x) e = refl
no_search before line (Wish x) e = refl

search_of_others : (before : Option SearchDecl) (es : List Entry) → search_in before es ≡ search_in before (others es)
search_of_others before [] = refl
search_of_others before (e ∷ es) = by (is_other e.item) refl (search_of_others (search_behind before e.line e.item) es) (search_of_others before es)
  where
    by : (b : Bool) → is_other e.item ≡ b → search_in (search_behind before e.line e.item) es ≡ search_in (search_behind before e.line e.item) (others es) → search_in before es ≡ search_in before (others es) →
        search_in (search_behind before e.line e.item) es ≡ search_in before (cond b (e ∷ others es) (others es))
    by true o h k = h
    by false o h k = ap (λ (s : Option SearchDecl). search_in s es) (no_search before e.line e.item o) ∙ k

wish_alike : (all : List Entry) (item : Item) (focus : Option Focus) → wish_of all item focus ≡ wish_of (others all) item focus
wish_alike all (Include x) focus = refl
wish_alike all (Sync x) focus = refl
wish_alike all (Metric x) focus = refl
wish_alike all (Constraint x) focus = refl
wish_alike all (Hypothesis x) focus = refl
wish_alike all (Search x) focus = refl
wish_alike all (Phase x) focus = refl
wish_alike all (Wish w) focus = ap (λ (o : Option ℕ). wish_with w o focus) (metric_of_others all w.metric)

abbrev wishes : List Entry → List Entry → List CheckedWish
wishes all es = flat_map (λ e. wish_of all e.item e.focus) es

wishes_of_others : (all : List Entry) → wishes all all ≡ wishes (others all) (others all)
wishes_of_others all =
    shown_by_others (λ e. wish_of all e.item e.focus) (λ l x f. refl) (λ l x f. refl) all
    ∙ ap (λ (f : Entry → List CheckedWish). flat_map f (others all)) (λ i e. wish_alike all e.item e.focus i)

-- ---- the hypotheses, with their lines

abbrev placed_hypothesis : PlacedItem → List TheHypothesis
placed_hypothesis s = hypothesis_of s.line s.item

others_none : (line : ℕ) (xs : List Item) → flat_map placed_hypothesis (map (placed_item line) (filter (is_taken true) xs)) ≡ []
others_none line [] = refl
others_none line (Include x ∷ xs) = others_none line xs
others_none line (Sync x ∷ xs) = others_none line xs
others_none line (Metric x ∷ xs) = others_none line xs
others_none line (Constraint x ∷ xs) = others_none line xs
others_none line (Hypothesis x ∷ xs) = others_none line xs
others_none line (Search x ∷ xs) = others_none line xs
others_none line (Phase x ∷ xs) = others_none line xs
others_none line (Wish x ∷ xs) = others_none line xs

taken_lined : (line : ℕ) (xs : List Item) → flat_map placed_hypothesis (map (placed_item line) (filter (is_taken false) xs)) ≡ flat_map hypothesis_in (flat_map (at_line line) xs)
taken_lined line [] = refl
taken_lined line (Include x ∷ xs) = taken_lined line xs
taken_lined line (Sync x ∷ xs) = taken_lined line xs
taken_lined line (Metric x ∷ xs) = taken_lined line xs
taken_lined line (Constraint x ∷ xs) = taken_lined line xs
taken_lined line (Hypothesis x ∷ xs) = ap (λ (l : List TheHypothesis). record x { line = line } ∷ l) (taken_lined line xs)
taken_lined line (Search x ∷ xs) = taken_lined line xs
taken_lined line (Phase x ∷ xs) = taken_lined line xs
taken_lined line (Wish x ∷ xs) = taken_lined line xs

lined_include : (shipped : List Item) (i : TheInclude) (metrics : Bool) →
    flat_map placed_hypothesis (map (placed_item i.line) (filter (is_taken metrics) shipped)) ≡ flat_map hypothesis_in (cond metrics (Include i ∷ []) (flat_map (at_line i.line) shipped))
lined_include shipped i true = others_none i.line shipped
lined_include shipped i false = taken_lined i.line shipped

lined_item : (shipped : List Item) (item : Item) → by_item placed_hypothesis shipped item ≡ flat_map hypothesis_in (expansion shipped item)
lined_item shipped (Include i) = lined_include shipped i i.metrics
lined_item shipped (Sync x) = refl
lined_item shipped (Metric x) = refl
lined_item shipped (Constraint x) = refl
lined_item shipped (Hypothesis x) = refl
lined_item shipped (Search x) = refl
lined_item shipped (Phase x) = refl
lined_item shipped (Wish x) = refl

lined_items : (shipped items : List Item) → flat_map (by_item placed_hypothesis shipped) items ≡ flat_map hypothesis_in (expanded shipped items)
lined_items shipped [] = refl
lined_items shipped (i ∷ items) =
    ap (λ (l : List TheHypothesis). l ++ flat_map (by_item placed_hypothesis shipped) items) (lined_item shipped i)
    ∙ ap (λ (l : List TheHypothesis). flat_map hypothesis_in (expansion shipped i) ++ l) (lined_items shipped items)
    ∙ sym (flat_map-append hypothesis_in (expansion shipped i) (expanded shipped items))

hyps_lined : (es : List Entry) → flat_map (λ e. hypothesis_of e.line e.item) es ≡ flat_map placed_hypothesis (map placed_of es)
hyps_lined [] = refl
hyps_lined (e ∷ es) = ap (λ (l : List TheHypothesis). hypothesis_of e.line e.item ++ l) (hyps_lined es)

hypotheses_are : (t : Resources) (shipped items : List Item) (es : List Entry) → AreEntries t (placed_items shipped items) es → flat_map (λ e. hypothesis_of e.line e.item) es ≡ flat_map hypothesis_in (expanded shipped items)
hypotheses_are t shipped items es a = hyps_lined es ∙ ap (flat_map placed_hypothesis) a.places_are ∙ placed_by_item placed_hypothesis shipped items ∙ lined_items shipped items

pub same_hypotheses : SameHypotheses
same_hypotheses t shipped items checked a = ap (λ (c : Checked). c.hypotheses) a.3 ∙ hypotheses_are t shipped items a.0 a.1

-- ---- what is checked

abbrev parts : List TheMetric → List TheConstraint → List TheHypothesis → Option SearchDecl → List PhaseDecl → List CheckedWish → Checked
parts metrics constraints hypotheses search_one phases wishes = record { metrics = metrics; constraints = constraints; hypotheses = hypotheses; search = search_one; phases = phases; wishes = wishes }

same_parts : (a b : List TheMetric) (c d : List TheConstraint) (e f : List TheHypothesis) (g h : Option SearchDecl) (i j : List PhaseDecl) (k l : List CheckedWish) → a ≡ b → c ≡ d → e ≡ f → g ≡ h → i ≡ j → k ≡ l →
    parts a c e g i k ≡ parts b d f h j l
same_parts a b c d e f g h i j k l p q r s t u = λ x. parts (p x) (q x) (r x) (s x) (t x) (u x)

checked_alike : (t : Resources) (shipped new : List Item) (es : List Entry) (m : Made t shipped new (others es)) → checked_of m.entries ≡ record (checked_of es) { hypotheses = flat_map hypothesis_in new }
checked_alike t shipped new es m =
    let all : List Entry = m.entries in
    same_parts _ _ _ _ _ _ _ _ _ _ _ _
    (alike (λ e. metric_of e.line e.item) (λ l x f. refl) (λ l x f. refl) all es m.among)
    (alike (λ e. constraint_of e.line e.item) (λ l x f. refl) (λ l x f. refl) all es m.among)
    (hypotheses_are t shipped new all m.places ∙ ap (flat_map hypothesis_in) m.plain)
    (search_of_others None all ∙ ap (search_in None) m.among ∙ sym (search_of_others None es))
    (alike (λ e. phase_of e.line e.item) (λ l x f. refl) (λ l x f. refl) all es m.among)
    (wishes_of_others all ∙ ap (λ (o : List Entry). wishes o o) m.among ∙ sym (wishes_of_others es))

abbrev answer : Checked → Result Checked CheckFault
answer c = Ok c

pub others_stay : OneAnswer → OthersStay
others_stay one t shipped items new ds before after a e b =
    let m = made_after t shipped items ds new a.0 a.1 a.2 e in
    let whole : IsAnswer t shipped new (Ok (checked_of m.entries)) = (m.entries, m.places, m.faultless, refl) in
    let same : answer after ≡ answer (checked_of m.entries) = one t shipped new (Ok after) (Ok (checked_of m.entries)) b whole in
    let inside : after ≡ checked_of m.entries = cc in
    inside ∙ checked_alike t shipped new a.0 m ∙ ap (λ (c : Checked). record c { hypotheses = flat_map hypothesis_in new }) (sym a.3)
