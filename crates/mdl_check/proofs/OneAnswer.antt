-- What a check returns is unique.
use Rattle.std.proofs.Common.{◌≡◌, ℕ, Option, Some, Result, Ok, Err, List, [], ◌∷◌, map, refl, sym, ap, ◌∙◌, subst}
use Rattle.pn_types.specs.declared.focus.Focus.{Focus}
use Rattle.mdl_ast.specs.declared.items.Item.{Item}
use Rattle.mdl_ast.specs.declared.items.Item.TheVariants.{Include, Sync, Metric, Constraint, Hypothesis, Search, Phase, Wish}
use Rattle.resource_tree.specs.Foci.{OneSelection}
use Rattle.resource_tree.specs.Resources.{Resources}
use Rattle.mdl_check.specs.Placed.{PlacedItem, Entry, entry, placed_items}
use Rattle.mdl_check.specs.Checking.{HasFocus, HaveFoci, AreEntries, placed_of, first_fault, checked_of, OneAnswer}
use Rattle.mdl_check.specs.declared.checked.Checked.{Checked}
use Rattle.mdl_check.specs.declared.fault.CheckFault.{CheckFault}

abbrev refusal : CheckFault → Result Checked CheckFault
refusal fault = Err fault

inside : (p q : CheckFault) → Some p ≡ Some q → p ≡ q
inside p q e = cc

module _ (one : OneSelection) where
  same_focus : (t : Resources) (item : Item) (f g : Option Focus) → HasFocus t item f → HasFocus t item g → f ≡ g
  same_focus t (Include i) f g a b = a ∙ sym b
  same_focus t (Sync s) f g a b = a ∙ sym b
  same_focus t (Metric m) f g a b = a ∙ sym b
  same_focus t (Constraint c) f g a b = a ∙ sym b
  same_focus t (Hypothesis h) f g a b = a ∙ sym b
  same_focus t (Search s) f g a b = a ∙ sym b
  same_focus t (Phase p) f g a b = a ∙ sym b
  same_focus t (Wish w) f g a b = one t w.focus f g a b

  same_entry : (t : Resources) (d e : Entry) → placed_of d ≡ placed_of e → HasFocus t d.item d.focus → HasFocus t e.item e.focus → d ≡ e
  same_entry t d e same a b =
      let line : d.line ≡ e.line = ap (λ (s : PlacedItem). s.line) same in
      let item : d.item ≡ e.item = ap (λ (s : PlacedItem). s.item) same in
      let focus : d.focus ≡ e.focus = same_focus t e.item d.focus e.focus (subst (λ (i : Item). HasFocus t i d.focus) item a) b in
      ap (λ (n : ℕ). entry n d.item d.focus) line ∙ ap (λ (i : Item). entry e.line i d.focus) item ∙ ap (entry e.line e.item) focus

  same_entries : (t : Resources) (ds es : List Entry) → map placed_of ds ≡ map placed_of es → HaveFoci t ds → HaveFoci t es → ds ≡ es
  same_entries t [] [] same a b = refl
  same_entries t [] (e ∷ es) same a b = cc
  same_entries t (d ∷ ds) [] same a b = cc
  same_entries t (d ∷ ds) (e ∷ es) same a b =
      let first : placed_of d ≡ placed_of e = cc in
      let rest : map placed_of ds ≡ map placed_of es = cc in
      ap (λ (x : Entry). x ∷ ds) (same_entry t d e first a.0 b.0) ∙ ap (λ (l : List Entry). e ∷ l) (same_entries t ds es rest a.1 b.1)

  one_list : (t : Resources) (places : List PlacedItem) (ds es : List Entry) → AreEntries t places ds → AreEntries t places es → ds ≡ es
  one_list t places ds es a b = same_entries t ds es (a.places_are ∙ sym b.places_are) a.foci b.foci

  pub one_answer : OneAnswer
  one_answer t shipped items (Ok x) (Ok y) a b =
      let same = one_list t (placed_items shipped items) a.0 b.0 a.1 b.1 in
      ap (λ (c : Checked). Ok c) (a.3 ∙ ap checked_of same ∙ sym b.3)
  one_answer t shipped items (Ok x) (Err fault) a b =
      let same = one_list t (placed_items shipped items) a.0 b.0 a.1 b.1 in
      let e = sym a.2 ∙ ap first_fault same ∙ b.2 in
      absurd cc
  one_answer t shipped items (Err fault) (Ok y) a b =
      let same = one_list t (placed_items shipped items) a.0 b.0 a.1 b.1 in
      let e = sym b.2 ∙ ap first_fault (sym same) ∙ a.2 in
      absurd cc
  one_answer t shipped items (Err fault) (Err other) a b =
      let same = one_list t (placed_items shipped items) a.0 b.0 a.1 b.1 in
      ap (λ (f : CheckFault). refusal f) (inside fault other (sym a.2 ∙ ap first_fault same ∙ b.2))
