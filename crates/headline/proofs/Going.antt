-- Each node has a hypothesis, and differs from its parent along the axes of that alone.
use Rattle.std.proofs.Common.{◌≡◌, ◌⊎◌, inl, inr, ℕ, suc, ◌+◌, Bool, true, false, cond, Option, Some, None, List, [], ◌∷◌, ◌++◌, map, refl, sym, ap, ◌∙◌, subst, arith}
use Rattle.std.specs.Prelude.{slice_get}
use Rattle.mdl_ast.specs.declared.items.Hypothesis.{Hypothesis}
use Rattle.pn_types.specs.declared.focus.Axis.{Axis}
use Rattle.pn_types.specs.declared.focus.Axis.TheVariants.{Code, Machine, SyncObject}
use Rattle.pn_types.specs.declared.focus.Focus.{Focus}
use Rattle.resource_tree.specs.Foci as foci
use Rattle.resource_tree.specs.Resources.{Resources}
use Rattle.w3_search.specs.Refining.{axes_named, children, children_of, finer, finer_on, names_axis, hypothesis_numbers_from, refinements, roots}
use Rattle.w3_search.specs.History.{In, IsChild, IsHistory, IsRoot, lineage_of}
use Rattle.w3_search.specs.Steps.{SearchData}
use Rattle.w3_search.specs.declared.node.Node.{Node}
use Rattle.headline.specs.Followed.{AreSameOn}

-- ---- lists

parts : {X : Type 0} (x : X) (xs ys : List X) → In x (xs ++ ys) → In x xs ⊎ In x ys
parts x [] ys there = inr there
parts x (y ∷ xs) ys (inl e) = inl (inl e)
parts x (y ∷ xs) ys (inr there) = by (parts x xs ys there)
  where
    by : In x xs ⊎ In x ys → In x (y ∷ xs) ⊎ In x ys
    by (inl here) = inl (inr here)
    by (inr here) = inr here

from : {X Y : Type 0} (f : X → Y) (y : Y) (xs : List X) → In y (map f xs) → (x : X) × In x xs × (y ≡ f x)
from f y [] there = absurd there
from f y (x ∷ xs) (inl e) = (x, inl refl, e)
from f y (x ∷ xs) (inr there) = let k = from f y xs there in (k.0, inr k.1, k.2)

-- ---- foci just below

-- another axis has the same part
abbrev AreElsewhere : Axis → Focus → Focus → Type 0
AreElsewhere Code f g = (f.hart ≡ g.hart) × (f.object ≡ g.object)
AreElsewhere Machine f g = (f.code ≡ g.code) × (f.object ≡ g.object)
AreElsewhere SyncObject f g = (f.code ≡ g.code) × (f.hart ≡ g.hart)

elsewhere : (t : Resources) (focus below : Focus) (axis : Axis) → In below (foci.children t focus axis) → AreElsewhere axis below focus
elsewhere t focus below Code there = let k = from (foci.with_code focus) below (foci.code_children t.code focus.code) there in (ap (λ (f : Focus). f.hart) k.2, ap (λ (f : Focus). f.object) k.2)
elsewhere t focus below Machine there = let k = from (foci.with_hart focus) below _ there in (ap (λ (f : Focus). f.code) k.2, ap (λ (f : Focus). f.object) k.2)
elsewhere t focus below SyncObject there = let k = from (foci.with_object focus) below _ there in (ap (λ (f : Focus). f.code) k.2, ap (λ (f : Focus). f.hart) k.2)

wanted_on : (t : Resources) (focus below : Focus) (wanted : Bool) (axis : Axis) → In below (finer_on t focus wanted axis) → (wanted ≡ true) × AreElsewhere axis below focus
wanted_on t focus below true axis there = (refl, elsewhere t focus below axis there)
wanted_on t focus below false axis there = absurd there

-- where an axis isn't wanted, no focus just below differs there
module _ (t : Resources) (focus below : Focus) (names : List (List ℕ)) where
  abbrev wanted : Axis → Bool
  wanted axis = names_axis names axis

  split : In below (finer t focus (axes_named names)) → In below (finer_on t focus (wanted Code) Code) ⊎ (In below (finer_on t focus (wanted Machine) Machine) ⊎ In below (finer_on t focus (wanted SyncObject) SyncObject))
  split there = by (parts below (finer_on t focus (wanted Code) Code) _ there)
    where
      by : In below (finer_on t focus (wanted Code) Code) ⊎ In below (finer_on t focus (wanted Machine) Machine ++ finer_on t focus (wanted SyncObject) SyncObject)
          → In below (finer_on t focus (wanted Code) Code) ⊎ (In below (finer_on t focus (wanted Machine) Machine) ⊎ In below (finer_on t focus (wanted SyncObject) SyncObject))
      by (inl here) = inl here
      by (inr there) = inr (parts below (finer_on t focus (wanted Machine) Machine) (finer_on t focus (wanted SyncObject) SyncObject) there)

  same_on : (axis : Axis) → wanted axis ≡ false → In below (finer t focus (axes_named names)) → AreSameOn axis below focus
  same_on axis off there = by axis off (split there)
    where
      by : (axis : Axis) → wanted axis ≡ false → In below (finer_on t focus (wanted Code) Code) ⊎ (In below (finer_on t focus (wanted Machine) Machine) ⊎ In below (finer_on t focus (wanted SyncObject) SyncObject)) → AreSameOn axis below focus
      by Code off (inl here) = let k = wanted_on t focus below (wanted Code) Code here in let on = k.0 in absurd (cc)
      by Code off (inr (inl here)) = (wanted_on t focus below (wanted Machine) Machine here).1.0
      by Code off (inr (inr here)) = (wanted_on t focus below (wanted SyncObject) SyncObject here).1.0
      by Machine off (inl here) = (wanted_on t focus below (wanted Code) Code here).1.0
      by Machine off (inr (inl here)) = let k = wanted_on t focus below (wanted Machine) Machine here in let on = k.0 in absurd (cc)
      by Machine off (inr (inr here)) = (wanted_on t focus below (wanted SyncObject) SyncObject here).1.1
      by SyncObject off (inl here) = (wanted_on t focus below (wanted Code) Code here).1.1
      by SyncObject off (inr (inl here)) = (wanted_on t focus below (wanted Machine) Machine here).1.1
      by SyncObject off (inr (inr here)) = let k = wanted_on t focus below (wanted SyncObject) SyncObject here in let on = k.0 in absurd (cc)

-- ---- children

same_here : (axis : Axis) (f g : Focus) → f ≡ g → AreSameOn axis f g
same_here Code f g e = ap (λ (x : Focus). x.code) e
same_here Machine f g e = ap (λ (x : Focus). x.hart) e
same_here SyncObject f g e = ap (λ (x : Focus). x.object) e

abbrev IsOne : ℕ → Focus → List (ℕ × Focus) → Type 0
IsOne k focus xs = In {X = ℕ × Focus} (k, focus) xs

module _ (hs : List Hypothesis) (t : Resources) (axis : Axis) where
  -- a child of hypothesis number p at a focus, whose own hypothesis isn't refined along the axis
  child_by : (p k : ℕ) (focus below : Focus) (own h : Hypothesis) → IsOne k below (children_of hs t p focus (Some own)) → (k ≡ p → own ≡ h) → names_axis h.axes axis ≡ false → AreSameOn axis below focus
  child_by p k focus below own h there same off = by (parts (k, below) under lower there)
    where
      under : List (ℕ × Focus)
      under = map (λ j. (j, focus)) (refinements hs own.name)

      lower : List (ℕ × Focus)
      lower = map (λ f. (p, f)) (finer t focus (axes_named own.axes))

      by : IsOne k below under ⊎ IsOne k below lower → AreSameOn axis below focus
      by (inl one) = let e = from {X = ℕ} {Y = ℕ × Focus} (λ j. (j, focus)) (k, below) (refinements hs own.name) one in same_here axis below focus (ap (λ (x : ℕ × Focus). x.1) e.2)
      by (inr one) =
          let e = from {X = Focus} {Y = ℕ × Focus} (λ f. (p, f)) (k, below) (finer t focus (axes_named own.axes)) one in
          let at : below ≡ e.0 = ap (λ (x : ℕ × Focus). x.1) e.2 in
          let own_is = same (ap (λ (x : ℕ × Focus). x.0) e.2) in
          same_on t focus below own.axes axis (ap (λ (y : Hypothesis). names_axis y.axes axis) own_is ∙ off)
          (subst (λ (f : Focus). In f (finer t focus (axes_named own.axes))) (sym at) e.1)

  child_at : (p k : ℕ) (focus below : Focus) (o : Option Hypothesis) (h : Hypothesis) → slice_get hs p ≡ o → slice_get hs k ≡ Some h → IsOne k below (children_of hs t p focus o) → names_axis h.axes axis ≡ false → AreSameOn axis below focus
  child_at p k focus below None h e is there off = absurd there
  child_at p k focus below (Some own) h e is there off =
      child_by p k focus below own h there (λ same. let twice : ◌≡◌ {A = Option Hypothesis} (Some own) (Some h) = sym e ∙ (ap (λ n. slice_get hs n) (sym same) ∙ is) in cc) off

  pub child_same : (p k : ℕ) (focus below : Focus) (h : Hypothesis) → slice_get hs k ≡ Some h → IsOne k below (children hs t p focus) → names_axis h.axes axis ≡ false → AreSameOn axis below focus
  unfolding children
  child_same p k focus below h is there off = child_at p k focus below (slice_get hs p) h refl is there off

-- a node of a search, whose hypothesis isn't refined along the axis, and its parent
pub node_same : (v : SearchData) → IsHistory v → (i number : ℕ) (n parent : Node) → slice_get v.nodes i ≡ Some n → n.parent ≡ Some number → slice_get v.nodes number ≡ Some parent
    → (h : Hypothesis) → slice_get v.rules.hypotheses n.hypothesis ≡ Some h → (axis : Axis) → names_axis h.axes axis ≡ false → AreSameOn axis n.focus parent.focus
node_same v history i number n parent here named stands h is axis off = by (history.origin i n here)
  where
    by : IsRoot v.rules (lineage_of n) ⊎ IsChild v.rules v.nodes i (lineage_of n) → AreSameOn axis n.focus parent.focus
    by (inl root) = let none = root.0 in absurd (cc)
    by (inr c) =
        let number_is : c.number ≡ number = (let a = c.named in cc) in
        let parent_is : c.parent ≡ parent = (let a = c.stands in let b = ap (λ k. slice_get v.nodes k) number_is in cc) in
        subst (λ (p : Node). AreSameOn axis n.focus p.focus) parent_is
        (child_same v.rules.hypotheses v.rules.tree axis c.parent.hypothesis n.hypothesis c.parent.focus n.focus h is c.child off)

-- ---- the hypothesis of a node

-- number j, where numbers begin at a, is that of one of these
record Stands (hs : List Hypothesis) (a j : ℕ) : Type 0 where
  k : ℕ
  h : Hypothesis
  number : j ≡ a + k
  there : slice_get hs k ≡ Some h

behind : (x : Hypothesis) (hs : List Hypothesis) (a j : ℕ) → Stands hs (a + 1) j → Stands (x ∷ hs) a j
behind x hs a j s = let number = s.number in record { k = suc s.k; h = s.h; number = omega arith; there = s.there }

number_there : (passes : Hypothesis → Bool) (hs : List Hypothesis) (a j : ℕ) → In j (hypothesis_numbers_from passes a hs) → Stands hs a j
number_there passes [] a j there = absurd there
number_there passes (x ∷ hs) a j there = by (passes x) (λ rest. behind x hs a j (number_there passes hs (a + 1) j rest)) there
  where
    by : (b : Bool) → (In j (hypothesis_numbers_from passes (a + 1) hs) → Stands (x ∷ hs) a j) → In j (cond b (a ∷ hypothesis_numbers_from passes (a + 1) hs) (hypothesis_numbers_from passes (a + 1) hs)) → Stands (x ∷ hs) a j
    by true later (inl e) = record { k = 0; h = x; number = omega arith; there = refl }
    by true later (inr rest) = later rest
    by false later rest = later rest

abbrev pub HasOne : List Hypothesis → ℕ → Type 0
HasOne hs j = (h : Hypothesis) × (slice_get hs j ≡ Some h)

from_first : (hs : List Hypothesis) (j : ℕ) → Stands hs 0 j → HasOne hs j
from_first hs j s =
    let number = s.number in
    let same : j ≡ s.k = omega arith in
    (s.h, subst (λ n. slice_get hs n ≡ Some s.h) (sym same) s.there)

module _ (hs : List Hypothesis) (t : Resources) where
  root_there : (j : ℕ) → In j (roots hs) → HasOne hs j
  unfolding roots
  root_there j there = from_first hs j (number_there _ hs 0 j there)

  under_there : (name : List ℕ) (j : ℕ) → In j (refinements hs name) → HasOne hs j
  unfolding refinements
  under_there name j there = from_first hs j (number_there _ hs 0 j there)

  child_of_there : (p j : ℕ) (focus below : Focus) (o : Option Hypothesis) → slice_get hs p ≡ o → IsOne j below (children_of hs t p focus o) → HasOne hs j
  child_of_there p j focus below None is there = absurd there
  child_of_there p j focus below (Some own) is there = by (parts (j, below) under lower there)
    where
      under : List (ℕ × Focus)
      under = map (λ k. (k, focus)) (refinements hs own.name)

      lower : List (ℕ × Focus)
      lower = map (λ f. (p, f)) (finer t focus (axes_named own.axes))

      by : IsOne j below under ⊎ IsOne j below lower → HasOne hs j
      by (inl one) =
          let e = from {X = ℕ} {Y = ℕ × Focus} (λ k. (k, focus)) (j, below) (refinements hs own.name) one in
          subst (HasOne hs) (sym (ap (λ (x : ℕ × Focus). x.0) e.2)) (under_there own.name e.0 e.1)
      by (inr one) =
          let e = from {X = Focus} {Y = ℕ × Focus} (λ f. (p, f)) (j, below) (finer t focus (axes_named own.axes)) one in
          subst (HasOne hs) (sym (ap (λ (x : ℕ × Focus). x.0) e.2)) (own, is)

  child_there : (p j : ℕ) (focus below : Focus) → IsOne j below (children hs t p focus) → HasOne hs j
  unfolding children
  child_there p j focus below there = child_of_there p j focus below (slice_get hs p) refl there

-- each node of a search is of a hypothesis that stands
pub hypothesis_there : (v : SearchData) → IsHistory v → (i : ℕ) (n : Node) → slice_get v.nodes i ≡ Some n → HasOne v.rules.hypotheses n.hypothesis
hypothesis_there v history i n here = by (history.origin i n here)
  where
    by : IsRoot v.rules (lineage_of n) ⊎ IsChild v.rules v.nodes i (lineage_of n) → HasOne v.rules.hypotheses n.hypothesis
    by (inl root) = root_there v.rules.hypotheses v.rules.tree n.hypothesis root.1
    by (inr c) = child_there v.rules.hypotheses v.rules.tree c.parent.hypothesis n.hypothesis c.parent.focus n.focus c.child
