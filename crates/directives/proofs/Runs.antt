-- What holds at the end of directives.
use Rattle.std.proofs.Common.{◌≡◌, ℕ, ◌==◌, ◌||◌, ◌&&◌, ◌⊎◌, inl, inr, not, cond, Bool, true, false, Option, Some, None, List, [], ◌∷◌, map, bytes_eq, Ok, eq-eqb, refl, sym, ap, ◌∙◌, subst, arith}
use Rattle.std.specs.List.{list_any, filter}
use Rattle.mdl_ast.specs.declared.items.Item.{Item}
use Rattle.mdl_ast.specs.declared.items.Item.TheVariants.{Include, Sync, Metric, Constraint, Hypothesis, Search, Phase, Wish}
use Rattle.mdl_ast.specs.declared.items.Hypothesis.{Hypothesis as TheHypothesis}
use Rattle.directives.specs.Hypotheses.{is_along, has_axis}
use Rattle.directives.specs.Acts.{pruned, with_hypothesis, without_axis, with_threshold, with_first, kind_of, items_after_act, go_on, directed, expanded, applied}
use Rattle.directives.specs.Laws.{is_axis_prune, threshold_behind, last_threshold, is_off, AxisIsGone, LastThresholdHolds}
use Rattle.directives.specs.declared.directive.Directive.{Directive}
use Rattle.directives.specs.declared.directive.DirectiveAct.{DirectiveAct}
use Rattle.directives.specs.declared.directive.DirectiveAct.TheVariants.{Prune, PruneAxis, Threshold, First}
use Rattle.directives.specs.declared.fault.DirectiveKind.{DirectiveKind}
use Rattle.directives.proofs.Stripped.{or_none, any_filter, stripped, lift, bare, any_stripped}
use Rattle.directives.proofs.Cycles.{same_name, and_both}
use Rattle.directives.proofs.Kept.{none_in, part_pruned, change_none, change_sets}
use Rattle.directives.proofs.Acting.{tally_first}

-- ---- a test that no hypothesis passes

pub none_pruned : (q : TheHypothesis → Bool) (name : List ℕ) (items : List Item) → list_any q (stripped items) ≡ false → list_any q (stripped (pruned name items)) ≡ false
none_pruned q name items h = none_in (stripped (pruned name items)) (stripped items) (part_pruned name items) q h

pub none_first : (q : TheHypothesis → Bool) (name : List ℕ) (items : List Item) → list_any q (stripped items) ≡ false → list_any q (stripped (with_first name items)) ≡ false
none_first q name items h = none_in (stripped (with_first name items)) (stripped items) (λ r. omega (arith, tally_first name items r)) q h

-- ---- axes

abbrev along_axis : List ℕ → List ℕ → TheHypothesis → Bool
along_axis name axis h = bytes_eq name h.name && list_any (bytes_eq axis) h.axes

along_lift : (name axis : List ℕ) (item : Item) → is_along name axis item ≡ lift (along_axis name axis) item
along_lift name axis (Include i) = refl
along_lift name axis (Sync s) = refl
along_lift name axis (Metric m) = refl
along_lift name axis (Constraint c) = refl
along_lift name axis (Hypothesis h) = refl
along_lift name axis (Search s) = refl
along_lift name axis (Phase p) = refl
along_lift name axis (Wish w) = refl

has_axis_is : (name axis : List ℕ) (items : List Item) → has_axis name axis items ≡ list_any (along_axis name axis) (stripped items)
has_axis_is name axis items = ap (λ (t : Item → Bool). list_any t items) (λ i item. along_lift name axis item i) ∙ sym (any_stripped (along_axis name axis) items)

abbrev AxisOff : List ℕ → List ℕ → List Item → Type 0
AxisOff name axis items = list_any (along_axis name axis) (stripped items) ≡ false

and_none : (a b : Bool) → b ≡ false → (a && b) ≡ false
and_none true b h = h
and_none false b h = refl

none_or : (a b : Bool) → (a && b) ≡ false → (a ≡ false) ⊎ (b ≡ false)
none_or true b h = inr h
none_or false b h = inl refl

fewer_axes : (name axis off : List ℕ) (h : TheHypothesis) → along_axis name axis (bare h) ≡ false → along_axis name axis (bare (without_axis off h)) ≡ false
fewer_axes name axis off h e = by (none_or (bytes_eq name h.name) (list_any (bytes_eq axis) h.axes) e)
  where
    by : (bytes_eq name h.name ≡ false) ⊎ (list_any (bytes_eq axis) h.axes ≡ false) → along_axis name axis (bare (without_axis off h)) ≡ false
    by (inl k) = ap (λ (b : Bool). b && list_any (bytes_eq axis) (without_axis off h).axes) k
    by (inr k) = and_none (bytes_eq name h.name) (list_any (bytes_eq axis) (without_axis off h).axes) (any_filter (bytes_eq axis) (λ other. not (bytes_eq off other)) h.axes k)

axis_step : (name axis : List ℕ) (act : DirectiveAct) (items : List Item) → Unit {0} → AxisOff name axis items → AxisOff name axis (items_after_act act items)
axis_step name axis (Prune other) items u h = none_pruned (along_axis name axis) other items h
axis_step name axis (PruneAxis other off) items u h = change_none other (without_axis off) (along_axis name axis) (λ x t k. fewer_axes name axis off x k) items h
axis_step name axis (Threshold other threshold) items u h = change_none other (with_threshold threshold) (along_axis name axis) (λ x t k. k) items h
axis_step name axis (First other) items u h = none_first (along_axis name axis) other items h

none_left : (axis : List ℕ) (axes : List (List ℕ)) → list_any (bytes_eq axis) (filter (λ other. not (bytes_eq axis other)) axes) ≡ false
none_left axis [] = refl
none_left axis (a ∷ axes) = by (bytes_eq axis a) refl (none_left axis axes)
  where
    by : (b : Bool) → bytes_eq axis a ≡ b → list_any (bytes_eq axis) (filter (λ other. not (bytes_eq axis other)) axes) ≡ false →
        list_any (bytes_eq axis) (cond (not b) (a ∷ filter (λ other. not (bytes_eq axis other)) axes) (filter (λ other. not (bytes_eq axis other)) axes)) ≡ false
    by true t k = k
    by false t k = or_none (bytes_eq axis a) (list_any (bytes_eq axis) (filter (λ other. not (bytes_eq axis other)) axes)) t k

axis_taken : (name axis : List ℕ) (items : List Item) → AxisOff name axis (map (with_hypothesis name (without_axis axis)) items)
axis_taken name axis items =
    change_sets name (without_axis axis) (along_axis name axis) (λ h t. and_none (bytes_eq name h.name) (list_any (bytes_eq axis) (filter (λ other. not (bytes_eq axis other)) h.axes)) (none_left axis h.axes))
    (λ h t. ap (λ (b : Bool). b && list_any (bytes_eq axis) h.axes) t) items

axis_acted : (name axis : List ℕ) (act : DirectiveAct) (items : List Item) → is_axis_prune name axis act ≡ true → AxisOff name axis (items_after_act act items)
axis_acted name axis (Prune other) items e = absurd cc
axis_acted name axis (PruneAxis other off) items e =
    let k = and_both (bytes_eq name other) (bytes_eq axis off) e in
    let n = same_name name other k.0 in
    let a = same_name axis off k.1 in
    ap (λ (m : List ℕ). list_any (along_axis name axis) (stripped (map (with_hypothesis m (without_axis off)) items))) (sym n)
    ∙ ap (λ (b : List ℕ). list_any (along_axis name axis) (stripped (map (with_hypothesis name (without_axis b)) items))) (sym a) ∙ axis_taken name axis items
axis_acted name axis (Threshold other threshold) items e = absurd cc
axis_acted name axis (First other) items e = absurd cc

-- where one of the directives makes it so, and all keep it
module _ (P : List Item → Type 0) (t : DirectiveAct → Bool) (makes : (act : DirectiveAct) (items : List Item) → t act ≡ true → P (items_after_act act items)) (keeps : (act : DirectiveAct) (items : List Item) → P items → P (items_after_act act items)) where
  pub stays : (ds : List Directive) (items new : List Item) → P items → directed ds items ≡ Ok new → P new
  unfolding directed
  stays [] items new h e = let same : items ≡ new = cc in subst P same h
  stays (d ∷ ds) items new h e = by (kind_of d.act items) e (λ k. stays ds (items_after_act d.act items) new (keeps d.act items h) k)
    where
      by : (o : Option DirectiveKind) → go_on (directed ds) d items o ≡ Ok new → (directed ds (items_after_act d.act items) ≡ Ok new → P new) → P new
      by None g f = f g
      by (Some kind) g f = absurd cc

  pub in_the_end : (ds : List Directive) (items new : List Item) → list_any (λ d. t d.act) ds ≡ true → directed ds items ≡ Ok new → P new
  unfolding directed
  in_the_end [] items new a e = absurd cc
  in_the_end (d ∷ ds) items new a e =
      by (kind_of d.act items) (t d.act) refl a e (λ h k. stays ds (items_after_act d.act items) new h k) (λ g k. in_the_end ds (items_after_act d.act items) new g k)
    where
      by : (o : Option DirectiveKind) (b : Bool) → t d.act ≡ b → (b || list_any (λ d. t d.act) ds) ≡ true → go_on (directed ds) d items o ≡ Ok new → (P (items_after_act d.act items) → directed ds (items_after_act d.act items) ≡ Ok new → P new) →
          (list_any (λ d. t d.act) ds ≡ true → directed ds (items_after_act d.act items) ≡ Ok new → P new) → P new
      by None true p a g f r = f (makes d.act items p) g
      by None false p a g f r = r a g
      by (Some kind) b p a g f r = absurd cc

pub axis_is_gone : AxisIsGone
unfolding applied
axis_is_gone shipped items new ds name axis e a =
    has_axis_is name axis new
    ∙ in_the_end (AxisOff name axis) (is_axis_prune name axis) (axis_acted name axis) (λ act items h. axis_step name axis act items tt h) ds (expanded shipped items) new a e

-- ---- thresholds

abbrev off_threshold : List ℕ → ℕ → TheHypothesis → Bool
off_threshold name threshold h = bytes_eq name h.name && not (h.threshold == threshold)

off_lift : (name : List ℕ) (threshold : ℕ) (item : Item) → is_off name threshold item ≡ lift (off_threshold name threshold) item
off_lift name threshold (Include i) = refl
off_lift name threshold (Sync s) = refl
off_lift name threshold (Metric m) = refl
off_lift name threshold (Constraint c) = refl
off_lift name threshold (Hypothesis h) = refl
off_lift name threshold (Search s) = refl
off_lift name threshold (Phase p) = refl
off_lift name threshold (Wish w) = refl

off_is : (name : List ℕ) (threshold : ℕ) (items : List Item) → list_any (is_off name threshold) items ≡ list_any (off_threshold name threshold) (stripped items)
off_is name threshold items = ap (λ (t : Item → Bool). list_any t items) (λ i item. off_lift name threshold item i) ∙ sym (any_stripped (off_threshold name threshold) items)

-- the hypothesis has this threshold, if one was given
abbrev On : List ℕ → Option ℕ → List Item → Type 0
On name None items = Unit {0}
On name (Some threshold) items = list_any (off_threshold name threshold) (stripped items) ≡ false

threshold_set : (name : List ℕ) (threshold : ℕ) (items : List Item) → On name (Some threshold) (map (with_hypothesis name (with_threshold threshold)) items)
threshold_set name threshold items =
    change_sets name (with_threshold threshold) (off_threshold name threshold) (λ h t. and_none (bytes_eq name h.name) (not (threshold == threshold)) (ap not (eq-eqb threshold threshold refl)))
    (λ h t. ap (λ (b : Bool). b && not (h.threshold == threshold)) t) items

other_set : (name other : List ℕ) (threshold given : ℕ) (items : List Item) → bytes_eq name other ≡ false → On name (Some threshold) items → On name (Some threshold) (map (with_hypothesis other (with_threshold given)) items)
other_set name other threshold given items e h =
    change_none other (with_threshold given) (off_threshold name threshold)
    (λ x t k. ap (λ (b : Bool). b && not (given == threshold)) (ap (bytes_eq name) (sym (same_name other x.name t)) ∙ e)) items h

threshold_step : (name : List ℕ) (before : Option ℕ) (act : DirectiveAct) (items : List Item) → On name before items → On name (threshold_behind name before act) (items_after_act act items)
threshold_step name None (Prune other) items h = tt
threshold_step name (Some n) (Prune other) items h = none_pruned (off_threshold name n) other items h
threshold_step name None (PruneAxis other off) items h = tt
threshold_step name (Some n) (PruneAxis other off) items h = change_none other (without_axis off) (off_threshold name n) (λ x t k. k) items h
threshold_step name before (Threshold other given) items h = by (bytes_eq name other) refl
  where
    kept : (before : Option ℕ) → bytes_eq name other ≡ false → On name before items → On name before (map (with_hypothesis other (with_threshold given)) items)
    kept None e h = tt
    kept (Some n) e h = other_set name other n given items e h

    by : (b : Bool) → bytes_eq name other ≡ b → On name (cond b (Some given) before) (map (with_hypothesis other (with_threshold given)) items)
    by true e = subst (λ (m : List ℕ). On name (Some given) (map (with_hypothesis m (with_threshold given)) items)) (same_name name other e) (threshold_set name given items)
    by false e = kept before e h
threshold_step name None (First other) items h = tt
threshold_step name (Some n) (First other) items h = none_first (off_threshold name n) other items h

thresholds : (name : List ℕ) (ds : List Directive) (before : Option ℕ) (items new : List Item) → On name before items → directed ds items ≡ Ok new → On name (last_threshold name before ds) new
unfolding directed
thresholds name [] before items new h e = let same : items ≡ new = cc in subst (On name before) same h
thresholds name (d ∷ ds) before items new h e = by (kind_of d.act items) e (λ k. thresholds name ds (threshold_behind name before d.act) (items_after_act d.act items) new (threshold_step name before d.act items h) k)
  where
    by : (o : Option DirectiveKind) → go_on (directed ds) d items o ≡ Ok new →
        (directed ds (items_after_act d.act items) ≡ Ok new → On name (last_threshold name (threshold_behind name before d.act) ds) new) → On name (last_threshold name (threshold_behind name before d.act) ds) new
    by None g f = f g
    by (Some kind) g f = absurd cc

pub last_threshold_holds : LastThresholdHolds
unfolding applied
last_threshold_holds shipped items new ds name threshold e k =
    let on = thresholds name ds None (expanded shipped items) new tt e in
    off_is name threshold new ∙ subst (λ (o : Option ℕ). On name o new) k on
