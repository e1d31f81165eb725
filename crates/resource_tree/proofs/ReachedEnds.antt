-- After each state a text ends or goes on, so that what stands before it is the beginning of a focus text.
use Rattle.std.proofs.Common.{◌≡◌, ℕ, suc, nat_le, Bool, true, false, List, [], ◌∷◌, ◌++◌, take, drop, refl, sym, ap, ◌∙◌, subst, arith, append_assoc, append-nil, zero}
use Rattle.std.proofs.lemmas.List.{take-append-drop}
use borrow.Author.Tests.{ltb-true}
use Rattle.pn_types.specs.declared.focus.Axis.{Axis}
use Rattle.pn_types.specs.declared.focus.Axis.TheVariants.{Code, Machine, SyncObject}
use Rattle.resource_tree.specs.FocusTexts.{Part, axis_name, depth, has, are_parts_of, IsFocusText, GoesOn, parts_text}
use Rattle.resource_tree.specs.FormStates.{is_any, is_whole}
use Rattle.resource_tree.specs.declared.hierarchy.Axes.{Axes}
use Rattle.resource_tree.specs.declared.form.Stage.{Stage}
use Rattle.resource_tree.specs.declared.form.Stage.TheVariants.{Start, Slash, Hierarchy, End, Name}
use Rattle.resource_tree.proofs.Reached.{Leads, Closes, Reached, le_test, name_closes, name_on}

closed : (axes : Axes) (levels : ℕ) (w : List ℕ) → Closes axes levels w → IsFocusText w
closed axes levels w r = let e : w ++ [] ≡ w = simp append-nil in subst IsFocusText e (r.ends [] [] refl (omega arith) refl)

-- where a text can end it is a focus text
pub ended : (axes : Axes) (p : Stage) (w : List ℕ) → Reached axes p w → is_whole p ≡ true → IsFocusText w
ended axes Start w r h = cc
ended axes Slash w r h = cc
ended axes (Hierarchy axis k) w r h = cc
ended axes (End levels) w r h = closed axes levels w r
ended axes (Name levels len) w r h = closed axes levels w (name_closes axes levels len w r (ltb-true 0 len h))

focus_goes_on : (w : List ℕ) → IsFocusText w → GoesOn w
focus_goes_on w f = let e : w ≡ w ++ [] = simp append-nil in ([], subst IsFocusText e f)

lead_axis : (axes : Axes) (axis : Axis) (w : List ℕ) → Leads axes w → has axes axis ≡ true → IsFocusText (w ++ axis_name axis)
lead_axis axes axis w r h =
    let p : Part = record { axis = axis; names = [] } in
    let le : nat_le 0 (depth axis) ≡ true = le_test 0 (depth axis) (omega arith) in
    let all : are_parts_of axes (p ∷ []) ≡ true = rw (h, le) refl in
    let e : w ++ parts_text (p ∷ []) ≡ w ++ axis_name axis = simp append-nil in
    subst IsFocusText e (r.ends (p ∷ []) (omega arith) all)

some_axis : (axes : Axes) → is_any axes ≡ true → (axis : Axis) × (has axes axis ≡ true)
some_axis axes h = by axes.code axes.machine axes.sync_object refl refl refl h
  where
    by : (c m s : Bool) → axes.code ≡ c → axes.machine ≡ m → axes.sync_object ≡ s → is_any (record { code = c; machine = m; sync_object = s }) ≡ true → (axis : Axis) × (has axes axis ≡ true)
    by true m s p q u g = (Code, p)
    by false true s p q u g = (Machine, q)
    by false false true p q u g = (SyncObject, u)
    by false false false p q u g = cc

behind_slash : (axis : Axis) → axis_name axis ≡ 0x2f ∷ drop 1 (axis_name axis)
behind_slash Code = refl
behind_slash Machine = refl
behind_slash SyncObject = refl

-- where a text has come it goes on
pub goes_on : (axes : Axes) (p : Stage) (w : List ℕ) → Reached axes p w → GoesOn w
goes_on axes Start w r = let a = some_axis axes r.1 in (axis_name a.0, lead_axis axes a.0 w r.0 a.1)
goes_on axes Slash w r =
    let a = some_axis axes r.some in
    let e : r.front ++ axis_name a.0 ≡ w ++ drop 1 (axis_name a.0) =
    ap (λ (v : List ℕ). r.front ++ v) (behind_slash a.0) ∙ sym (append_assoc r.front (0x2f ∷ []) (drop 1 (axis_name a.0)))
    ∙ ap (λ (v : List ℕ). v ++ drop 1 (axis_name a.0)) (sym r.is) in
    (drop 1 (axis_name a.0), subst IsFocusText e (lead_axis axes a.0 r.front r.leads a.1))
goes_on axes (Hierarchy axis k) w r =
    let e : r.front ++ axis_name axis ≡ w ++ drop k (axis_name axis) =
    ap (λ (v : List ℕ). r.front ++ v) (sym (take-append-drop k (axis_name axis))) ∙ sym (append_assoc r.front (take k (axis_name axis)) (drop k (axis_name axis)))
    ∙ ap (λ (v : List ℕ). v ++ drop k (axis_name axis)) (sym r.is) in
    (drop k (axis_name axis), subst IsFocusText e (lead_axis axes axis r.front r.leads r.some))
goes_on axes (End levels) w r = focus_goes_on w (closed axes levels w r)
goes_on axes (Name levels zero) w r =
    (0x61 ∷ [], closed axes levels (w ++ 0x61 ∷ []) (name_closes axes levels 1 (w ++ 0x61 ∷ []) (name_on axes levels 0 0x61 w r refl (omega arith)) (omega arith)))
goes_on axes (Name levels (suc len)) w r = focus_goes_on w (closed axes levels w (name_closes axes levels (suc len) w r (omega arith)))
