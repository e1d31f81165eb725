-- There is a state after each beginning of a focus text.
use Rattle.std.proofs.Common.{◌≡◌, ℕ, suc, ◌+◌, ◌-◌, ◌<◌, ◌≤◌, ◌&&◌, nat_lt, nat_le, Bool, true, false, List, [], ◌∷◌, ◌++◌, length, Option, Some, None, refl, sym, ap, ◌∙◌, subst, arith, rules}
use Rattle.std.specs.List.{list_all}
use Rattle.pn_types.specs.GoodNames.{is_name_byte, is_good_name}
use Rattle.pn_types.specs.declared.focus.Axis.{Axis}
use Rattle.pn_types.specs.declared.focus.Axis.TheVariants.{Code, Machine, SyncObject}
use Rattle.resource_tree.specs.FocusTexts.{Part, axis_name, depth, has, without, every_axis, is_part, are_parts_of, AreParts, below_text, part_text, more_text, parts_text}
use Rattle.resource_tree.specs.FormStates.{is_any, form_after, after_at, after_all, behind_name, is_whole}
use Rattle.resource_tree.specs.declared.hierarchy.Axes.{Axes}
use Rattle.resource_tree.specs.declared.form.FormState.{FormState}
use Rattle.resource_tree.specs.declared.form.Stage.{Stage}
use Rattle.resource_tree.specs.declared.form.Stage.TheVariants.{Start, Slash, Hierarchy, End, Name}

abbrev pub state : Axes → Stage → Option FormState
state axes stage = Some (record { left = axes; stage = stage })

pub after_none : (bs : List ℕ) → after_all None bs ≡ None
after_none [] = refl
after_none (b ∷ bs) = after_none bs

pub after_append : (s : Option FormState) (a b : List ℕ) → after_all s (a ++ b) ≡ after_all (after_all s a) b
after_append s [] b = refl
after_append None (x ∷ a) b = after_append None a b
after_append (Some s) (x ∷ a) b = after_append (form_after s x) a b

pub both : (a b : Bool) → a && b ≡ true → (a ≡ true) × (b ≡ true)
both true b h = (refl, h)
both false b h = cc

read_code : (c m s : Bool) → c ≡ true → after_all (state (record { code = c; machine = m; sync_object = s }) Start) (axis_name Code) ≡ state (record { code = false; machine = m; sync_object = s }) (End 2)
read_code true m s h = refl
read_code false m s h = cc

read_machine : (c m s : Bool) → m ≡ true → after_all (state (record { code = c; machine = m; sync_object = s }) Start) (axis_name Machine) ≡ state (record { code = c; machine = false; sync_object = s }) (End 1)
read_machine c true s h = refl
read_machine c false s h = cc

read_object : (c m s : Bool) → s ≡ true → after_all (state (record { code = c; machine = m; sync_object = s }) Start) (axis_name SyncObject) ≡ state (record { code = c; machine = m; sync_object = false }) (End 1)
read_object c m true h = refl
read_object c m false h = cc

pub axis_read : (axes : Axes) (axis : Axis) → has axes axis ≡ true → after_all (state axes Start) (axis_name axis) ≡ state (without axes axis) (End (depth axis))
axis_read axes Code h = read_code axes.code axes.machine axes.sync_object h
axis_read axes Machine h = read_machine axes.code axes.machine axes.sync_object h
axis_read axes SyncObject h = read_object axes.code axes.machine axes.sync_object h

byte_read : (axes : Axes) (levels len b : ℕ) → is_name_byte b ≡ true → len < 200 → after_at axes (Name levels len) b ≡ state axes (Name levels (len + 1))
byte_read axes levels len b h lt = let t : nat_lt len 200 ≡ true = search rules in rw (h, t) refl

pub name_read : (axes : Axes) (levels len n : ℕ) (name : List ℕ) → list_all is_name_byte name ≡ true → len + length name ≡ n → n ≤ 200 → after_all (state axes (Name levels len)) name ≡ state axes (Name levels n)
name_read axes levels len n [] h e le = let k : len ≡ n = omega arith in ap (λ (m : ℕ). state axes (Name levels m)) k
name_read axes levels len n (b ∷ bs) h e le =
    let p = both (is_name_byte b) (list_all is_name_byte bs) h in
    ap (λ (s : Option FormState). after_all s bs) (byte_read axes levels len b p.0 (omega arith))
    ∙ name_read axes levels (len + 1) n bs p.1 (omega arith) le

-- how many names can follow
abbrev pub levels_of : Stage → ℕ
levels_of Start = 0
levels_of Slash = 0
levels_of (Hierarchy axis k) = 0
levels_of (End levels) = levels
levels_of (Name levels len) = levels

pub whole_slash : (axes : Axes) (p : Stage) → is_whole p ≡ true → after_at axes p 0x2f ≡ behind_name axes (levels_of p) 0x2f
whole_slash axes Start h = cc
whole_slash axes Slash h = cc
whole_slash axes (Hierarchy axis k) h = cc
whole_slash axes (End levels) h = refl
whole_slash axes (Name levels len) h = rw h refl

pub whole_comma : (axes : Axes) (p : Stage) → is_whole p ≡ true → after_at axes p 0x2c ≡ behind_name axes (levels_of p) 0x2c
whole_comma axes Start h = cc
whole_comma axes Slash h = cc
whole_comma axes (Hierarchy axis k) h = cc
whole_comma axes (End levels) h = refl
whole_comma axes (Name levels len) h = rw h refl

slash_read : (axes : Axes) (levels : ℕ) → 0 < levels → behind_name axes levels 0x2f ≡ state axes (Name (levels - 1) 0)
slash_read axes levels lt = let t : nat_lt 0 levels ≡ true = search rules in rw t refl

comma_read : (axes : Axes) (levels : ℕ) → is_any axes ≡ true → behind_name axes levels 0x2c ≡ state axes Start
comma_read axes levels h = rw h refl

-- a state at the end of a part
pub record Stops (s : Option FormState) (axes : Axes) (levels : ℕ) : Type 0 where
  pub stage : Stage
  pub is : s ≡ state axes stage
  pub whole : is_whole stage ≡ true
  pub levels_are : levels_of stage ≡ levels

positive : (n : ℕ) → 1 ≤ n → nat_lt 0 n ≡ true
positive n h = search rules

le_true : (a b : ℕ) → nat_le a b ≡ true → a ≤ b
le_true a b h = search rules

good_len : (name : List ℕ) → is_good_name name ≡ true → (1 ≤ length name) × (length name ≤ 200) × (list_all is_name_byte name ≡ true)
good_len name h =
    let p = both (nat_le 1 (length name) && nat_le (length name) 200) (list_all is_name_byte name) h in
    let q = both (nat_le 1 (length name)) (nat_le (length name) 200) p.0 in
    (le_true 1 (length name) q.0, le_true (length name) 200 q.1, p.1)

-- one name after a `/`
name_stop : (axes : Axes) (levels : ℕ) (name : List ℕ) (s : Option FormState) → Stops s axes (levels + 1) → is_good_name name ≡ true → Stops (after_all s (0x2f ∷ name)) axes levels
name_stop axes levels name s st good =
    let g = good_len name good in
    let e : s ≡ state axes st.stage = st.is in
    let f = whole_slash axes st.stage st.whole in
    let lt : 0 < levels_of st.stage = rw st.levels_are (omega arith) in
    let k : levels_of st.stage - 1 ≡ levels = rw st.levels_are (omega arith) in
    record {
      stage = Name levels (length name);
      is = ap (λ (t : Option FormState). after_all t (0x2f ∷ name)) e
          ∙ ap (λ (t : Option FormState). after_all t name) (f ∙ slash_read axes (levels_of st.stage) lt ∙ ap (λ (m : ℕ). state axes (Name m 0)) k)
          ∙ name_read axes levels 0 (length name) name g.2 (omega arith) g.1;
      whole = positive (length name) g.0;
      levels_are = refl;
    }

pub below_stop : (axes : Axes) (names : List (List ℕ)) (levels : ℕ) (s : Option FormState) → Stops s axes levels → length names ≤ levels → list_all is_good_name names ≡ true
    → Stops (after_all s (below_text names)) axes (levels - length names)
below_stop axes [] levels s st le h = let k : levels ≡ levels - 0 = omega arith in subst (Stops s axes) k st
below_stop axes (name ∷ names) levels s st le h =
    let p = both (is_good_name name) (list_all is_good_name names) h in
    let e : levels ≡ (levels - 1) + 1 = omega arith in
    let one = name_stop axes (levels - 1) name s (subst (Stops s axes) e st) p.0 in
    let rest = below_stop axes names (levels - 1) (after_all s (0x2f ∷ name)) one (omega arith) p.1 in
    let k : (levels - 1) - length names ≡ levels - suc (length names) = omega arith in
    subst (λ (t : Option FormState). Stops t axes (levels - suc (length names))) (sym (after_append s (0x2f ∷ name) (below_text names)))
    (subst (Stops (after_all (after_all s (0x2f ∷ name)) (below_text names)) axes) k rest)

pub part_stop : (axes : Axes) (p : Part) → has axes p.axis ≡ true → is_part p ≡ true → Stops (after_all (state axes Start) (part_text p)) (without axes p.axis) (depth p.axis - length p.names)
part_stop axes p h good =
    let g = both (nat_le (length p.names) (depth p.axis)) (list_all is_good_name p.names) good in
    let first : Stops (after_all (state axes Start) (axis_name p.axis)) (without axes p.axis) (depth p.axis) = record {
      stage = End (depth p.axis);
      is = axis_read axes p.axis h;
      whole = refl;
      levels_are = refl;
    } in
    subst (λ (t : Option FormState). Stops t (without axes p.axis) (depth p.axis - length p.names)) (sym (after_append (state axes Start) (axis_name p.axis) (below_text p.names)))
    (below_stop (without axes p.axis) p.names (depth p.axis) (after_all (state axes Start) (axis_name p.axis)) first (le_true (length p.names) (depth p.axis) g.0) g.1)

-- a state in which a focus text can end
pub record Whole (s : Option FormState) : Type 0 where
  pub state : FormState
  pub is : s ≡ Some state
  pub whole : is_whole state.stage ≡ true

any_code : (c m s : Bool) → c ≡ true → is_any (record { code = c; machine = m; sync_object = s }) ≡ true
any_code true m s h = refl
any_code false m s h = cc

any_machine : (c m s : Bool) → m ≡ true → is_any (record { code = c; machine = m; sync_object = s }) ≡ true
any_machine true m s h = refl
any_machine false true s h = refl
any_machine false false s h = cc

any_object : (c m s : Bool) → s ≡ true → is_any (record { code = c; machine = m; sync_object = s }) ≡ true
any_object true m s h = refl
any_object false true s h = refl
any_object false false true h = refl
any_object false false false h = cc

pub has_any : (axes : Axes) (axis : Axis) → has axes axis ≡ true → is_any axes ≡ true
has_any axes Code h = any_code axes.code axes.machine axes.sync_object h
has_any axes Machine h = any_machine axes.code axes.machine axes.sync_object h
has_any axes SyncObject h = any_object axes.code axes.machine axes.sync_object h

comma_stop : (axes : Axes) (levels : ℕ) (s : Option FormState) → Stops s axes levels → is_any axes ≡ true → after_all s (0x2c ∷ []) ≡ state axes Start
comma_stop axes levels s st h =
    ap (λ (t : Option FormState). after_all t (0x2c ∷ [])) st.is
    ∙ whole_comma axes st.stage st.whole
    ∙ comma_read axes (levels_of st.stage) h

pub more_whole : (axes : Axes) (ps : List Part) (levels : ℕ) (s : Option FormState) → Stops s axes levels → are_parts_of axes ps ≡ true → Whole (after_all s (more_text ps))
more_whole axes [] levels s st h = record { state = record { left = axes; stage = st.stage }; is = st.is; whole = st.whole }
more_whole axes (p ∷ ps) levels s st h =
    let a = both (has axes p.axis && is_part p) (are_parts_of (without axes p.axis) ps) h in
    let b = both (has axes p.axis) (is_part p) a.0 in
    let comma = comma_stop axes levels s st (has_any axes p.axis b.0) in
    let part = part_stop axes p b.0 b.1 in
    let rest = more_whole (without axes p.axis) ps (depth p.axis - length p.names) (after_all (state axes Start) (part_text p)) part a.1 in
    let e : after_all s (more_text (p ∷ ps)) ≡ after_all (after_all (state axes Start) (part_text p)) (more_text ps) =
    after_append s (0x2c ∷ []) (part_text p ++ more_text ps)
    ∙ ap (λ (t : Option FormState). after_all t (part_text p ++ more_text ps)) comma
    ∙ after_append (state axes Start) (part_text p) (more_text ps) in
    subst Whole (sym e) rest

-- after each focus text there is a state in which it can end
pub parts_whole : (ps : List Part) → AreParts ps → Whole (after_all (state every_axis Start) (parts_text ps))
parts_whole [] h = absurd (omega (arith, h.0))
parts_whole (p ∷ ps) h =
    let a = both (has every_axis p.axis && is_part p) (are_parts_of (without every_axis p.axis) ps) h.1 in
    let b = both (has every_axis p.axis) (is_part p) a.0 in
    let part = part_stop every_axis p b.0 b.1 in
    subst Whole (sym (after_append (state every_axis Start) (part_text p) (more_text ps)))
    (more_whole (without every_axis p.axis) ps (depth p.axis - length p.names) (after_all (state every_axis Start) (part_text p)) part a.1)
