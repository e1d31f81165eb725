-- What a state says of the text before it.
use Rattle.std.proofs.Common.{◌≡◌, ◌≢◌, ℕ, ◌+◌, ◌-◌, ◌<◌, ◌≤◌, ◌==◌, ◌&&◌, nat_lt, nat_le, cond, Bool, true, false, List, [], ◌∷◌, ◌++◌, length, take, slice_get, Option, Some, None, refl, sym, ap, ◌∙◌, subst, arith, rules, append_assoc, append-nil, length-append}
use Rattle.std.proofs.lemmas.List.{take_more, take_all}
use Rattle.std.proofs.lemmas.Option.{slice_get_within, get_or_from_slice_get}
use borrow.Author.Tests.{ltb-true, eqb-true, eqb-false}
use Rattle.std.specs.Option.{option_map}
use Rattle.std.specs.List.{list_all}
use Rattle.pn_types.specs.GoodNames.{is_name_byte, is_good_name}
use Rattle.pn_types.specs.declared.focus.Axis.{Axis}
use Rattle.pn_types.specs.declared.focus.Axis.TheVariants.{Code, Machine, SyncObject}
use Rattle.resource_tree.specs.FocusTexts.{Part, axis_name, depth, has, without, every_axis, are_parts_of, IsFocusText, below_text, more_text, parts_text}
use Rattle.resource_tree.specs.FormStates.{is_any, form_after, after_at, after_all, behind_name, in_hierarchy, is_byte, lettered}
use Rattle.resource_tree.specs.declared.hierarchy.Axes.{Axes}
use Rattle.resource_tree.specs.declared.form.FormState.{FormState}
use Rattle.resource_tree.specs.declared.form.Stage.{Stage}
use Rattle.resource_tree.specs.declared.form.Stage.TheVariants.{Start, Slash, Hierarchy, End, Name}
use Rattle.resource_tree.proofs.FormStates.{state, both, after_none}

-- after it any parts of these hierarchies make a focus text
pub record Leads (axes : Axes) (w : List ℕ) : Type 0 where
  pub ends : (ps : List Part) → 0 < length ps → are_parts_of axes ps ≡ true → IsFocusText (w ++ parts_text ps)

-- after it names, as many as the levels allow, and then parts of these hierarchies, make a focus text
pub record Closes (axes : Axes) (levels : ℕ) (w : List ℕ) : Type 0 where
  pub ends : (names : List (List ℕ)) (ps : List Part) → list_all is_good_name names ≡ true → length names ≤ levels → are_parts_of axes ps ≡ true → IsFocusText (w ++ (below_text names ++ more_text ps))

-- the text before a state
pub record InSlash (axes : Axes) (w : List ℕ) : Type 0 where
  pub front : List ℕ
  pub is : w ≡ front ++ 0x2f ∷ []
  pub leads : Leads axes front
  pub some : is_any axes ≡ true

pub record InHierarchy (axes : Axes) (axis : Axis) (k : ℕ) (w : List ℕ) : Type 0 where
  pub front : List ℕ
  pub is : w ≡ front ++ take k (axis_name axis)
  pub leads : Leads axes front
  pub some : has axes axis ≡ true
  pub part : k < length (axis_name axis)

pub record InName (axes : Axes) (levels len : ℕ) (w : List ℕ) : Type 0 where
  pub front : List ℕ
  pub name : List ℕ
  pub is : w ≡ front ++ 0x2f ∷ name
  pub closes : Closes axes (levels + 1) front
  pub len_is : length name ≡ len
  pub short : len ≤ 200
  pub bytes : list_all is_name_byte name ≡ true

abbrev pub Reached : Axes → Stage → List ℕ → Type 0
Reached axes Start w = Leads axes w × (is_any axes ≡ true)
Reached axes Slash w = InSlash axes w
Reached axes (Hierarchy axis k) w = InHierarchy axes axis k w
Reached axes (End levels) w = Closes axes levels w
Reached axes (Name levels len) w = InName axes levels len w

pub first_reached : Leads every_axis []
first_reached = record { ends = λ ps some fit. record { parts = ps; are_parts = (some, fit); spelled = refl } }

if_none : {A : Type 0} (b : Bool) (x y : A) → cond b (Some x) None ≡ Some y → (b ≡ true) × (x ≡ y)
if_none true x y h = (refl, cc)
if_none false x y h = cc

-- a good name out of its bytes
pub le_test : (a b : ℕ) → a ≤ b → nat_le a b ≡ true
le_test a b h = search rules

good_name : (name : List ℕ) → 1 ≤ length name → length name ≤ 200 → list_all is_name_byte name ≡ true → is_good_name name ≡ true
good_name name a b h = let p = le_test 1 (length name) a in let q = le_test (length name) 200 b in rw (p, q, h) refl

all_more : (name : List ℕ) (b : ℕ) → list_all is_name_byte name ≡ true → is_name_byte b ≡ true → list_all is_name_byte (name ++ b ∷ []) ≡ true
all_more [] b h g = rw g refl
all_more (x ∷ xs) b h g = let p = both (is_name_byte x) (list_all is_name_byte xs) h in rw p.0 (all_more xs b p.1 g)

-- after a name with at least one byte
pub name_closes : (axes : Axes) (levels len : ℕ) (w : List ℕ) → InName axes levels len w → 1 ≤ len → Closes axes levels w
name_closes axes levels len w r one = record {
  ends = λ names ps good fit parts.
      let g : is_good_name r.name ≡ true = good_name r.name (rw r.len_is one) (rw r.len_is r.short) r.bytes in
      let all : list_all is_good_name (r.name ∷ names) ≡ true = rw g good in
      let f = r.closes.ends (r.name ∷ names) ps all (omega arith) parts in
      subst IsFocusText (sym (ap (λ (v : List ℕ). v ++ (below_text names ++ more_text ps)) r.is ∙ simp append_assoc)) f;
}

slash_reached : (axes : Axes) (levels : ℕ) (w : List ℕ) → Closes axes levels w → 0 < levels → InName axes (levels - 1) 0 (w ++ 0x2f ∷ [])
slash_reached axes levels w r lt = record {
  front = w;
  name = [];
  is = refl;
  closes = let e : levels ≡ levels - 1 + 1 = omega arith in subst (λ (n : ℕ). Closes axes n w) e r;
  len_is = refl;
  short = omega arith;
  bytes = refl;
}

comma_leads : (axes : Axes) (levels : ℕ) (w : List ℕ) → Closes axes levels w → Leads axes (w ++ 0x2c ∷ [])
comma_leads axes levels w r = record { ends = by }
  where
    by : (ps : List Part) → 0 < length ps → are_parts_of axes ps ≡ true → IsFocusText ((w ++ 0x2c ∷ []) ++ parts_text ps)
    by [] some fit = absurd (omega (arith, some))
    by (p ∷ ps) some fit = subst IsFocusText (sym (append_assoc w (0x2c ∷ []) (parts_text (p ∷ ps)))) (r.ends [] (p ∷ ps) refl (omega arith) fit)

abbrev ReachedState : FormState → List ℕ → Type 0
ReachedState s w = Reached s.left s.stage w

name_behind : (axes : Axes) (levels b : ℕ) (w : List ℕ) (t : FormState) → Closes axes levels w → behind_name axes levels b ≡ Some t → Reached t.left t.stage (w ++ b ∷ [])
name_behind axes levels b w t r h = by (b == 0x2f) (nat_lt 0 levels) (b == 0x2c) (is_any axes) refl refl refl refl h
  where
    by : (slash some comma any : Bool) → (b == 0x2f) ≡ slash → nat_lt 0 levels ≡ some → (b == 0x2c) ≡ comma → is_any axes ≡ any
        → cond (slash && some) (Some (record { left = axes; stage = Name (levels - 1) 0 })) (cond (comma && any) (Some (record { left = axes; stage = Start })) None) ≡ Some t
        → Reached t.left t.stage (w ++ b ∷ [])
    by true true comma any p q u v g =
        let e : b ≡ 0x2f = eqb-true b 0x2f p in
        let k : record { left = axes; stage = Name (levels - 1) 0 } ≡ t = cc in
        subst (λ (s : FormState). Reached s.left s.stage (w ++ b ∷ [])) k
        (subst (λ (c : ℕ). InName axes (levels - 1) 0 (w ++ c ∷ [])) (sym e) (slash_reached axes levels w r (ltb-true 0 levels q)))
    by true false true true p q u v g = absurd (omega (arith, eqb-true b 0x2f p, eqb-true b 0x2c u))
    by true false true false p q u v g = cc
    by true false false any p q u v g = cc
    by false some true true p q u v g =
        let e : b ≡ 0x2c = eqb-true b 0x2c u in
        let k : record { left = axes; stage = Start } ≡ t = cc in
        subst (λ (s : FormState). Reached s.left s.stage (w ++ b ∷ [])) k
        (subst (λ (c : ℕ). Leads axes (w ++ c ∷ [])) (sym e) (comma_leads axes levels w r), v)
    by false some true false p q u v g = cc
    by false some false any p q u v g = cc

-- the letter after a hierarchy's `/`
pub record Lettered (axes : Axes) (b : ℕ) (axis : Axis) : Type 0 where
  pub some : has axes axis ≡ true
  pub front : 0x2f ∷ b ∷ [] ≡ take 2 (axis_name axis)
  pub part : 2 < length (axis_name axis)

letter_is : (axes : Axes) (b : ℕ) (axis : Axis) → lettered axes b ≡ Some axis → Lettered axes b axis
letter_is axes b axis h = by (b == 0x43) axes.code (b == 0x4d) axes.machine (b == 0x53) axes.sync_object refl refl refl refl refl refl h
  where
    code_is : Code ≡ axis → (b == 0x43) ≡ true → axes.code ≡ true → Lettered axes b axis
    code_is e p q = subst (Lettered axes b) e (record { some = q; front = ap (λ (x : ℕ). 0x2f ∷ x ∷ []) (eqb-true b 0x43 p); part = omega arith })

    machine_is : Machine ≡ axis → (b == 0x4d) ≡ true → axes.machine ≡ true → Lettered axes b axis
    machine_is e p q = subst (Lettered axes b) e (record { some = q; front = ap (λ (x : ℕ). 0x2f ∷ x ∷ []) (eqb-true b 0x4d p); part = omega arith })

    object_is : SyncObject ≡ axis → (b == 0x53) ≡ true → axes.sync_object ≡ true → Lettered axes b axis
    object_is e p q = subst (Lettered axes b) e (record { some = q; front = ap (λ (x : ℕ). 0x2f ∷ x ∷ []) (eqb-true b 0x53 p); part = omega arith })

    by : (c code m machine s object : Bool) → (b == 0x43) ≡ c → axes.code ≡ code → (b == 0x4d) ≡ m → axes.machine ≡ machine → (b == 0x53) ≡ s → axes.sync_object ≡ object
        → cond (c && code) (Some Code) (cond (m && machine) (Some Machine) (cond (s && object) (Some SyncObject) None)) ≡ Some axis → Lettered axes b axis
    by true true m machine s object p q u v x y g = code_is (cc) p q
    by true false true true s object p q u v x y g = machine_is (cc) u v
    by true false true false true true p q u v x y g = object_is (cc) x y
    by true false true false true false p q u v x y g = cc
    by true false true false false object p q u v x y g = cc
    by true false false machine true true p q u v x y g = object_is (cc) x y
    by true false false machine true false p q u v x y g = cc
    by true false false machine false object p q u v x y g = cc
    by false code true true s object p q u v x y g = machine_is (cc) u v
    by false code true false true true p q u v x y g = object_is (cc) x y
    by false code true false true false p q u v x y g = cc
    by false code true false false object p q u v x y g = cc
    by false code false machine true true p q u v x y g = object_is (cc) x y
    by false code false machine true false p q u v x y g = cc
    by false code false machine false object p q u v x y g = cc

mapped : (o : Option Axis) (f : Axis → FormState) (t : FormState) → option_map f o ≡ Some t → (axis : Axis) × (o ≡ Some axis) × (f axis ≡ t)
mapped None f t h = cc
mapped (Some axis) f t h = (axis, refl, cc)

slash_behind : (axes : Axes) (b : ℕ) (w : List ℕ) (t : FormState) → InSlash axes w → after_at axes Slash b ≡ Some t → Reached t.left t.stage (w ++ b ∷ [])
slash_behind axes b w t r h =
    let m = mapped (lettered axes b) (λ axis. record { left = axes; stage = Hierarchy axis 2 }) t h in
    let l = letter_is axes b m.0 m.1 in
    subst (λ (s : FormState). Reached s.left s.stage (w ++ b ∷ [])) m.2 (record {
      front = r.front;
      is = ap (λ (v : List ℕ). v ++ b ∷ []) r.is ∙ append_assoc r.front (0x2f ∷ []) (b ∷ []) ∙ ap (λ (v : List ℕ). r.front ++ v) l.front;
      leads = r.leads;
      some = l.some;
      part = l.part;
    })

-- a whole hierarchy
hierarchy_closes : (axes : Axes) (axis : Axis) (front w : List ℕ) → w ≡ front ++ axis_name axis → Leads axes front → has axes axis ≡ true → Closes (without axes axis) (depth axis) w
hierarchy_closes axes axis front w e r some = record {
  ends = λ names ps good fit parts.
      let p : Part = record { axis = axis; names = names } in
      let le : nat_le (length names) (depth axis) ≡ true = le_test (length names) (depth axis) fit in
      let all : are_parts_of axes (p ∷ ps) ≡ true = rw (some, le, good) parts in
      subst IsFocusText (sym (ap (λ (v : List ℕ). v ++ (below_text names ++ more_text ps)) e ∙ simp append_assoc)) (r.ends (p ∷ ps) (omega arith) all);
}

byte_of : (o : Option ℕ) (b : ℕ) → is_byte o b ≡ true → o ≡ Some b
byte_of None b h = cc
byte_of (Some x) b h = ap Some (eqb-true x b h)

take_byte : (xs : List ℕ) (k b : ℕ) → slice_get xs k ≡ Some b → take (k + 1) xs ≡ take k xs ++ b ∷ []
take_byte xs k b h = take_more xs k 0 (slice_get_within xs k b h) ∙ ap (λ (c : ℕ). take k xs ++ c ∷ []) (get_or_from_slice_get xs k b 0 h)

further : (k n : ℕ) → k < n → (k + 1 == n) ≡ false → k + 1 < n
further k n h q = let ne : k + 1 ≢ n = eqb-false (k + 1) n q in omega arith

hierarchy_behind : (axes : Axes) (axis : Axis) (k b : ℕ) (w : List ℕ) (t : FormState) → InHierarchy axes axis k w → after_at axes (Hierarchy axis k) b ≡ Some t → Reached t.left t.stage (w ++ b ∷ [])
hierarchy_behind axes axis k b w t r h =
    let p = if_none (is_byte (slice_get (axis_name axis) k) b) (in_hierarchy axes axis (k + 1)) t h in
    let e : w ++ b ∷ [] ≡ r.front ++ take (k + 1) (axis_name axis) =
    ap (λ (v : List ℕ). v ++ b ∷ []) r.is ∙ append_assoc r.front (take k (axis_name axis)) (b ∷ [])
    ∙ ap (λ (v : List ℕ). r.front ++ v) (sym (take_byte (axis_name axis) k b (byte_of (slice_get (axis_name axis) k) b p.0))) in
    subst (λ (s : FormState). Reached s.left s.stage (w ++ b ∷ [])) p.1 (by (k + 1 == length (axis_name axis)) refl e)
  where
    by : (whole : Bool) → (k + 1 == length (axis_name axis)) ≡ whole → w ++ b ∷ [] ≡ r.front ++ take (k + 1) (axis_name axis)
        → ReachedState (cond whole (record { left = without axes axis; stage = End (depth axis) }) (record { left = axes; stage = Hierarchy axis (k + 1) })) (w ++ b ∷ [])
    by true q e =
        let n : k + 1 ≡ length (axis_name axis) = eqb-true (k + 1) (length (axis_name axis)) q in
        let f : take (k + 1) (axis_name axis) ≡ axis_name axis = take_all (k + 1) (axis_name axis) (omega arith) in
        hierarchy_closes axes axis r.front (w ++ b ∷ []) (e ∙ ap (λ (v : List ℕ). r.front ++ v) f) r.leads r.some
    by false q e = record { front = r.front; is = e; leads = r.leads; some = r.some; part = further k (length (axis_name axis)) r.part q }

pub name_on : (axes : Axes) (levels len b : ℕ) (w : List ℕ) → InName axes levels len w → is_name_byte b ≡ true → len < 200 → InName axes levels (len + 1) (w ++ b ∷ [])
name_on axes levels len b w r good lt = record {
  front = r.front;
  name = r.name ++ b ∷ [];
  is = ap (λ (v : List ℕ). v ++ b ∷ []) r.is ∙ append_assoc r.front (0x2f ∷ r.name) (b ∷ []);
  closes = r.closes;
  len_is = rw (length-append, r.len_is) refl;
  short = omega arith;
  bytes = all_more r.name b r.bytes good;
}

name_step : (axes : Axes) (levels len b : ℕ) (w : List ℕ) (t : FormState) → InName axes levels len w → after_at axes (Name levels len) b ≡ Some t → Reached t.left t.stage (w ++ b ∷ [])
name_step axes levels len b w t r h = by (is_name_byte b) (nat_lt len 200) (nat_lt 0 len) refl refl refl h
  where
    behind : nat_lt 0 len ≡ true → behind_name axes levels b ≡ Some t → Reached t.left t.stage (w ++ b ∷ [])
    behind u g = name_behind axes levels b w t (name_closes axes levels len w r (ltb-true 0 len u)) g

    by : (good short some : Bool) → is_name_byte b ≡ good → nat_lt len 200 ≡ short → nat_lt 0 len ≡ some
        → cond (good && short) (Some (record { left = axes; stage = Name levels (len + 1) })) (cond some (behind_name axes levels b) None) ≡ Some t → Reached t.left t.stage (w ++ b ∷ [])
    by true true some p q u g =
        let k : record { left = axes; stage = Name levels (len + 1) } ≡ t = cc in
        subst (λ (s : FormState). Reached s.left s.stage (w ++ b ∷ [])) k (name_on axes levels len b w r p (ltb-true len 200 q))
    by true false true p q u g = behind u g
    by true false false p q u g = cc
    by false short true p q u g = behind u g
    by false short false p q u g = cc

start_step : (axes : Axes) (b : ℕ) (w : List ℕ) (t : FormState) → Reached axes Start w → after_at axes Start b ≡ Some t → Reached t.left t.stage (w ++ b ∷ [])
start_step axes b w t r h =
    let p = if_none (b == 0x2f) (record { left = axes; stage = Slash }) t h in
    subst (λ (s : FormState). Reached s.left s.stage (w ++ b ∷ [])) p.1
    (record { front = w; is = ap (λ (c : ℕ). w ++ c ∷ []) (eqb-true b 0x2f p.0); leads = r.0; some = r.1 })

-- one more byte
step : (axes : Axes) (p : Stage) (b : ℕ) (w : List ℕ) (t : FormState) → Reached axes p w → after_at axes p b ≡ Some t → Reached t.left t.stage (w ++ b ∷ [])
step axes Start b w t r h = start_step axes b w t r h
step axes Slash b w t r h = slash_behind axes b w t r h
step axes (Hierarchy axis k) b w t r h = hierarchy_behind axes axis k b w t r h
step axes (End levels) b w t r h = name_behind axes levels b w t r h
step axes (Name levels len) b w t r h = name_step axes levels len b w t r h

-- some bytes
along : (bs : List ℕ) (s t : FormState) (w : List ℕ) → ReachedState s w → after_all (Some s) bs ≡ Some t → ReachedState t (w ++ bs)
along [] s t w r h =
    let e : s ≡ t = cc in
    let f : w ≡ w ++ [] = simp append-nil in
    subst (λ (v : List ℕ). ReachedState t v) f (subst (λ (u : FormState). ReachedState u w) e r)
along (b ∷ bs) s t w r h = by (form_after s b) refl (λ u g q. along bs u t (w ++ b ∷ []) (step s.left s.stage b w u r q) g) h
  where
    by : (o : Option FormState) → form_after s b ≡ o → ((u : FormState) → after_all (Some u) bs ≡ Some t → form_after s b ≡ Some u → ReachedState t ((w ++ b ∷ []) ++ bs)) → after_all o bs ≡ Some t → ReachedState t (w ++ b ∷ bs)
    by None q rest g = let n = after_none bs in cc
    by (Some u) q rest g = subst (λ (v : List ℕ). ReachedState t v) (append_assoc w (b ∷ []) bs) (rest u g q)

-- a state after a whole text
pub reached : (text : List ℕ) (t : FormState) → after_all (state every_axis Start) text ≡ Some t → ReachedState t text
reached text t h = along text (record { left = every_axis; stage = Start }) t [] (first_reached, refl) h
