-- A focus text has one spelling, and is read as one thing.
use Rattle.std.proofs.Common.{◌≡◌, ℕ, suc, ◌+◌, ◌<◌, ◌≤◌, nat_le, Bool, true, false, List, [], ◌∷◌, ◌++◌, length, take, drop, get_or, Option, Some, None, Result, Ok, Err, refl, sym, ap, ◌∙◌, subst, arith, append_assoc, take-take, inl, inr}
use Rattle.std.specs.List.{list_all, list_any}
use Rattle.std.proofs.lemmas.List.{take-append-drop}
use Rattle.std.proofs.lemmas.Bool.{cases_lt}
use Rattle.pn_types.specs.GoodNames.{is_good_name}
use Rattle.pn_types.specs.declared.focus.Axis.{Axis}
use Rattle.pn_types.specs.declared.focus.Axis.TheVariants.{Code, Machine, SyncObject}
use Rattle.pn_types.specs.declared.focus.Focus.{Focus}
use Rattle.resource_tree.specs.FocusTexts.{Part, AreParts, OneSpelling, IsFocusText, IsFaultAt, GoesOn, axis_name, depth, is_comma, is_part, below_text, part_text, more_text, parts_text}
use Rattle.resource_tree.specs.Foci.{with_node, with_nodes, focus_of, root, IsSpelled, IsReading, OneReading, OneSelection, Selects}
use Rattle.resource_tree.specs.Resources.{Resources}
use Rattle.resource_tree.specs.declared.fault.FocusFault.{FocusFault}
use Rattle.resource_tree.specs.declared.fault.FocusFault.TheVariants.{Form, NoSuchNode}
use Rattle.resource_tree.proofs.PartNames.{slash, no_slash, good_bytes}
use Rattle.resource_tree.proofs.Parts.{or_parts, part_comma, all_good, nodes_none, nodes_some}
use Rattle.resource_tree.proofs.FormStates.{both}

-- a text ends, or goes on with a byte of a kind
abbrev stops : (ℕ → Bool) → List ℕ → Bool
stops p [] = true
stops p (b ∷ bs) = p b

never : (p : ℕ → Bool) (c : ℕ) (b x y : List ℕ) → list_any p (c ∷ b) ≡ false → stops p x ≡ true → x ≡ c ∷ (b ++ y) → ⊥
never p c b x y hb hx e =
    let s : stops p x ≡ p c = ap (stops p) e in
    let f = (or_parts (p c) (list_any p b) hb).0 in
    cc

-- what stands before the first byte of a kind is one text
one_cut : (p : ℕ → Bool) (a b x y : List ℕ) → list_any p a ≡ false → list_any p b ≡ false → stops p x ≡ true → stops p y ≡ true → a ++ x ≡ b ++ y → (a ≡ b) × (x ≡ y)
one_cut p [] [] x y ha hb hx hy e = (refl, e)
one_cut p [] (c ∷ b) x y ha hb hx hy e = absurd (never p c b x y hb hx e)
one_cut p (c ∷ a) [] x y ha hb hx hy e = absurd (never p c a y x ha hy (sym e))
one_cut p (c ∷ a) (d ∷ b) x y ha hb hx hy e =
    let front : c ≡ d = cc in
    let rest : a ++ x ≡ b ++ y = cc in
    let r = one_cut p a b x y (or_parts (p c) (list_any p a) ha).1 (or_parts (p d) (list_any p b) hb).1 hx hy rest in
    (ap (λ (h : ℕ). h ∷ a) front ∙ ap (λ (t : List ℕ). d ∷ t) r.0, r.1)

below_stops : (names : List (List ℕ)) → stops slash (below_text names) ≡ true
below_stops [] = refl
below_stops (name ∷ names) = refl

more_stops : (ps : List Part) → stops is_comma (more_text ps) ≡ true
more_stops [] = refl
more_stops (p ∷ ps) = refl

-- names after a hierarchy
one_below : (ns ms : List (List ℕ)) → list_all is_good_name ns ≡ true → list_all is_good_name ms ≡ true → below_text ns ≡ below_text ms → ns ≡ ms
one_below [] [] g h e = refl
one_below [] (m ∷ ms) g h e = cc
one_below (n ∷ ns) [] g h e = cc
one_below (n ∷ ns) (m ∷ ms) g h e =
    let a = both (is_good_name n) (list_all is_good_name ns) g in
    let b = both (is_good_name m) (list_all is_good_name ms) h in
    let rest : n ++ below_text ns ≡ m ++ below_text ms = cc in
    let cut = one_cut slash n m (below_text ns) (below_text ms) (no_slash n (good_bytes n a.0)) (no_slash m (good_bytes m b.0)) (below_stops ns) (below_stops ms) rest in
    ap (λ (l : List ℕ). l ∷ ns) cut.0 ∙ ap (λ (l : List (List ℕ)). m ∷ l) (one_below ns ms a.1 b.1 cut.1)

-- the second byte of a hierarchy tells it
axis_byte : Axis → ℕ
axis_byte Code = 0x43
axis_byte Machine = 0x4d
axis_byte SyncObject = 0x53

second : (axis : Axis) (rest : List ℕ) → get_or (axis_name axis ++ rest) 1 0 ≡ axis_byte axis
unfolding axis_byte
second Code rest = refl
second Machine rest = refl
second SyncObject rest = refl

one_axis : (a b : Axis) → axis_byte a ≡ axis_byte b → a ≡ b
unfolding axis_byte
one_axis Code Code e = refl
one_axis Code Machine e = absurd (omega (arith, e))
one_axis Code SyncObject e = absurd (omega (arith, e))
one_axis Machine Code e = absurd (omega (arith, e))
one_axis Machine Machine e = refl
one_axis Machine SyncObject e = absurd (omega (arith, e))
one_axis SyncObject Code e = absurd (omega (arith, e))
one_axis SyncObject Machine e = absurd (omega (arith, e))
one_axis SyncObject SyncObject e = refl

behind_axis : (axis : Axis) (x y : List ℕ) → axis_name axis ++ x ≡ axis_name axis ++ y → x ≡ y
behind_axis Code x y e = cc
behind_axis Machine x y e = cc
behind_axis SyncObject x y e = cc

pub one_part : (p q : Part) → is_part p ≡ true → is_part q ≡ true → part_text p ≡ part_text q → p ≡ q
one_part p q g h e =
    let a = both (nat_le (length p.names) (depth p.axis)) (list_all is_good_name p.names) g in
    let b = both (nat_le (length q.names) (depth q.axis)) (list_all is_good_name q.names) h in
    let axis : p.axis ≡ q.axis =
    one_axis p.axis q.axis (sym (second p.axis (below_text p.names)) ∙ ap (λ (l : List ℕ). get_or l 1 0) e ∙ second q.axis (below_text q.names)) in
    let below = behind_axis q.axis (below_text p.names) (below_text q.names) (sym (ap (λ (x : Axis). axis_name x ++ below_text p.names) axis) ∙ e) in
    let names = one_below p.names q.names a.1 b.1 below in
    let one : Part = record { axis = q.axis; names = p.names } in
    let same : p ≡ one = ap (λ (x : Axis). record { axis = x; names = p.names }) axis in
    same ∙ ap (λ (l : List (List ℕ)). record { axis = q.axis; names = l }) names

-- parts after others
one_more : (ps qs : List Part) → list_all is_part ps ≡ true → list_all is_part qs ≡ true → more_text ps ≡ more_text qs → ps ≡ qs
one_more [] [] g h e = refl
one_more [] (q ∷ qs) g h e = cc
one_more (p ∷ ps) [] g h e = cc
one_more (p ∷ ps) (q ∷ qs) g h e =
    let a = both (is_part p) (list_all is_part ps) g in
    let b = both (is_part q) (list_all is_part qs) h in
    let rest : part_text p ++ more_text ps ≡ part_text q ++ more_text qs = cc in
    let cut = one_cut is_comma (part_text p) (part_text q) (more_text ps) (more_text qs) (part_comma p a.0) (part_comma q b.0) (more_stops ps) (more_stops qs) rest in
    ap (λ (x : Part). x ∷ ps) (one_part p q a.0 b.0 cut.0) ∙ ap (λ (l : List Part). q ∷ l) (one_more ps qs a.1 b.1 cut.1)

behind_comma : (ps : List Part) → 0 < length ps → more_text ps ≡ 0x2c ∷ parts_text ps
behind_comma [] h = absurd (omega (arith, h))
behind_comma (p ∷ ps) h = refl

pub one_spelling : OneSpelling
one_spelling ps qs a b e =
    one_more ps qs (all_good ps a) (all_good qs b)
    (behind_comma ps a.0 ∙ ap (λ (l : List ℕ). 0x2c ∷ l) e ∙ sym (behind_comma qs b.0))

-- ---- what a text is read as

same_spelled : (t : Resources) (text : List ℕ) (r s : Result Focus FocusFault) → IsSpelled t text r → IsSpelled t text s → r ≡ s
same_spelled t text r s a b =
    let parts = one_spelling a.parts b.parts a.are_parts b.are_parts (sym a.spelled ∙ b.spelled) in
    sym a.selected ∙ ap (focus_of t) parts ∙ b.selected

is_text : (t : Resources) (text : List ℕ) (r : Result Focus FocusFault) → IsSpelled t text r → IsFocusText text
is_text t text r a = record { parts = a.parts; are_parts = a.are_parts; spelled = a.spelled }

-- a beginning of what goes on goes on
shorter : (text : List ℕ) (m n : ℕ) → m ≤ n → GoesOn (take n text) → GoesOn (take m text)
shorter text m n le g =
    let e : take n text ≡ take m text ++ drop m (take n text) = sym (take-append-drop m (take n text)) ∙ ap (λ (l : List ℕ). l ++ drop m (take n text)) (take-take m n text le) in
    (drop m (take n text) ++ g.0, subst IsFocusText (ap (λ (l : List ℕ). l ++ g.0) e ∙ append_assoc (take m text) (drop m (take n text)) g.0) g.1)

not_before : (text : List ℕ) (m n : ℕ) → IsFaultAt text m → IsFaultAt text n → m < n → ⊥
not_before text m n a b lt = a.here (omega (arith, b.within)) (shorter text (suc m) n (omega arith) b.before)

same_place : (text : List ℕ) (m n : ℕ) → IsFaultAt text m → IsFaultAt text n → m ≡ n
same_place text m n a b = elim (cases_lt m n) [
  | inl lt ↦ absurd (not_before text m n a b lt)
  | inr ge ↦ elim (cases_lt n m) [
    | inl lt ↦ absurd (not_before text n m b a lt)
    | inr le ↦ omega arith
  ]
]

pub one_reading : OneReading
one_reading t text (Ok f) (Ok g) a b = same_spelled t text (Ok f) (Ok g) a b
one_reading t text (Ok f) (Err (NoSuchNode n)) a b = same_spelled t text (Ok f) (Err (NoSuchNode n)) a b
one_reading t text (Ok f) (Err (Form n)) a b = absurd (b.early (is_text t text (Ok f) a))
one_reading t text (Err (NoSuchNode m)) (Ok g) a b = same_spelled t text (Err (NoSuchNode m)) (Ok g) a b
one_reading t text (Err (NoSuchNode m)) (Err (NoSuchNode n)) a b = same_spelled t text (Err (NoSuchNode m)) (Err (NoSuchNode n)) a b
one_reading t text (Err (NoSuchNode m)) (Err (Form n)) a b = absurd (b.early (is_text t text (Err (NoSuchNode m)) a))
one_reading t text (Err (Form m)) (Ok g) a b = absurd (a.early (is_text t text (Ok g) b))
one_reading t text (Err (Form m)) (Err (NoSuchNode n)) a b = absurd (a.early (is_text t text (Err (NoSuchNode n)) b))
one_reading t text (Err (Form m)) (Err (Form n)) a b = ap (λ (k : ℕ). Err (Form k)) (same_place text m n a b)

abbrev answer : Focus → Result Focus FocusFault
answer f = Ok f

some_inside : (f g : Focus) → answer f ≡ answer g → Some f ≡ Some g
some_inside f g e = cc

pub one_selection : OneSelection
one_selection t text None None a b = refl
one_selection t text None (Some g) a b = absurd (a g b)
one_selection t text (Some f) None a b = absurd (b f a)
one_selection t text (Some f) (Some g) a b = some_inside f g (one_reading t text (Ok f) (Ok g) a b)

-- where a text is read as no focus it selects none
pub unselected : (t : Resources) (text : List ℕ) (fault : FocusFault) → IsReading t text (Err fault) → Selects t text None
unselected t text fault r f s = let e = one_reading t text (Err fault) (Ok f) r s in absurd cc

-- ---- what the parts of a text are read as

nodes_form : (t : Resources) (n place : ℕ) (f : Focus) (ps : List Part) → with_nodes t n f ps ≡ Err (Form place) → ⊥
nodes_form t n place f [] e = cc
nodes_form t n place f (p ∷ ps) e = go (with_node t f p.axis p.names) refl (λ g h. nodes_form t (n + 1) place g ps h)
  where
    go : (o : Option Focus) → with_node t f p.axis p.names ≡ o → ((g : Focus) → with_nodes t (n + 1) g ps ≡ Err (Form place) → ⊥) → ⊥
    go None is later = let h = sym (nodes_none t n f p ps is) ∙ e in absurd cc
    go (Some g) is later = later g (sym (nodes_some t n f g p ps is) ∙ e)

pub reading_of : (t : Resources) (text : List ℕ) (r : Result Focus FocusFault) → IsFocusText text → ((ps : List Part) → AreParts ps → text ≡ parts_text ps → r ≡ focus_of t ps) → IsReading t text r
reading_of t text (Ok f) is parts = record { parts = is.parts; are_parts = is.are_parts; spelled = is.spelled; selected = sym (parts is.parts is.are_parts is.spelled) }
reading_of t text (Err (NoSuchNode n)) is parts = record { parts = is.parts; are_parts = is.are_parts; spelled = is.spelled; selected = sym (parts is.parts is.are_parts is.spelled) }
reading_of t text (Err (Form place)) is parts = absurd (nodes_form t 0 place root is.parts (sym (parts is.parts is.are_parts is.spelled)))
