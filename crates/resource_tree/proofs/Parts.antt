-- The parts of a focus text, one after another.
use Rattle.std.proofs.Common.{◌≡◌, ℕ, suc, ◌+◌, ◌<◌, ◌≤◌, ◌==◌, ◌&&◌, ◌||◌, not, nat_le, Bool, true, false, List, [], ◌∷◌, ◌++◌, length, take, drop, position, Option, Some, None, Result, Ok, Err, refl, sym, ap, ◌∙◌, arith, append_assoc}
use Rattle.std.proofs.lemmas.List.{append-nil, length-append}
use Rattle.std.specs.List.{list_all, list_any, position_from}
use Rattle.std.proofs.lemmas.Iterator.Adapters.{position_from-zero}
use Rattle.pn_types.specs.GoodNames.{is_name_byte, is_good_name}
use Rattle.pn_types.specs.declared.focus.Axis.{Axis}
use Rattle.pn_types.specs.declared.focus.Axis.TheVariants.{Code, Machine, SyncObject}
use Rattle.pn_types.specs.declared.focus.Focus.{Focus}
use Rattle.resource_tree.specs.FocusTexts.{Part, axis_name, depth, has, without, every_axis, is_comma, is_part, are_parts_of, AreParts, below_text, part_text, more_text, parts_text}
use Rattle.resource_tree.specs.Foci.{with_node, with_nodes, focus_of, root}
use Rattle.resource_tree.specs.Resources.{Resources}
use Rattle.resource_tree.specs.declared.fault.FocusFault.{FocusFault}
use Rattle.resource_tree.specs.declared.fault.FocusFault.TheVariants.{NoSuchNode}
use Rattle.resource_tree.specs.declared.hierarchy.Axes.{Axes}
use Rattle.resource_tree.proofs.FormStates.{both}

-- no comma in a part
any_append : (p : ℕ → Bool) (a b : List ℕ) → list_any p (a ++ b) ≡ list_any p a || list_any p b
any_append p [] b = refl
any_append p (x ∷ a) b = by (p x) ∙ ap (λ (c : Bool). p x || c) (any_append p a b) ∙ or_assoc (p x)
  where
    by : (c : Bool) → c || list_any p (a ++ b) ≡ c || list_any p (a ++ b)
    by c = refl

    or_assoc : (c : Bool) → c || (list_any p a || list_any p b) ≡ (c || list_any p a) || list_any p b
    or_assoc true = refl
    or_assoc false = refl

name_comma : (name : List ℕ) → list_all is_name_byte name ≡ true → list_any is_comma name ≡ false
name_comma [] h = refl
name_comma (b ∷ bs) h =
    let p = both (is_name_byte b) (list_all is_name_byte bs) h in
    let q = both (nat_le 0x21 b && nat_le b 0x7e && not (b == 0x2f) && not (b == 0x2c)) (not (b == 0x3b)) p.0 in
    let r = both (nat_le 0x21 b && nat_le b 0x7e && not (b == 0x2f)) (not (b == 0x2c)) q.0 in
    let f : (b == 0x2c) ≡ false = is_not (b == 0x2c) r.1 in
    rw (f, name_comma bs p.1) refl
  where
    is_not : (x : Bool) → not x ≡ true → x ≡ false
    is_not true g = cc
    is_not false g = refl

below_comma : (names : List (List ℕ)) → list_all is_good_name names ≡ true → list_any is_comma (below_text names) ≡ false
below_comma [] h = refl
below_comma (name ∷ names) h =
    let p = both (is_good_name name) (list_all is_good_name names) h in
    let g = both (nat_le 1 (length name) && nat_le (length name) 200) (list_all is_name_byte name) p.0 in
    any_append is_comma name (below_text names) ∙ ap (λ (c : Bool). c || list_any is_comma (below_text names)) (name_comma name g.1) ∙ below_comma names p.1

axis_comma : (axis : Axis) → list_any is_comma (axis_name axis) ≡ false
axis_comma Code = refl
axis_comma Machine = refl
axis_comma SyncObject = refl

pub part_comma : (p : Part) → is_part p ≡ true → list_any is_comma (part_text p) ≡ false
part_comma p h =
    let g = both (nat_le (length p.names) (depth p.axis)) (list_all is_good_name p.names) h in
    any_append is_comma (axis_name p.axis) (below_text p.names) ∙ ap (λ (c : Bool). c || list_any is_comma (below_text p.names)) (axis_comma p.axis) ∙ below_comma p.names g.1

pub or_parts : (a b : Bool) → a || b ≡ false → (a ≡ false) × (b ≡ false)
or_parts true b h = cc
or_parts false b h = (refl, h)

none_from : (i : ℕ) (a : List ℕ) → list_any is_comma a ≡ false → position_from is_comma i a ≡ None
none_from i [] h = refl
none_from i (x ∷ a) h = let p = or_parts (is_comma x) (list_any is_comma a) h in rw p.0 (none_from (i + 1) a p.1)

first_from : (i : ℕ) (a b : List ℕ) → list_any is_comma a ≡ false → position_from is_comma i (a ++ 0x2c ∷ b) ≡ Some (i + length a)
first_from i [] b h = let k : i ≡ i + 0 = omega arith in ap Some k
first_from i (x ∷ a) b h =
    let p = or_parts (is_comma x) (list_any is_comma a) h in
    let k : i + 1 + length a ≡ i + suc (length a) = omega arith in
    rw p.0 (first_from (i + 1) a b p.1 ∙ ap Some k)

no_comma : (a : List ℕ) → list_any is_comma a ≡ false → position is_comma a ≡ None
no_comma a h = position_from-zero is_comma a ∙ none_from 0 a h

comma_at : (a b : List ℕ) → list_any is_comma a ≡ false → position is_comma (a ++ 0x2c ∷ b) ≡ Some (length a)
comma_at a b h = let k : 0 + length a ≡ length a = omega arith in position_from-zero is_comma (a ++ 0x2c ∷ b) ∙ first_from 0 a b h ∙ ap Some k

-- a part and the parts after it
pub record Splits (text part : List ℕ) (at : Option ℕ) (ps : List Part) : Type 0 where
  pub last : at ≡ None → (text ≡ part) × (ps ≡ [])
  pub more : (end : ℕ) → at ≡ Some end → (take end text ≡ part) × (0 < length ps) × (drop (end + 1) text ≡ parts_text ps)

take_front : (a b : List ℕ) → take (length a) (a ++ b) ≡ a
take_front [] b = refl
take_front (x ∷ a) b = ap (λ (l : List ℕ). x ∷ l) (take_front a b)

drop_front : (a b : List ℕ) → drop (length a) (a ++ b) ≡ b
drop_front [] b = refl
drop_front (x ∷ a) b = drop_front a b

drop_comma : (a b : List ℕ) → drop (length a + 1) (a ++ 0x2c ∷ b) ≡ b
drop_comma a b =
    let k : length a + 1 ≡ length (a ++ 0x2c ∷ []) = simp length-append in
    ap (λ (n : ℕ). drop n (a ++ 0x2c ∷ b)) k ∙ ap (drop (length (a ++ 0x2c ∷ []))) (sym (append_assoc a (0x2c ∷ []) b)) ∙ drop_front (a ++ 0x2c ∷ []) b

some_none : {A : Type 0} (x : A) (o : Option A) → o ≡ Some x → o ≡ None → ⊥
some_none x o h g = cc

same_some : (a b : ℕ) (o : Option ℕ) → o ≡ Some a → o ≡ Some b → a ≡ b
same_some a b o h g = cc

pub splits : (p : Part) (ps : List Part) (text : List ℕ) → is_part p ≡ true → text ≡ parts_text (p ∷ ps) → Splits text (part_text p) (position is_comma text) ps
splits p [] text good e =
    let same : text ≡ part_text p = e ∙ append-nil (part_text p) in
    let none : position is_comma text ≡ None = ap (position is_comma) same ∙ no_comma (part_text p) (part_comma p good) in
    record {
      last = λ _. (same, refl);
      more = λ end h. absurd (some_none end (position is_comma text) h none);
    }
splits p (q ∷ qs) text good e =
    let at : position is_comma text ≡ Some (length (part_text p)) = ap (position is_comma) e ∙ comma_at (part_text p) (parts_text (q ∷ qs)) (part_comma p good) in
    record {
      last = λ h. absurd (some_none (length (part_text p)) (position is_comma text) at h);
      more = λ end h.
          let k : end ≡ length (part_text p) = same_some end (length (part_text p)) (position is_comma text) h at in (
            ap (λ (n : ℕ). take n text) k ∙ ap (take (length (part_text p))) e ∙ take_front (part_text p) (more_text (q ∷ qs)),
            omega arith,
            ap (λ (n : ℕ). drop (n + 1) text) k ∙ ap (drop (length (part_text p) + 1)) e ∙ drop_comma (part_text p) (parts_text (q ∷ qs)),
          );
    }

-- what is left of the parts, where the result is that of all of them
pub record Remains (t : Resources) (n : ℕ) (f : Focus) (rest : List ℕ) (answer : Result Focus FocusFault) : Type 0 where
  pub parts : List Part
  pub some : 0 < length parts
  pub good : list_all is_part parts ≡ true
  pub few : n + length parts ≤ 3
  pub spelled : rest ≡ parts_text parts
  pub answers : with_nodes t n f parts ≡ answer

-- how many hierarchies
bit : Bool → ℕ
bit true = 1
bit false = 0

axes_count : Axes → ℕ
axes_count axes = bit axes.code + bit axes.machine + bit axes.sync_object

count_without : (axes : Axes) (axis : Axis) → has axes axis ≡ true → axes_count (without axes axis) + 1 ≡ axes_count axes
unfolding axes_count bit
count_without axes Code h = rw h (omega arith)
count_without axes Machine h = rw h (omega arith)
count_without axes SyncObject h = rw h (omega arith)

good_parts : (axes : Axes) (ps : List Part) → are_parts_of axes ps ≡ true → (list_all is_part ps ≡ true) × (length ps ≤ axes_count axes)
good_parts axes [] h = (refl, omega arith)
good_parts axes (p ∷ ps) h =
    let a = both (has axes p.axis && is_part p) (are_parts_of (without axes p.axis) ps) h in
    let b = both (has axes p.axis) (is_part p) a.0 in
    let rest = good_parts (without axes p.axis) ps a.1 in
    let k = count_without axes p.axis b.0 in
    (rw b.1 rest.0, omega (arith, rest.1, k))

pub all_good : (ps : List Part) → AreParts ps → list_all is_part ps ≡ true
all_good ps h = (good_parts every_axis ps h.1).0

three : axes_count every_axis ≡ 3
unfolding axes_count bit
three = refl

pub all_remain : (t : Resources) (text : List ℕ) (ps : List Part) → AreParts ps → text ≡ parts_text ps → Remains t 0 root text (focus_of t ps)
all_remain t text ps h e =
    let g = good_parts every_axis ps h.1 in
    record { parts = ps; some = h.0; good = g.0; few = omega (arith, g.1, three); spelled = e; answers = refl }

-- the first of the parts that are left
pub record Next (t : Resources) (n : ℕ) (f : Focus) (rest : List ℕ) (answer : Result Focus FocusFault) : Type 0 where
  pub part : Part
  pub behind : List Part
  pub good : is_part part ≡ true
  pub spelled : rest ≡ parts_text (part ∷ behind)
  pub none : with_node t f part.axis part.names ≡ None → Err (NoSuchNode n) ≡ answer
  pub last : (g : Focus) → with_node t f part.axis part.names ≡ Some g → behind ≡ [] → Ok g ≡ answer
  pub more : (g : Focus) (text : List ℕ) → with_node t f part.axis part.names ≡ Some g → 0 < length behind → text ≡ parts_text behind → Remains t (n + 1) g text answer

pub nodes_none : (t : Resources) (n : ℕ) (f : Focus) (p : Part) (ps : List Part) → with_node t f p.axis p.names ≡ None → with_nodes t n f (p ∷ ps) ≡ Err (NoSuchNode n)
nodes_none t n f p ps h = rw (h, with_nodes) refl

pub nodes_some : (t : Resources) (n : ℕ) (f g : Focus) (p : Part) (ps : List Part) → with_node t f p.axis p.names ≡ Some g → with_nodes t n f (p ∷ ps) ≡ with_nodes t (n + 1) g ps
nodes_some t n f g p ps h = rw (h, with_nodes) refl

next_of : (t : Resources) (n : ℕ) (f : Focus) (rest : List ℕ) (answer : Result Focus FocusFault) (ps : List Part) → 0 < length ps → list_all is_part ps ≡ true → n + length ps ≤ 3 → rest ≡ parts_text ps → with_nodes t n f ps ≡ answer → Next t n f rest answer
next_of t n f rest answer [] some good few e a = absurd (omega (arith, some))
next_of t n f rest answer (p ∷ ps) some good few e a =
    let g = both (is_part p) (list_all is_part ps) good in
    record {
      part = p;
      behind = ps;
      good = g.0;
      spelled = e;
      none = λ h. sym (nodes_none t n f p ps h) ∙ a;
      last = λ x h no. sym (nodes_some t n f x p ps h ∙ ap (with_nodes t (n + 1) x) no) ∙ a;
      more = λ x text h left is. record {
        parts = ps;
        some = left;
        good = g.1;
        few = omega (arith, few);
        spelled = is;
        answers = sym (nodes_some t n f x p ps h) ∙ a;
      };
    }

pub next : (t : Resources) (n : ℕ) (f : Focus) (rest : List ℕ) (answer : Result Focus FocusFault) → Remains t n f rest answer → Next t n f rest answer
next t n f rest answer r = next_of t n f rest answer r.parts r.some r.good r.few r.spelled r.answers

-- three parts leave none
pub no_more : (t : Resources) (n : ℕ) (f : Focus) (rest : List ℕ) (answer : Result Focus FocusFault) → Remains t n f rest answer → 3 ≤ n → ⊥
no_more t n f rest answer r h = omega (arith, r.some, r.few, h)
