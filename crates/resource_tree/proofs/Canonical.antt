-- The canonical text of a focus is read as that focus.
use Rattle.std.proofs.Common.{◌≡◌, ℕ, zero, suc, ◌+◌, ◌<◌, ◌≤◌, ◌%◌, ◌/◌, nat_le, nat_lt, cond, Bool, true, false, List, [], ◌∷◌, ◌++◌, length, map, position, slice_get, bytes_eq, codes, Option, Some, None, refl, sym, ap, ◌∙◌, arith, rules, append_assoc}
use Rattle.std.proofs.lemmas.List.{append-nil}
use Rattle.std.proofs.lemmas.Option.{slice_get-map, slice_get_within, slice_get_past}
use Rattle.std.proofs.lemmas.Fmt.{decimal_digit, decimal_step, decimal_is_IsNumeral}
use Rattle.std.specs.Cmp.Lexicographic.{bytes_decides}
use Rattle.std.specs.Fmt.{decimal}
use Rattle.std.specs.Str.Parse.{digits_value}
use borrow.Author.Tests.{ltb-true, ltb-false}
use Rattle.std.proofs.lemmas.List.FromFn.{length-map-range_with_len}
use Rattle.std.specs.List.{list_all, position_from}
use Rattle.std.specs.Option.{option_map}
use Rattle.std.proofs.lemmas.Iterator.Adapters.{position_from-zero}
use Rattle.pn_types.specs.declared.limits.TheConstants.{MAX_HARTS}
use Rattle.pn_types.specs.GoodNames.{is_name_byte, is_good_name}
use Rattle.pn_types.specs.declared.focus.Axis.TheVariants.{Code, Machine, SyncObject}
use Rattle.pn_types.specs.declared.focus.CodePart.{CodePart}
use Rattle.pn_types.specs.declared.focus.CodePart.TheVariants.{All, Module, Procedure}
use Rattle.pn_types.specs.declared.focus.Focus.{Focus}
use Rattle.resource_tree.specs.FocusTexts.{Part, are_parts_of, every_axis, below_text}
use Rattle.resource_tree.specs.Foci.{root, with_code, with_hart, with_object, code_named, is_named, path_of, hart_named, object_named, hart_name, hart_names, IsCodeOf, IsBelow, IsFocusOf, IsTextOf, named_text, code_text, hart_text, object_text, canonical}
use Rattle.resource_tree.specs.Names.{AreApart, IsNamed}
use Rattle.resource_tree.specs.Resources.{Resources, CodeNodes, ModuleNode, ProcNode, ObjectNode}
use Rattle.resource_tree.proofs.FormStates.{both}
use Rattle.resource_tree.proofs.Parts.{nodes_some}
use Rattle.resource_tree.proofs.Ranges.{range_at}

-- the first place of what passes a test
module _ {X : Type 0} (passes : X → Bool) where
  record Found (i : ℕ) (xs : List X) : Type 0 where
    pub place : ℕ
    pub item : X
    pub at : slice_get xs place ≡ Some item
    pub good : passes item ≡ true
    pub first : position_from passes i xs ≡ Some (i + place)

  found : (i : ℕ) (xs : List X) (k : ℕ) (x : X) → slice_get xs k ≡ Some x → passes x ≡ true → Found i xs
  found i [] k x h e = let past = slice_get_past {X = X} [] k (omega arith) in cc
  found i (y ∷ ys) k x h e = by (passes y) refl k h (λ j g. found (i + 1) ys j x g e)
    where
      by : (b : Bool) → passes y ≡ b → (j : ℕ) → slice_get (y ∷ ys) j ≡ Some x → ((m : ℕ) → slice_get ys m ≡ Some x → Found (i + 1) ys) → Found i (y ∷ ys)
      by true q j g rest =
          let z : i ≡ i + 0 = omega arith in
          record {
            place = 0;
            item = y;
            at = refl;
            good = q;
            first = ap (λ (b : Bool). cond b (Some i) (position_from passes (i + 1) ys)) q ∙ ap Some z;
          }
      by false q zero g rest =
          let same : y ≡ x = cc in
          let yes : passes y ≡ true = ap passes same ∙ e in
          cc
      by false q (suc m) g rest =
          let r = rest m g in
          let z : i + 1 + r.place ≡ i + suc r.place = omega arith in
          record {
            place = suc r.place;
            item = r.item;
            at = r.at;
            good = r.good;
            first = ap (λ (b : Bool). cond b (Some i) (position_from passes (i + 1) ys)) q ∙ r.first ∙ ap Some z;
          }

  -- what alone passes is found
  only_place : (xs : List X) (k : ℕ) (x : X) → slice_get xs k ≡ Some x → passes x ≡ true → ((j : ℕ) (y : X) → slice_get xs j ≡ Some y → passes y ≡ true → j ≡ k) → position passes xs ≡ Some k
  only_place xs k x h e alone =
      let r = found 0 xs k x h e in
      let z : 0 + r.place ≡ k = omega (arith, alone r.place r.item r.at r.good) in
      position_from-zero passes xs ∙ r.first ∙ ap Some z

-- a name that stands at one place is found there
own_place : {X : Type 0} (f : X → List ℕ) (name : List ℕ) (xs : List X) (k : ℕ) (x : X) → AreApart (map f xs) → slice_get xs k ≡ Some x → f x ≡ name → position (λ x. bytes_eq name (f x)) xs ≡ Some k
own_place f name xs k x apart h e =
    only_place (λ x. bytes_eq name (f x)) xs k x h ((bytes_decides name (f x)).1 (sym e))
    (λ j y g q. apart j k name (slice_get-map f xs j ∙ ap (option_map f) g ∙ ap Some (sym ((bytes_decides name (f y)).0 q))) (slice_get-map f xs k ∙ ap (option_map f) h ∙ ap Some e))

-- an element that is there
pub there : {X : Type 0} (xs : List X) (k : ℕ) → k < length xs → (x : X) × (slice_get xs k ≡ Some x)
there [] k h = absurd (omega (arith, h))
there (x ∷ xs) zero h = (x, refl)
there (x ∷ xs) (suc k) h = there xs k (omega (arith, h))

-- the node of the code
pub record CodeRead (c : CodeNodes) (node : CodePart) : Type 0 where
  pub names : List (List ℕ)
  pub few : length names ≤ 2
  pub good : list_all is_good_name names ≡ true
  pub text : code_text c node ≡ below_text names
  pub found : code_named c names ≡ Some node

plain : (names : List (List ℕ)) → map (λ (name : List ℕ). name) names ≡ names
plain [] = refl
plain (n ∷ ns) = ap (λ (l : List (List ℕ)). n ∷ l) (plain ns)

pub code_read : (t : Resources) (node : CodePart) → IsNamed t → IsCodeOf t.code node → CodeRead t.code node
code_read t All n h = record { names = []; few = omega arith; good = refl; text = refl; found = refl }
code_read t (Module m) n h =
    let x = there t.code.modules m h in
    let name = x.0.name in
    let g = n.modules.good m name (slice_get-map (λ q. q.name) t.code.modules m ∙ ap (option_map (λ (q : ModuleNode). q.name)) x.1) in
    record {
      names = name ∷ [];
      few = omega arith;
      good = rw g refl;
      text = ap (λ (o : Option ModuleNode). named_text (option_map (λ q. q.name) o)) x.1 ∙ ap (λ (l : List ℕ). 0x2f ∷ l) (sym (append-nil name));
      found = ap (option_map Module) (own_place (λ q. q.name) name t.code.modules m x.0 n.modules.apart x.1 refl);
    }
code_read t (Procedure p) n h =
    let x = there t.code.procs p h in
    let m = x.0.«module» in
    let name = x.0.name in
    let good = n.procs p x.0 x.1 in
    let own : is_named m name x.0 ≡ true = rw ((bytes_decides m m).1 refl, (bytes_decides name name).1 refl) refl in
    record {
      names = m ∷ name ∷ [];
      few = omega arith;
      good = rw (good.0, good.1) refl;
      text = ap (λ (o : Option ProcNode). named_text (option_map path_of o)) x.1 ∙ ap (λ (l : List ℕ). 0x2f ∷ (m ++ 0x2f ∷ l)) (sym (append-nil name));
      found = ap (option_map Procedure) (only_place (is_named m name) t.code.procs p x.0 x.1 own (λ j y g q.
          let b = both (bytes_eq m y.«module») (bytes_eq name y.name) q in
          n.procs_apart j p y x.0 g x.1 (sym ((bytes_decides m y.«module»).0 b.0)) (sym ((bytes_decides name y.name).0 b.1))));
    }

-- the node of the machine
pub record HartRead (harts : ℕ) (node : Option ℕ) : Type 0 where
  pub names : List (List ℕ)
  pub few : length names ≤ 1
  pub good : list_all is_good_name names ≡ true
  pub text : hart_text node ≡ below_text names
  pub found : hart_named harts names ≡ Some node

digit_byte : (d : ℕ) → d < 10 → is_name_byte (48 + d) ≡ true
digit_byte zero h = refl
digit_byte (suc zero) h = refl
digit_byte (suc (suc zero)) h = refl
digit_byte (suc (suc (suc zero))) h = refl
digit_byte (suc (suc (suc (suc zero)))) h = refl
digit_byte (suc (suc (suc (suc (suc zero))))) h = refl
digit_byte (suc (suc (suc (suc (suc (suc zero)))))) h = refl
digit_byte (suc (suc (suc (suc (suc (suc (suc zero))))))) h = refl
digit_byte (suc (suc (suc (suc (suc (suc (suc (suc zero)))))))) h = refl
digit_byte (suc (suc (suc (suc (suc (suc (suc (suc (suc zero))))))))) h = refl
digit_byte (suc (suc (suc (suc (suc (suc (suc (suc (suc (suc n)))))))))) h = absurd (omega (arith, h))

decimal_good : (k : ℕ) → k < 100 → is_good_name (104 ∷ 97 ∷ 114 ∷ 116 ∷ decimal k) ≡ true
decimal_good k h = by (nat_lt k 10) refl
  where
    by : (b : Bool) → nat_lt k 10 ≡ b → is_good_name (104 ∷ 97 ∷ 114 ∷ 116 ∷ decimal k) ≡ true
    by true q =
        let lt : k < 10 = ltb-true k 10 q in
        ap (λ (ds : List ℕ). is_good_name (104 ∷ 97 ∷ 114 ∷ 116 ∷ ds)) (decimal_digit k lt) ∙ rw (digit_byte k lt) refl
    by false q =
        let ge : 10 ≤ k = ltb-false k 10 q in
        let high : k / 10 < 10 = omega arith in
        let low : k % 10 < 10 = omega arith in
        let two : decimal k ≡ (48 + k / 10) ∷ (48 + k % 10) ∷ [] =
        decimal_step k ge (omega arith) ∙ ap (λ (ds : List ℕ). ds ++ ((48 + k % 10) ∷ [])) (decimal_digit (k / 10) high) in
        ap (λ (ds : List ℕ). is_good_name (104 ∷ 97 ∷ 114 ∷ 116 ∷ ds)) two ∙ rw (digit_byte (k / 10) high, digit_byte (k % 10) low) refl

same_name : (j k : ℕ) → j < MAX_HARTS → k < MAX_HARTS → hart_name j ≡ hart_name k → j ≡ k
same_name j k h g e =
    let same : decimal j ≡ decimal k = cc in
    sym (decimal_is_IsNumeral j (omega arith)).1 ∙ ap (digits_value 10) same ∙ (decimal_is_IsNumeral k (omega arith)).1

some_equal : (a b name : List ℕ) → Some a ≡ Some name → Some b ≡ Some name → a ≡ b
some_equal a b name h g = cc

harts_apart : (n : ℕ) → n ≤ MAX_HARTS → AreApart (map (λ (q : List ℕ). q) (hart_names n))
harts_apart n le j k name h g =
    let names = hart_names n in
    let len = length-map-range_with_len hart_name 0 n in
    let h' : slice_get names j ≡ Some name = ap (λ (l : List (List ℕ)). slice_get l j) (sym (plain names)) ∙ h in
    let g' : slice_get names k ≡ Some name = ap (λ (l : List (List ℕ)). slice_get l k) (sym (plain names)) ∙ g in
    let a : j < n = omega (arith, slice_get_within names j name h', len) in
    let b : k < n = omega (arith, slice_get_within names k name g', len) in
    same_name j k (omega (arith, a, le)) (omega (arith, b, le)) (some_equal (hart_name j) (hart_name k) name (sym (range_at hart_name n j a) ∙ h') (sym (range_at hart_name n k b) ∙ g'))

pub hart_read : (harts : ℕ) (node : Option ℕ) → harts ≤ MAX_HARTS → IsBelow harts node → HartRead harts node
hart_read harts None le h = record { names = []; few = omega arith; good = refl; text = refl; found = refl }
hart_read harts (Some k) le h = record {
  names = hart_name k ∷ [];
  few = omega arith;
  good = rw (decimal_good k (omega (arith, h, le))) refl;
  text = ap (λ (l : List ℕ). 0x2f ∷ l) (sym (append-nil (hart_name k)));
  found = ap (option_map Some) (own_place (λ q. q) (hart_name k) (hart_names harts) k (hart_name k) (harts_apart harts le) (range_at hart_name harts k h) refl);
}

-- the node of the objects
pub record ObjectRead (os : List ObjectNode) (node : Option ℕ) : Type 0 where
  pub names : List (List ℕ)
  pub few : length names ≤ 1
  pub good : list_all is_good_name names ≡ true
  pub text : object_text os node ≡ below_text names
  pub found : object_named os names ≡ Some node

pub object_read : (t : Resources) (node : Option ℕ) → IsNamed t → IsBelow (length t.objects) node → ObjectRead t.objects node
object_read t None n h = record { names = []; few = omega arith; good = refl; text = refl; found = refl }
object_read t (Some k) n h =
    let x = there t.objects k h in
    let name = x.0.name in
    let g = n.objects.good k name (slice_get-map (λ q. q.name) t.objects k ∙ ap (option_map (λ (q : ObjectNode). q.name)) x.1) in
    record {
      names = name ∷ [];
      few = omega arith;
      good = rw g refl;
      text = ap (λ (o : Option ObjectNode). named_text (option_map (λ q. q.name) o)) x.1 ∙ ap (λ (l : List ℕ). 0x2f ∷ l) (sym (append-nil name));
      found = ap (option_map Some) (own_place (λ q. q.name) name t.objects k x.0 n.objects.apart x.1 refl);
    }

regroup : (c a m b s o : List ℕ) → c ++ a ++ m ++ b ++ s ++ o ≡ (c ++ a) ++ (m ++ (b ++ (s ++ o)))
regroup c a m b s o = simp append_assoc

joined_text : (a b o : List ℕ) → codes "/Code" ++ a ++ codes ",/Machine" ++ b ++ codes ",/SyncObject" ++ o ≡ (codes "/Code" ++ a) ++ (codes ",/Machine" ++ (b ++ (codes ",/SyncObject" ++ (o ++ []))))
joined_text a b o =
    regroup (codes "/Code") a (codes ",/Machine") b (codes ",/SyncObject") o
    ∙ ap (λ (l : List ℕ). (codes "/Code" ++ a) ++ (codes ",/Machine" ++ (b ++ (codes ",/SyncObject" ++ l)))) (sym (append-nil o))

le_test : (a b : ℕ) → a ≤ b → nat_le a b ≡ true
le_test a b h = search rules

-- a canonical text is read as its focus
pub canonical_reads : (t : Resources) (f : Focus) → t.harts ≤ MAX_HARTS → IsNamed t → IsFocusOf t f → IsTextOf t (canonical t f) f
canonical_reads t f le n h =
    let a = code_read t f.code n h.code in
    let b = hart_read t.harts f.hart le h.hart in
    let o = object_read t f.object n h.object in
    let la = le_test (length a.names) 2 a.few in
    let lb = le_test (length b.names) 1 b.few in
    let lo = le_test (length o.names) 1 o.few in
    let p : Part = record { axis = Code; names = a.names } in
    let q : Part = record { axis = Machine; names = b.names } in
    let r : Part = record { axis = SyncObject; names = o.names } in
    let all : are_parts_of every_axis (p ∷ q ∷ r ∷ []) ≡ true = rw (la, a.good, lb, b.good, lo, o.good) refl in
    let f1 : Focus = with_code root f.code in
    let f2 : Focus = with_hart f1 f.hart in
    record {
      parts = p ∷ q ∷ r ∷ [];
      are_parts = (omega arith, all);
      spelled = rw (a.text, b.text, o.text) (joined_text (below_text a.names) (below_text b.names) (below_text o.names));
      selected = nodes_some t 0 root f1 p (q ∷ r ∷ []) (ap (option_map (with_code root)) a.found)
          ∙ nodes_some t 1 f1 f2 q (r ∷ []) (ap (option_map (with_hart f1)) b.found)
          ∙ nodes_some t 2 f2 f r [] (ap (option_map (with_object f2)) o.found);
    }
