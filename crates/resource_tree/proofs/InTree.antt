-- What is selected in a tree is the tree's.
use Rattle.std.proofs.Common.{◌≡◌, ℕ, ◌+◌, ◌<◌, ◌≤◌, cond, Bool, true, false, List, [], ◌∷◌, length, map, position, slice_get, bytes_eq, nat_lt, Option, Some, None, Ok, refl, sym, ◌∙◌, subst, arith}
use borrow.Author.Tests.{ltb-true, ltb-false}
use Rattle.std.proofs.lemmas.Option.{slice_get-map, slice_get_past}
use Rattle.std.proofs.lemmas.List.FromFn.{length-map-range_with_len}
use Rattle.std.proofs.lemmas.List.{length-map}
use Rattle.std.specs.List.{position_or_len, range_with_len}
use Rattle.std.specs.Option.{option_map, option_map_or}
use Rattle.pn_types.specs.declared.code.Proc.{Proc}
use Rattle.pn_types.specs.declared.focus.Axis.{Axis}
use Rattle.pn_types.specs.declared.focus.Axis.TheVariants.{Code, Machine, SyncObject}
use Rattle.pn_types.specs.declared.focus.CodePart.{CodePart}
use Rattle.pn_types.specs.declared.focus.CodePart.TheVariants.{All, Module, Procedure}
use Rattle.pn_types.specs.declared.focus.Focus.{Focus}
use Rattle.first_places.specs.Groups.{first_mentions, stands_at}
use Rattle.first_places.proofs.AllPlaces.{below_count, few_places}
use Rattle.resource_tree.specs.FocusTexts.{Part}
use Rattle.resource_tree.specs.Foci.{root, with_code, with_hart, with_object, code_named, is_named, hart_named, object_named, hart_name, hart_names, with_node, with_nodes, focus_of, IsCodeOf, IsBelow, IsFocusOf, code_children, flat_children}
use Rattle.resource_tree.specs.Resources.{Resources, CodeNodes, ModuleNode, ObjectNode, HasFewMembers, HasMembersBelow, module_of, modules_of, proc_of}
use Rattle.resource_tree.proofs.Parts.{nodes_none, nodes_some}
use Rattle.resource_tree.proofs.Ranges.{range_at, range_past}

if_some : {A : Type 0} (b : Bool) (x y : A) → cond b (Some x) None ≡ Some y → (b ≡ true) × (x ≡ y)
if_some true x y h = (refl, cc)
if_some false x y h = cc

pub position_below : {X : Type 0} (p : X → Bool) (xs : List X) (k : ℕ) → position p xs ≡ Some k → k < length xs
position_below p xs k h =
    let r = if_some (nat_lt (position_or_len p xs) (length xs)) (position_or_len p xs) k h in
    let lt = ltb-true (position_or_len p xs) (length xs) r.0 in
    omega (arith, lt, r.1)

some_of : {A B : Type 0} (f : A → B) (o : Option A) (y : B) → option_map f o ≡ Some y → (x : A) × (o ≡ Some x) × (f x ≡ y)
some_of f None y h = cc
some_of f (Some x) y h = (x, refl, cc)

code_in : (c : CodeNodes) (names : List (List ℕ)) (node : CodePart) → code_named c names ≡ Some node → IsCodeOf c node
code_in c [] node h = let e : All ≡ node = cc in subst (IsCodeOf c) e tt
code_in c (name ∷ []) node h =
    let r = some_of Module (position (λ m. bytes_eq name m.name) c.modules) node h in
    subst (IsCodeOf c) r.2 (position_below (λ m. bytes_eq name m.name) c.modules r.0 r.1)
code_in c (name ∷ proc ∷ []) node h =
    let r = some_of Procedure (position (is_named name proc) c.procs) node h in
    subst (IsCodeOf c) r.2 (position_below (is_named name proc) c.procs r.0 r.1)
code_in c (name ∷ proc ∷ more ∷ names) node h = cc

hart_in : (harts : ℕ) (names : List (List ℕ)) (place : Option ℕ) → hart_named harts names ≡ Some place → IsBelow harts place
hart_in harts [] place h = let e : None ≡ place = cc in subst (IsBelow harts) e tt
hart_in harts (name ∷ []) place h =
    let r = some_of Some (position (bytes_eq name) (hart_names harts)) place h in
    let len = length-map-range_with_len hart_name 0 harts in
    let lt : r.0 < harts = omega (arith, position_below (bytes_eq name) (hart_names harts) r.0 r.1, len) in
    subst (IsBelow harts) r.2 lt
hart_in harts (name ∷ more ∷ names) place h = cc

object_in : (os : List ObjectNode) (names : List (List ℕ)) (place : Option ℕ) → object_named os names ≡ Some place → IsBelow (length os) place
object_in os [] place h = let e : None ≡ place = cc in subst (IsBelow (length os)) e tt
object_in os (name ∷ []) place h =
    let r = some_of Some (position (λ o. bytes_eq name o.name) os) place h in
    subst (IsBelow (length os)) r.2 (position_below (λ o. bytes_eq name o.name) os r.0 r.1)
object_in os (name ∷ more ∷ names) place h = cc

node_in : (t : Resources) (f : Focus) (axis : Axis) (names : List (List ℕ)) (g : Focus) → IsFocusOf t f → with_node t f axis names ≡ Some g → IsFocusOf t g
node_in t f Code names g i h =
    let r = some_of (with_code f) (code_named t.code names) g h in
    subst (IsFocusOf t) r.2 (record { code = code_in t.code names r.0 r.1; hart = i.hart; object = i.object })
node_in t f Machine names g i h =
    let r = some_of (with_hart f) (hart_named t.harts names) g h in
    subst (IsFocusOf t) r.2 (record { code = i.code; hart = hart_in t.harts names r.0 r.1; object = i.object })
node_in t f SyncObject names g i h =
    let r = some_of (with_object f) (object_named t.objects names) g h in
    subst (IsFocusOf t) r.2 (record { code = i.code; hart = i.hart; object = object_in t.objects names r.0 r.1 })

nodes_in : (t : Resources) (n : ℕ) (f : Focus) (ps : List Part) (g : Focus) → IsFocusOf t f → with_nodes t n f ps ≡ Ok g → IsFocusOf t g
nodes_in t n f [] g i h = let e : f ≡ g = cc in subst (IsFocusOf t) e i
nodes_in t n f (p ∷ ps) g i h = by (with_node t f p.axis p.names) refl (λ x e k. nodes_in t (n + 1) x ps g (node_in t f p.axis p.names x i e) k)
  where
    by : (o : Option Focus) → with_node t f p.axis p.names ≡ o → ((x : Focus) → with_node t f p.axis p.names ≡ Some x → with_nodes t (n + 1) x ps ≡ Ok g → IsFocusOf t g) → IsFocusOf t g
    by None e rest = let k = nodes_none t n f p ps e in cc
    by (Some x) e rest = rest x e (sym (nodes_some t n f x p ps e) ∙ h)

-- the focus of parts
pub focus_in : (t : Resources) (ps : List Part) (f : Focus) → focus_of t ps ≡ Ok f → IsFocusOf t f
focus_in t ps f h = nodes_in t 0 root ps f (record { code = tt; hart = tt; object = tt }) h

-- a child among numbers
ranged : {X : Type 0} (f : ℕ → X) (n i : ℕ) (x : X) → slice_get (map f (range_with_len 0 n)) i ≡ Some x → (i < n) × (f i ≡ x)
ranged {X} f n i x h = by (nat_lt i n) refl
  where
    by : (b : Bool) → nat_lt i n ≡ b → (i < n) × (f i ≡ x)
    by true q = let lt = ltb-true i n q in let e = range_at f n i lt in (lt, cc)
    by false q = let e = range_past f n i (ltb-false i n q) in cc

pub none_at : {X : Type 0} (i : ℕ) (x : X) → slice_get [] i ≡ Some x → ⊥
none_at {X} i x h = let past = slice_get_past {X = X} [] i (omega arith) in cc

pub code_child_in : (c : CodeNodes) (node : CodePart) (i : ℕ) (child : CodePart) → HasMembersBelow (length c.procs) c.modules → slice_get (code_children c node) i ≡ Some child → IsCodeOf c child
code_child_in c All i child m h = let r = ranged Module (length c.modules) i child h in subst (IsCodeOf c) r.1 r.0
code_child_in c (Module k) i child m h = by (slice_get c.modules k) refl h
  where
    by : (o : Option ModuleNode) → slice_get c.modules k ≡ o → slice_get (map Procedure (option_map_or (λ n. n.procs) o [])) i ≡ Some child → IsCodeOf c child
    by None e g = absurd (none_at i child g)
    by (Some n) e g =
        let r = some_of Procedure (slice_get n.procs i) child (sym (slice_get-map Procedure n.procs i) ∙ g) in
        subst (IsCodeOf c) r.2 (m k i r.0 n e r.1)
code_child_in c (Procedure p) i child m h = absurd (none_at i child h)

pub flat_child_in : (n : ℕ) (node : Option ℕ) (i : ℕ) (child : Option ℕ) → slice_get (flat_children n node) i ≡ Some child → IsBelow n child
flat_child_in n None i child h = let r = ranged Some n i child h in subst (IsBelow n) r.1 r.0
flat_child_in n (Some k) i child h = absurd (none_at i child h)

pub mapped_at : {X Y : Type 0} (f : X → Y) (xs : List X) (i : ℕ) (y : Y) → slice_get (map f xs) i ≡ Some y → (x : X) × (slice_get xs i ≡ Some x) × (f x ≡ y)
mapped_at f xs i y h = some_of f (slice_get xs i) y (sym (slice_get-map f xs i) ∙ h)

-- each procedure of a module is one of those whose modules are listed
members_of : (modules : List (List ℕ)) → HasMembersBelow (length modules) (modules_of modules)
members_of modules k i p m at own =
    let n = mapped_at (module_of modules) (first_mentions modules) k m at in
    omega (arith, below_count (stands_at n.0 modules) 0 (length modules) i p (subst (λ (x : ModuleNode). slice_get x.procs i ≡ Some p) (sym n.2) own))

-- no module has more procedures than there are
few_of : (modules : List (List ℕ)) → HasFewMembers (length modules) (modules_of modules)
few_of modules k m at =
    let n = mapped_at (module_of modules) (first_mentions modules) k m at in
    subst (λ (x : ModuleNode). length x.procs ≤ length modules) n.2 (few_places n.0 modules)

-- the bounds of the code of procedures
pub code_members : (procs : List Proc) → HasMembersBelow (length (map proc_of procs)) (modules_of (map (λ p. p.«module») procs))
code_members procs =
    subst (λ (n : ℕ). HasMembersBelow n (modules_of (map (λ p. p.«module») procs))) (length-map procs (λ p. p.«module») ∙ sym (length-map procs proc_of)) (members_of (map (λ p. p.«module») procs))

pub code_few : (procs : List Proc) → HasFewMembers (length (map proc_of procs)) (modules_of (map (λ p. p.«module») procs))
code_few procs =
    subst (λ (n : ℕ). HasFewMembers n (modules_of (map (λ p. p.«module») procs))) (length-map procs (λ p. p.«module») ∙ sym (length-map procs proc_of)) (few_of (map (λ p. p.«module») procs))
