-- The foci that `ask` asks at are the tree's, and below the one that was given.
use Rattle.std.proofs.Common.{◌≡◌, ℕ, zero, suc, ◌+◌, ◌<◌, ◌≤◌, ◌==◌, ◌&&◌, not, nat_le, Bool, true, false, List, [], ◌∷◌, ◌++◌, length, take, drop, map, Option, Some, None, refl, sym, ap, ◌∙◌, subst, arith, rules, append_assoc}
use Rattle.std.proofs.lemmas.List.{take-append-drop}
use Rattle.std.proofs.lemmas.List.Elements.{All-from_recursion, All-nil, All-cons, All-append, All-map}
use Rattle.std.specs.Prelude.{All, if◌then◌else◌, codes, flat_map, option_map, slice_get, unwrap_or}
use Rattle.std.specs.List.{AllByRecursion, filter, list_all, list_any, position_from}
use Rattle.std.proofs.lemmas.Iterator.Adapters.{position_from-zero}
use Rattle.std.specs.Cmp.Lexicographic.{bytes_decides}
use Rattle.std.proofs.lemmas.Option.{slice_get-map, slice_get_within}
use Rattle.std.specs.Option.{option_map_or}
use Rattle.std.specs.Str.{bytes_eq}
use Rattle.first_places.specs.Groups.{first_mentions, places_of}
use Rattle.first_places.proofs.AllPlaces.{is_place}
use Rattle.pair_wishes.specs.Foci.{code_len, code_part, focus_at, is_within, module_foci, module_node, other_parts, procedure_foci, procedure_node}
use Rattle.pn_text.specs.Bytes.{begins_with}
use Rattle.pn_types.specs.GoodNames.{is_good_name, is_name_byte}
use Rattle.pn_types.specs.declared.code.Proc.{Proc}
use Rattle.pn_types.specs.declared.focus.Axis.TheVariants.{Code, Machine, SyncObject}
use Rattle.pn_types.specs.declared.focus.CodePart.{CodePart}
use Rattle.pn_types.specs.declared.focus.CodePart.TheVariants as node
use Rattle.pn_types.specs.declared.focus.Focus.{Focus}
use Rattle.pn_types.specs.declared.limits.TheConstants.{MAX_HARTS}
use Rattle.resource_tree.proofs.Canonical.{canonical_reads, code_read, there}
use Rattle.resource_tree.proofs.InTree.{flat_child_in, mapped_at, none_at}
use Rattle.resource_tree.proofs.Parts.{or_parts, part_comma}
use Rattle.resource_tree.specs.FocusTexts.{is_comma}
use Rattle.resource_tree.specs.Foci.{IsBelow, IsCodeOf, IsFocusOf, canonical, children, code_text, hart_text, named_text, object_text, path_of, flat_children, procs_of_module, with_code, with_hart, with_object}
use Rattle.resource_tree.specs.Names.{IsNamed}
use Rattle.resource_tree.specs.Resources.{CodeNodes, ModuleNode, ProcNode, Resources, code_of, module_of, proc_of}
use Rattle.headline.specs.AskedFoci.{IsCodeWithin, IsFocusWithin, IsNodeWithin, SelectsWithin}

-- ---- names before slashes

both : (a b : Bool) → a && b ≡ true → (a ≡ true) × (b ≡ true)
both true b h = (refl, h)
both false b h = absurd (cc)

-- no slash stands in a good name
name_bytes : (name : List ℕ) → is_good_name name ≡ true → list_all is_name_byte name ≡ true
name_bytes name h = (both (nat_le 1 (length name) && nat_le (length name) 200) (list_all is_name_byte name) h).1

no_end : (a z : List ℕ) → [] ≡ a ++ 0x2f ∷ z → ⊥
no_end [] z e = absurd (cc)
no_end (c ∷ a) z e = absurd (cc)

-- names before slashes are the same where the texts are
same_front : (a b x y : List ℕ) → list_all is_name_byte a ≡ true → list_all is_name_byte b ≡ true → a ++ 0x2f ∷ x ≡ b ++ 0x2f ∷ y → (a ≡ b) × (x ≡ y)
same_front [] [] x y g h e = (refl, cc)
same_front [] (c ∷ b) x y g h e =
    let first : 0x2f ≡ c = cc in
    let byte : is_name_byte c ≡ true = (both (is_name_byte c) (list_all is_name_byte b) h).0 in
    let no : is_name_byte 0x2f ≡ true = ap is_name_byte first ∙ byte in
    absurd (cc)
same_front (c ∷ a) [] x y g h e =
    let first : 0x2f ≡ c = cc in
    let byte : is_name_byte c ≡ true = (both (is_name_byte c) (list_all is_name_byte a) g).0 in
    let no : is_name_byte 0x2f ≡ true = ap is_name_byte first ∙ byte in
    absurd (cc)
same_front (c ∷ a) (d ∷ b) x y g h e =
    let first : c ≡ d = cc in
    let others : a ++ 0x2f ∷ x ≡ b ++ 0x2f ∷ y = cc in
    let rest = same_front a b x y (both (is_name_byte c) (list_all is_name_byte a) g).1 (both (is_name_byte d) (list_all is_name_byte b) h).1 others in
    (ap (λ (n : ℕ). n ∷ a) first ∙ ap (λ (l : List ℕ). d ∷ l) rest.0, rest.1)

-- a text that another begins with
front_of : (path text : List ℕ) → begins_with path text ≡ true → (r : List ℕ) × (text ≡ path ++ r)
front_of path text h =
    let same : take (length path) text ≡ path = (bytes_decides (take (length path) text) path).0 h in
    (drop (length path) text, sym (take-append-drop (length path) text) ∙ ap (λ (l : List ℕ). l ++ drop (length path) text) same)

-- ---- the parts of a canonical text

first_comma : (i : ℕ) (a b : List ℕ) → list_any is_comma a ≡ false → position_from is_comma i (a ++ 0x2c ∷ b) ≡ Some (i + length a)
first_comma i [] b h = let k : i ≡ i + 0 = omega arith in ap Some k
first_comma i (x ∷ a) b h =
    let p = or_parts (is_comma x) (list_any is_comma a) h in
    let k : i + 1 + length a ≡ i + suc (length a) = omega arith in
    rw p.0 (first_comma (i + 1) a b p.1 ∙ ap Some k)

take_front : (a b : List ℕ) → take (length a) (a ++ b) ≡ a
take_front [] b = refl
take_front (x ∷ a) b = ap (λ (l : List ℕ). x ∷ l) (take_front a b)

drop_front : (a b : List ℕ) → drop (length a) (a ++ b) ≡ b
drop_front [] b = refl
drop_front (x ∷ a) b = drop_front a b

le_test : (a b : ℕ) → a ≤ b → nat_le a b ≡ true
le_test a b h = search rules

-- ---- lists

-- what is a fact of each place of a list
pub all_at : {X : Type 0} (P : X → Type 0) (xs : List X) → ((i : ℕ) (x : X) → slice_get xs i ≡ Some x → P x) → AllByRecursion P xs
all_at P [] each = tt
all_at P (x ∷ xs) each = (each 0 x refl, all_at P xs (λ i y e. each (suc i) y e))

pub all_kept : {X : Type 0} (P : X → Type 0) (p : X → Bool) (xs : List X) → AllByRecursion P xs → AllByRecursion P (filter p xs)
all_kept P p [] all = tt
all_kept P p (x ∷ xs) all = by (p x) (all_kept P p xs all.1)
  where
    by : (b : Bool) → AllByRecursion P (filter p xs) → AllByRecursion P (if b then x ∷ filter p xs else filter p xs)
    by true rest = (all.0, rest)
    by false rest = rest

all_mentions : (P : List ℕ → Type 0) (names : List (List ℕ)) → AllByRecursion P names → AllByRecursion P (first_mentions names)
all_mentions P [] all = tt
all_mentions P (name ∷ names) all = (all.0, all_kept P (λ y. not (bytes_eq name y)) (first_mentions names) (all_mentions P names all.1))

-- what is kept stands somewhere
kept_there : {X : Type 0} (p : X → Bool) (xs : List X) (i : ℕ) (x : X) → slice_get xs i ≡ Some x → p x ≡ true → (j : ℕ) × (slice_get (filter p xs) j ≡ Some x)
kept_there p [] i x e h = absurd (none_at i x e)
kept_there p (y ∷ ys) zero x e h =
    let same : y ≡ x = cc in
    let yes : p y ≡ true = ap p same ∙ h in
    (0, rw yes (ap Some same))
kept_there p (y ∷ ys) (suc i) x e h = by (p y) (kept_there p ys i x e h)
  where
    by : (b : Bool) → (j : ℕ) × (slice_get (filter p ys) j ≡ Some x) → (j : ℕ) × (slice_get (if b then y ∷ filter p ys else filter p ys) j ≡ Some x)
    by true rest = (suc rest.0, rest.1)
    by false rest = rest

-- each name is mentioned
mention : (names : List (List ℕ)) (i : ℕ) (name : List ℕ) → slice_get names i ≡ Some name → (j : ℕ) × (slice_get (first_mentions names) j ≡ Some name)
mention [] i name e = absurd (none_at i name e)
mention (n ∷ ns) zero name e = (0, e)
mention (n ∷ ns) (suc i) name e = by (bytes_eq n name) refl (mention ns i name e)
  where
    by : (b : Bool) → bytes_eq n name ≡ b → (j : ℕ) × (slice_get (first_mentions ns) j ≡ Some name) → (j : ℕ) × (slice_get (first_mentions (n ∷ ns)) j ≡ Some name)
    by true q rest = (0, ap Some ((bytes_decides n name).0 q))
    by false q rest = let r = kept_there (λ y. not (bytes_eq n y)) (first_mentions ns) rest.0 name rest.1 (ap not q) in (suc r.0, r.1)

-- ---- canonical texts

-- the node of the code that a focus has, and the other parts of its text behind their comma
abbrev path : Resources → Focus → List ℕ
path t f = codes "/Code" ++ code_text t.code f.code

abbrev others : Resources → Focus → List ℕ
others t f = codes ",/Machine" ++ (hart_text f.hart ++ (codes ",/SyncObject" ++ object_text t.objects f.object))

regroup : (p m h s o : List ℕ) → p ++ m ++ h ++ s ++ o ≡ p ++ (m ++ (h ++ (s ++ o)))
regroup p m h s o = simp append_assoc

module _ (t : Resources) (named : IsNamed t) (few : t.harts ≤ MAX_HARTS) (under : Focus) (in_tree : IsFocusOf t under) where
  path_clean : list_any is_comma (path t under) ≡ false
  path_clean =
      let c = code_read t under.code named in_tree.code in
      ap (λ (l : List ℕ). list_any is_comma (codes "/Code" ++ l)) c.text
      ∙ part_comma (record { axis = Code; names = c.names }) (rw (le_test (length c.names) 2 c.few, c.good) refl)

  split : canonical t under ≡ path t under ++ others t under
  split = regroup (path t under) (codes ",/Machine") (hart_text under.hart) (codes ",/SyncObject") (object_text t.objects under.object)

  ends : code_len (canonical t under) ≡ length (path t under)
  ends =
      let zero_more : 0 + length (path t under) ≡ length (path t under) = omega arith in
      ap code_len split
      ∙ ap (λ (o : Option ℕ). unwrap_or o (length (path t under ++ others t under)))
      (position_from-zero is_comma (path t under ++ others t under)
      ∙ first_comma 0 (path t under) (codes "/Machine" ++ (hart_text under.hart ++ (codes ",/SyncObject" ++ object_text t.objects under.object))) path_clean ∙ ap Some zero_more)

  part_is : code_part (canonical t under) ≡ path t under
  part_is = ap (λ (n : ℕ). take n (canonical t under)) ends ∙ ap (take (length (path t under))) split ∙ take_front (path t under) (others t under)

  others_are : other_parts (canonical t under) ≡ others t under
  others_are = ap (λ (n : ℕ). drop n (canonical t under)) ends ∙ ap (drop (length (path t under))) split ∙ drop_front (path t under) (others t under)

  -- a focus of the tree that is within it
  selects : (f : Focus) → IsFocusOf t f → IsFocusWithin t f under → SelectsWithin t under (canonical t f)
  selects f inside within = (f, canonical_reads t f few named inside, within)

  same_code : (c : CodePart) → IsCodeWithin t.code c c
  same_code node.All = tt
  same_code (node.Module m) = refl
  same_code (node.Procedure p) = refl

  same_node : (o : Option ℕ) → IsNodeWithin o o
  same_node None = tt
  same_node (Some n) = refl

  pub own : SelectsWithin t under (canonical t under)
  own = selects under in_tree (record { code = same_code under.code; hart = same_node under.hart; object = same_node under.object })

  -- another node of the code, where its text is within
  module _ (part : CodePart) (text : List ℕ) (is : codes "/Code" ++ code_text t.code part ≡ text) (inside : IsCodeOf t.code part)
      (within : (r : List ℕ) → text ++ codes "/" ≡ (path t under ++ codes "/") ++ r → IsCodeWithin t.code part under.code) where
    focus_within : All (SelectsWithin t under) (focus_at (canonical t under) text)
    unfolding focus_at is_within
    focus_within = by (begins_with (code_part (canonical t under) ++ codes "/") (text ++ codes "/")) refl
      where
        by : (b : Bool) → begins_with (code_part (canonical t under) ++ codes "/") (text ++ codes "/") ≡ b
            → All (SelectsWithin t under) (if b then (text ++ other_parts (canonical t under)) ∷ [] else [])
        by false e = All-nil (SelectsWithin t under)
        by true e =
            let f = with_code under part in
            let r = front_of (code_part (canonical t under) ++ codes "/") (text ++ codes "/") e in
            let far = within r.0 (r.1 ∙ ap (λ (l : List ℕ). (l ++ codes "/") ++ r.0) part_is) in
            let here = selects f (record { code = inside; hart = in_tree.hart; object = in_tree.object }) (record { code = far; hart = same_node under.hart; object = same_node under.object }) in
            let whole : canonical t f ≡ text ++ other_parts (canonical t under) =
            regroup (path t f) (codes ",/Machine") (hart_text under.hart) (codes ",/SyncObject") (object_text t.objects under.object) ∙ ap (λ (l : List ℕ). l ++ others t under) is ∙ ap (λ (l : List ℕ). text ++ l) (sym others_are) in
            All-cons (SelectsWithin t under) (text ++ other_parts (canonical t under)) [] (subst (SelectsWithin t under) whole here) (All-nil (SelectsWithin t under))

  -- ---- which are within

  -- the name of a module under which is asked
  record IsModule (m : ℕ) : Type 0 where
    item : ModuleNode
    at : slice_get t.code.modules m ≡ Some item
    good : is_good_name item.name ≡ true
    text : code_text t.code (node.Module m) ≡ codes "/" ++ item.name

  module_at : (m : ℕ) → m < length t.code.modules → IsModule m
  module_at m lt =
      let x = there t.code.modules m lt in
      record {
        item = x.0;
        at = x.1;
        good = named.modules.good m (x.0).name (slice_get-map (λ q. q.name) t.code.modules m ∙ ap (option_map (λ (q : ModuleNode). q.name)) x.1);
        text = ap (λ (o : Option ModuleNode). named_text (option_map (λ q. q.name) o)) x.1;
      }

  -- those of a procedure
  record IsProcedure (p : ℕ) : Type 0 where
    item : ProcNode
    at : slice_get t.code.procs p ≡ Some item
    good : (is_good_name item.«module» ≡ true) × (is_good_name item.name ≡ true)
    text : code_text t.code (node.Procedure p) ≡ codes "/" ++ (item.«module» ++ (codes "/" ++ item.name))

  procedure_at : (p : ℕ) → p < length t.code.procs → IsProcedure p
  procedure_at p lt =
      let x = there t.code.procs p lt in
      record { item = x.0; at = x.1; good = named.procs p x.0 x.1; text = ap (λ (o : Option ProcNode). named_text (option_map path_of o)) x.1 }

  -- the path, without what all begin with
  strip : {x y : List ℕ} → codes "/Code/" ++ x ≡ codes "/Code/" ++ y → x ≡ y
  strip e = cc

  -- ---- below a module

  module_front : (m : ℕ) (x : IsModule m) (text r : List ℕ) → (codes "/Code/" ++ text) ++ codes "/" ≡ ((codes "/Code" ++ code_text t.code (node.Module m)) ++ codes "/") ++ r
      → text ++ codes "/" ≡ (x.item).name ++ 0x2f ∷ r
  module_front m x text r e =
      let same : (codes "/Code/" ++ text) ++ codes "/" ≡ ((codes "/Code/" ++ (x.item).name) ++ codes "/") ++ r = e ∙ ap (λ (l : List ℕ). ((codes "/Code" ++ l) ++ codes "/") ++ r) x.text in
      strip same ∙ append_assoc (x.item).name (codes "/") r

  procedure_front : (p : ℕ) (x : IsProcedure p) (text r : List ℕ) → (codes "/Code/" ++ text) ++ codes "/" ≡ ((codes "/Code" ++ code_text t.code (node.Procedure p)) ++ codes "/") ++ r
      → text ++ codes "/" ≡ (x.item).«module» ++ 0x2f ∷ ((x.item).name ++ 0x2f ∷ r)
  procedure_front p x text r e =
      let same : (codes "/Code/" ++ text) ++ codes "/" ≡ ((codes "/Code/" ++ ((x.item).«module» ++ (codes "/" ++ (x.item).name))) ++ codes "/") ++ r =
      e ∙ ap (λ (l : List ℕ). ((codes "/Code" ++ l) ++ codes "/") ++ r) x.text in
      strip same ∙ append_assoc ((x.item).«module» ++ (codes "/" ++ (x.item).name)) (codes "/") r ∙ append_assoc (x.item).«module» (codes "/" ++ (x.item).name) (0x2f ∷ r)

  -- ---- procedures and modules

  module _ (procs : List Proc) (code : t.code ≡ code_of procs) where
    abbrev modules : List (List ℕ)
    modules = map (λ p. p.«module») procs

    -- one of the procedures, with its names
    pub record IsThere (p : Proc) : Type 0 where
      pub place : ℕ
      pub at : slice_get procs place ≡ Some p

    module _ (p : Proc) (x : IsThere p) where
      node_at : slice_get t.code.procs x.place ≡ Some (proc_of p)
      node_at = ap (λ (c : CodeNodes). slice_get c.procs x.place) code ∙ slice_get-map proc_of procs x.place ∙ ap (option_map proc_of) x.at

      good : (is_good_name p.«module» ≡ true) × (is_good_name p.name ≡ true)
      good = named.procs x.place (proc_of p) node_at

      module_named : slice_get modules x.place ≡ Some p.«module»
      module_named = slice_get-map (λ (q : Proc). q.«module») procs x.place ∙ ap (option_map (λ (q : Proc). q.«module»)) x.at

      joined : (p.«module» ++ codes "/" ++ p.name) ++ codes "/" ≡ p.«module» ++ 0x2f ∷ (p.name ++ 0x2f ∷ [])
      joined = append_assoc (p.«module» ++ codes "/") p.name (codes "/") ∙ append_assoc p.«module» (codes "/") (p.name ++ codes "/")

      -- it is one of its module's
      member : (m : ℕ) → IsModule m → (n : List ℕ) → list_all is_name_byte n ≡ true → p.«module» ≡ n → (item : ModuleNode) → slice_get t.code.modules m ≡ Some item → item.name ≡ n
          → list_any (λ r. r == x.place) (procs_of_module t.code m) ≡ true
      member m y n clean e item at is =
          let found = mapped_at (module_of modules) (first_mentions modules) m item (ap (λ (c : CodeNodes). slice_get c.modules m) (sym code) ∙ at) in
          let same : found.0 ≡ n = ap (λ (q : ModuleNode). q.name) found.2 ∙ is in
          let procs_are : procs_of_module t.code m ≡ places_of found.0 modules =
          ap (λ (o : Option ModuleNode). option_map_or (λ q. q.procs) o []) at ∙ ap (λ (q : ModuleNode). q.procs) (sym found.2) in
          ap (list_any (λ r. r == x.place)) procs_are ∙ is_place found.0 modules x.place ∙ ap (λ (o : Option (List ℕ)). option_map_or (bytes_eq found.0) o false) module_named
          ∙ (bytes_decides found.0 p.«module»).1 (same ∙ sym e)

      within_code : (c : CodePart) → IsCodeOf t.code c → (r : List ℕ) → procedure_node p ++ codes "/" ≡ ((codes "/Code" ++ code_text t.code c) ++ codes "/") ++ r
          → IsCodeWithin t.code (node.Procedure x.place) c
      within_code node.All inside r e = tt
      within_code (node.Module m) inside r e =
          let y = module_at m inside in
          let texts = sym joined ∙ module_front m y (p.«module» ++ codes "/" ++ p.name) r e in
          let same = same_front p.«module» (y.item).name (p.name ++ 0x2f ∷ []) r (name_bytes p.«module» good.0) (name_bytes (y.item).name y.good) texts in
          member m y p.«module» (name_bytes p.«module» good.0) refl y.item y.at (sym same.0)
      within_code (node.Procedure q) inside r e =
          let y = procedure_at q inside in
          let texts = sym joined ∙ procedure_front q y (p.«module» ++ codes "/" ++ p.name) r e in
          let same = same_front p.«module» (y.item).«module» (p.name ++ 0x2f ∷ []) ((y.item).name ++ 0x2f ∷ r) (name_bytes p.«module» good.0) (name_bytes (y.item).«module» (y.good).0) texts in
          let names = same_front p.name (y.item).name [] r (name_bytes p.name good.1) (name_bytes (y.item).name (y.good).1) same.1 in
          named.procs_apart x.place q (proc_of p) y.item node_at y.at same.0 names.0

      procedure_text : codes "/Code" ++ code_text t.code (node.Procedure x.place) ≡ procedure_node p
      procedure_text =
          ap (λ (o : Option ProcNode). codes "/Code" ++ named_text (option_map path_of o)) node_at
          ∙ ap (λ (l : List ℕ). codes "/Code/" ++ l) (sym (append_assoc p.«module» (codes "/") p.name))

      placed : x.place < length t.code.procs
      placed = slice_get_within t.code.procs x.place (proc_of p) node_at

      procedure_within : All (SelectsWithin t under) (focus_at (canonical t under) (procedure_node p))
      procedure_within = focus_within (node.Procedure x.place) (procedure_node p) procedure_text placed (within_code under.code in_tree.code)

      -- ---- its module

      module_place : (m : ℕ) × (slice_get t.code.modules m ≡ Some (module_of modules p.«module»))
      module_place =
          let found = mention modules x.place p.«module» module_named in (
            found.0,
            ap (λ (c : CodeNodes). slice_get c.modules found.0) code
                ∙ slice_get-map (module_of modules) (first_mentions modules) found.0 ∙ ap (option_map (module_of modules)) found.1,
          )

      module_text : codes "/Code" ++ code_text t.code (node.Module module_place.0) ≡ module_node p
      module_text = ap (λ (o : Option ModuleNode). codes "/Code" ++ named_text (option_map (λ q. q.name) o)) module_place.1

      name_at : (m : ℕ) (item : ModuleNode) → slice_get t.code.modules m ≡ Some item → slice_get (map (λ q. q.name) t.code.modules) m ≡ Some item.name
      name_at m item at = slice_get-map (λ (q : ModuleNode). q.name) t.code.modules m ∙ ap (option_map (λ (q : ModuleNode). q.name)) at

      module_code : (c : CodePart) → IsCodeOf t.code c → (r : List ℕ) → module_node p ++ codes "/" ≡ ((codes "/Code" ++ code_text t.code c) ++ codes "/") ++ r
          → IsCodeWithin t.code (node.Module module_place.0) c
      module_code node.All inside r e = tt
      module_code (node.Module m) inside r e =
          let y = module_at m inside in
          let same = same_front p.«module» (y.item).name [] r (name_bytes p.«module» good.0) (name_bytes (y.item).name y.good) (module_front m y p.«module» r e) in
          named.modules.apart module_place.0 m p.«module» (name_at module_place.0 (module_of modules p.«module») module_place.1) (name_at m y.item y.at ∙ ap Some (sym same.0))
      module_code (node.Procedure q) inside r e =
          let y = procedure_at q inside in
          let same = same_front p.«module» (y.item).«module» [] ((y.item).name ++ 0x2f ∷ r) (name_bytes p.«module» good.0) (name_bytes (y.item).«module» (y.good).0) (procedure_front q y p.«module» r e) in
          absurd (no_end (y.item).name r same.1)

      module_within : All (SelectsWithin t under) (focus_at (canonical t under) (module_node p))
      module_within =
          focus_within (node.Module module_place.0) (module_node p) module_text (slice_get_within t.code.modules module_place.0 (module_of modules p.«module») module_place.1)
          (module_code under.code in_tree.code)

    -- ---- the foci of some of them

    pub procedures_within : (ps : List Proc) → AllByRecursion IsThere ps → All (SelectsWithin t under) (procedure_foci (canonical t under) ps)
    procedures_within [] all = All-nil (SelectsWithin t under)
    procedures_within (p ∷ ps) all =
        All-append (SelectsWithin t under) (focus_at (canonical t under) (procedure_node p)) (procedure_foci (canonical t under) ps) (procedure_within p all.0) (procedures_within ps all.1)

    abbrev IsModuleNode : List ℕ → Type 0
    IsModuleNode text = (p : Proc) × IsThere p × (text ≡ module_node p)

    module_nodes : (ps : List Proc) → AllByRecursion IsThere ps → AllByRecursion IsModuleNode (map module_node ps)
    module_nodes [] all = tt
    module_nodes (p ∷ ps) all = ((p, all.0, refl), module_nodes ps all.1)

    nodes_within : (texts : List (List ℕ)) → AllByRecursion IsModuleNode texts → All (SelectsWithin t under) (flat_map (focus_at (canonical t under)) texts)
    nodes_within [] all = All-nil (SelectsWithin t under)
    nodes_within (text ∷ texts) all =
        let first = all.0 in
        All-append (SelectsWithin t under) (focus_at (canonical t under) text) (flat_map (focus_at (canonical t under)) texts)
        (subst (λ (l : List ℕ). All (SelectsWithin t under) (focus_at (canonical t under) l)) (sym first.2) (module_within first.0 first.1)) (nodes_within texts all.1)

    pub modules_within : (ps : List Proc) → AllByRecursion IsThere ps → All (SelectsWithin t under) (module_foci (canonical t under) ps)
    modules_within ps all = nodes_within (first_mentions (map module_node ps)) (all_mentions IsModuleNode (map module_node ps) (module_nodes ps all))

  -- ---- children

  each_child : (n : ℕ) (place : Option ℕ) (f : Option ℕ → Focus) → ((child : Option ℕ) → IsBelow n child → IsNodeWithin child place → SelectsWithin t under (canonical t (f child)))
      → All (SelectsWithin t under) (map (canonical t) (map f (flat_children n place)))
  each_child n place f each =
      All-map (SelectsWithin t under) (canonical t) (map f (flat_children n place))
      (All-map (λ (g : Focus). SelectsWithin t under (canonical t g)) f (flat_children n place)
      (All-from_recursion (λ (o : Option ℕ). SelectsWithin t under (canonical t (f o))) (flat_children n place)
      (all_at (λ (o : Option ℕ). SelectsWithin t under (canonical t (f o))) (flat_children n place)
      (λ i child e. each child (flat_child_in n place i child e) (at_place place i child e)))))
    where
      at_place : (o : Option ℕ) (i : ℕ) (child : Option ℕ) → slice_get (flat_children n o) i ≡ Some child → IsNodeWithin child o
      at_place None i child e = tt
      at_place (Some k) i child e = absurd (none_at i child e)

  pub harts_within : All (SelectsWithin t under) (map (canonical t) (children t under Machine))
  harts_within =
      each_child t.harts under.hart (with_hart under) (λ child inside within.
      selects (with_hart under child) (record { code = in_tree.code; hart = inside; object = in_tree.object })
      (record { code = same_code under.code; hart = within; object = same_node under.object }))

  pub locks_within : All (SelectsWithin t under) (map (canonical t) (children t under SyncObject))
  locks_within =
      each_child (length t.objects) under.object (with_object under) (λ child inside within.
      selects (with_object under child) (record { code = in_tree.code; hart = in_tree.hart; object = inside })
      (record { code = same_code under.code; hart = same_node under.hart; object = within }))
