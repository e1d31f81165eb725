-- The names of a part out of the text after its hierarchy.
use Rattle.std.proofs.Common.{◌≡◌, ℕ, ◌≤◌, ◌==◌, ◌&&◌, ◌||◌, not, nat_le, Bool, true, false, List, [], ◌∷◌, ◌++◌, length, position, bytes_eq, Some, refl, sym, ap, ◌∙◌, arith}
use Rattle.std.proofs.lemmas.List.{append-nil}
use Rattle.std.specs.List.{list_all, list_any}
use Rattle.std.specs.Option.{option_map}
use Rattle.pn_types.specs.GoodNames.{is_name_byte, is_good_name}
use Rattle.pn_types.specs.declared.focus.CodePart.TheVariants.{Module, Procedure}
use Rattle.resource_tree.specs.FocusTexts.{below_text}
use Rattle.resource_tree.specs.Foci.{code_named, is_named, path_of, object_named}
use Rattle.resource_tree.specs.Resources.{CodeNodes, ProcNode, ObjectNode}
use Rattle.resource_tree.proofs.FormStates.{both}
use Rattle.resource_tree.proofs.Parts.{or_parts}
use Rattle.std.specs.Cmp.Lexicographic.{bytes_decides}

abbrev pub slash : ℕ → Bool
slash y = y == 0x2f

pub no_slash : (name : List ℕ) → list_all is_name_byte name ≡ true → list_any slash name ≡ false
no_slash [] h = refl
no_slash (b ∷ bs) h =
    let p = both (is_name_byte b) (list_all is_name_byte bs) h in
    let q = both (nat_le 0x21 b && nat_le b 0x7e && not (b == 0x2f) && not (b == 0x2c)) (not (b == 0x3b)) p.0 in
    let r = both (nat_le 0x21 b && nat_le b 0x7e && not (b == 0x2f)) (not (b == 0x2c)) q.0 in
    let s = both (nat_le 0x21 b && nat_le b 0x7e) (not (b == 0x2f)) r.0 in
    let f : (b == 0x2f) ≡ false = is_not (b == 0x2f) s.1 in
    rw (f, no_slash bs p.1) refl
  where
    is_not : (x : Bool) → not x ≡ true → x ≡ false
    is_not true g = cc
    is_not false g = refl

some_slash : (a b : List ℕ) → list_any slash (a ++ 0x2f ∷ b) ≡ true
some_slash [] b = refl
some_slash (x ∷ a) b = by (x == 0x2f) (some_slash a b)
  where
    by : (c : Bool) → list_any slash (a ++ 0x2f ∷ b) ≡ true → c || list_any slash (a ++ 0x2f ∷ b) ≡ true
    by true h = refl
    by false h = h

pub good_bytes : (name : List ℕ) → is_good_name name ≡ true → list_all is_name_byte name ≡ true
good_bytes name h = (both (nat_le 1 (length name) && nat_le (length name) 200) (list_all is_name_byte name) h).1

tail_is : (x y : ℕ) (a b : List ℕ) → x ∷ a ≡ y ∷ b → a ≡ b
tail_is x y a b h = cc

apart : (b : Bool) → b ≡ true → b ≡ false → ⊥
apart b h g = cc

-- what stands before and after the only `/`
only_slash : (a b c d : List ℕ) → list_any slash a ≡ false → list_any slash b ≡ false → a ++ 0x2f ∷ b ≡ c ++ 0x2f ∷ d → (a ≡ c) × (b ≡ d)
only_slash [] b [] d h g e = (refl, cc)
only_slash [] b (y ∷ c) d h g e =
    let t : b ≡ c ++ 0x2f ∷ d = cc in
    absurd (apart (list_any slash b) (ap (list_any slash) t ∙ some_slash c d) g)
only_slash (x ∷ a) b [] d h g e =
    let k : x ≡ 0x2f = cc in
    let q : slash x ≡ true = ap slash k in
    absurd (apart (slash x) q (or_parts (slash x) (list_any slash a) h).0)
only_slash (x ∷ a) b (y ∷ c) d h g e =
    let k : x ≡ y = cc in
    let t : a ++ 0x2f ∷ b ≡ c ++ 0x2f ∷ d = cc in
    let r = only_slash a b c d (or_parts (slash x) (list_any slash a) h).1 g t in
    (ap (λ (z : ℕ). z ∷ a) k ∙ ap (λ (l : List ℕ). y ∷ l) r.0, r.1)

-- a procedure has the names whose path it has
named_path : (m n : List ℕ) (p : ProcNode) → list_any slash m ≡ false → list_any slash n ≡ false → is_named m n p ≡ bytes_eq (m ++ 0x2f ∷ n) (path_of p)
named_path m n p h g = by (bytes_eq m p.«module») (bytes_eq n p.name) (bytes_eq (m ++ 0x2f ∷ n) (path_of p)) refl refl refl
  where
    cut : bytes_eq (m ++ 0x2f ∷ n) (path_of p) ≡ true → (m ≡ p.«module») × (n ≡ p.name)
    cut r = only_slash m n p.«module» p.name h g ((bytes_decides (m ++ 0x2f ∷ n) (path_of p)).0 r)

    by : (a b c : Bool) → bytes_eq m p.«module» ≡ a → bytes_eq n p.name ≡ b → bytes_eq (m ++ 0x2f ∷ n) (path_of p) ≡ c → a && b ≡ c
    by true true true e f r = refl
    by true true false e f r =
        let same = ap (λ (l : List ℕ). l ++ 0x2f ∷ n) ((bytes_decides m p.«module»).0 e) ∙ ap (λ (l : List ℕ). p.«module» ++ 0x2f ∷ l) ((bytes_decides n p.name).0 f) in
        absurd (apart (bytes_eq (m ++ 0x2f ∷ n) (path_of p)) ((bytes_decides (m ++ 0x2f ∷ n) (path_of p)).1 same) r)
    by true false true e f r = absurd (apart (bytes_eq n p.name) ((bytes_decides n p.name).1 (cut r).1) f)
    by true false false e f r = refl
    by false b true e f r = absurd (apart (bytes_eq m p.«module») ((bytes_decides m p.«module»).1 (cut r).0) e)
    by false b false e f r = refl

-- a path with a `/` in it is that of a procedure
pub by_path : (c : CodeNodes) (names : List (List ℕ)) (x : ℕ) (path : List ℕ) → length names ≤ 2 → list_all is_good_name names ≡ true → x ∷ path ≡ below_text names → list_any slash path ≡ true
    → code_named c names ≡ option_map Procedure (position (λ q. bytes_eq path (path_of q)) c.procs)
by_path c [] x path len good e h = cc
by_path c (m ∷ []) x path len good e h =
    let p : path ≡ m = tail_is x 0x2f path (m ++ []) e ∙ append-nil m in
    let g = both (is_good_name m) true good in
    absurd (apart (list_any slash m) (ap (list_any slash) (sym p) ∙ h) (no_slash m (good_bytes m g.0)))
by_path c (m ∷ n ∷ []) x path len good e h =
    let p : path ≡ m ++ 0x2f ∷ n = tail_is x 0x2f path (m ++ (0x2f ∷ (n ++ []))) e ∙ ap (λ (l : List ℕ). m ++ 0x2f ∷ l) (append-nil n) in
    let g = both (is_good_name m) (is_good_name n && true) good in
    let k = both (is_good_name n) true g.1 in
    let same : (q : ProcNode) → is_named m n q ≡ bytes_eq (m ++ 0x2f ∷ n) (path_of q) = λ q. named_path m n q (no_slash m (good_bytes m g.0)) (no_slash n (good_bytes n k.0)) in
    (λ j. option_map Procedure (position (λ q. same q j) c.procs))
    ∙ ap (λ (l : List ℕ). option_map Procedure (position (λ q. bytes_eq l (path_of q)) c.procs)) (sym p)
by_path c (m ∷ n ∷ o ∷ names) x path len good e h = absurd (omega (arith, len))

-- a path without one is the name of a module
pub by_name : (c : CodeNodes) (names : List (List ℕ)) (x : ℕ) (path : List ℕ) → length names ≤ 2 → x ∷ path ≡ below_text names → list_any slash path ≡ false
    → code_named c names ≡ option_map Module (position (λ m. bytes_eq path m.name) c.modules)
by_name c [] x path len e h = cc
by_name c (m ∷ []) x path len e h =
    let p : path ≡ m = tail_is x 0x2f path (m ++ []) e ∙ append-nil m in
    ap (λ (l : List ℕ). option_map Module (position (λ q. bytes_eq l q.name) c.modules)) (sym p)
by_name c (m ∷ n ∷ []) x path len e h =
    let p : path ≡ m ++ 0x2f ∷ n = tail_is x 0x2f path (m ++ (0x2f ∷ (n ++ []))) e ∙ ap (λ (l : List ℕ). m ++ 0x2f ∷ l) (append-nil n) in
    absurd (apart (list_any slash path) (ap (list_any slash) p ∙ some_slash m n) h)
by_name c (m ∷ n ∷ o ∷ names) x path len e h = absurd (omega (arith, len))

-- one name
pub object_by_name : (os : List ObjectNode) (names : List (List ℕ)) (x : ℕ) (name : List ℕ) → length names ≤ 1 → x ∷ name ≡ below_text names → object_named os names ≡ option_map Some (position (λ o. bytes_eq name o.name) os)
object_by_name os [] x name len e = cc
object_by_name os (n ∷ []) x name len e =
    let p : name ≡ n = tail_is x 0x2f name (n ++ []) e ∙ append-nil n in
    ap (λ (l : List ℕ). option_map Some (position (λ o. bytes_eq l o.name) os)) (sym p)
object_by_name os (n ∷ m ∷ names) x name len e = absurd (omega (arith, len))
