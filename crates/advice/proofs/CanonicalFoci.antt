-- The canonical text of a focus is one.
use Rattle.std.proofs.Common.{◌≡◌, ℕ, zero, suc, ◌+◌, ◌/◌, ◌%◌, ◌<◌, ◌≤◌, ◌==◌, ◌&&◌, nat_le, not, cond, Bool, true, false, Option, Some, None, List, [], ◌∷◌, ◌++◌, length, slice_get, codes, bytes_eq, refl, sym, ap, ◌∙◌, arith, append_assoc, append-nil}
use Rattle.std.specs.Fmt.{digit_glyph, digits, digits_onto}
use Rattle.std.specs.List.{list_all}
use Rattle.std.specs.Option.{option_map}
use Rattle.std.proofs.lemmas.Bool.{and_parts, le-leb, lt-ltb}
use Rattle.std.proofs.lemmas.Option.{slice_get-map}
use Rattle.pn_types.specs.GoodNames.{is_good_name, is_name_byte}
use Rattle.pn_types.specs.declared.focus.CodePart.{CodePart}
use Rattle.pn_types.specs.declared.focus.CodePart.TheVariants.{All, Module, Procedure}
use Rattle.resource_tree.specs.FocusTexts.{below_text}
use Rattle.resource_tree.specs.Foci.{canonical, code_text, hart_name, hart_text, named_text, object_text, path_of}
use Rattle.resource_tree.specs.Names.{IsNamed}
use Rattle.resource_tree.specs.Resources.{ModuleNode, ObjectNode, ProcNode, Resources}
use Rattle.advice.specs.Seams.{CanonicalIsFocus}
use Rattle.advice.specs.Words.{are_branch, are_branches, are_names, is_branch, parts}
use Rattle.advice.proofs.Parts.{lacks, one_part, part_at}
use Rattle.advice.proofs.Spaced.{all_append, all_weaker}

-- ---- names after slashes

no_slash : (b : ℕ) → is_name_byte b ≡ true → not (b == 47) ≡ true
no_slash b h = grind arith

no_comma : (b : ℕ) → is_name_byte b ≡ true → not (b == 44) ≡ true
no_comma b h = grind arith

name_bytes : (name : List ℕ) → is_good_name name ≡ true → list_all is_name_byte name ≡ true
name_bytes name h = (and_parts (nat_le 1 (length name) && nat_le (length name) 200) (list_all is_name_byte name) h).1

below : (w : List ℕ) (names : List (List ℕ)) → lacks 47 w ≡ true → list_all is_good_name names ≡ true → parts 47 (w ++ below_text names) ≡ w ∷ names
below w [] h good = rw append-nil (one_part 47 w h)
below w (name ∷ names) h good =
    let each = and_parts (is_good_name name) (list_all is_good_name names) good in
    let plain = all_weaker is_name_byte (λ b. not (b == 47)) no_slash name (name_bytes name each.0) in
    part_at 47 w (name ++ below_text names) h ∙ ap (λ (l : List (List ℕ)). w ∷ l) (below name names plain each.1)

few_names : (most : ℕ) (names : List (List ℕ)) → length names ≤ most → list_all is_good_name names ≡ true → are_names most names ≡ true
few_names most [] h good = refl
few_names zero (name ∷ names) h good = absurd (omega arith)
few_names (suc most) (name ∷ names) h good =
    let each = and_parts (is_good_name name) (list_all is_good_name names) good in
    rw each.0 (few_names most names (omega arith) each.1)

branch : (root : List ℕ) (most : ℕ) (names : List (List ℕ)) → lacks 47 root ≡ true → bytes_eq root root ≡ true → length names ≤ most → list_all is_good_name names ≡ true → is_branch root most (47 ∷ (root ++ below_text names)) ≡ true
branch root most names h same few good =
    ap (λ (l : List (List ℕ)). are_branch root most ([] ∷ l)) (below root names h good) ∙ rw same (few_names most names few good)

-- ---- branches after commas

below_plain : (names : List (List ℕ)) → list_all is_good_name names ≡ true → lacks 44 (below_text names) ≡ true
below_plain [] good = refl
below_plain (name ∷ names) good =
    let each = and_parts (is_good_name name) (list_all is_good_name names) good in
    all_append (λ b. not (b == 44)) name (below_text names) (all_weaker is_name_byte (λ b. not (b == 44)) no_comma name (name_bytes name each.0)) (below_plain names each.1)

-- ---- the names in a canonical text

-- it has at most `most` good names, each after a slash
record Below (most : ℕ) (text : List ℕ) : Type 0 where
  pub names : List (List ℕ)
  pub few : length names ≤ most
  pub good : list_all is_good_name names ≡ true
  pub is : text ≡ below_text names

none : (most : ℕ) → Below most []
none most = record { names = []; few = omega arith; good = refl; is = refl }

one : (most : ℕ) (name : List ℕ) → 1 ≤ most → is_good_name name ≡ true → Below most (codes "/" ++ name)
one most name h good = record {
  names = name ∷ [];
  few = omega arith;
  good = rw good refl;
  is = ap (λ (l : List ℕ). 47 ∷ l) (sym (append-nil name));
}

two : (m name : List ℕ) → is_good_name m ≡ true → is_good_name name ≡ true → Below 2 (codes "/" ++ (m ++ (codes "/" ++ name)))
two m name a b = record {
  names = m ∷ name ∷ [];
  few = omega arith;
  good = rw (a, b) refl;
  is = ap (λ (l : List ℕ). 47 ∷ (m ++ 47 ∷ l)) (sym (append-nil name));
}

code_below : (t : Resources) (node : CodePart) → IsNamed t → Below 2 (code_text t.code node)
code_below t All n = none 2
code_below t (Module m) n = by (slice_get t.code.modules m) refl
  where
    by : (o : Option ModuleNode) → slice_get t.code.modules m ≡ o → Below 2 (named_text (option_map (λ q. q.name) o))
    by None e = none 2
    by (Some x) e = one 2 x.name (omega arith) (n.modules.good m x.name (slice_get-map (λ q. q.name) t.code.modules m ∙ ap (option_map (λ (q : ModuleNode). q.name)) e))
code_below t (Procedure p) n = by (slice_get t.code.procs p) refl
  where
    by : (o : Option ProcNode) → slice_get t.code.procs p ≡ o → Below 2 (named_text (option_map path_of o))
    by None e = none 2
    by (Some x) e = let g = n.procs p x e in two x.«module» x.name g.0 g.1

object_below : (t : Resources) (node : Option ℕ) → IsNamed t → Below 1 (object_text t.objects node)
object_below t None n = none 1
object_below t (Some k) n = by (slice_get t.objects k) refl
  where
    by : (o : Option ObjectNode) → slice_get t.objects k ≡ o → Below 1 (named_text (option_map (λ q. q.name) o))
    by None e = none 1
    by (Some x) e = one 1 x.name (omega arith) (n.objects.good k x.name (slice_get-map (λ q. q.name) t.objects k ∙ ap (option_map (λ (q : ObjectNode). q.name)) e))

-- ---- the name of a hart, whatever its number

digit_good : (d : ℕ) → d < 10 → is_name_byte (digit_glyph false d) ≡ true
digit_good d h = rw (lt-ltb d 10 h) (grind arith)

onto_good : (k n : ℕ) (acc : List ℕ) → list_all is_name_byte acc ≡ true → list_all is_name_byte (digits_onto k 10 false n acc) ≡ true
onto_good zero n acc h = h
onto_good (suc k) n acc h =
    let here : list_all is_name_byte (digit_glyph false (n % 10) ∷ acc) ≡ true = rw (digit_good (n % 10) (omega arith)) h in
    by (n / 10 == 0) (digit_glyph false (n % 10) ∷ acc) (digits_onto k 10 false (n / 10) (digit_glyph false (n % 10) ∷ acc)) here
    (onto_good k (n / 10) (digit_glyph false (n % 10) ∷ acc) here)
  where
    by : (b : Bool) (here more : List ℕ) → list_all is_name_byte here ≡ true → list_all is_name_byte more ≡ true → list_all is_name_byte (cond b here more) ≡ true
    by true here more e f = e
    by false here more e f = f

onto_few : (k n : ℕ) (acc : List ℕ) → length (digits_onto k 10 false n acc) ≤ k + length acc
onto_few zero n acc = omega arith
onto_few (suc k) n acc = by (n / 10 == 0) (onto_few k (n / 10) (digit_glyph false (n % 10) ∷ acc))
  where
    by : (b : Bool) → length (digits_onto k 10 false (n / 10) (digit_glyph false (n % 10) ∷ acc)) ≤ k + suc (length acc) → length (cond b (digit_glyph false (n % 10) ∷ acc) (digits_onto k 10 false (n / 10) (digit_glyph false (n % 10) ∷ acc))) ≤ suc k + length acc
    by true h = omega arith
    by false h = omega arith

hart_good : (k : ℕ) → is_good_name (hart_name k) ≡ true
unfolding digits
hart_good k =
    let few = onto_few 64 k [] in
    let len : length (hart_name k) ≤ 200 = omega (arith, few) in
    rw (le-leb 1 (length (hart_name k)) (omega arith), le-leb (length (hart_name k)) 200 len) (onto_good 64 k [] refl)

hart_below : (node : Option ℕ) → Below 1 (hart_text node)
hart_below None = none 1
hart_below (Some k) = one 1 (hart_name k) (omega arith) (hart_good k)

-- ---- the text

regroup : (a b c d e f : List ℕ) → a ++ b ++ (44 ∷ c) ++ d ++ (44 ∷ e) ++ f ≡ (a ++ b) ++ 44 ∷ ((c ++ d) ++ 44 ∷ (e ++ f))
regroup a b c d e f = simp append_assoc

pub canonical_is_focus : CanonicalIsFocus
canonical_is_focus t f n =
    let a = code_below t f.code n in
    let b = hart_below f.hart in
    let o = object_below t f.object n in
    let code = codes "/Code" ++ below_text a.names in
    let machine = codes "/Machine" ++ below_text b.names in
    let object = codes "/SyncObject" ++ below_text o.names in
    let text : canonical t f ≡ code ++ 44 ∷ (machine ++ 44 ∷ object) =
    rw (a.is, b.is, o.is) (regroup (codes "/Code") (below_text a.names) (codes "/Machine") (below_text b.names) (codes "/SyncObject") (below_text o.names)) in
    let split : parts 44 (canonical t f) ≡ code ∷ machine ∷ object ∷ [] =
    ap (parts 44) text ∙ part_at 44 code (machine ++ 44 ∷ object) (below_plain a.names a.good)
    ∙ ap (λ (l : List (List ℕ)). code ∷ l) (part_at 44 machine object (below_plain b.names b.good) ∙ ap (λ (l : List (List ℕ)). machine ∷ l) (one_part 44 object (below_plain o.names o.good))) in
    ap are_branches split
    ∙ rw (branch (codes "Code") 2 a.names refl refl a.few a.good, branch (codes "Machine") 1 b.names refl refl b.few b.good, branch (codes "SyncObject") 1 o.names refl refl o.few o.good) refl
