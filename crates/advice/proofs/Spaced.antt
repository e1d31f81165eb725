-- Words with spaces between them, and the bytes of which they are made.
use Rattle.std.proofs.Common.{◌≡◌, ℕ, zero, suc, ◌+◌, ◌/◌, ◌%◌, ◌==◌, ◌&&◌, not, nat_le, nat_lt, cond, Bool, true, false, List, [], ◌∷◌, ◌++◌, length, codes, bytes_eq, refl, sym, ap, ◌∙◌, arith, append_assoc, subst}
use Rattle.std.specs.Fmt.{digit_glyph, digits, digits_onto}
use Rattle.std.specs.List.{join_with_byte, list_all}
use Rattle.std.proofs.lemmas.Bool.{and_parts}
use Rattle.std.proofs.lemmas.List.Folds.{list_all-append}
use Rattle.std.proofs.lemmas.List.Splits.{join_with_byte-slice_split}
use Rattle.std.proofs.lemmas.Slice.Eq.{bytes_eq-Decides}
use Rattle.pn_text.specs.Bytes.{begins_name, is_name_byte}
use Rattle.pn_text.specs.Lines.{is_lf, is_none}
use Rattle.pn_text.specs.Words.{is_name}
use Rattle.pn_types.specs.GoodNames as good
use Rattle.advice.specs.Seams.{is_one_line}
use Rattle.advice.proofs.Parts.{one_part, part_at}
use Rattle.advice.specs.Words.{are_branch, are_branches, are_names, is_branch, is_focus, parts, words}

-- a byte above the space
abbrev pub is_above : ℕ → Bool
is_above byte = nat_lt 32 byte

-- a word has such bytes alone
abbrev pub is_word : List ℕ → Bool
is_word text = list_all is_above text

-- ---- tests of all bytes

pub all_append : (p : ℕ → Bool) (xs ys : List ℕ) → list_all p xs ≡ true → list_all p ys ≡ true → list_all p (xs ++ ys) ≡ true
all_append p xs ys h k = rw (list_all-append p xs ys, h) k

pub all_weaker : (p q : ℕ → Bool) → ((b : ℕ) → p b ≡ true → q b ≡ true) → (xs : List ℕ) → list_all p xs ≡ true → list_all q xs ≡ true
all_weaker p q weaker [] h = refl
all_weaker p q weaker (x ∷ xs) h =
    let each = and_parts (p x) (list_all p xs) h in
    rw (weaker x each.0) (all_weaker p q weaker xs each.1)

no_lf : (b : ℕ) → is_above b ≡ true → not (is_lf b) ≡ true
no_lf b h = grind arith

pub word_line : (text : List ℕ) → is_word text ≡ true → is_one_line text ≡ true
word_line = all_weaker is_above (λ b. not (is_lf b)) no_lf

-- ---- words and spaces

-- words, each before a space, and then a text
abbrev pub before : List (List ℕ) → List ℕ → List ℕ
before [] text = text
before (w ∷ ws) text = w ++ 32 ∷ before ws text

pub before-append : (ws : List (List ℕ)) (a b : List ℕ) → before ws (a ++ b) ≡ before ws a ++ b
before-append [] a b = refl
before-append (w ∷ ws) a b = ap (λ (l : List ℕ). w ++ 32 ∷ l) (before-append ws a b) ∙ sym (append_assoc w (32 ∷ before ws a) b)

no_space : (b : ℕ) → is_above b ≡ true → not (b == 32) ≡ true
no_space b h = grind arith

pub one_word : (w : List ℕ) → is_word w ≡ true → words w ≡ w ∷ []
one_word w h = one_part 32 w (all_weaker is_above (λ b. not (b == 32)) no_space w h)

pub words_before : (ws : List (List ℕ)) (text : List ℕ) → list_all is_word ws ≡ true → words (before ws text) ≡ ws ++ words text
words_before [] text h = refl
words_before (w ∷ ws) text h =
    let each = and_parts (is_word w) (list_all is_word ws) h in
    part_at 32 w (before ws text) (all_weaker is_above (λ b. not (b == 32)) no_space w each.0) ∙ ap (λ (l : List (List ℕ)). w ∷ l) (words_before ws text each.1)

pub line_before : (ws : List (List ℕ)) (text : List ℕ) → list_all is_word ws ≡ true → is_one_line text ≡ true → is_one_line (before ws text) ≡ true
line_before [] text h k = k
line_before (w ∷ ws) text h k =
    let each = and_parts (is_word w) (list_all is_word ws) h in
    all_append (λ b. not (is_lf b)) w (32 ∷ before ws text) (word_line w each.0) (line_before ws text each.1 k)

-- ---- numbers

glyph_above : (d : ℕ) → is_above (digit_glyph false d) ≡ true
glyph_above d = by (nat_lt d 10)
  where
    by : (b : Bool) → is_above (cond b (48 + d) (87 + d)) ≡ true
    by true = grind arith
    by false = grind arith

onto_above : (k base n : ℕ) (acc : List ℕ) → is_word acc ≡ true → is_word (digits_onto k base false n acc) ≡ true
onto_above zero base n acc h = h
onto_above (suc k) base n acc h =
    let here : is_word (digit_glyph false (n % base) ∷ acc) ≡ true = rw (glyph_above (n % base)) h in
    by (n / base == 0) (digit_glyph false (n % base) ∷ acc) (digits_onto k base false (n / base) (digit_glyph false (n % base) ∷ acc)) here
    (onto_above k base (n / base) (digit_glyph false (n % base) ∷ acc) here)
  where
    by : (b : Bool) (here more : List ℕ) → is_word here ≡ true → is_word more ≡ true → is_word (cond b here more) ≡ true
    by true here more e f = e
    by false here more e f = f

pub digits_above : (base n : ℕ) → is_word (digits base false n) ≡ true
unfolding digits
digits_above base n = onto_above 64 base n [] refl

pub decimal_above : (n : ℕ) → is_word (digits 10 false n) ≡ true
decimal_above n = digits_above 10 n

-- ---- names

name_byte_above : (b : ℕ) → is_name_byte b ≡ true → is_above b ≡ true
name_byte_above b h = grind arith

first_above : (b : ℕ) → begins_name b ≡ true → is_above b ≡ true
first_above b h = grind arith

pub name_above : (name : List ℕ) → is_name name ≡ true → is_word name ≡ true
name_above [] h = refl
name_above (b ∷ bs) h =
    let each = and_parts (begins_name b) (list_all is_name_byte bs) h in
    rw (first_above b each.0) (all_weaker is_name_byte is_above name_byte_above bs each.1)

-- ---- foci

good_byte_above : (b : ℕ) → good.is_name_byte b ≡ true → is_above b ≡ true
good_byte_above b h = grind arith

good_above : (name : List ℕ) → good.is_good_name name ≡ true → is_word name ≡ true
good_above name h =
    all_weaker good.is_name_byte is_above good_byte_above name
    (and_parts (nat_le 1 (length name) && nat_le (length name) 200) (list_all good.is_name_byte name) h).1

joined_above : (c : ℕ) (texts : List (List ℕ)) → is_above c ≡ true → list_all is_word texts ≡ true → is_word (join_with_byte c texts) ≡ true
joined_above c [] h k = refl
joined_above c (t ∷ []) h k = (and_parts (is_word t) true k).0
joined_above c (t ∷ u ∷ ts) h k =
    let each = and_parts (is_word t) (list_all is_word (u ∷ ts)) k in
    all_append is_above t (c ∷ join_with_byte c (u ∷ ts)) each.0 (rw h (joined_above c (u ∷ ts) h each.1))

-- a text whose parts are words
parts_above : (c : ℕ) (text : List ℕ) → is_above c ≡ true → list_all is_word (parts c text) ≡ true → is_word text ≡ true
parts_above c text h k =
    subst (λ (t : List ℕ). is_word t ≡ true) (join_with_byte-slice_split c text) (joined_above c (parts c text) h k)

names_above : (most : ℕ) (names : List (List ℕ)) → are_names most names ≡ true → list_all is_word names ≡ true
names_above most [] h = refl
names_above zero (name ∷ names) h = cc
names_above (suc most) (name ∷ names) h =
    let each = and_parts (good.is_good_name name) (are_names most names) h in
    rw (good_above name each.0) (names_above most names each.1)

none_above : (text : List ℕ) → is_none text ≡ true → is_word text ≡ true
none_above [] h = refl
none_above (b ∷ bs) h = cc

branch_parts_above : (root : List ℕ) (most : ℕ) (ps : List (List ℕ)) → is_word root ≡ true → are_branch root most ps ≡ true → list_all is_word ps ≡ true
branch_parts_above root most [] r h = refl
branch_parts_above root most (first ∷ []) r h = cc
branch_parts_above root most (first ∷ name ∷ names) r h =
    let a = and_parts (is_none first && bytes_eq name root) (are_names most names) h in
    let b = and_parts (is_none first) (bytes_eq name root) a.0 in
    let same : name ≡ root = (bytes_eq-Decides name root).0 b.1 in
    rw (none_above first b.0, same, r) (names_above most names a.1)

branch_above : (root : List ℕ) (most : ℕ) (text : List ℕ) → is_word root ≡ true → is_branch root most text ≡ true → is_word text ≡ true
branch_above root most text r h = parts_above 47 text refl (branch_parts_above root most (parts 47 text) r h)

branches_above : (ps : List (List ℕ)) → are_branches ps ≡ true → list_all is_word ps ≡ true
branches_above [] h = refl
branches_above (code ∷ []) h = cc
branches_above (code ∷ machine ∷ []) h = cc
branches_above (code ∷ machine ∷ object ∷ []) h =
    let a = and_parts (is_branch (codes "Code") 2 code && is_branch (codes "Machine") 1 machine) (is_branch (codes "SyncObject") 1 object) h in
    let b = and_parts (is_branch (codes "Code") 2 code) (is_branch (codes "Machine") 1 machine) a.0 in
    rw (branch_above (codes "Code") 2 code refl b.0, branch_above (codes "Machine") 1 machine refl b.1, branch_above (codes "SyncObject") 1 object refl a.1) refl
branches_above (code ∷ machine ∷ object ∷ more ∷ ps) h = cc

pub focus_above : (text : List ℕ) → is_focus text ≡ true → is_word text ≡ true
focus_above text h = parts_above 44 text refl (branches_above (parts 44 text) h)
