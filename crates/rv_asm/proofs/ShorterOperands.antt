-- What is read of operands is no longer than their text.
use Rattle.std.proofs.Common.{◌≡◌, ℕ, ◌+◌, ◌≤◌, ◌==◌, cond, Bool, true, false, Option, Some, None, List, [], ◌∷◌, length, take, drop, refl, ap, arith}
use Rattle.std.proofs.lemmas.List.{length-take, length-drop}
use Rattle.std.specs.Option.{option_and_then}
use Rattle.std.specs.List.{prefix_len}
use Rattle.rv_asm.specs.declared.number.Number.{Number}
use Rattle.rv_asm.specs.Registers.{register_of}
use Rattle.rv_asm.specs.Bytes.{skip_blanks, after_name, word_of, is_name, is_blank, is_name_byte}
use Rattle.rv_asm.specs.Tokens.{ends, after_sign, sign_at, register_at, name_at, number_at, string_len, string_at}
use Rattle.rv_asm.specs.Operands.{alone, and_register_at, and_last_name, register_name, registers_name, one_name, name_number, one_string}

-- ---- options

pub step_of : {A B : Type 0} (o : Option A) (f : A → Option B) (x : B) → option_and_then f o ≡ Some x → (a : A) × ((o ≡ Some a) × (f a ≡ Some x))
step_of None f x e = absurd (cc)
step_of (Some a) f x e = (a, (refl, e))

pub some_is : {A : Type 0} (a x : A) → ◌≡◌ {A = Option A} (Some a) (Some x) → a ≡ x
some_is a x e = cc

pub chosen : {A : Type 0} (b : Bool) (a x : A) → cond b (Some a) None ≡ Some x → a ≡ x
chosen true a x e = cc
chosen false a x e = absurd (cc)

pub alone_is : {A : Type 0} (value : A) (rest : List ℕ) (x : A) → alone value rest ≡ Some x → value ≡ x
alone_is value rest x e = chosen (ends rest) value x e

-- ---- parts

pub skip_shorter : (text : List ℕ) → length (skip_blanks text) ≤ length text
unfolding skip_blanks
skip_shorter text = let e = length-drop (prefix_len is_blank text) text in omega arith

pub behind_shorter : (text : List ℕ) → length (after_name text) ≤ length text
unfolding after_name
behind_shorter text = let e = length-drop (prefix_len is_name_byte text) text in omega arith

word_shorter : (text : List ℕ) → length (word_of text) ≤ length text
unfolding word_of
word_shorter text = let e = length-take (prefix_len is_name_byte text) text in omega arith

sign_by : (sign : ℕ) (text rest : List ℕ) → after_sign sign text ≡ Some rest → length rest ≤ length text
sign_by sign [] rest e = absurd (cc)
sign_by sign (byte ∷ bytes) rest e = let same : length bytes ≡ length rest = ap length (chosen (byte == sign) bytes rest e) in omega arith

sign_shorter : (sign : ℕ) (text rest : List ℕ) → sign_at sign text ≡ Some rest → length rest ≤ length text
unfolding sign_at
sign_shorter sign text rest e =
    let h = sign_by sign (skip_blanks text) rest e in
    let g = skip_shorter text in
    omega arith

register_shorter : (text : List ℕ) (x : ℕ × List ℕ) → register_at text ≡ Some x → length x.1 ≤ length text
unfolding register_at
register_shorter text x e =
    let found = step_of (register_of (word_of (skip_blanks text))) (λ (number : ℕ). Some (number, after_name (skip_blanks text))) x e in
    let same : length (after_name (skip_blanks text)) ≡ length x.1 = ap (λ (p : ℕ × List ℕ). length p.1) (some_is (found.0, after_name (skip_blanks text)) x found.1.1) in
    let h = behind_shorter (skip_blanks text) in
    let g = skip_shorter text in
    omega arith

name_shorter : (text : List ℕ) (x : List ℕ × List ℕ) → name_at text ≡ Some x → (length x.0 ≤ length text) × (length x.1 ≤ length text)
unfolding name_at
name_shorter text x e =
    let same = chosen (is_name (word_of (skip_blanks text))) (word_of (skip_blanks text), after_name (skip_blanks text)) x e in
    let first : length (word_of (skip_blanks text)) ≡ length x.0 = ap (λ (p : List ℕ × List ℕ). length p.0) same in
    let second : length (after_name (skip_blanks text)) ≡ length x.1 = ap (λ (p : List ℕ × List ℕ). length p.1) same in
    let w = word_shorter (skip_blanks text) in
    let h = behind_shorter (skip_blanks text) in
    let g = skip_shorter text in
    (omega arith, omega arith)

string_shorter : (text : List ℕ) (x : List ℕ × List ℕ) → string_at text ≡ Some x → length x.0 ≤ length text
unfolding string_at
string_shorter text x e =
    let opened = step_of (sign_at 34 text) (λ (o : List ℕ). option_and_then (λ len. Some (take len o, drop (len + 1) o)) (string_len false o)) x e in
    let len = step_of (string_len false opened.0) (λ len. Some (take len opened.0, drop (len + 1) opened.0)) x opened.1.1 in
    let same : length (take len.0 opened.0) ≡ length x.0 = ap (λ (p : List ℕ × List ℕ). length p.0) (some_is (take len.0 opened.0, drop (len.0 + 1) opened.0) x len.1.1) in
    let cut = length-take len.0 opened.0 in
    let h = sign_shorter 34 text opened.0 opened.1.0 in
    omega arith

-- ---- operands

and_register_shorter : (text : List ℕ) (x : ℕ × List ℕ) → and_register_at text ≡ Some x → length x.1 ≤ length text
unfolding and_register_at
and_register_shorter text x e =
    let rest = step_of (sign_at 44 text) register_at x e in
    let h = sign_shorter 44 text rest.0 rest.1.0 in
    let g = register_shorter rest.0 x rest.1.1 in
    omega arith

and_last_shorter : (text name : List ℕ) → and_last_name text ≡ Some name → length name ≤ length text
unfolding and_last_name
and_last_shorter text name e =
    let rest = step_of (sign_at 44 text) (λ (r : List ℕ). option_and_then (λ (n : List ℕ × List ℕ). alone n.0 n.1) (name_at r)) name e in
    let found = step_of (name_at rest.0) (λ (n : List ℕ × List ℕ). alone n.0 n.1) name rest.1.1 in
    let same : length found.0.0 ≡ length name = ap length (alone_is found.0.0 found.0.1 name found.1.1) in
    let h = sign_shorter 44 text rest.0 rest.1.0 in
    let g = name_shorter rest.0 found.0 found.1.0 in
    let k = g.0 in
    omega arith

pub register_name_shorter : (text : List ℕ) (x : ℕ × List ℕ) → register_name text ≡ Some x → length x.1 ≤ length text
unfolding register_name
register_name_shorter text x e =
    let a = step_of (register_at text) (λ (a : ℕ × List ℕ). option_and_then (λ (name : List ℕ). Some (a.0, name)) (and_last_name a.1)) x e in
    let n = step_of (and_last_name a.0.1) (λ (name : List ℕ). Some (a.0.0, name)) x a.1.1 in
    let same : length n.0 ≡ length x.1 = ap (λ (p : ℕ × List ℕ). length p.1) (some_is (a.0.0, n.0) x n.1.1) in
    let h = register_shorter text a.0 a.1.0 in
    let g = and_last_shorter a.0.1 n.0 n.1.0 in
    omega arith

pub registers_name_shorter : (text : List ℕ) (x : ℕ × ℕ × List ℕ) → registers_name text ≡ Some x → length x.2 ≤ length text
unfolding registers_name
registers_name_shorter text x e =
    let a = step_of (register_at text) (λ (a : ℕ × List ℕ). option_and_then (λ (b : ℕ × List ℕ). option_and_then (λ (name : List ℕ). Some (a.0, b.0, name)) (and_last_name b.1)) (and_register_at a.1)) x e in
    let b = step_of (and_register_at a.0.1) (λ (b : ℕ × List ℕ). option_and_then (λ (name : List ℕ). Some (a.0.0, b.0, name)) (and_last_name b.1)) x a.1.1 in
    let n = step_of (and_last_name b.0.1) (λ (name : List ℕ). Some (a.0.0, b.0.0, name)) x b.1.1 in
    let same : length n.0 ≡ length x.2 = ap (λ (p : ℕ × ℕ × List ℕ). length p.2) {x = (a.0.0, b.0.0, n.0)} (some_is (a.0.0, b.0.0, n.0) x n.1.1) in
    let h = register_shorter text a.0 a.1.0 in
    let k = and_register_shorter a.0.1 b.0 b.1.0 in
    let g = and_last_shorter b.0.1 n.0 n.1.0 in
    omega arith

pub one_name_shorter : (text name : List ℕ) → one_name text ≡ Some name → length name ≤ length text
unfolding one_name
one_name_shorter text name e =
    let found = step_of (name_at text) (λ (n : List ℕ × List ℕ). alone n.0 n.1) name e in
    let same : length found.0.0 ≡ length name = ap length (alone_is found.0.0 found.0.1 name found.1.1) in
    let g = name_shorter text found.0 found.1.0 in
    let k = g.0 in
    omega arith

pub name_number_shorter : (text : List ℕ) (x : List ℕ × Number) → name_number text ≡ Some x → length x.0 ≤ length text
unfolding name_number
name_number_shorter text x e =
    let name = step_of (name_at text) (λ (a : List ℕ × List ℕ). option_and_then (λ (n : Number × List ℕ). alone (a.0, n.0) n.1) (number_at a.1)) x e in
    let n = step_of (number_at name.0.1) (λ (n : Number × List ℕ). alone (name.0.0, n.0) n.1) x name.1.1 in
    let same : length name.0.0 ≡ length x.0 = ap (λ (p : List ℕ × Number). length p.0) (alone_is (name.0.0, n.0.0) n.0.1 x n.1.1) in
    let g = name_shorter text name.0 name.1.0 in
    let k = g.0 in
    omega arith

pub one_string_shorter : (text bytes : List ℕ) → one_string text ≡ Some bytes → length bytes ≤ length text
unfolding one_string
one_string_shorter text bytes e =
    let found = step_of (string_at text) (λ (n : List ℕ × List ℕ). alone n.0 n.1) bytes e in
    let same : length found.0.0 ≡ length bytes = ap length (alone_is found.0.0 found.0.1 bytes found.1.1) in
    let g = string_shorter text found.0 found.1.0 in
    omega arith
