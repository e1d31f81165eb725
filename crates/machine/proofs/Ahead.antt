-- What is ahead of a hart has no more words than the blocks of the point.
use Rattle.std.proofs.Common.{◌≡◌, ℕ, ◌+◌, ◌≤◌, List, [], ◌∷◌, refl, sym, ap, ◌∙◌, arith, inl, inr}
use Rattle.std.specs.Prelude.{Bool, true, false, cond, not, map, ◌&&◌, ◌==◌, nat_lt}
use Rattle.std.proofs.lemmas.Bool.{true≢false, not-true, eq-eqb, eqb-true, and_parts}
use Rattle.std.proofs.lemmas.Grind.{common_steps}
use Rattle.machine.specs.Cores.{In, is_written}
use Rattle.machine.specs.Leaving.{words_at}
use Rattle.machine.proofs.Invariant.{Piece, the_row, IsBase, Linked}
use Rattle.machine.proofs.Lefts.{is_ahead, words_if, ahead}

-- what is ahead is linked
pub ahead_linked : (family n : ℕ) (m : Piece) → is_ahead family n m ≡ true → Linked m × (m.family ≡ family)
ahead_linked family n m e =
    let p = and_parts (not m.row.base) (not (is_written m.row.status) && ((m.family == family) && nat_lt m.age n)) e in
    let q = and_parts (not (is_written m.row.status)) ((m.family == family) && nat_lt m.age n) p.1 in
    let r = and_parts (m.family == family) (nat_lt m.age n) q.1 in
    (record { mini = not-true m.row.base p.0; was = λ s. true≢false (sym q.0 ∙ ap (λ z. not (is_written z)) s) }, eqb-true m.family family r.0)

one_word : (b : Bool) (p l : ℕ) (m : Piece) → (b ≡ true → m.row.point ≡ p) → words_if b l ≤ cond (m.row.point == p) l 0
one_word true p l m f = let e = eq-eqb m.row.point p (f refl) in let s : cond (m.row.point == p) l 0 ≡ l = ap (λ b. cond b l 0) e in omega arith
one_word false p l m f = omega arith

ahead_words : (ps : List Piece) (family n p : ℕ) → ((m : Piece) → In m ps → is_ahead family n m ≡ true → m.row.point ≡ p) → ahead ps family n ≤ words_at p (map the_row ps)
ahead_words [] family n p f = omega arith
ahead_words (m ∷ ps) family n p f =
    let h = one_word (is_ahead family n m) p m.row.len m (λ e. f m (inl refl) e) in
    let t = ahead_words ps family n p (λ q i e. f q (inr i) e) in
    omega arith

-- with the base block
pub base_and_ahead : (ps : List Piece) (b : Piece) (family n p : ℕ) → In b ps → IsBase b → b.row.point ≡ p → ((m : Piece) → In m ps → is_ahead family n m ≡ true → m.row.point ≡ p)
    → b.row.len + ahead ps family n ≤ words_at p (map the_row ps)
base_and_ahead [] b family n p h k e f = absurd h
base_and_ahead (m ∷ ps) b family n p (inl i) k e f =
    let none : is_ahead family n m ≡ false = ap (λ z. is_ahead family n z) (sym i) ∙ grind (arith, common_steps, k.base) in
    let zeros : words_if (is_ahead family n m) m.row.len ≡ 0 = ap (λ z. words_if z m.row.len) none in
    let here : cond (m.row.point == p) m.row.len 0 ≡ b.row.len = ap (λ z. cond (z.row.point == p) z.row.len 0) (sym i) ∙ ap (λ z. cond z b.row.len 0) (eq-eqb b.row.point p e) in
    let t = ahead_words ps family n p (λ q j z. f q (inr j) z) in
    omega arith
base_and_ahead (m ∷ ps) b family n p (inr h) k e f =
    let o = one_word (is_ahead family n m) p m.row.len m (λ z. f m (inl refl) z) in
    let t = base_and_ahead ps b family n p h k e (λ q j z. f q (inr j) z) in
    omega arith
