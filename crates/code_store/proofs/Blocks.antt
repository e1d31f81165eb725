-- A block's words one by one.
use Rattle.std.proofs.Common.{◌≡◌, ℕ, suc, ◌+◌, ◌-◌, ◌*◌, ◌/◌, ◌%◌, ◌<◌, ◌≤◌, List, length, get_or, drop, drop-cons, add-one, refl, sym, ap, ◌∙◌, arith}
use Rattle.std.specs.FinMap.{insert, remove}
use Rattle.tramp_spec.specs.Codes.{Code, put_words}
use Rattle.tramp_spec.specs.declared.mark.MarkedWord.{MarkedWord}
use Rattle.code_store.specs.Owners.{Owners, owners_with, owners_without}

-- the address of a word of a block
pub block_place : (end at first i : ℕ) → (end + 4095) / 4096 * 4096 ≤ at → at % 4 ≡ 0 → first ≡ (at - (end + 4095) / 4096 * 4096) / 4 → (end + 4095) / 4096 * 4096 + 4 * (first + i) ≡ at + 4 * i
block_place end at first i low aligned e = omega arith

-- one word more
pub words_step : (words : List MarkedWord) (at i : ℕ) (w : MarkedWord) (code : Code) → i < length words → w ≡ get_or words i w → put_words (at + 4 * (i + 1)) (drop (i + 1) words) (insert code (at + 4 * i) w) ≡ put_words (at + 4 * i) (drop i words) code
words_step words at i w code l is =
    let far : at + 4 * (i + 1) ≡ at + 4 * i + 4 = omega arith in
    let rest : drop (i + 1) words ≡ drop (suc i) words = rw add-one refl in
    ap (λ a. put_words a (drop (i + 1) words) (insert code (at + 4 * i) w)) far
    ∙ ap (λ ws. put_words (at + 4 * i + 4) ws (insert code (at + 4 * i) w)) rest
    ∙ ap (λ x. put_words (at + 4 * i + 4) (drop (suc i) words) (insert code (at + 4 * i) x)) is
    ∙ sym (ap (λ ws. put_words (at + 4 * i) ws code) (drop-cons words i w l))

pub owners_step : (n at i point : ℕ) (owners : Owners) → i < n → owners_with (at + 4 * (i + 1)) (n - (i + 1)) point (insert owners (at + 4 * i) point) ≡ owners_with (at + 4 * i) (n - i) point owners
owners_step n at i point owners l =
    let far : at + 4 * (i + 1) ≡ at + 4 * i + 4 = omega arith in
    let more : n - i ≡ suc (n - (i + 1)) = omega arith in
    ap (λ a. owners_with a (n - (i + 1)) point (insert owners (at + 4 * i) point)) far
    ∙ sym (ap (λ k. owners_with (at + 4 * i) k point owners) more)

pub without_step : (n at i : ℕ) (owners : Owners) → i < n → owners_without (at + 4 * (i + 1)) (n - (i + 1)) (remove owners (at + 4 * i)) ≡ owners_without (at + 4 * i) (n - i) owners
without_step n at i owners l =
    let far : at + 4 * (i + 1) ≡ at + 4 * i + 4 = omega arith in
    let more : n - i ≡ suc (n - (i + 1)) = omega arith in
    ap (λ a. owners_without a (n - (i + 1)) (remove owners (at + 4 * i))) far
    ∙ sym (ap (λ k. owners_without (at + 4 * i) k owners) more)
