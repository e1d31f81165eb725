-- A store breaks nothing where no hart has a reservation.
use Rattle.std.proofs.Common.{◌≡◌, ℕ, suc, ◌+◌, List, [], ◌∷◌, Option, None, refl, ap, sym, ◌∙◌, arith}
use Rattle.rv_word.specs.Exec.{broken, left_of}
use Rattle.rv_exec.specs.Unreserved.{AreFree}

left_free : (k h first last : ℕ) → left_of k h first last None ≡ None
left_free k h first last = grind arith

broken_free : (k h first last : ℕ) (rs : List (Option ℕ)) → AreFree rs → broken k h first last rs ≡ rs
broken_free k h first last [] free = refl
broken_free k h first last (r ∷ rs) free =
    let e : r ≡ None = free 0 None (omega arith) in
    ap (λ z. left_of k h first last z ∷ broken (k + 1) h first last rs) e
    ∙ ap (λ z. z ∷ broken (k + 1) h first last rs) (left_free k h first last ∙ sym e)
    ∙ ap (λ z. r ∷ z) (broken_free (k + 1) h first last rs (λ i d l. free (suc i) d (omega arith)))

pub stays : (h first last : ℕ) (rs : List (Option ℕ)) → AreFree rs → rs ≡ broken 0 h first last rs
stays h first last rs free = sym (broken_free 0 h first last rs free)
