-- Blocks that are found by marks, and by where they begin.
use Rattle.std.proofs.Common.{◌≡◌, ℕ, suc, ◌+◌, ◌*◌, ◌-◌, ◌/◌, ◌<◌, ◌∷◌, [], Bool, false, cond, List, length, get_or, refl, ap, subst, ◌∙◌, arith}
use Rattle.std.specs.Prelude.{◌&&◌, not}
use Rattle.block_count.specs.declared.block_head.BlockHead.{BlockHead}
use Rattle.block_count.specs.Heads.{is_instr, words_behind, heads_in}
use Rattle.block_count.specs.Marked.{marked_in}

-- two tests agree on the first n words from an address on
abbrev pub Agree : (ℕ → Bool) → (ℕ → Bool) → ℕ → ℕ → Type 0
Agree f g n a = (k : ℕ) → k < n → f (a + 4 * k) ≡ g (a + 4 * k)

agree_first : (f g : ℕ → Bool) (n a : ℕ) → Agree f g (suc n) a → f a ≡ g a
agree_first f g n a same =
    let e : a + 4 * 0 ≡ a = omega arith in
    subst (λ z. f z ≡ g z) e (same 0 (omega arith))

agree_rest : (f g : ℕ → Bool) (n a : ℕ) → Agree f g (suc n) a → Agree f g n (a + 4)
agree_rest f g n a same = λ k l.
    let e : a + 4 * suc k ≡ a + 4 + 4 * k = omega arith in
    subst (λ z. f z ≡ g z) e (same (suc k) (omega arith))

pub same_behind : (f g : ℕ → Bool) (ws : List ℕ) (a : ℕ) → Agree f g (length ws) a → words_behind f ws a ≡ words_behind g ws a
same_behind f g [] a same = refl
same_behind f g (w ∷ ws) a same =
    ap (λ b. cond (is_instr w && not b) (1 + words_behind f ws (a + 4)) 0) (agree_first f g (length ws) a same)
    ∙ ap (λ n. cond (is_instr w && not (g a)) (1 + n) 0) (same_behind f g ws (a + 4) (agree_rest f g (length ws) a same))

-- tests that agree on the words find the same blocks
pub same_heads : (f g : ℕ → Bool) (ws : List ℕ) (a : ℕ) → Agree f g (length ws) a → heads_in f ws a ≡ heads_in g ws a
same_heads f g [] a same = refl
same_heads f g (w ∷ ws) a same =
    let rest = agree_rest f g (length ws) a same in
    let head : ℕ → BlockHead = λ n. record { at = a; words = 1 + n } in
    ap (λ b. cond (is_instr w && b) (head (words_behind f ws (a + 4)) ∷ heads_in f ws (a + 4)) (heads_in f ws (a + 4))) (agree_first f g (length ws) a same)
    ∙ ap (λ n. cond (is_instr w && g a) (head n ∷ heads_in f ws (a + 4)) (heads_in f ws (a + 4))) (same_behind f g ws (a + 4) rest)
    ∙ ap (λ hs. cond (is_instr w && g a) (head (words_behind g ws (a + 4)) ∷ hs) hs) (same_heads f g ws (a + 4) rest)

-- marks on words agree with what they mark
pub marks_agree : (marks : List Bool) (g : ℕ → Bool) (n a : ℕ) → ((k : ℕ) → k < n → get_or marks k false ≡ g (a + 4 * k)) → Agree (marked_in a marks) g n a
marks_agree marks g n a same = λ k l.
    let e : (a + 4 * k - a) / 4 ≡ k = omega arith in
    ap (λ j. get_or marks j false) e ∙ same k l
