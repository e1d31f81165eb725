-- The counts of words, from place to place.
use Rattle.std.proofs.Common.{◌≡◌, ℕ, suc, ◌+◌, ◌*◌, ◌<◌, List, [], ◌∷◌, length, get_or, Option, None, refl, ap, sym, ◌∙◌, subst, arith}
use Rattle.std.specs.Prelude.{map}
use Rattle.std.specs.List.{AllZip}
use Rattle.pn_types.specs.declared.code.Proc.{Proc}
use Rattle.pn_types.specs.declared.image.Image.{Image}
use Rattle.rv_exec.specs.Run.{Position, executions}
use Rattle.block_count.specs.Counted.{passes_of}
use Rattle.block_count.specs.CountedBlocks.{counted_blocks_of}
use Rattle.block_count.specs.Heads.{heads_of}
use Rattle.block_count.specs.declared.block_head.BlockHead.{BlockHead}
use Rattle.block_count.specs.declared.counted_block.CountedBlock.{CountedBlock}
use Rattle.word_flow.specs.Executions.{executions_of}
use Rattle.word_flow.specs.Laws.{CountsAtMost}
use Rattle.word_counts.specs.Placing.{count_at, counts_of_words}
use Rattle.word_counts.proofs.HeadCounts.{counts_low}
use Rattle.word_counts.proofs.Heads.{heads_of_counted_blocks}

-- each of these counts is that of its word, the first of which stands at a
abbrev pub AreCountsAt : List BlockHead → List (Option ℕ) → List (Option ℕ) → ℕ → ℕ → Type 0
AreCountsAt hs ns cs words a = (k : ℕ) → k < words → get_or cs k None ≡ count_at None hs ns (a + 4 * k)

places_low : (tr : List Position) (cs : List (Option ℕ)) (ws : List ℕ) (a : ℕ) → length cs ≡ length ws
    → ((k : ℕ) → k < length ws → CountsAtMost (get_or cs k None) (executions (a + 4 * k) tr))
    → AllZip CountsAtMost cs (executions_of ws a tr)
places_low tr [] [] a l h = tt
places_low tr [] (w ∷ ws) a l h = absurd (omega arith)
places_low tr (c ∷ cs) [] a l h = absurd (omega arith)
places_low tr (c ∷ cs) (w ∷ ws) a l h =
    let z : a + 4 * 0 ≡ a = omega arith in
    let first = subst (λ x. CountsAtMost c (executions x tr)) z (h 0 (omega arith)) in (
      first,
      places_low tr cs ws (a + 4) (omega arith) (λ k f.
          let m : a + 4 * suc k ≡ a + 4 + 4 * k = omega arith in
          subst (λ x. CountsAtMost (get_or cs k None) (executions x tr)) m (h (suc k) (omega arith))),
    )

-- no count of a word is more than its executions
pub words_low : (image : Image) (procs : List Proc) (tr : List Position)
    → (cs : List (Option ℕ)) (hs : List BlockHead) (ns : List (Option ℕ)) (ws : List ℕ) (a : ℕ)
    → hs ≡ heads_of image procs → ns ≡ map (passes_of tr) (counted_blocks_of image procs) → length cs ≡ length ws
    → AreCountsAt hs ns cs (length ws) a → AllZip CountsAtMost cs (executions_of ws a tr)
words_low image procs tr cs hs ns ws a eh en l h =
    let bs = counted_blocks_of image procs in
    let heads : List BlockHead = map (λ (s : CountedBlock). s.head) bs in
    places_low tr cs ws a l (λ k f.
    let e : get_or cs k None ≡ count_at None heads (map (passes_of tr) bs) (a + 4 * k)
    = h k f
    ∙ (ap (λ z. count_at None z ns (a + 4 * k)) (eh ∙ sym (heads_of_counted_blocks image procs))
    ∙ ap (λ z. count_at None heads z (a + 4 * k)) en) in
    subst (λ o. CountsAtMost o (executions (a + 4 * k) tr)) (sym e) (counts_low tr bs None (a + 4 * k) tt))

-- counts from place to place are the counts of all words
pub counts_are : (hs : List BlockHead) (ns : List (Option ℕ)) (cs : List (Option ℕ)) (ws : List ℕ) (a : ℕ)
    → length cs ≡ length ws → AreCountsAt hs ns cs (length ws) a → cs ≡ counts_of_words hs ns ws a
counts_are hs ns [] [] a l h = refl
counts_are hs ns [] (w ∷ ws) a l h = absurd (omega arith)
counts_are hs ns (c ∷ cs) [] a l h = absurd (omega arith)
counts_are hs ns (c ∷ cs) (w ∷ ws) a l h =
    let z : a + 4 * 0 ≡ a = omega arith in
    let e : c ≡ count_at None hs ns a = h 0 (omega arith) ∙ ap (count_at None hs ns) z in
    let r : cs ≡ counts_of_words hs ns ws (a + 4) = counts_are hs ns cs ws (a + 4) (omega arith) (λ k f.
    let m : a + 4 * suc k ≡ a + 4 + 4 * k = omega arith in
    h (suc k) (omega arith) ∙ ap (count_at None hs ns) m) in
    ap (λ x. x ∷ cs) e ∙ ap (λ x. count_at None hs ns a ∷ x) r
