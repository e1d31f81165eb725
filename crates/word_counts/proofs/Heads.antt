-- The heads of a program's blocks, and their counts.
use Rattle.std.proofs.Common.{◌≡◌, ℕ, zero, suc, ◌+◌, ◌*◌, List, [], ◌∷◌, length, Option, Some, None, refl, ap, ◌∙◌, arith, Bool, true, false, cond}
use Rattle.std.specs.Prelude.{◌==◌, ◌&&◌, ◌||◌, is_none, is_some, map, slice_get, count_by}
use Rattle.std.specs.List.{list_any}
use Rattle.std.proofs.lemmas.Bool.{and_from, eq-eqb, or_left, or_right}
use Rattle.std.proofs.lemmas.List.Sums.{sum_by-cons}
use Rattle.pn_types.specs.declared.code.Proc.{Proc}
use Rattle.pn_types.specs.declared.image.Image.{Image}
use Rattle.rv_word.specs.Plain.{Words}
use Rattle.rv_mem.specs.Start.{program_of}
use Rattle.block_count.specs.CountedBlocks.{counted_from, counted_blocks_of, counter_for}
use Rattle.block_count.specs.Counters.{Counter, end_of}
use Rattle.block_count.specs.Heads.{heads_in, heads_of, is_instr, words_behind}
use Rattle.block_count.specs.declared.block_head.BlockHead.{BlockHead}
use Rattle.block_count.specs.declared.counted_block.CountedBlock.{CountedBlock}
use Rattle.word_flow.proofs.Flows.{one_if}
use Rattle.word_counts.specs.Placing.{count_at}

-- ---- the heads of counted blocks

heads_of_counted_from : (t : Words) (slot at : ℕ) (hs : List BlockHead)
    → map (λ (s : CountedBlock). s.head) (counted_from t slot at hs) ≡ hs
heads_of_counted_from t slot at [] = refl
heads_of_counted_from t slot at (h ∷ hs) = by (counter_for t slot at h.at) (λ s a. heads_of_counted_from t s a hs)
  where
    by : (o : Option Counter) → ((s a : ℕ) → map (λ (s : CountedBlock). s.head) (counted_from t s a hs) ≡ hs)
        → map (λ (s : CountedBlock). s.head) (elim o [
          | None ↦ record { head = h; counter = None } ∷ counted_from t slot at hs
          | Some c ↦ record { head = h; counter = Some c } ∷ counted_from t (slot + 1) (end_of c) hs
        ]) ≡ h ∷ hs
    by None r = ap (λ z. h ∷ z) (r slot at)
    by (Some c) r = ap (λ z. h ∷ z) (r (slot + 1) (end_of c))

pub heads_of_counted_blocks : (image : Image) (procs : List Proc)
    → map (λ (s : CountedBlock). s.head) (counted_blocks_of image procs) ≡ heads_of image procs
heads_of_counted_blocks image procs = heads_of_counted_from (program_of image) _ _ (heads_of image procs)

-- ---- where a block begins a head stands

pub has_head : (begin : ℕ → Bool) (ws : List ℕ) (b i w a : ℕ)
    → slice_get ws i ≡ Some w → a ≡ b + 4 * i → is_instr w ≡ true → begin a ≡ true → list_any (λ h. h.at == a) (heads_in begin ws b) ≡ true
has_head begin [] b i w a e at s g = absurd cc
has_head begin (v ∷ vs) b zero w a e at s g =
    let z : b ≡ a = omega arith in
    let u : v ≡ w = cc in
    let c : (is_instr v && begin b) ≡ true = and_from _ _ (ap is_instr u ∙ s) (ap begin z ∙ g) in
    let h : BlockHead = record { at = b; words = 1 + words_behind begin vs (b + 4) } in
    ap (λ k. list_any (λ h. h.at == a) (cond k (h ∷ heads_in begin vs (b + 4)) (heads_in begin vs (b + 4)))) c
    ∙ or_left (b == a) _ (eq-eqb b a z)
has_head begin (v ∷ vs) b (suc i) w a e at s g = by (is_instr v && begin b) (has_head begin vs (b + 4) i w a e (omega arith) s g)
  where
    by : (k : Bool) → list_any (λ h. h.at == a) (heads_in begin vs (b + 4)) ≡ true
        → list_any (λ h. h.at == a)
        (cond k (record { at = b; words = 1 + words_behind begin vs (b + 4) } ∷ heads_in begin vs (b + 4)) (heads_in begin vs (b + 4)))
        ≡ true
    by true r = or_right (b == a) _ r
    by false r = r

-- ---- where all blocks are counted, a head has a count

keeps_count : (o : Option ℕ) (hs : List BlockHead) (cs : List (Option ℕ)) (a : ℕ)
    → is_some o ≡ true → count_by is_none cs ≡ 0 → is_some (count_at o hs cs a) ≡ true
keeps_count o [] cs a s all = s
keeps_count o (h ∷ hs) [] a s all = s
keeps_count o (h ∷ hs) (c ∷ cs) a s all =
    let p = sum_by-cons (λ c. one_if (is_none c)) c cs in
    keeps_count (cond (h.at == a) c o) hs cs a (either (h.at == a) c (omega arith)) (omega arith)
  where
    either : (b : Bool) (c : Option ℕ) → one_if (is_none c) ≡ 0 → is_some (cond b c o) ≡ true
    either false c e = s
    either true (Some k) e = refl
    either true None e = absurd (omega arith)

pub has_count : (o : Option ℕ) (hs : List BlockHead) (cs : List (Option ℕ)) (a : ℕ)
    → length cs ≡ length hs → count_by is_none cs ≡ 0 → list_any (λ h. h.at == a) hs ≡ true → is_some (count_at o hs cs a) ≡ true
has_count o [] cs a l all e = absurd cc
has_count o (h ∷ hs) [] a l all e = absurd (omega arith)
has_count o (h ∷ hs) (c ∷ cs) a l all e =
    let p = sum_by-cons (λ c. one_if (is_none c)) c cs in
    by (h.at == a) c (omega arith) (omega arith) e (λ o r g. has_count o hs cs a (omega arith) r g)
  where
    by : (b : Bool) (c : Option ℕ) → one_if (is_none c) ≡ 0 → count_by is_none cs ≡ 0 → (b || list_any (λ h. h.at == a) hs) ≡ true
        → ((o : Option ℕ) → count_by is_none cs ≡ 0 → list_any (λ h. h.at == a) hs ≡ true → is_some (count_at o hs cs a) ≡ true)
        → is_some (count_at (cond b c o) hs cs a) ≡ true
    by true (Some k) f rest e ih = keeps_count (Some k) hs cs a refl rest
    by true None f rest e ih = absurd (omega arith)
    by false c f rest e ih = ih o rest e
