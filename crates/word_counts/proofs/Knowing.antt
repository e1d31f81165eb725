-- Where each block is counted and no indirect jump leads into the middle of one, the executions of each word are known.
use Rattle.std.proofs.Common.{◌≡◌, ℕ, ◌+◌, ◌*◌, ◌^◌, ◌<◌, List, [], ◌∷◌, length, Option, Some, None, refl, ap, sym, ◌∙◌, subst, arith, Bool, true, false, inl, inr}
use Rattle.std.specs.Prelude.{is_none, is_some, map, count_by}
use Rattle.std.proofs.lemmas.List.{length-map}
use Rattle.pn_types.specs.declared.code.Proc.{Proc}
use Rattle.pn_types.specs.declared.image.Image.{Image}
use Rattle.rv_word.specs.Table.{decode_of}
use Rattle.rv_word.specs.Plain.{Words, program_word}
use Rattle.rv_word.specs.declared.instr.Instr.{Instr}
use Rattle.rv_mem.specs.Start.{program_of}
use Rattle.rv_exec.specs.Run.{Position, executions, trace, IsLegal}
use Rattle.rv_exec.specs.Start.{start}
use Rattle.block_count.specs.Counted.{passes_of}
use Rattle.block_count.specs.CountedBlocks.{counted_blocks_of}
use Rattle.block_count.specs.Heads.{begins, heads_of, is_instr}
use Rattle.block_count.specs.declared.block_head.BlockHead.{BlockHead}
use Rattle.block_count.specs.declared.counted_block.CountedBlock.{CountedBlock}
use Rattle.word_flow.specs.Transfers.{is_transfer_to, run_transfers, IsWordKnown, AreWordsKnown}
use Rattle.word_flow.proofs.Transferring.{count_turns-le}
use Rattle.word_flow.proofs.Splits.{StandFrom, text_stands, has_place}
use Rattle.word_counts.specs.IndirectJumps.{is_jump_into_block, run_jumps_into_blocks}
use Rattle.word_counts.specs.Placing.{count_at, counts_of_words}
use Rattle.word_counts.proofs.Beginnings.{jump_into_block, none_starts}
use Rattle.word_counts.proofs.HeadCounts.{CountsExactly, counts_exact}
use Rattle.word_counts.proofs.Heads.{has_count, has_head, heads_of_counted_blocks}

module _ (image : Image) (procs : List Proc) (n budget : ℕ) (turns : List ℕ)
    (low : image.text_at + 4 * length (program_of image).words < 2 ^ 64) (legal : IsLegal image n budget turns)
    (few : length (trace image n turns) < 2 ^ 64) (counts : List (Option ℕ))
    (are : counts ≡ map (passes_of (trace image n turns)) (counted_blocks_of image procs))
    (all : count_by is_none counts ≡ 0) (none : run_jumps_into_blocks image procs n turns ≡ 0) where
  abbrev t : Words
  t = program_of image

  abbrev tr : List Position
  tr = trace image n turns

  abbrev heads : List BlockHead
  heads = heads_of image procs

  same_length : length counts ≡ length heads
  same_length =
      let bs = counted_blocks_of image procs in
      ap length are
      ∙ (length-map bs (passes_of tr)
      ∙ (sym (length-map bs (λ (s : CountedBlock). s.head)) ∙ ap length (heads_of_counted_blocks image procs)))

  exact_at : (a : ℕ) → CountsExactly (count_at None heads counts a) (executions a tr)
  exact_at a =
      let bs = counted_blocks_of image procs in
      let exact = counts_exact tr bs None a few tt in
      subst (λ z. CountsExactly (count_at None z counts a) (executions a tr)) (heads_of_counted_blocks image procs)
      (subst (λ z. CountsExactly (count_at None (map (λ (s : CountedBlock). s.head) bs) z a) (executions a tr)) (sym are) exact)

  no_transfer : (a v : ℕ) → program_word t a ≡ Some v → begins image procs a ≡ false → run_transfers image n turns a ≡ 0
  no_transfer a v stands inner =
      let f = count_turns-le t budget (is_transfer_to t a) (is_jump_into_block image procs)
      (jump_into_block image procs low a v stands inner) turns (start image n) legal in
      let z : run_jumps_into_blocks image procs n turns ≡ 0 = none in
      omega arith

  word_known : (a w : ℕ) → program_word t a ≡ Some w → IsWordKnown image n turns (count_at None heads counts a) w a
  word_known a w is = by (count_at None heads counts a) refl (exact_at a)
    where
      begins_not : is_instr w ≡ true → is_some (count_at None heads counts a) ≡ false
          → (b : Bool) → begins image procs a ≡ b → b ≡ false
      begins_not s e false g = refl
      begins_not s e true g =
          let p = has_place t a w is in
          let h = has_head (begins image procs) t.words image.text_at p.i w a p.is p.at s g in
          let c : true ≡ false = sym (has_count None heads counts a same_length all h) ∙ e in
          c

      of_word : (d : Option Instr) → decode_of w ≡ d → is_some (count_at None heads counts a) ≡ false → IsWordKnown image n turns None w a
      of_word None e c = inl e
      of_word (Some i) e c =
          let inner : begins image procs a ≡ false = begins_not (ap is_some e) c (begins image procs a) refl in
          inr (none_starts image procs low n a inner, no_transfer a w is inner)

      by : (o : Option ℕ) → count_at None heads counts a ≡ o → CountsExactly o (executions a tr) → IsWordKnown image n turns o w a
      by (Some k) e x = x
      by None e x = of_word (decode_of w) refl (ap is_some e)

  each_known : (ws : List ℕ) (a : ℕ) → StandFrom t ws a → AreWordsKnown image n turns (counts_of_words heads counts ws a) ws a
  each_known [] a s = tt
  each_known (w ∷ ws) a s = (word_known a w s.0, each_known ws (a + 4) s.1)

  pub words_known : AreWordsKnown image n turns (counts_of_words heads counts t.words t.at) t.words t.at
  words_known = each_known t.words t.at (text_stands t)
