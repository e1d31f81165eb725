-- What is returned is a profile.
use Rattle.std.proofs.Common.{◌≡◌, ℕ, ◌+◌, ◌-◌, ◌*◌, ◌^◌, ◌<◌, ◌≤◌, List, length, Option, ap, sym, ◌∙◌, subst, arith}
use Rattle.std.specs.Prelude.{map, sum}
use Rattle.std.specs.List.{AllZip}
use Rattle.std.proofs.lemmas.List.{length-map}
use Rattle.std.proofs.lemmas.List.Sums.{sum-map}
use Rattle.std.proofs.lemmas.Nat.{mul-le}
use Rattle.pn_types.specs.declared.code.Proc.{Proc}
use Rattle.pn_types.specs.declared.image.Image.{Image}
use Rattle.rv_word.specs.Plain.{Words, PlainHart}
use Rattle.rv_mem.specs.Start.{program_of}
use Rattle.rv_exec.specs.Run.{Position, run, trace}
use Rattle.block_count.specs.Counted.{IsCounted, passes_of}
use Rattle.block_count.specs.CountedBlocks.{counted_blocks_of}
use Rattle.block_count.specs.Course.{Pace}
use Rattle.block_count.specs.Heads.{heads_of}
use Rattle.block_count.specs.declared.block_head.BlockHead.{BlockHead}
use Rattle.block_count.specs.declared.counted_block.CountedBlock.{CountedBlock}
use Rattle.block_count.specs.declared.counts.Counts.{Counts}
use Rattle.word_flow.specs.declared.hart_end.HartEnd.{HartEnd}
use Rattle.word_flow.specs.Executions.{run_executions, run_ticks}
use Rattle.word_flow.specs.HartEnds.{run_ends}
use Rattle.word_flow.specs.Laws.{AreExecutionBounds, run_numbers, run_told_ticks}
use Rattle.word_flow.specs.Numbers.{numbers_of, sum_at, told_ticks}
use Rattle.word_flow.specs.Transfers.{AreWordsKnown}
use Rattle.word_flow.proofs.Bounds.{numbers_bound}
use Rattle.word_flow.proofs.Flows.{positions_low, ticks_low}
use Rattle.word_flow.proofs.Knowing.{known_words_tell}
use Rattle.word_counts.specs.Placing.{counts_of_words}
use Rattle.word_counts.specs.Profiles.{IsProfile}
use Rattle.word_counts.specs.Stops.{end_of_stop}
use Rattle.word_counts.proofs.HartStops.{ends_of_stops}
use Rattle.word_counts.proofs.Heads.{heads_of_counted_blocks}
use Rattle.word_counts.proofs.Knowing.{words_known}
use Rattle.word_counts.proofs.Words.{AreCountsAt, counts_are, words_low}

module _ (image : Image) (procs : List Proc) (budget : ℕ) (p : Pace) (r : Counts) (counted : IsCounted image procs budget p r) where
  abbrev t : Words
  t = program_of image

  abbrev turns : List ℕ
  turns = counted.turns

  abbrev tr : List Position
  tr = trace image p.harts turns

  abbrev ends : List HartEnd
  ends = run_ends image p.harts turns

  ticks_are : sum r.ticks ≡ run_ticks image p.harts turns
  ticks_are = ap sum counted.ticks ∙ sum-map (λ (x : PlainHart). x.ticks) (run image p.harts turns).harts

  pub ticks_few : p.harts ≤ 32 → budget ≤ 100000000 → sum r.ticks < 2 ^ 64
  ticks_few h b =
      let a = ticks_low image p.harts budget turns counted.could in
      let m = mul-le p.harts budget 32 100000000 h b in
      let e = ticks_are in
      omega arith

  pub same_lengths : (hs : List BlockHead) → hs ≡ heads_of image procs → length r.counts ≡ length hs
  same_lengths hs e =
      let bs = counted_blocks_of image procs in
      ap length counted.counts
      ∙ (length-map bs (passes_of tr)
      ∙ (sym (length-map bs (λ (s : CountedBlock). s.head)) ∙ (ap length (heads_of_counted_blocks image procs) ∙ sym (ap length e))))

  ends_are : map end_of_stop r.stops ≡ ends
  ends_are = ap (map end_of_stop) counted.stops ∙ ends_of_stops budget (run image p.harts turns).harts

  pub is_profile : sum r.ticks < 2 ^ 64
      → (cs : List (Option ℕ)) (hs : List BlockHead) (ws : List ℕ) (es : List HartEnd) (ns : List ℕ) (untold : ℕ)
      → ws ≡ t.words → image.text_at + 4 * length ws < 2 ^ 64 → hs ≡ heads_of image procs → length cs ≡ length ws
      → AreCountsAt hs r.counts cs (length ws) image.text_at
      → es ≡ map end_of_stop r.stops → ns ≡ numbers_of (record { at = image.text_at; words = ws }) es cs
      → untold ≡ sum r.ticks - told_ticks (record { at = image.text_at; words = ws }) es ns
      → IsProfile image procs budget p (record { counts = r; numbers = ns; untold = untold })
  is_profile small cs hs ws es ns untold ew low eh l h ee en eu =
      let lc : length cs ≡ length t.words = l ∙ ap length ew in
      let hc : AreCountsAt hs r.counts cs (length t.words) t.at = λ k f. h k (let e = ap length ew in omega arith) in
      let lw : t.at + 4 * length t.words < 2 ^ 64 = let e = ap length ew in omega arith in
      let bounds : AreExecutionBounds image p.harts turns cs
      = numbers_bound image p.harts budget turns cs lw counted.could
      (words_low image procs tr cs hs r.counts t.words t.at eh counted.counts lc hc) in
      let ecs : cs ≡ counts_of_words (heads_of image procs) r.counts t.words t.at
      = counts_are hs r.counts cs t.words t.at lc hc ∙ ap (λ z. counts_of_words z r.counts t.words t.at) eh in
      let eends : es ≡ ends = ee ∙ ends_are in
      let ens : ns ≡ run_numbers image p.harts turns cs
      = en
      ∙ (ap (λ z. numbers_of (record { at = image.text_at; words = ws }) z cs) eends
      ∙ ap (λ z. numbers_of (record { at = image.text_at; words = z }) ends cs) ew) in
      let etold : told_ticks (record { at = image.text_at; words = ws }) es ns ≡ told_ticks t ends ns
      = ap (λ z. told_ticks (record { at = image.text_at; words = z }) es ns) ew ∙ ap (λ z. told_ticks t z ns) eends in
      let eall : told_ticks t ends ns ≡ run_told_ticks image p.harts turns cs = ap (λ z. told_ticks t ends z) ens in
      let within = bounds.within in
      let et = ticks_are in
      record {
        counted = counted;
        are = ens ∙ ap (λ z. run_numbers image p.harts turns z) ecs;
        low = subst (λ z. AllZip (λ k e. k ≤ e) z (run_executions image p.harts turns)) (sym ens) bounds.low;
        all = omega arith;
        least = λ q. let a = ap (λ z. sum_at q z image.text_at) ens in let b = bounds.least q in omega arith;
        most = λ q. let a = ap (λ z. sum_at q z image.text_at) ens in let b = bounds.most q in omega arith;
        exact = λ z. ens ∙ bounds.exact (omega arith);
        whole = λ q z.
            let l = positions_low image p.harts budget turns counted.could in
            let few : length tr < 2 ^ 64 = omega arith in
            let known : AreWordsKnown image p.harts turns cs t.words t.at
            = subst (λ k. AreWordsKnown image p.harts turns k t.words t.at) (sym ecs)
            (words_known image procs p.harts budget turns lw counted.could few r.counts counted.counts q z) in
            let every = known_words_tell image p.harts budget turns cs lw counted.could known in
            omega arith;
      }
