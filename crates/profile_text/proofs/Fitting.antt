-- The profile of a program fits its texts.
use Rattle.std.proofs.Common.{◌≡◌, ℕ, zero, suc, ◌+◌, ◌≤◌, List, [], ◌∷◌, length, Bool, cond, Option, None, refl, ap, sym, ◌∙◌, arith}
use Rattle.std.specs.Prelude.{count_by, map}
use Rattle.std.proofs.lemmas.List.{length-map}
use Rattle.std.proofs.lemmas.List.Sums.{sum_by-cons}
use Rattle.pn_types.specs.declared.code.Proc.{Proc}
use Rattle.pn_types.specs.declared.image.Image.{Image}
use Rattle.pn_types.specs.declared.limits.TheConstants.{MAX_BUDGET, MAX_HARTS}
use Rattle.rv_exec.proofs.Runs.{length-run_from}
use Rattle.rv_exec.specs.Run.{run}
use Rattle.rv_exec.specs.Start.{harts_from, start}
use Rattle.rv_mem.specs.Start.{program_of}
use Rattle.rv_word.specs.Plain.{PlainHart}
use Rattle.block_count.specs.Counted.{stop_of}
use Rattle.block_count.specs.Course.{Pace}
use Rattle.block_count.specs.Heads.{heads_of}
use Rattle.block_count.specs.declared.block_head.BlockHead.{BlockHead}
use Rattle.block_count.specs.declared.counts.HartStop.{HartStop}
use Rattle.word_counts.proofs.HartStops.{ends_of_stops}
use Rattle.word_counts.proofs.Results.{ticks_few}
use Rattle.word_counts.specs.Placing.{count_at, counts_of_words}
use Rattle.word_counts.specs.Profiles.{IsProfile}
use Rattle.word_counts.specs.Stops.{end_of_stop}
use Rattle.word_counts.specs.declared.profile.Profile.{Profile}
use Rattle.word_flow.specs.HartEnds.{is_stopped_outside, run_ends}
use Rattle.word_flow.specs.Numbers.{flow_to_next, number_of, word_numbers}
use Rattle.word_flow.specs.declared.hart_end.HartEnd.{HartEnd}
use Rattle.profile_text.specs.Totals.{Fits, ticks_outside}

-- ---- as many numbers as words

length-numbers : (ends : List HartEnd) (hs : List BlockHead) (cs : List (Option ℕ)) (ws : List ℕ) (flow a : ℕ)
    → length (word_numbers ends flow (counts_of_words hs cs ws a) ws a) ≡ length ws
length-numbers ends hs cs [] flow a = refl
length-numbers ends hs cs (w ∷ ws) flow a =
    ap suc (length-numbers ends hs cs ws (flow_to_next ends w a (number_of (count_at None hs cs a) ends a flow)) (a + 4))

-- ---- how many

count-map : (p : HartEnd → Bool) (f : HartStop → HartEnd) (xs : List HartStop) → count_by (λ s. p (f s)) xs ≡ count_by p (map f xs)
count-map p f [] = refl
count-map p f (x ∷ xs) =
    sum_by-cons (λ (s : HartStop). cond (p (f s)) 1 0) x xs ∙ ap (λ n. cond (p (f x)) 1 0 + n) (count-map p f xs)
    ∙ sym (sum_by-cons (λ (e : HartEnd). cond (p e) 1 0) (f x) (map f xs))

-- ---- as many harts as there are

length-harts_from : (more h : ℕ) (image : Image) (n : ℕ) → length (harts_from more h image n) ≡ more
length-harts_from zero h image n = refl
length-harts_from (suc more) h image n = omega (arith, length-harts_from more (h + 1) image n)

module _ (image : Image) (procs : List Proc) (budget : ℕ) (p : Pace) (r : Profile) (is : IsProfile image procs budget p r) where
  abbrev harts : List PlainHart
  harts = (run image p.harts is.counted.turns).harts

  many : length harts ≡ p.harts
  many = length-run_from (program_of image) is.counted.turns (start image p.harts) ∙ length-harts_from p.harts 0 image p.harts

  numbers_many : length r.numbers ≡ length (program_of image).words
  numbers_many =
      ap (λ (ns : List ℕ). length ns) is.are
      ∙ length-numbers (run_ends image p.harts is.counted.turns) (heads_of image procs) r.counts.counts (program_of image).words 0 image.text_at

  ends_are : map end_of_stop r.counts.stops ≡ run_ends image p.harts is.counted.turns
  ends_are = ap (map end_of_stop) is.counted.stops ∙ ends_of_stops budget harts

  outside_is : ticks_outside image r ≡ count_by (is_stopped_outside (program_of image)) (run_ends image p.harts is.counted.turns)
  outside_is =
      count-map (is_stopped_outside (program_of image)) end_of_stop r.counts.stops
      ∙ ap (count_by (is_stopped_outside (program_of image))) ends_are

  -- A profile fits, whatever procedures' starts began its blocks.
  pub fits : p.harts ≤ MAX_HARTS → budget ≤ MAX_BUDGET → Fits image r
  fits h b =
      let outside = outside_is in
      let all = is.all in
      let n = many in
      let ticks : length r.counts.ticks ≡ p.harts
      = ap (λ (ts : List ℕ). length ts) is.counted.ticks ∙ length-map harts (λ (x : PlainHart). x.ticks) ∙ many in
      let stops : length r.counts.stops ≡ p.harts
      = ap (λ (ss : List HartStop). length ss) is.counted.stops ∙ length-map harts (stop_of budget) ∙ many in
      record {
        numbers = numbers_many;
        all = omega arith;
        small = ticks_few image procs budget p r.counts is.counted h b;
        stops = stops ∙ sym ticks;
        few = omega arith;
      }
