-- What is counted of a program's blocks is one thing.
use Rattle.std.proofs.Common.{◌≡◌, ℕ, zero, suc, ◌+◌, Option, List, Ok, Err, length, map, refl, sym, ap, ◌∙◌, arith}
use Rattle.std.proofs.lemmas.List.{length-map}
use Rattle.block_count.specs.Counted.{IsCounted, stop_of, passes_of}
use Rattle.block_count.specs.Course.{Pace}
use Rattle.block_count.specs.Heads.{heads_of}
use Rattle.block_count.specs.CountedBlocks.{counted_blocks_of}
use Rattle.block_count.specs.declared.counts.Counts.{Counts}
use Rattle.block_count.specs.declared.counts.HartStop.{HartStop}
use Rattle.block_count.specs.Texts.{blocks_text}
use Rattle.code_points.specs.Procedures.{procedures_of}
use Rattle.command_words.specs.Requests.{BlocksRequest}
use Rattle.pn_types.specs.declared.code.Proc.{Proc}
use Rattle.pn_types.specs.declared.image.Image.{Image}
use Rattle.refusals.proofs.Steps.{IsOne}
use Rattle.refusals.specs.declared.fault.Fault.TheVariants.{FileFault}
use Rattle.rv_exec.proofs.Runs.{length-run_from}
use Rattle.rv_exec.specs.Run.{run, trace}
use Rattle.rv_exec.specs.Start.{harts_from, start}
use Rattle.rv_mem.specs.Start.{program_of}
use Rattle.commands.specs.Output.{output}
use Rattle.commands.specs.Blocks.{AreCounted, pace_of}
use Rattle.commands.specs.declared.texts.Texts.{Texts}

abbrev made : List ℕ → List HartStop → List (Option ℕ) → Counts
made ticks stops counts = record { ticks = ticks; stops = stops; counts = counts }

of_parts : (ticks : List ℕ) (stops : List HartStop) (counts : List (Option ℕ)) (r : Counts) → r.ticks ≡ ticks → r.stops ≡ stops → r.counts ≡ counts → r ≡ made ticks stops counts
of_parts ticks stops counts r a b c =
    ap (λ (x : List ℕ). made x r.stops r.counts) a ∙ ap (λ (x : List HartStop). made ticks x r.counts) b ∙ ap (λ (x : List (Option ℕ)). made ticks stops x) c

-- ---- there are as many numbers of ticks as harts

length-harts_from : (more h : ℕ) (image : Image) (n : ℕ) → length (harts_from more h image n) ≡ more
length-harts_from zero h image n = refl
length-harts_from (suc more) h image n = omega (arith, length-harts_from more (h + 1) image n)

module _ (image : Image) (procs : List Proc) (budget : ℕ) (p : Pace) where
  pub harts_counted : (r : Counts) → IsCounted image procs budget p r → length r.ticks ≡ p.harts
  harts_counted r is =
      ap (λ (ts : List ℕ). length ts) is.ticks ∙ length-map (run image p.harts is.turns).harts (λ x. x.ticks)
      ∙ length-run_from (program_of image) is.turns (start image p.harts) ∙ length-harts_from p.harts 0 image p.harts

  -- ---- the run of which they are is one

  abbrev counts_along : List ℕ → Counts
  counts_along turns =
      made (map (λ x. x.ticks) (run image p.harts turns).harts) (map (stop_of budget) (run image p.harts turns).harts) (map (passes_of (trace image p.harts turns)) (counted_blocks_of image procs))

  along : (r : Counts) (is : IsCounted image procs budget p r) → r ≡ counts_along is.turns
  along r is =
      let s = run image p.harts is.turns in
      of_parts (map (λ x. x.ticks) s.harts) (map (stop_of budget) s.harts) (map (passes_of (trace image p.harts is.turns)) (counted_blocks_of image procs)) r is.ticks is.stops is.counts

  pub counts_once : (r s : Counts) → IsCounted image procs budget p r → IsCounted image procs budget p s → r ≡ s
  counts_once r s is it = along r is ∙ ap counts_along (is.owned ∙ sym it.owned) ∙ sym (along s it)

-- ---- what is due

pub counted_once : (r : BlocksRequest) (image : Image) → IsOne (AreCounted r image)
counted_once r image (Ok a) (Ok b) (counts, is, e) (others, it, f) =
    let same = counts_once image (procedures_of image) r.budget (pace_of r) counts others is it in
    ap (λ (t : Texts). Ok t) (e ∙ ap (λ (c : Counts). output (blocks_text (heads_of image (procedures_of image)) c)) same ∙ sym f)
counted_once r image (Ok a) (Err f) (counts, is, e) (n, many, why) = absurd (omega (arith, is.few, many.0, many.1))
counted_once r image (Err e) (Ok b) (n, many, why) (counts, is, f) = absurd (omega (arith, is.few, many.0, many.1))
counted_once r image (Err e) (Err f) (n, many, why) (m, more, because) =
    let same : n ≡ m = sym many.0 ∙ more.0 in cc

-- no file is at fault
pub counted_spared : (r : BlocksRequest) (image : Image) (name : List ℕ) → AreCounted r image (Err (FileFault name)) → ⊥
counted_spared r image name (n, many, why) = absurd cc
