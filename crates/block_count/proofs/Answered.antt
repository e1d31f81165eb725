-- What is read off the machine is what the theorem says.
use Rattle.std.proofs.Common.{◌≡◌, ℕ, ◌≤◌, List, ◌++◌, length, refl, ◌∙◌, subst}
use Rattle.std.specs.Prelude.{map}
use Rattle.pn_types.specs.declared.code.Proc.{Proc}
use Rattle.pn_types.specs.declared.image.Image.{Image}
use Rattle.rv_exec.specs.Run.{run, trace}
use Rattle.machine.specs.Cores.{Core, start_core}
use Rattle.machine.specs.Laws.{IsProgram}
use Rattle.machine.specs.Replays.{owns, replay}
use Rattle.machine.specs.Same.{SameProgram}
use Rattle.machine.proofs.Erasing.{erasure}
use Rattle.machine.proofs.Replaying.{replay-append}
use Rattle.block_count.specs.declared.counts.Counts.{Counts}
use Rattle.block_count.specs.Counted.{IsCounted, passes_of}
use Rattle.block_count.specs.Course.{Pace, beginning, block_events, sampling, turns_of}
use Rattle.block_count.specs.Readings.{counts_read, stops_seen, ticks_seen}
use Rattle.block_count.specs.CountedBlocks.{counters_of, counted_blocks_of}
use Rattle.block_count.proofs.Courses.{events_legal, samples_stay}
use Rattle.block_count.proofs.Ended.{same_ends, same_ticks}

-- the machine with all counters armed, and after its turns
abbrev pub begun : Image → List Proc → ℕ → Pace → Core
begun image procs budget p = replay (beginning (counters_of image procs)) (start_core image p.harts budget)

abbrev pub settled : Image → List Proc → ℕ → Pace → Core
settled image procs budget p = replay (turns_of p (begun image procs budget p)) (begun image procs budget p)

pub course_is : (image : Image) (procs : List Proc) (budget : ℕ) (p : Pace) → replay (block_events image procs budget p) (start_core image p.harts budget) ≡ settled image procs budget p
course_is image procs budget p =
    let ks = counters_of image procs in
    let first = start_core image p.harts budget in
    let b = begun image procs budget p in
    replay-append (beginning ks) (turns_of p b ++ map sampling ks) first ∙ (replay-append (turns_of p b) (map sampling ks) b ∙ samples_stay ks (settled image procs budget p))

-- the program's own run
abbrev pub run_of : Image → List Proc → ℕ → Pace → List ℕ
run_of image procs budget p = owns (block_events image procs budget p) (start_core image p.harts budget)

-- what the counters read
abbrev pub CountsAre : Image → List Proc → ℕ → Pace → Type 0
CountsAre image procs budget p = counts_read (settled image procs budget p) (counted_blocks_of image procs) ≡ map (passes_of (trace image p.harts (run_of image procs budget p))) (counted_blocks_of image procs)

pub answered : (image : Image) (procs : List Proc) (budget : ℕ) (p : Pace) (r : Counts) → IsProgram image → length (counters_of image procs) ≤ 4094 → CountsAre image procs budget p
    → r.ticks ≡ ticks_seen (settled image procs budget p) → r.stops ≡ stops_seen budget (settled image procs budget p) → r.counts ≡ counts_read (settled image procs budget p) (counted_blocks_of image procs)
    → IsCounted image procs budget p r
answered image procs budget p r program few are ticks stops counts =
    let es = block_events image procs budget p in
    let first = start_core image p.harts budget in
    let end = settled image procs budget p in
    let legal = events_legal image procs budget p program few in
    let erases = erasure image p.harts budget es program legal in
    let plain = run image p.harts (run_of image procs budget p) in
    let same : SameProgram end plain = subst (λ (d : Core). SameProgram d plain) (course_is image procs budget p) erases.same in
    record {
      few = few;
      legal = legal;
      turns = run_of image procs budget p;
      owned = refl;
      could = erases.legal;
      same = erases.same;
      ticks = ticks ∙ same_ticks end end.harts plain.harts same.many same.harts;
      stops = stops ∙ same_ends budget end end.harts plain.harts same.many same.harts;
      counts = counts ∙ are;
    }
