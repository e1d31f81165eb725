use Rattle.std.proofs.Common.{ℕ, List, Bor, arith}
use Rattle.report_lines.specs.Lines.{hart_of_line}
use Rattle.profile_reader.proofs.Cuts.{front_taken, whole_taken}
use Rattle.profile_reader.proofs.read_lines.harts.Goals as goal

pub returns-then-len-eq-MOST_HARTS-clause-parts : goal.returns-then-len-eq-MOST_HARTS-clause-parts
returns-then-len-eq-MOST_HARTS-clause-parts c =
    front_taken c.loop-line.parts.items _ _ 32 (omega (arith, c.len.ensures, c.if-len-eq-MOST_HARTS.true)) c.loop-line.invariant.all

pub returns-clause-parts : goal.returns-clause-parts
returns-clause-parts c =
    whole_taken hart_of_line (λ (line : Bor (List ℕ)). line.now) c.loop-line.parts.items c.args.lines.now _ c.loop-line.line-index 32
    (omega (arith, c.loop-line-test.false)) c.loop-line.invariant.few c.loop-line.invariant.all
