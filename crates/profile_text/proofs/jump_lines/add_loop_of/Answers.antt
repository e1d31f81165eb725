use Rattle.std.proofs.Common.{ap, sym, ◌∙◌}
use Rattle.std.specs.Prelude.{option_map}
use Rattle.pn_types.specs.declared.code.Proc.{Proc}
use Rattle.rv_word.specs.Memory.{in_range}
use Rattle.code_points.specs.Procedures.{IsProcOf}
use Rattle.profile_text.proofs.Found.{found_all, found_passes}
use Rattle.profile_text.proofs.jump_lines.add_loop_of.Goals as goal
use denote.Ref.{Bor}

pub add_loop-requires-clause-proc : goal.add_loop-requires-clause-proc
add_loop-requires-clause-proc c =
    found_all (IsProcOf c.args.text.now.image.now) (λ p. in_range p.start p.len c.args.word.now.at) c.args.text.now.procs.now c.in-Some.proc.now
    c.requires.text.procs.each (sym c.procedure_at.ensures ∙ ap (option_map (λ (p : Bor Proc). p.now)) c.in-Some.is)

pub add_loop-requires-clause-has : goal.add_loop-requires-clause-has
add_loop-requires-clause-has c =
    found_passes (λ p. in_range p.start p.len c.args.word.now.at) c.args.text.now.procs.now c.in-Some.proc.now
    (sym c.procedure_at.ensures ∙ ap (option_map (λ (p : Bor Proc). p.now)) c.in-Some.is)
