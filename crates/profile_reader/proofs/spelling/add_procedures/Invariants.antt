use Rattle.std.proofs.Common.{◌≡◌, ◌++◌, drop, flat_map}
use Rattle.profile_text.specs.Lines.{procedure_line}
use Rattle.profile_reader.specs.Reading.{row_of}
use Rattle.profile_reader.proofs.spelling.add_procedures.Given as goal

-- what is written, and the lines that are left, make all the lines
abbrev pub invariant-loop-procedure : goal.invariant-loop-procedure
invariant-loop-procedure l =
    l.out.items ++ flat_map (λ x. procedure_line (row_of x)) (drop l.procedure-index l.procedures)
    ≡ l.initial.out.items ++ flat_map (λ x. procedure_line (row_of x)) l.procedures
