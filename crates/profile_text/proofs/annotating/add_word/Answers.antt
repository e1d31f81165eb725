use Rattle.std.proofs.Common.{◌++◌}
use Rattle.profile_text.specs.Annotated.{break_text, instruction_line, number_columns}
use Rattle.profile_text.proofs.Joins.{join}
use Rattle.profile_text.proofs.annotating.add_word.Goals as goal

pub returns : goal.returns
returns c =
    let old = c.args.out.now.items in
    let a = break_text c.args.begins in
    let b = number_columns c.args.word.now.number c.args.all in
    let d = instruction_line c.args.procs.now c.args.word.now in
    join old c.add_numbers.new.out.items c.add_instruction_line.new.out.items (a ++ b) d
    (join old c.add_break.new.out.items c.add_numbers.new.out.items a b c.in_ok-add_break.ensures c.in_ok-add_numbers.ensures)
    c.in_ok-add_instruction_line.ensures
