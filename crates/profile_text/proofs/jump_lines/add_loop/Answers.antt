use Rattle.std.proofs.Common.{arith}
use Rattle.std.proofs.lemmas.Bool.Decides.{nat_tests}
use Rattle.profile_text.proofs.Prepared.{low}
use Rattle.profile_text.proofs.jump_lines.add_loop.Goals as goal

pub overflow_add-word : goal.overflow_add-word
overflow_add-word c =
    let l = low c.args.text.now c.requires.text in
    let p = c.requires.proc in
    let h = c.requires.has in
    grind (arith, nat_tests)
