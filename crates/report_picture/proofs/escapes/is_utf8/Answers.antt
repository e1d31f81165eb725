use Rattle.std.proofs.Common.{◌≡◌, ◌<◌, length, arith}
use Rattle.std.specs.Str.Lossy.{utf8_valid_len}
use Rattle.std.proofs.lemmas.Bool.Decides.{nat_tests}
use Rattle.std.proofs.lemmas.Str.{utf8_valid_len-IsUtf8}
use Rattle.report_picture.proofs.escapes.is_utf8.Goals as goal

pub returns-in-Ok : goal.returns-in-Ok
returns-in-Ok c =
    let whole : utf8_valid_len c.args.text.now ≡ length c.args.text.now = utf8_valid_len-IsUtf8 c.args.text.now c.in-Ok.ensures.cases.1 in
    grind (arith, nat_tests)

pub returns-in-Err : goal.returns-in-Err
returns-in-Err c =
    let short : c.in-Err.field-0.valid_up_to < length c.args.text.now = c.in-Err.ensures.cases.1.short in
    let there : c.in-Err.field-0.valid_up_to ≡ utf8_valid_len c.args.text.now = c.in-Err.ensures.valid_len in
    grind (arith, nat_tests)
