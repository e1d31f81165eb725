use Rattle.std.proofs.Common.{◌≡◌, Some, None, rules, ◌∙◌, arith}
use Rattle.report_reader.specs.BinLines.{numbered_bin}
use Rattle.fold_hist.specs.declared.bin.Bin.{Bin}
use Rattle.report_reader.proofs.BinLines.{numbered_is}
use Rattle.report_reader.proofs.bin_lines.numbered_bin.Goals as goal

pub returns-in_err-place : goal.returns-in_err-place
returns-in_err-place c =
    let read : c.from_residual.result ≡ numbered_bin c.args.number c.args.line.now = search rules in
    read ∙ numbered_is c.args.number c.args.line.now (omega (arith, c.ranges.number.fits))

pub returns-in_err-from : goal.returns-in_err-from
returns-in_err-from c =
    let read : c.from_residual-in_err-from.result ≡ numbered_bin c.args.number c.args.line.now = search rules in
    read ∙ numbered_is c.args.number c.args.line.now (omega (arith, c.ranges.number.fits))

pub returns-in_err-to : goal.returns-in_err-to
returns-in_err-to c =
    let read : c.from_residual-in_err-to.result ≡ numbered_bin c.args.number c.args.line.now = search rules in
    read ∙ numbered_is c.args.number c.args.line.now (omega (arith, c.ranges.number.fits))

pub returns-in_err-sum : goal.returns-in_err-sum
returns-in_err-sum c =
    let read : c.from_residual-in_err-sum.result ≡ numbered_bin c.args.number c.args.line.now = search rules in
    read ∙ numbered_is c.args.number c.args.line.now (omega (arith, c.ranges.number.fits))

pub returns-then-is_empty : goal.returns-then-is_empty
returns-then-is_empty c =
    let bin : Bin = record { from = c.in_ok-from.from; to = c.in_ok-to.to; sum = c.in_ok-sum.sum } in
    let read : Some bin ≡ numbered_bin c.args.number c.args.line.now = search rules in
    read ∙ numbered_is c.args.number c.args.line.now (omega (arith, c.ranges.number.fits))

pub returns-else-place-number : goal.returns-else-place-number
returns-else-place-number c =
    let read : None ≡ numbered_bin c.args.number c.args.line.now = search rules in
    read ∙ numbered_is c.args.number c.args.line.now (omega (arith, c.ranges.number.fits))
