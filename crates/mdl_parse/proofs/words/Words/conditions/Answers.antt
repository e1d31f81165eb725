use Rattle.std.proofs.Common.{◌≡◌, ◌≢◌, length, arith}
use Rattle.std.proofs.lemmas.Result.{err_from_is_err_and}
use Rattle.mdl_parse.specs.Parts.{conditions_at}
use Rattle.mdl_parse.proofs.NameLoop.{conditions_more, conditions_few, conditions_all, conditions_deep, conditions_stop}
use Rattle.mdl_parse.proofs.words.Words.conditions.Goals as goal

pub returns-then-len-most : goal.returns-then-len-most
returns-then-len-most c =
    let ok = c.conditions.conds.ok in
    let l : length c.conditions.conds.items ≡ c.args.most = omega (arith, c.len.ensures, c.if-len-most.true) in
    conditions_deep c.args.most (conditions_at c.args.most c.args.self.now) c.conditions.conds.items c.conditions.self c.is_keyword.result
    c.is_keyword.ensures c.conditions-test.true l c.conditions.invariant.read

pub returns-in_err-condition : goal.returns-in_err-condition
returns-in_err-condition c =
    let p = err_from_is_err_and c.from_residual.result c.from_residual.ensures.1 in
    let ok = c.conditions.conds.ok in
    let ne : length c.conditions.conds.items ≢ c.args.most = λ e. c.if-len-most.false (omega (arith, c.len.ensures)) in
    rw (p.1, p.2) (conditions_stop c.args.most (conditions_at c.args.most c.args.self.now) c.conditions.conds.items c.conditions.self c.is_keyword.result c.in_err-condition.field-0.0
    c.condition.new.self c.is_keyword.ensures c.conditions-test.true c.conditions.invariant.few ne c.conditions.invariant.read c.in_err-condition.ensures)

pub conditions-preserved : goal.conditions-preserved
conditions-preserved c =
    let ok = c.conditions.conds.ok in
    let ne : length c.conditions.conds.items ≢ c.args.most = λ e. c.if-len-most.false (omega (arith, c.len.ensures)) in
    record {
      read = conditions_more c.args.most (conditions_at c.args.most c.args.self.now) c.conditions.conds.items c.push.new.self.items c.conditions.self c.in_ok-condition.condition c.condition.new.self
          c.is_keyword.result c.is_keyword.ensures c.conditions-test.true c.conditions.invariant.few ne c.conditions.invariant.read c.in_ok-condition.ensures c.in_ok-push.ensures.items;
      few = conditions_few c.args.most c.conditions.conds.items c.push.new.self.items c.in_ok-condition.condition c.conditions.invariant.few ne c.in_ok-push.ensures.items;
    }

pub returns : goal.returns
returns c = conditions_all c.args.most (conditions_at c.args.most c.args.self.now) c.conditions.conds.items c.from_vec.result c.conditions.self c.is_keyword.result
    c.is_keyword.ensures c.conditions-test.false c.conditions.invariant.read c.from_vec.ensures
