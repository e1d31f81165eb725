use Rattle.command_words.specs.Asked.{asked_ask}
use Rattle.refusals.proofs.Steps.{comes_then, handed_on}
use Rattle.commands.specs.Asking.{IsAsk, IsAskFor, shipped_metrics}
use Rattle.commands.specs.Found.{IsFound}
use Rattle.commands.specs.Inputs.{MeansConf}
use Rattle.commands.proofs.asking.ask_of.Goals as goal

pub returns-in_err-conf : goal.returns-in_err-conf
returns-in_err-conf c =
    let q = asked_ask c.args.request.now in
    handed_on (MeansConf shipped_metrics) (IsAskFor q c.args.image.now) c.in_err-conf.field-0.0 c.from_residual.result c.from_residual.ensures c.in_err-conf.ensures.means

pub returns-in_err-found : goal.returns-in_err-found
returns-in_err-found c =
    let q = asked_ask c.args.request.now in
    let conf = c.in_ok-conf.conf in
    comes_then (MeansConf shipped_metrics) (IsAskFor q c.args.image.now) conf c.from_residual-in_err-found.result c.in_ok-conf.ensures.means
    (handed_on (IsFound c.args.image.now q.counted.harts conf) (IsAsk q c.args.image.now) c.in_err-found.field-0.0 c.from_residual-in_err-found.result c.from_residual-in_err-found.ensures c.in_err-found.ensures.found)

pub returns : goal.returns
returns c =
    let q = asked_ask c.args.request.now in
    let conf = c.in_ok-conf.conf in
    comes_then (MeansConf shipped_metrics) (IsAskFor q c.args.image.now) conf c.ask_found.result c.in_ok-conf.ensures.means
    (comes_then (IsFound c.args.image.now q.counted.harts conf) (IsAsk q c.args.image.now) c.in_ok-found.found c.ask_found.result c.in_ok-found.ensures.found c.ask_found.ensures)
