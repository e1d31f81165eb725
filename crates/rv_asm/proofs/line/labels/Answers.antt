use Rattle.rv_asm.proofs.LineLabels.{label_pushed, labels_done}
use Rattle.rv_asm.proofs.line.labels.Goals as goal

pub labels-preserved : goal.labels-preserved
labels-preserved c =
    label_pushed (λ label. label.now) c.labels.names.items c.push.new.self.items c.in-Some.name c.labels.rest.now c.in-Some.behind.now c.args.text.now
    c.in_ok-push.ensures.items c.in-Some.ensures.label c.labels.invariant

pub returns : goal.returns
returns c = labels_done (λ label. label.now) c.labels.names.items c.labels.rest.now c.args.text.now c.in_default.ensures.label c.labels.invariant
