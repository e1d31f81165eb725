use Rattle.std.proofs.Common.{◌+◌, ◌-◌, length, drop, sym, ◌∙◌, arith}
use Rattle.std.proofs.lemmas.List.{take_all, length-drop}
use Rattle.resource_tree.proofs.Parts.{splits}
use Rattle.resource_tree.proofs.focus.split_comma.Goals as goal

pub returns-in-Some-clause-part : goal.returns-in-Some-clause-part
returns-in-Some-clause-part c p ps good e = ((splits p ps c.args.text.now good e).more c.in-Some.end (sym c.first_comma.ensures ∙ c.in-Some.is)).0

pub returns-in-Some-clause-rest : goal.returns-in-Some-clause-rest
returns-in-Some-clause-rest c p ps good e =
    let s = (splits p ps c.args.text.now good e).more c.in-Some.end (sym c.first_comma.ensures ∙ c.in-Some.is) in
    let rest = drop (c.in-Some.end + 1) c.args.text.now in
    (s.1, take_all (length c.args.text.now - (c.in-Some.end + 1)) rest (simp length-drop (omega arith)) ∙ s.2)

pub returns-in-None-clause-part : goal.returns-in-None-clause-part
returns-in-None-clause-part c p ps good e = ((splits p ps c.args.text.now good e).last (sym c.first_comma.ensures ∙ c.in-None.is)).0

pub returns-in-None-clause-rest : goal.returns-in-None-clause-rest
returns-in-None-clause-rest c p ps good e = ((splits p ps c.args.text.now good e).last (sym c.first_comma.ensures ∙ c.in-None.is)).1
