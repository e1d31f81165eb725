use Rattle.std.proofs.Common.{◌≡◌, ◌∙◌, ap, sym, subst, set, get_or, arith, length, ◌<◌}
use Rattle.rv_exec.specs.Shared.{prog_in}
use Rattle.rv_word.specs.Plain.{Words, Plain, Alone, put_back, turn_alone, turn_of}
use Rattle.plain_run.specs.Machines.{Machine, turned}
use Rattle.plain_run.specs.Views.{hart_of, plain_harts, alone_of}
use Rattle.plain_run.proofs.Harts.{harts_of-set, harts_of-get, length-harts_of}
use Rattle.plain_run.proofs.machine.PlainMachine.step.Goals as goal

pub returns-clause-turn : goal.returns-clause-turn
returns-clause-turn c =
    let s = c.self.inside in
    let h = c.args.hart in
    let x = c.index_mut.result.now in
    let y = c.turn.new.self in
    let items = s.harts.items in
    let program : Words = record { at = s.text_at; words = s.words.items } in
    let state : Plain = record { harts = plain_harts items; prog = prog_in s.shared } in
    let old : Alone = alone_of x s.shared in
    let new : Alone = alone_of y c.turn.new.shared in
    let same : c.get.result ≡ h = c.get.ensures.number in
    let w : h < length (plain_harts items) = subst (λ z. h < length z.state.harts) (sym c.self.view_is) c.requires.hart in
    let l : h < length items = omega (arith, w, length-harts_of items) in
    let at : x ≡ get_or items h x = c.index_mut.ensures.value ∙ ap (λ i. get_or items i x) same in
    let is : new ≡ turn_alone program h old = subst (λ ws. new ≡ turn_alone (record { at = s.text_at; words = ws }) h old) c.deref.ensures.value c.turn.ensures.turn in
    let e : plain_harts (set items c.get.result y) ≡ set (plain_harts items) h (hart_of y) = ap (λ i. plain_harts (set items i y)) same ∙ harts_of-set items h y in
    let machine : Plain → Machine = λ z. record { program = program; budget = s.budget; state = z } in
    ap (λ hs. machine (record { harts = hs; prog = new.prog })) e
    ∙ ap (λ a. machine (put_back state h a)) is
    ∙ ap machine (sym (ap (λ o. turn_of o program h state) (harts_of-get items h x at l)))
    ∙ ap (λ z. turned z h) c.self.view_is
