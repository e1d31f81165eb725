use Rattle.std.proofs.Common.{◌∙◌, ◌+◌, ◌≤◌, List, ap, arith, drop, length, sym}
use Rattle.std.specs.Prelude.{◌||◌, Bool}
use Rattle.std.proofs.lemmas.List.{drop_all}
use Rattle.pn_types.specs.declared.quantum.Quantum.{Quantum}
use Rattle.rv_mem.specs.Start.{program_of}
use Rattle.rv_exec.specs.Start.{start}
use Rattle.entered.specs.Along.{asked_along}
use Rattle.entered.specs.Steps.{asks_at}
use Rattle.entered.proofs.Turns.{is_executed, quantum_left}
use Rattle.entered.proofs.entering.is_entered.Goals as goal

pub returns-then-take_quantum : goal.returns-then-take_quantum
returns-then-take_quantum c =
    let p = program_of c.args.image.now in
    let b = c.args.budget in
    let a = c.args.address in
    let i = c.loop-quantum.quantum-index in
    let m = c.loop-quantum.machine in
    let n = c.take_quantum.new.machine in
    let inv = c.loop-quantum.invariant in
    let left = quantum_left p b m n a c.args.quanta.now i _ c.take_quantum.result inv.program inv.budget c.loop-quantum-test.true c.take_quantum.ensures.after c.take_quantum.ensures.begins in
    sym (ap (λ (z : Bool). z || asks_at p b a (asked_along (drop (i + 1) c.args.quanta.now)) n.state) c.if-take_quantum.true) ∙ sym left ∙ sym inv.left
    ∙ is_executed p b a (asked_along c.args.quanta.now) (start c.args.image.now c.args.harts)

pub loop-quantum-preserved : goal.loop-quantum-preserved
loop-quantum-preserved c =
    let p = program_of c.args.image.now in
    let b = c.args.budget in
    let a = c.args.address in
    let i = c.loop-quantum.quantum-index in
    let m = c.loop-quantum.machine in
    let n = c.take_quantum.new.machine in
    let inv = c.loop-quantum.invariant in
    let left = quantum_left p b m n a c.args.quanta.now i _ c.take_quantum.result inv.program inv.budget c.loop-quantum-test.true c.take_quantum.ensures.after c.take_quantum.ensures.begins in
    record {
      program = ap (λ x. x.program) c.take_quantum.ensures.after ∙ inv.program;
      budget = ap (λ x. x.budget) c.take_quantum.ensures.after ∙ inv.budget;
      harts = c.take_quantum.ensures.harts;
      left = inv.left ∙ left ∙ ap (λ (z : Bool). z || asks_at p b a (asked_along (drop (i + 1) c.args.quanta.now)) n.state) c.if-take_quantum.false;
    }

pub returns : goal.returns
returns c =
    let p = program_of c.args.image.now in
    let b = c.args.budget in
    let a = c.args.address in
    let i = c.loop-quantum.quantum-index in
    let test = c.loop-quantum-test.false in
    let all : length c.args.quanta.now ≤ i = omega (arith, test) in
    sym (c.loop-quantum.invariant.left
    ∙ ap (λ (qs : List Quantum). asks_at p b a (asked_along qs) c.loop-quantum.machine.state) (drop_all i c.args.quanta.now all))
    ∙ is_executed p b a (asked_along c.args.quanta.now) (start c.args.image.now c.args.harts)
