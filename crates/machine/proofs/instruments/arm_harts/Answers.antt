use Rattle.std.proofs.Common.{◌≡◌, ◌<◌, ◌∙◌, add-one, sym, ap, subst, length, drop, arith}
use Rattle.std.specs.Prelude.{map, take, slice_set}
use Rattle.std.proofs.lemmas.List.{length-set}
use Rattle.machine.specs.Effects.{armed_in}
use Rattle.machine.proofs.SlotLists.{armed_step}
use Rattle.machine.proofs.instruments.arm_harts.Goals as goal

pub loop-hart-preserved : goal.loop-hart-preserved
loop-hart-preserved c =
    let f = armed_in c.args.mem.now c.args.instrument.now in
    let i = c.loop-hart.hart-index in
    let xs = c.loop-hart.harts in
    let z = c.arm.new.self in
    let low : i < length xs = (let l = c.loop-hart-test.true in let n = c.loop-hart.invariant.len in omega arith) in
    let k = armed_step f xs c.args.harts.now i c.hart-item.result z c.loop-hart.invariant.len low c.loop-hart.invariant.done c.loop-hart.invariant.left c.hart-item.is (c.arm.ensures ∙ ap f (sym c.hart-item.is)) in
    record {
      len = length-set xs i z ∙ c.loop-hart.invariant.len;
      done = subst (λ n. take n (slice_set xs i z) ≡ map f (take n c.args.harts.now)) (sym (add-one i)) k.0;
      left = subst (λ n. drop n (slice_set xs i z) ≡ drop n c.args.harts.now) (sym (add-one i)) k.1;
    }
