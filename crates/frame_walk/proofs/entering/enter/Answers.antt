use Rattle.std.proofs.Common.{◌++◌, [], ap, ◌∙◌, sym}
use Rattle.tramp_spec.specs.Values.{values_after}
use Rattle.frame_walk.specs.Frames.{frame_at, calls, caller_of}
use Rattle.frame_walk.specs.Openings.{of_calls, of_caller, of_pc}
use Rattle.frame_walk.proofs.Rooms.{after_append}
use Rattle.frame_walk.proofs.entering.enter.Goals as goal

pub returns-clause-values : goal.returns-clause-values
returns-clause-values c =
    let m = c.args.mem.now in
    let os = c.args.opens.now in
    let start = c.args.start in
    let ks = of_calls os (calls 64 m start.fp) in
    let cs = of_caller os start.pc (caller_of (frame_at m start.fp) start.ra) in
    let ps = of_pc os start.pc in
    c.enter_pc.ensures.values
    ∙ (ap (values_after ps []) (c.enter_caller.ensures.values ∙ (ap (λ o. values_after (of_caller os start.pc o) [] c.enter_calls.new.values.values) (c.caller_of-caller.ensures ∙ ap (λ f. caller_of f start.ra) c.frame_at.ensures) ∙ ap (values_after cs []) c.enter_calls.ensures.values))
    ∙ (sym (after_append cs ps [] (values_after ks [] c.args.values.now.values)) ∙ sym (after_append ks (cs ++ ps) [] c.args.values.now.values)))
