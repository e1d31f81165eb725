use Rattle.std.proofs.Common.{rules, ◌≡◌, ◌<◌, ◌≤◌, ◌-◌, [], ap, ◌∙◌, sym, arith, true}
use Rattle.std.specs.Prelude.{Bool, false, ℕ, nat_lt, if◌then◌else◌}
use Rattle.tramp_spec.specs.Values.{values_after}
use Rattle.frame_walk.specs.Frames.{call_before, calls}
use Rattle.frame_walk.specs.Openings.{of_calls, stmts_where, open_at}
use Rattle.frame_walk.proofs.Rooms.{after_append}
use Rattle.frame_walk.proofs.Steps.{calls_zero, calls_none, calls_out, calls_on}
use Rattle.frame_walk.proofs.entering.+enter_calls.Goals as goal

pub returns-then-n-eq0-clause-values : goal.returns-then-n-eq0-clause-values
returns-then-n-eq0-clause-values t c =
    ap (λ z. values_after (of_calls c.args.opens.now z) [] c.args.values.now.values) (sym (calls_zero c.args.n c.args.mem.now c.args.fp c.if-n-eq0.true))

pub returns-in_default-clause-values : goal.returns-in_default-clause-values
returns-in_default-clause-values t c =
    ap (λ z. values_after (of_calls c.args.opens.now z) [] c.args.values.now.values) (sym (calls_none c.args.n c.args.mem.now c.args.fp (search rules) (search rules)))

pub returns-else-is_text-clause-values : goal.returns-else-is_text-clause-values
returns-else-is_text-clause-values t c =
    ap (λ z. values_after (of_calls c.args.opens.now z) [] c.args.values.now.values) (sym (calls_out c.args.n c.args.mem.now c.args.fp c.in-Some.frame (search rules) (search rules) (search rules)))

pub returns-then-is_text-clause-values : goal.returns-then-is_text-clause-values
returns-then-is_text-clause-values t c =
    let os = c.args.opens.now in
    let at = call_before c.in-Some.frame.return_address in
    let rest = of_calls os (calls c.left_of.result c.args.mem.now c.in-Some.frame.next) in
    let ss = stmts_where (λ o. true) (open_at os at) in
    c.enter_call.ensures.values
    ∙ (ap (λ a. values_after (stmts_where (λ o. true) (open_at os a)) [] c.enter_calls.new.values.values) c.call_before-at.ensures
    ∙ (ap (values_after ss []) c.enter_calls.ensures.values
    ∙ (sym (after_append rest ss [] c.args.values.now.values)
    ∙ ap (λ z. values_after (of_calls os z) [] c.args.values.now.values)
    (sym (calls_on c.args.n c.left_of.result c.args.mem.now c.args.fp c.in-Some.frame (search rules) (search rules) (search rules) c.left_of.ensures)))))

left_few : (b : Bool) (k n : ℕ) → k ≡ (if b then n - 1 else 0) → k ≤ n - 1
left_few true k n e = omega arith
left_few false k n e = omega arith

pub enter_call-requires-clause-left : goal.enter_call-requires-clause-left
enter_call-requires-clause-left t c =
    let p : 0 < c.args.n = search rules in
    let k : c.left_of.result ≤ c.args.n - 1 = left_few (nat_lt c.args.fp c.in-Some.frame.next) c.left_of.result c.args.n c.left_of.ensures in
    let a = c.enter_calls.ensures.acts in
    let b = c.requires.left in
    omega arith

pub returns-then-is_text-clause-acts : goal.returns-then-is_text-clause-acts
returns-then-is_text-clause-acts t c =
    let p : 0 < c.args.n = search rules in
    let k : c.left_of.result ≤ c.args.n - 1 = left_few (nat_lt c.args.fp c.in-Some.frame.next) c.left_of.result c.args.n c.left_of.ensures in
    let a = c.enter_calls.ensures.acts in
    let b = c.enter_call.ensures.acts in
    omega arith
