use Rattle.std.proofs.Common.{◌≡◌, ◌+◌, ◌<◌, length, Ok, vec_len, ℕ, List, sym, ap, ◌∙◌, subst, arith, rules}
use Rattle.std.proofs.lemmas.List.{length-map}
use Rattle.std.proofs.lemmas.Result.{IfOk-weaker}
use Rattle.std.specs.Prelude.{slice_index_or}
use Rattle.live_run.specs.Serving.{HasServed}
use Rattle.live_run.specs.Seats.{SeatData, fresh_seat}
use Rattle.live_run.proofs.Wholes.{fresh_at, all_served, index_map, length_fresh}
use Rattle.live_run.proofs.live.serve_all.Goals as goal

pub map_vec-requires-after_bounds : goal.map_vec-requires-after_bounds
map_vec-requires-after_bounds g c lts out i x lt is =
    let few : i < c.args.team.workers = let e = ap (λ (l : List SeatData). length l) c.requires.seats ∙ length_fresh c.args.team.workers in omega arith in
    let at : x ≡ fresh_seat i = is ∙ ap (λ (l : List SeatData). slice_index_or l i x) c.requires.seats ∙ fresh_at c.args.team.workers i x few in
    (c.requires.workers, c.requires.harts, c.requires.turns, at ∙ ap fresh_seat (sym (ap (λ (k : SeatData). k.worker) at)))

pub returns-clause-len : goal.returns-clause-len
returns-clause-len g c =
    let jobs : vec_len c.args.seats ≡ length c.args.seats.items = search rules in
    let results : vec_len c.in_ok-results.results ≡ length c.in_ok-results.results.items = search rules in
    let fresh = ap (λ (l : List SeatData). length l) c.requires.seats ∙ length_fresh c.args.team.workers in
    IfOk-weaker c.all_seats.result _ _
    (λ served are. sym (ap length are ∙ length-map served.items (λ x. Ok x)) ∙ sym results ∙ c.in_ok-results.ensures.len ∙ jobs ∙ fresh)
    c.all_seats.ensures

pub returns-clause-served : goal.returns-clause-served
returns-clause-served g c =
    let jobs : vec_len c.args.seats ≡ length c.args.seats.items = search rules in
    let results : vec_len c.in_ok-results.results ≡ length c.in_ok-results.results.items = search rules in
    let fresh = ap (λ (l : List SeatData). length l) c.requires.seats ∙ length_fresh c.args.team.workers in
    IfOk-weaker c.all_seats.result _ _
    (λ served are.
    let len = sym (ap length are ∙ length-map served.items (λ x. Ok x)) ∙ sym results ∙ c.in_ok-results.ensures.len ∙ jobs in
    all_served c.args.team.harts c.args.team.workers c.args.team.turns 0 served.items (λ i lt d.
    let few : i < length c.args.seats.items = omega arith in
    let j = (c.in_ok-results.ensures.each i (Ok d) few).1 in
    let at : j.job ≡ fresh_seat i = sym (j.job_is d) ∙ ap (λ (l : List SeatData). slice_index_or l i d) c.requires.seats ∙ fresh_at c.args.team.workers i d (omega arith) in
    let one : HasServed c.args.team.harts c.args.team.workers c.args.team.turns j.job.worker (slice_index_or served.items i d) =
    rw (ap (λ l. slice_index_or l i (Ok d)) are ∙ index_map (λ x. Ok x) served.items i d) at j.call.met in
    subst (λ (n : ℕ). HasServed c.args.team.harts c.args.team.workers c.args.team.turns n (slice_index_or served.items i d)) (ap (λ (k : SeatData). k.worker) at ∙ (let z : i ≡ 0 + i = omega arith in z)) one))
    c.all_seats.ensures
