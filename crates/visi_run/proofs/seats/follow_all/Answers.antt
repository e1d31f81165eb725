use Rattle.std.proofs.Common.{rules, ◌≡◌, length, vec_len, Ok, sym, ap, ◌∙◌, subst, arith}
use Rattle.std.proofs.lemmas.List.{length-map}
use Rattle.std.specs.Prelude.{slice_index_or}
use Rattle.visi_run.proofs.Glances.{each_at}
use Rattle.visi_run.specs.declared.view.Seat.{Seat}
use Rattle.visi_run.specs.Watching.{IsSameSeat}
use Rattle.visi_run.proofs.SeatLists.{seats_same, cells_same, index_map}
use Rattle.visi_run.proofs.seats.follow_all.Goals as goal

pub map_vec-requires-after_bounds : goal.map_vec-requires-after_bounds
map_vec-requires-after_bounds g c lts out i x lt is = each_at (λ (s : Seat). s.reader.cell ≡ c.args.board.now.gauge.cell) c.args.seats.items i x (omega arith) is c.requires

pub returns-clause-lines : goal.returns-clause-lines
returns-clause-lines g c =
    let jobs : vec_len c.args.seats ≡ length c.args.seats.items = search rules in
    let results : vec_len c.in_ok-results.results ≡ length c.in_ok-results.results.items = search rules in
    let len : length c.in_ok-seats.seats.items ≡ length c.args.seats.items = sym (ap length c.in_ok-seats.ensures ∙ length-map c.in_ok-seats.seats.items (λ x. Ok x)) ∙ sym results ∙ c.in_ok-results.ensures.len ∙ jobs in
    seats_same c.in_ok-seats.seats.items c.args.seats.items len (λ i lt d.
    let j = (c.in_ok-results.ensures.each i (Ok d) (omega arith)).1 in
    let one : IsSameSeat j.job (slice_index_or c.in_ok-seats.seats.items i d) =
    rw (ap (λ l. slice_index_or l i (Ok d)) c.in_ok-seats.ensures ∙ index_map (λ x. Ok x) c.in_ok-seats.seats.items i d) at j.call.met in
    subst (λ (s : Seat). IsSameSeat s (slice_index_or c.in_ok-seats.seats.items i d)) (sym (j.job_is d)) one)

pub returns-clause-cell : goal.returns-clause-cell
returns-clause-cell g c =
    let jobs : vec_len c.args.seats ≡ length c.args.seats.items = search rules in
    let results : vec_len c.in_ok-results.results ≡ length c.in_ok-results.results.items = search rules in
    let len : length c.in_ok-seats.seats.items ≡ length c.args.seats.items = sym (ap length c.in_ok-seats.ensures ∙ length-map c.in_ok-seats.seats.items (λ x. Ok x)) ∙ sym results ∙ c.in_ok-results.ensures.len ∙ jobs in
    cells_same c.args.board.now.gauge.cell c.in_ok-seats.seats.items c.args.seats.items len (λ i lt d.
    let j = (c.in_ok-results.ensures.each i (Ok d) (omega arith)).1 in
    let one : IsSameSeat j.job (slice_index_or c.in_ok-seats.seats.items i d) =
    rw (ap (λ l. slice_index_or l i (Ok d)) c.in_ok-seats.ensures ∙ index_map (λ x. Ok x) c.in_ok-seats.seats.items i d) at j.call.met in
    subst (λ (s : Seat). IsSameSeat s (slice_index_or c.in_ok-seats.seats.items i d)) (sym (j.job_is d)) one) c.requires
