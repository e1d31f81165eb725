use Rattle.std.proofs.Common.{◌≡◌, ◌++◌, ◌∷◌, List, ℕ, sym, ap, ◌∙◌, subst}
use Rattle.std.specs.Prelude.{option_to_list}
use Rattle.live_run.specs.Serving.{IsServing}
use Rattle.live_run.proofs.Serves.{takes, passes}
use Rattle.live_run.proofs.worker.serve.Goals as goal

pub serve-preserved-in-Continue-branch-4 : goal.serve-preserved-in-Continue-branch-4
serve-preserved-in-Continue-branch-4 g c =
    let got = rw c.in-Some-2.is at c.in_ok-quantum.ensures.receipts in
    let of = rw c.in-Some-2.is at c.in_ok-quantum.ensures.asked in
    let front : c.serve.waits.items ≡ c.in-Some-pop_front.hart ∷ c.pop_front.new.self.items = c.pop_front.ensures.items ∙ ap (λ o. option_to_list o ++ c.pop_front.new.self.items) c.in-Some-pop_front.is in
    record {
      can = tt;
      finite = tt;
      serving =
          subst (λ (l : List ℕ). IsServing c.args.team.harts c.args.team.workers c.args.team.turns c.args.seat.worker l c.quantum.new.seat) (sym c.in_ok-push_back-in-Some-2.ensures.items)
          (takes c.args.team.harts c.args.team.workers c.args.team.turns c.args.seat.worker c.in-Some-pop_front.hart c.pop_front.new.self.items c.serve.seat c.quantum.new.seat _
          (subst (λ (l : List ℕ). IsServing c.args.team.harts c.args.team.workers c.args.team.turns c.args.seat.worker l c.serve.seat) front c.serve.invariant.serving) got of.1 of.2);
    }

pub serve-preserved : goal.serve-preserved
serve-preserved g c =
    let got = rw c.in-None-2.is at c.in_ok-quantum.ensures.none in
    let front : c.serve.waits.items ≡ c.in-Some-pop_front.hart ∷ c.pop_front.new.self.items = c.pop_front.ensures.items ∙ ap (λ o. option_to_list o ++ c.pop_front.new.self.items) c.in-Some-pop_front.is in
    record {
      can = tt;
      finite = tt;
      serving =
          passes c.args.team.harts c.args.team.workers c.args.team.turns c.args.seat.worker c.in-Some-pop_front.hart c.pop_front.new.self.items c.serve.seat c.quantum.new.seat
          (subst (λ (l : List ℕ). IsServing c.args.team.harts c.args.team.workers c.args.team.turns c.args.seat.worker l c.serve.seat) front c.serve.invariant.serving) got;
    }
