use Rattle.std.proofs.Common.{◌≡◌, ◌==◌, true, List, ℕ, subst, sym}
use Rattle.std.specs.List.{list_any}
use Rattle.std.proofs.lemmas.List.Filters.{dedup_is}
use Rattle.std.proofs.lemmas.Map.Keys.{IsStrictlyIncreasing-dedup}
use Rattle.mdl_plan.proofs.ChosenPlaces.{all_added}
use Rattle.mdl_plan.proofs.PointPlaces.{once_each}
use Rattle.mdl_plan.proofs.chosen_pieces.ChosenPieces.places.Goals as goal

pub returns : goal.returns
returns c =
    let is = dedup_is _ _ _ c.dedup.ensures.filtered in
    let all = c.add_places-4.new.places.items in
    record {
      ascend = rw is (IsStrictlyIncreasing-dedup _ c.sort_unstable.ensures.sorted);
      each = λ p i chosen there.
          subst (λ (l : List ℕ). list_any (λ j. j == i) l ≡ true) (sym is)
          (once_each all c.sort_unstable.new.self.items i c.sort_unstable.ensures.permutation
          (all_added c.args.self.now c.args.by_proc.now c.new-places.result.items c.add_places.new.places.items c.add_places-2.new.places.items c.add_places-3.new.places.items all
          c.in_ok-add_places.ensures c.in_ok-add_places-2.ensures c.in_ok-add_places-3.ensures c.in_ok-add_places-4.ensures p i chosen there));
    }
