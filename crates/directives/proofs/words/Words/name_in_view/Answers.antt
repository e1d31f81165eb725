use Rattle.std.proofs.Common.{arith}
use Rattle.directives.proofs.InView.{view_stands}
use Rattle.directives.proofs.words.Words.name_in_view.Goals as goal

pub slice_bounds-result-end : goal.slice_bounds-result-end
slice_bounds-result-end c =
    let h = view_stands c.self.inside.text.now c.self.inside.token c.self.inside.scanner c.in_ok-token.token c.self.invariant c.in_ok-token.was in
    omega arith
