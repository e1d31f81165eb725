use Rattle.std.proofs.Common.{◌≡◌, length}
use Rattle.mdl_parse.specs.Picks.{is_any}
use Rattle.mdl_parse.specs.Steps.{many_at}
use Rattle.mdl_parse.specs.Items.{item_at}
use Rattle.mdl_parse.proofs.Loops.{with_front}
use Rattle.mdl_parse.proofs.words.Words.items.Given as goal

abbrev pub invariant-items : goal.invariant-items
invariant-items l = record {
  read : many_at is_any (item_at l.most) l.fn.self ≡ with_front l.items.items (many_at is_any (item_at l.most) l.self);
}

abbrev pub decreases-items : goal.decreases-items
decreases-items l = length l.self
