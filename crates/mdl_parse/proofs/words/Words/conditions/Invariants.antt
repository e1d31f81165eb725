use Rattle.std.proofs.Common.{◌≡◌, ◌-◌, ◌≤◌, length}
use Rattle.mdl_parse.specs.Parts.{conditions_at}
use Rattle.mdl_parse.proofs.Loops.{with_front}
use Rattle.mdl_parse.proofs.words.Words.conditions.Given as goal

abbrev pub invariant-conditions : goal.invariant-conditions
invariant-conditions l = record {
  read : conditions_at l.most l.fn.self ≡ with_front l.conds.items (conditions_at (l.most - length l.conds.items) l.self);
  few : length l.conds.items ≤ l.most;
}

abbrev pub decreases-conditions : goal.decreases-conditions
decreases-conditions l = l.most - length l.conds.items
