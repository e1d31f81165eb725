use Rattle.std.proofs.Common.{◌≡◌, ◌+◌, ◌-◌, ◌*◌}
use Rattle.code_store.specs.Owners.{owners_without}
use Rattle.code_store.proofs.store.Store.drop_block.Given as goal

-- without the words that are left the owners become what they must
abbrev pub invariant-loop-i : goal.invariant-loop-i
invariant-loop-i l = record {
  program : l.self.program ≡ l.initial.self.program;
  code : l.self.code ≡ l.initial.self.code;
  owners : owners_without (l.at + 4 * l.i) (l.len - l.i) l.self.owners ≡ owners_without l.at l.len l.initial.self.owners;
}
