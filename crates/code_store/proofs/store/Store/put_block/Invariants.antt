use Rattle.std.proofs.Common.{◌≡◌, ◌+◌, ◌-◌, ◌*◌, length, drop}
use Rattle.tramp_spec.specs.Codes.{put_words}
use Rattle.code_store.specs.Owners.{owners_with}
use Rattle.code_store.proofs.store.Store.put_block.Given as goal

-- with the words that are left the maps become what they must
abbrev pub invariant-loop-i : goal.invariant-loop-i
invariant-loop-i l = record {
  program : l.self.program ≡ l.initial.self.program;
  code : put_words (l.block.at + 4 * l.i) (drop l.i l.block.words) l.self.code ≡ put_words l.block.at l.block.words l.initial.self.code;
  owners : owners_with (l.block.at + 4 * l.i) (length l.block.words - l.i) l.block.point l.self.owners ≡ owners_with l.block.at (length l.block.words) l.block.point l.initial.self.owners;
}
