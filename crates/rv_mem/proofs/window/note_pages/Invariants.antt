use Rattle.std.proofs.Common.{◌≡◌, length}
use Rattle.std.specs.Prelude.{EachIndex}
use Rattle.rv_mem.specs.Windows.{IsNotedIn}
use Rattle.rv_mem.proofs.window.note_pages.Given as goal

abbrev pub invariant-loop-page : goal.invariant-loop-page
invariant-loop-page l = record {
  len : length l.pages.items ≡ length l.initial.pages.items;
  noted : EachIndex l.pages.items (IsNotedIn l.initial.pages.items l.pages.items l.number);
}
