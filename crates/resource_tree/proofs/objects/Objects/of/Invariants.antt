use Rattle.std.proofs.Common.{◌≡◌, ◌≤◌, length, take}
use Rattle.resource_tree.specs.Columns.{objects_at}
use Rattle.resource_tree.specs.Resources.{objects_of}
use Rattle.resource_tree.proofs.objects.Objects.of.Given as goal

abbrev pub invariant-loop-symbol : goal.invariant-loop-symbol
invariant-loop-symbol l = record {
  objects : objects_at l.names l.addresses.items ≡ objects_of l.prefixes (take l.symbol-index l.symbols);
  even : length l.names ≡ length l.addresses.items;
  few : length l.names ≤ l.symbol-index;
}
