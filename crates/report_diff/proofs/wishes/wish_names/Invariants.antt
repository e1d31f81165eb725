use Rattle.std.proofs.Common.{◌≡◌, ◌++◌, drop}
use Rattle.report_diff.specs.Wishes.{wish_names}
use Rattle.report_diff.proofs.wishes.wish_names.Given as goal

-- the names so far, and those that are left, are all
abbrev pub invariant-loop-part : goal.invariant-loop-part
invariant-loop-part l = l.names.items ++ wish_names (drop l.part-index l.parts) ≡ wish_names l.parts
