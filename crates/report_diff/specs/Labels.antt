-- What stands for a metric or a hypothesis at a focus in a line that a person reads.
use Rattle.std.specs.Prelude.{ℕ, List, ◌++◌, codes}
use Rattle.report_view.specs.Foci.{short_focus}

unfoldable pub label_at : List ℕ → List ℕ → List ℕ
label_at name focus = name ++ codes ", " ++ short_focus focus
