-- What holds of pictures and pages.
use Rattle.std.specs.Prelude.{ℕ, ◌≡◌, ◌<◌, ◌≤◌, ◌+◌, ◌-◌, ◌*◌, ◌==◌, ◌&&◌, ◌||◌, nat_lt, if◌then◌else◌, not, Bool, true, List, [], ◌∷◌, codes, sum_by}
use Rattle.pn_text.specs.Bytes.{begins_with}
use Rattle.report.specs.declared.parts.NodePart.{NodePart}
use Rattle.report_picture.specs.Escapes.{escaped}
use Rattle.report_picture.specs.TimeLines.{step_height}
use Rattle.report_picture.specs.TreeLines.{tree_lines}
use Rattle.report_picture.specs.declared.tree_line.TreeLine.{TreeLine}
use Rattle.report_picture.specs.declared.tree_line.TreeLine.TheVariants.{Phase, Node}

-- ---- texts

abbrev pub begins_entity : List ℕ → Bool
begins_entity text = begins_with (codes "&amp;") text || begins_with (codes "&lt;") text || begins_with (codes "&gt;") text || begins_with (codes "&quot;") text

-- no quotation mark and no bracket of an element stands there, and each & begins an entity
abbrev pub is_safe : List ℕ → Bool
is_safe [] = true
is_safe (byte ∷ bytes) =
    not (byte == 34) && not (byte == 60) && not (byte == 62) && (not (byte == 38) || begins_entity (byte ∷ bytes)) && is_safe bytes

abbrev pub TextsAreEscaped : Type 0
TextsAreEscaped = (text : List ℕ) → is_safe (escaped text) ≡ true

-- ---- steps

-- A step's height is the greatest number of 400ths of the greatest value that isn't above its own value, and at most 400.
pub record IsStepHeight (most value n : ℕ) : Type 0 where
  pub least : n * most ≤ value * 400
  pub greatest : value * 400 < (n + 1) * most
  pub whole : value ≤ most → n ≤ 400

abbrev pub HeightsAreShares : Type 0
HeightsAreShares = (most value : ℕ) → 0 < most → IsStepHeight most value (step_height most value)

-- ---- nodes

-- how many nodes that can be closed a line begins, and how many it ends
abbrev pub begun : TreeLine → ℕ
begun (Phase number) = 0
begun (Node number depth next) = if nat_lt depth next then 1 else 0

abbrev pub ended : TreeLine → ℕ
ended (Phase number) = 0
ended (Node number depth next) = depth - next

-- In a page as many are ended as begun.
abbrev pub DetailsBalance : Type 0
DetailsBalance = (parts : List NodePart) → sum_by begun (tree_lines parts) ≡ sum_by ended (tree_lines parts)
