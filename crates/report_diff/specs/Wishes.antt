-- Wishes that were refused.
use Rattle.std.specs.Prelude.{ℕ, Bool, if◌then◌else◌, List, ◌++◌, codes, flat_map, map}
use Rattle.report.specs.ShownTexts.{pair_text}
use Rattle.report.specs.declared.parts.RefusedPart.{RefusedPart}
use Rattle.report_diff.specs.Labels.{label_at}
use Rattle.report_diff.specs.Matches.{alone_text, matches_of}
use Rattle.report_diff.specs.Runs.{only_in}
use Rattle.report_diff.specs.declared.matches.Match.{Match}

abbrev pub wish_word : Bool → List ℕ
wish_word show = if show then codes "show " else codes "drop "

-- a wish is matched by what it wishes, of which metric and at which focus
abbrev pub wish_names : List RefusedPart → List (List ℕ)
wish_names parts = map (λ part. wish_word part.show ++ pair_text part.metric part.focus) parts

unfoldable pub lone_wish : List ℕ → RefusedPart → List ℕ
lone_wish report part = only_in report ++ codes "refused " ++ wish_word part.show ++ label_at part.metric part.focus ++ codes "\n"

abbrev pub lone_wishes : List ℕ → List RefusedPart → List Match → List ℕ
lone_wishes report parts ms = flat_map (alone_text (lone_wish report) parts) ms

-- those that stand in one report alone
unfoldable pub wishes_diff : List RefusedPart → List RefusedPart → List ℕ
wishes_diff olds news =
    lone_wishes (codes "OLD") olds (matches_of (wish_names olds) (wish_names news))
    ++ lone_wishes (codes "NEW") news (matches_of (wish_names news) (wish_names olds))
