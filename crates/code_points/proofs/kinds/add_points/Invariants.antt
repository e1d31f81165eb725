use Rattle.std.proofs.Common.{◌≡◌, ◌+◌, ◌-◌, ◌*◌, ◌/◌, ◌++◌, map}
use Rattle.std.specs.List.{filter, range_with_len}
use Rattle.rv_word.specs.Plain.{words_from}
use Rattle.code_points.specs.Points.{point_at, has_kind, points_in}
use Rattle.code_points.proofs.kinds.add_points.Given as goal

-- the points so far, and those to come, are all
abbrev pub invariant-loop-number : goal.invariant-loop-number
invariant-loop-number l =
    l.points.items ++ filter has_kind (map (point_at (words_from l.text_at l.text) l.proc_no l.proc) (map (λ k. l.proc.start + 4 * k) (range_with_len l.number (l.proc.len / 4 - l.number)))) ≡ l.initial.points.items ++ points_in (words_from l.text_at l.text) l.proc_no l.proc
