-- The lines of a report: which may follow which.
use Rattle.std.specs.Prelude.{ℕ, ◌-◌, ◌==◌, ◌&&◌, ◌||◌, nat_lt, if◌then◌else◌, bytes_eq, Bool, true, false, Option, Some, None, List, codes, position, slice_get, take}
use Rattle.std.specs.Option.{option_map, option_map_or}
use Rattle.pn_text.specs.Bytes.{begins_with}
use Rattle.pn_text.specs.Lines.{is_lf}
use Rattle.advice.specs.Words.{has_form, number_at, word_at}
use Rattle.advice.specs.declared.due.Due.{Due}
use Rattle.advice.specs.declared.due.Due.TheVariants.{Title, Counts, Harts, Output, Shown, Nodes}
use Rattle.advice.specs.declared.verdict.Verdict.{Verdict}

-- ---- forms

abbrev pub true_form : List ℕ
true_form = codes "node NUMBER phase NAME parent PARENT NAME FOCUS true value NUMBER ticks NUMBER from NUMBER to NUMBER"

abbrev pub false_form : List ℕ
false_form = codes "node NUMBER phase NAME parent PARENT NAME FOCUS false value NUMBER ticks NUMBER from NUMBER to NUMBER"

abbrev pub waiting_form : List ℕ
waiting_form = codes "node NUMBER phase NAME parent PARENT NAME FOCUS waiting seen NUMBER of NUMBER"

abbrev pub barred_form : List ℕ
barred_form = codes "node NUMBER phase NAME parent PARENT NAME FOCUS barred ANYTHING"

-- ---- nodes

-- a node whose test was true, which takes ticks
abbrev pub is_true : List ℕ → Bool
is_true line = has_form true_form line && nat_lt 0 (number_at 12 line)

abbrev pub is_false : List ℕ → Bool
is_false line = has_form false_form line

-- a node without a verdict
abbrev pub is_untold : List ℕ → Bool
is_untold line = has_form waiting_form line || has_form barred_form line

abbrev pub is_node : List ℕ → Bool
is_node line = is_true line || is_false line || is_untold line

-- the verdict that the line of a node tells
abbrev pub verdict_of_line : Bool → List ℕ → Verdict
verdict_of_line holds line = record { hypothesis = word_at 6 line; holds = holds; value = number_at 10 line; ticks = number_at 12 line }

abbrev pub verdict_of : List ℕ → Option Verdict
verdict_of line = if is_true line then Some (verdict_of_line true line) else if is_false line then Some (verdict_of_line false line) else None

-- ---- what is due

-- metrics that were refused or shown
abbrev pub is_shown : List ℕ → Bool
is_shown line = begins_with (codes "refused ") line || begins_with (codes "histogram ") line || begins_with (codes "bin ") line

-- the number of nodes, and whether there was room for no more
abbrev pub is_search : List ℕ → Bool
is_search line = has_form (codes "search nodes NUMBER") line || has_form (codes "search nodes NUMBER full") line

-- this is due after a line of the form
abbrev pub due_if : Bool → Due → Option Due
due_if said due = if said then Some due else None

-- what is due after a line; None where the line doesn't have the form that is due
abbrev pub due_after : Due → List ℕ → Option Due
due_after Title line = due_if (bytes_eq line (codes "paradyn report 1")) Counts
due_after Counts line = due_if (has_form (codes "harts NUMBER ticks NUMBER samples NUMBER skipped NUMBER") line) (Harts (number_at 1 line))
due_after (Harts n) line =
    if n == 0 then due_if (has_form (codes "output NUMBER") line) (Output (number_at 1 line))
    else due_if (begins_with (codes "hart ") line) (Harts (n - 1))
due_after (Output n) line = Some Shown
due_after Shown line = if is_shown line then Some Shown else due_if (is_search line) (Nodes (number_at 2 line))
due_after (Nodes n) line = due_if (nat_lt 0 n && is_node line) (Nodes (n - 1))

-- a report may end here
abbrev pub may_end : Due → Bool
may_end Shown = true
may_end (Nodes n) = n == 0
may_end due = false

-- the verdict that a line tells where this was due
abbrev pub told_in : Due → List ℕ → Option Verdict
told_in (Nodes n) line = verdict_of line
told_in due line = None

-- ---- the bytes of a line

abbrev pub to_lf : List ℕ → Option (List ℕ)
to_lf bytes = option_map (λ end. take end bytes) (position is_lf bytes)

-- what is left after n bytes, if an LF follows them
abbrev pub to_lf_at : ℕ → List ℕ → Option (List ℕ)
to_lf_at n bytes = if option_map_or is_lf (slice_get bytes n) false then Some (take n bytes) else None

-- the first line of these bytes, without its LF; None where that is missing. What a program wrote is one line, whatever stands in it.
abbrev pub first_line : Due → List ℕ → Option (List ℕ)
first_line (Output n) bytes = to_lf_at n bytes
first_line due bytes = to_lf bytes
