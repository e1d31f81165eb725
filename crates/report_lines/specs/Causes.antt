-- Why a hart ended and why a metric can't be measured, as the words of a line from a place on say it. What no such words say is read as
-- some cause: a line is compared with the line of what was read from it.
use Rattle.std.specs.Prelude.{ℕ, ◌+◌, if◌then◌else◌, bytes_eq, Bool, List, codes}
use Rattle.pn_types.specs.declared.focus.Axis.{Axis}
use Rattle.pn_types.specs.declared.focus.Axis.TheVariants as axis
use Rattle.pn_types.specs.declared.pick.BarCause.{BarCause}
use Rattle.pn_types.specs.declared.pick.BarCause.TheVariants as bar
use Rattle.pn_types.specs.declared.pick.PickCause.{PickCause}
use Rattle.pn_types.specs.declared.pick.PickCause.TheVariants.{NoConstraint, TooManySites, TooManyStmts, OverCost, TooMany, NoSlot, NoRoom, Unmovable, AlreadyShown, NotShown}
use Rattle.pn_types.specs.declared.stop.StopText.{StopText}
use Rattle.pn_types.specs.declared.stop.StopText.TheVariants.{Exit, Illegal, Break, Misaligned, Access, TextAccess, FetchOutside, Budget, Cut}
use Rattle.advice.specs.Words.{number_at, word_at}
use Rattle.report_lines.specs.Words.{address_at, byte_at, short_at}

-- the word at a place is this
abbrev pub says : ℕ → List ℕ → List ℕ → Bool
says place line text = bytes_eq (word_at place line) text

-- how a hart ended
abbrev pub stop_at : ℕ → List ℕ → StopText
stop_at place line =
    if says place line (codes "exit") then Exit (byte_at (place + 1) line)
    else if says place line (codes "illegal") then Illegal
    else if says place line (codes "break") then Break
    else if says place line (codes "misaligned") then Misaligned
    else if says place line (codes "access") then Access (address_at (place + 1) line)
    else if says place line (codes "text-access") then TextAccess (address_at (place + 1) line)
    else if says place line (codes "fetch-outside") then FetchOutside
    else if says place line (codes "budget") then Budget
    else Cut

-- how many words say so
abbrev pub words_of_stop : StopText → ℕ
words_of_stop (Exit status) = 2
words_of_stop (Access at) = 2
words_of_stop (TextAccess at) = 2
words_of_stop stop = 1

abbrev pub axis_word_at : ℕ → List ℕ → Axis
axis_word_at place line =
    if says place line (codes "Code") then axis.Code else if says place line (codes "Machine") then axis.Machine else axis.SyncObject

-- `constraint for AXIS`, `slot for N`, `room for N words`
abbrev pub lack_at : ℕ → List ℕ → PickCause
lack_at place line =
    if says place line (codes "constraint") then NoConstraint (axis_word_at (place + 2) line)
    else if says place line (codes "slot") then NoSlot (short_at (place + 2) line)
    else NoRoom (short_at (place + 2) line)

-- `sites N`, `statements at ADDRESS`, `instruments`
abbrev pub excess_at : ℕ → List ℕ → PickCause
excess_at place line =
    if says place line (codes "sites") then TooManySites (short_at (place + 1) line)
    else if says place line (codes "statements") then TooManyStmts (address_at (place + 2) line)
    else TooMany

-- why a metric can't be measured
abbrev pub cause_at : ℕ → List ℕ → PickCause
cause_at place line =
    if says place line (codes "no") then lack_at (place + 1) line
    else if says place line (codes "too") then excess_at (place + 2) line
    else if says place line (codes "over") then OverCost (number_at (place + 2) line)
    else if says place line (codes "unmovable") then Unmovable (address_at (place + 2) line)
    else if says place line (codes "already") then AlreadyShown
    else NotShown

-- the same of a node of the search, which has no cause but these
abbrev pub bar_of : PickCause → BarCause
bar_of (NoConstraint axis) = bar.NoConstraint axis
bar_of (TooManySites n) = bar.TooManySites n
bar_of (TooManyStmts at) = bar.TooManyStmts at
bar_of (OverCost n) = bar.OverCost n
bar_of (NoSlot n) = bar.NoSlot n
bar_of (NoRoom n) = bar.NoRoom n
bar_of (Unmovable at) = bar.Unmovable at
bar_of cause = bar.NoConstraint axis.Code
