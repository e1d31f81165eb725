-- The numbers of a text's words. Some words were counted. The numbers of the others follow from these counts and from how the harts ended.
use Rattle.std.specs.Prelude.{ℕ, ◌+◌, ◌-◌, if◌then◌else◌, max, Bool, Option, Some, None, List, [], ◌∷◌, sum, count_by}
use Rattle.rv_word.specs.Names.{ends_block}
use Rattle.rv_word.specs.Plain.{Words}
use Rattle.rv_word.specs.Table.{decode_of}
use Rattle.word_flow.specs.declared.hart_end.HartEnd.{HartEnd}
use Rattle.word_flow.specs.HartEnds.{is_stopped_at, is_stopped_outside, is_waiting_at}

-- ---- the numbers

-- How many of n executions of the word w at a go on with the next word: all but one for each hart that stopped at a and for each that
-- waits at the next word. It is 0 where a block ends with w, since there nothing is known of where harts go on.
abbrev pub flow_to_next : List HartEnd → ℕ → ℕ → ℕ → ℕ
flow_to_next ends w a n =
    if ends_block (decode_of w) then 0 else n - (count_by (is_stopped_at a) ends + count_by (is_waiting_at (a + 4)) ends)

-- the number of the word at a: its count; where it has none, the flow from the word before or how many harts stopped at a, whichever is
-- more
abbrev pub number_of : Option ℕ → List HartEnd → ℕ → ℕ → ℕ
number_of None ends a flow = max flow (count_by (is_stopped_at a) ends)
number_of (Some n) ends a flow = n

-- the numbers of words from their counts; the first word stands at a and has this flow from the word before
abbrev pub word_numbers : List HartEnd → ℕ → List (Option ℕ) → List ℕ → ℕ → List ℕ
word_numbers ends flow [] ws a = []
word_numbers ends flow (c ∷ cs) [] a = []
word_numbers ends flow (c ∷ cs) (w ∷ ws) a =
    number_of c ends a flow ∷ word_numbers ends (flow_to_next ends w a (number_of c ends a flow)) cs ws (a + 4)

-- The numbers of a text's words, from the counts of the words and from how the harts ended.
abbrev pub numbers_of : Words → List HartEnd → List (Option ℕ) → List ℕ
numbers_of t ends counts = word_numbers ends 0 counts t.words t.at

-- ---- what numbers tell

-- the ticks that numbers tell: their sum, and one for each hart that stopped outside of the text
abbrev pub told_ticks : Words → List HartEnd → List ℕ → ℕ
told_ticks t ends numbers = sum numbers + count_by (is_stopped_outside t) ends

-- the sum of those numbers whose addresses pass a test, the first number standing at a
abbrev pub sum_at : (ℕ → Bool) → List ℕ → ℕ → ℕ
sum_at p [] a = 0
sum_at p (n ∷ ns) a = (if p a then n else 0) + sum_at p ns (a + 4)
