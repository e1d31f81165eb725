-- Worked rows of the definitions, which compute.
use Rattle.std.proofs.Common.{◌≡◌, ℕ, List, [], ◌∷◌, ◌++◌, codes, Ok, Err, true, false, refl}
use Rattle.std.specs.Fmt.{digits}
use Rattle.advice.specs.Directives.{advice}
use Rattle.advice.specs.Reading.{verdicts_of}
use Rattle.advice.specs.declared.fault.ReportFault.TheVariants.{BadReport}
use Rattle.advice.specs.declared.verdict.Verdict.{Verdict}

abbrev head : List ℕ
head = codes "paradyn report 1\nharts 1 ticks 200 samples 2 skipped 0\nhart 0 ticks 200 exit 0 at 0x1002c\noutput 3\na\nb\n"

abbrev never : List ℕ
never = codes "node 0 phase global parent none Never /Code,/Machine,/SyncObject false value 0 ticks 200 from 0 to 200\n"

abbrev wait : List ℕ
wait = codes "node 1 phase global parent 0 Wait /Code/program/main,/Machine/hart0,/SyncObject true value 120 ticks 200 from 0 to 200\n"

abbrev barred : List ℕ
barred = codes "node 2 phase global parent 1 Wait /Code/program,/Machine,/SyncObject barred no slot for 3\n"

abbrev waiting : List ℕ
waiting = codes "node 3 phase global parent 1 Wait /Code/program,/Machine,/SyncObject waiting seen 1 of 2\n"

abbrev two : List Verdict
two = record { hypothesis = codes "Never"; holds = false; value = 0; ticks = 200 } ∷ record { hypothesis = codes "Wait"; holds = true; value = 120; ticks = 200 } ∷ []

-- an output with lines, and nodes of each state
told : verdicts_of (head ++ codes "search nodes 4\n" ++ never ++ wait ++ barred ++ waiting) ≡ Ok two
told = refl

no_search : verdicts_of head ≡ Ok []
no_search = refl

empty : verdicts_of [] ≡ Err (BadReport 0)
empty = refl

-- the place of a line too many
behind : verdicts_of (head ++ codes "search nodes 1\n" ++ never ++ wait) ≡ Err (BadReport 221)
behind = refl

-- the place of an output without its LF
cut : verdicts_of (codes "paradyn report 1\nharts 0 ticks 1 samples 2 skipped 0\noutput 3\nab\n") ≡ Err (BadReport 62)
cut = refl

-- the place of the end, where a node lacks
lacking : verdicts_of (head ++ codes "search nodes 2\n" ++ never) ≡ Err (BadReport 221)
lacking = refl

advised : advice two ≡ codes "prune Never;\nthreshold Wait 600;\nfirst Wait;\n"
unfolding digits
advised = refl

unadvised : advice [] ≡ []
unadvised = refl
