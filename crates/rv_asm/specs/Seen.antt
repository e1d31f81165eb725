-- For proofs alone: what the code holds, with names and strings as lists.
use Rattle.std.specs.Prelude.{◌≡◌, map, Result, Ok, Err}
use Rattle.std.specs.Result.{MatchResult}
use Rattle.rv_asm.specs.Parsing.{LineParts}
use Rattle.rv_asm.specs.Means.{AsmRefuses}
use Rattle.rv_asm.specs.declared.fault.AsmError.{AsmError}
use Rattle.rv_asm.specs.declared.fault.AsmFault.{AsmFault}
use Rattle.rv_asm.specs.declared.line.ParsedLine.{ParsedLine}

abbrev pub line_seen : ParsedLine → LineParts
line_seen line = record { labels = map (λ label. label.now) line.labels.items; statement = line.statement; text = line.text.now }

-- a result, seen by a function, is what is due, unless memory ran out
abbrev pub IsSeenAs : {A B : Type 0} → (A → B) → Result A AsmError → Result B AsmFault → Type 0
IsSeenAs view result due = MatchResult result (λ a. due ≡ Ok (view a)) (λ e. AsmRefuses e (λ fault. due ≡ Err fault))

-- what a call leaves is what is due, unless it failed, or memory ran out
abbrev pub Leaves : {A B : Type 0} → B → Result A AsmError → Result B AsmFault → Type 0
Leaves new result due = MatchResult result (λ _. due ≡ Ok new) (λ e. AsmRefuses e (λ fault. due ≡ Err fault))
