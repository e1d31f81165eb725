use Rattle.std.proofs.Common.{◌≡◌, ◌++◌, drop}
use Rattle.std.specs.Prelude.{is_none}
use Rattle.std.specs.List.{filter}
use Rattle.profile_text.specs.Names.{procedure_at}
use Rattle.profile_text.proofs.reading.words_of_none.Given as goal

-- what is kept, and what will be kept of the words that are left, is all
abbrev pub invariant-loop-word : goal.invariant-loop-word
invariant-loop-word l =
    l.words.items ++ filter (λ x. is_none (procedure_at l.text.procs.now x.at)) (drop l.word-index l.text.words.items)
    ≡ filter (λ x. is_none (procedure_at l.text.procs.now x.at)) l.text.words.items
