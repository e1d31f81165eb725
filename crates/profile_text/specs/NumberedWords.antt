-- The words of a text with the numbers that a profile has for them.
use Rattle.std.specs.Prelude.{ℕ, ◌+◌, ◌-◌, ◌/◌, List, [], ◌∷◌, get_or, is_none}
use Rattle.std.specs.List.{filter}
use Rattle.pn_types.specs.declared.code.Proc.{Proc}
use Rattle.pn_types.specs.declared.image.Image.{Image}
use Rattle.rv_word.specs.Memory.{in_range}
use Rattle.rv_mem.specs.Start.{program_of}
use Rattle.word_counts.specs.declared.profile.Profile.{Profile}
use Rattle.profile_text.specs.Names.{procedure_at}
use Rattle.profile_text.specs.declared.numbered_word.NumberedWord.{NumberedWord}

-- words with their numbers, the first standing at a
abbrev pub with_numbers : ℕ → List ℕ → List ℕ → List NumberedWord
with_numbers a [] ns = []
with_numbers a (w ∷ ws) [] = []
with_numbers a (w ∷ ws) (n ∷ ns) = record { at = a; word = w; number = n } ∷ with_numbers (a + 4) ws ns

-- the words of the text
abbrev pub numbered_words : Image → Profile → List NumberedWord
numbered_words image r = with_numbers image.text_at (program_of image).words r.numbers

-- the number of the word that stands at an address of the text
abbrev pub number_at : Image → Profile → ℕ → ℕ
number_at image r a = get_or r.numbers ((a - image.text_at) / 4) 0

-- the words of a procedure
abbrev pub words_of_procedure : Image → Profile → Proc → List NumberedWord
words_of_procedure image r p = filter (λ x. in_range p.start p.len x.at) (numbered_words image r)

-- the words that no procedure has
abbrev pub words_of_none : Image → List Proc → Profile → List NumberedWord
words_of_none image procs r = filter (λ x. is_none (procedure_at procs x.at)) (numbered_words image r)
