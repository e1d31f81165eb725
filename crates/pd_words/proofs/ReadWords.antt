-- Words that are read one after another.
use Rattle.std.proofs.Common.{◌≡◌, ◌+◌, ◌<◌, ◌≤◌, ℕ, List, Some, length, drop, get_or, map, ap}
use Rattle.std.specs.Option.{option_and_then}
use Rattle.std.proofs.lemmas.List.{drop_all, drop_more}
use Rattle.command_words.specs.Grammar.{Text}
use Rattle.pd_words.specs.Options.{TypedCommand}
use Rattle.pd_words.specs.Reading.{Reading, read_word, read_words}

-- the first word of those that are left
pub word_left : {X : Type 0} (command : TypedCommand) (reading : Reading) (text_of : X → Text) (words : List X) (i : ℕ) (d : X) → i < length words
    → read_words command reading (map text_of (drop i words))
    ≡ option_and_then (λ next. read_words command next (map text_of (drop (i + 1) words))) (read_word command reading (text_of (get_or words i d)))
word_left command reading text_of words i d l = ap (λ ws. read_words command reading (map text_of ws)) (drop_more words i d l)

-- no word is left
pub none_follows : {X : Type 0} (command : TypedCommand) (reading : Reading) (text_of : X → Text) (words : List X) (i : ℕ) → length words ≤ i
    → read_words command reading (map text_of (drop i words)) ≡ Some reading
none_follows command reading text_of words i l = ap (λ ws. read_words command reading (map text_of ws)) (drop_all i words l)
