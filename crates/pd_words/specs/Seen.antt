-- For proofs alone: what the tables and the values of the code stand for.
use Rattle.std.specs.Prelude.{◌≡◌, ◌≤◌, ◌++◌, ⊤, [], ◌∷◌, length, drop, List, option_map, map}
use Rattle.std.specs.Borrow.{Bor}
use Rattle.command_words.specs.Grammar as grammar
use Rattle.command_words.specs.Grammar.{Text, NamedValues, end_of_options, option, other_flag, plain}
use Rattle.pd_words.specs.Options as options
use Rattle.pd_words.specs.Options.{Meaning, TypedCommand, TypedWord, Value, alone, any_text, by_check, by_paradyn, by_text, file_name, joined_place, one_place, option_by_place, option_valued, own_option, same_option}
use Rattle.pd_words.specs.Reading as read
use Rattle.pd_words.specs.declared.given.Given.{Given}
use Rattle.pd_words.specs.declared.given.NamedValue.{NamedValue}
use Rattle.pd_words.specs.declared.reading.Reading.{Reading}
use Rattle.pd_words.specs.declared.word_kind.WordKind.{WordKind}
use Rattle.pd_words.specs.declared.word_kind.WordKind.TheVariants.{EndOfOptions, Named, Letters, Plain}
use Rattle.pd_words.specs.declared.rows.CommandRow.{CommandRow}
use Rattle.pd_words.specs.declared.rows.Kind.{Kind}
use Rattle.pd_words.specs.declared.rows.Kind.TheVariants.{Place, Places, NamedPlace, ServedOption, OwnOption, Choice, FileChoice}
use Rattle.pd_words.specs.declared.rows.Server.{Server}
use Rattle.pd_words.specs.declared.rows.Server.TheVariants as server
use Rattle.pd_words.specs.declared.rows.Values.{Values}
use Rattle.pd_words.specs.declared.rows.Values.TheVariants as values
use Rattle.pd_words.specs.declared.rows.WordRow.{WordRow}

abbrev pub meaning_seen : Kind → Meaning
meaning_seen Place = one_place
meaning_seen Places = joined_place
meaning_seen (NamedPlace name) = option_by_place name.now
meaning_seen ServedOption = same_option
meaning_seen OwnOption = own_option
meaning_seen (Choice name value) = option_valued name.now value.now
meaning_seen (FileChoice name value) = option_valued name.now value.now

abbrev pub value_seen : Values → Value
value_seen values.Alone = alone
value_seen (values.Number least most) = any_text
value_seen (values.Words words) = any_text
value_seen values.File = file_name
value_seen values.Text = any_text

abbrev pub server_seen : Server → options.Server
server_seen server.Paradyn = by_paradyn
server_seen server.Check = by_check
server_seen server.Man = by_text
server_seen server.Completions = by_text

abbrev pub texts_seen : List (Bor Text) → List Text
texts_seen texts = map (λ t. t.now) texts

abbrev pub row_seen : WordRow → TypedWord
row_seen row = record {
  name = row.name.now;
  letter = option_map (λ l. l.now) row.letter;
  value = value_seen row.values;
  meaning = meaning_seen row.kind;
}

abbrev pub command_seen : CommandRow → TypedCommand
command_seen row = record {
  word = row.word.now;
  server = server_seen row.server;
  names = texts_seen row.words.now;
  optional = texts_seen row.optional.now;
}

abbrev pub pair_seen : NamedValue → Text × Text
pair_seen pair = (pair.name.now, pair.value.now)

abbrev pub given_seen : Given → NamedValues
given_seen given = map pair_seen given.values.items

abbrev pub reading_seen : Reading → read.Reading
reading_seen r = record {
  given = given_seen r.given;
  taken = r.taken;
  awaiting = option_map row_seen r.awaiting;
  behind = r.behind;
}

abbrev pub kind_meant : WordKind → grammar.Kind
kind_meant EndOfOptions = end_of_options
kind_meant (Named name value) = option name.now (option_map (λ v. v.now) value)
kind_meant (Letters letters) = other_flag
kind_meant Plain = plain

abbrev pub HasNoLetters : WordKind → Type 0
HasNoLetters EndOfOptions = ⊤
HasNoLetters (Named name value) = ⊤
HasNoLetters (Letters letters) = ⊥
HasNoLetters Plain = ⊤

-- letters are what follows `-`
abbrev pub HasLetters : Text → WordKind → Type 0
HasLetters word EndOfOptions = ⊤
HasLetters word (Named name value) = ⊤
HasLetters word (Letters letters) = letters.now ≡ drop 1 word
HasLetters word Plain = ⊤

-- a text that doesn't begin with a sign of ASCII
abbrev pub IsNoLetter : Text → Type 0
IsNoLetter [] = ⊤
IsNoLetter (sign ∷ rest) = 128 ≤ sign

-- a text that begins with a letter, which is one byte
abbrev pub IsLetterBefore : Text → Text → Text → Type 0
IsLetterBefore text letter rest = (length letter ≡ 1) × (text ≡ letter ++ rest)
