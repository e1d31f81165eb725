-- For proofs alone: what the values of the code stand for.
use Rattle.std.specs.Prelude.{List, option_map, map}
use Rattle.std.specs.Borrow.{Bor}
use Rattle.command_words.specs.Grammar as grammar
use Rattle.command_words.specs.Grammar.{Text, Kind, end_of_options, option, other_flag, plain}
use Rattle.command_words.specs.Walks as walk
use Rattle.command_words.specs.Numbers as numbers
use Rattle.command_words.specs.declared.numbers.NumberOption.{NumberOption}
use Rattle.command_words.specs.declared.forms.Form.{Form}
use Rattle.command_words.specs.declared.word_kind.WordKind.{WordKind}
use Rattle.command_words.specs.declared.word_kind.WordKind.TheVariants.{EndOfOptions, Named, OtherFlag, Plain}
use Rattle.command_words.specs.declared.values.Values.{Values}
use Rattle.command_words.specs.declared.walking.Walk.{Walk}

abbrev pub option_names : List (Bor Text) → List Text
option_names names = map (λ n. n.now) names

abbrev pub form_seen : Form → grammar.Form
form_seen form = record { word = form.word.now; places = option_names form.places.now; options = option_names form.options.now }

abbrev pub option_seen : NumberOption → numbers.NumberOption
option_seen o = record { name = o.name.now; least = o.least; most = o.most; default = o.default }

abbrev pub kind_seen : WordKind → Kind
kind_seen EndOfOptions = end_of_options
kind_seen (Named name value) = option name.now (option_map (λ v. v.now) value)
kind_seen OtherFlag = other_flag
kind_seen Plain = plain

abbrev pub values_seen : Values → walk.Values
values_seen values = map (λ v. option_map (λ s. s.now) v) values.at_slots

abbrev pub walk_seen : Walk → walk.Walk
walk_seen w = record { values = values_seen w.values; placed = w.placed; awaiting = option_map (λ s. s.now) w.awaiting; behind = w.behind }
