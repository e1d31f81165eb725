-- For proofs alone: what a function of the parser returns.
use Rattle.std.specs.Prelude.{◌≡◌, Result, Ok, Err, List}
use Rattle.pn_text.specs.Words.{Word, NameWord, NumberWord, QuotedWord, FocusPath, DollarFocus, DollarAll, DollarMetric, DollarValue, DollarArg, SignWord}
use Rattle.mdl_parse.specs.declared.refusal.Stop.{Stop as Refused_or_memory}
use Rattle.mdl_parse.specs.declared.refusal.Stop.TheVariants.{NoMemory, Refused}
use Rattle.mdl_ast.specs.declared.action.VarName.{VarName}
use Rattle.mdl_ast.specs.declared.action.VarName.TheVariants.{Named, TheMetric}
use Rattle.mdl_parse.specs.declared.seen.Seen.{Seen}
use Rattle.mdl_parse.specs.declared.seen.Seen.TheVariants as seen
use Rattle.mdl_parse.specs.declared.seen.SeenVar.{SeenVar}
use Rattle.mdl_parse.specs.declared.seen.SeenVar.TheVariants as var
use Rattle.mdl_parse.specs.WordsInText.{PlacedWord}
use Rattle.mdl_parse.specs.Steps.{Read, stop}

-- it stops where reading stops, unless memory runs out
abbrev pub Stops : {A : Type 0} → Refused_or_memory → List PlacedWord → Read A → Type 0
Stops NoMemory rest read = Unit {0}
Stops (Refused why) rest read = read ≡ Err (stop why rest)

-- it returns what was read, and leaves what is left
abbrev pub IsReadResult : {A : Type 0} → Result A Refused_or_memory → List PlacedWord → Read A → Type 0
IsReadResult (Ok a) rest read = read ≡ Ok (a, rest)
IsReadResult (Err e) rest read = Stops e rest read

-- the word that is in view
abbrev pub word_seen : Seen → Word
word_seen (seen.Name name) = NameWord name.now
word_seen (seen.Number n) = NumberWord n
word_seen (seen.Quoted text) = QuotedWord text.now
word_seen (seen.Path path) = FocusPath path.now
word_seen seen.DollarFocus = DollarFocus
word_seen seen.DollarAll = DollarAll
word_seen seen.DollarMetric = DollarMetric
word_seen seen.DollarValue = DollarValue
word_seen seen.DollarArg = DollarArg
word_seen (seen.Sign sign) = SignWord sign

abbrev pub var_seen : SeenVar → VarName
var_seen (var.Named name) = Named name.now
var_seen var.TheMetric = TheMetric
