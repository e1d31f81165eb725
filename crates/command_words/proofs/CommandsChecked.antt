-- What is computed of each command, and what follows.
use Rattle.std.proofs.Common.{◌≡◌, lit≤, true, false, refl, sym, subst, List, [], drop}
use Rattle.std.specs.List.{list_any}
use Rattle.clap.specs.Walk.{Row, nothing_held, rows_after}
use Rattle.clap.specs.Kinds.{Kinds}
use Rattle.clap.specs.Faults.{built_fault}
use Rattle.clap.specs.Words.{fault_of, is_simple_and_free, matches_of}
use Rattle.command_words.specs.Apps.{app_for}
use Rattle.command_words.specs.Commands.{form_of}
use Rattle.command_words.specs.Grammar.{Text, each_once, is_among, taken_of}
use Rattle.command_words.specs.Walks.{values_of}
use Rattle.command_words.specs.declared.commands.CommandName.{CommandName}
use Rattle.command_words.specs.declared.commands.CommandName.TheVariants.{Run, Live, Replay, Asm, Points, Plan, Stress, Relog, Blocks, Visi, Advise, Direct, Profile, Annotate, Show, Diff, Ask}
use Rattle.command_words.proofs.Agreeing.{Same, same_values}
use Rattle.command_words.proofs.Fitting.{fits_with}
use Rattle.command_words.proofs.Machine.{machine_takes}
use Rattle.command_words.proofs.MachineAndGrammar.{machine_same}
use Rattle.command_words.proofs.Rows.{PlacesFit, rules_of}
use Rattle.command_words.proofs.Slots.{IsFew}
use Rattle.command_words.proofs.ValuesTaken.{SameGiven}
use Rattle.command_words.proofs.Settling.{Agrees, AreUtf8, leaf}
use Rattle.command_words.proofs.Walks.{takes_exactly}

record IsChecked (name : CommandName) : Type 0 where
  -- no two places have a name, and no place has that of an option
  once : each_once (form_of name).places ≡ true
  unlike : list_any (is_among (form_of name).options) (form_of name).places ≡ false
  few : IsFew (form_of name)
  -- what clap's builder makes of the form
  free : is_simple_and_free (app_for name) ≡ true
  places : PlacesFit (rules_of (form_of name)) 1 (form_of name).places
  faults : (words : List Text) → fault_of (app_for name) words ≡ built_fault (record { top = leaf (form_of name).word (rules_of (form_of name)); subs = [] }) nothing_held (drop 1 words)
  matches : (words : List Text) → matches_of (app_for name) words ≡ rows_after (rules_of (form_of name)) [] (drop 1 words)

checked : (name : CommandName) → IsChecked name
checked Run = record { once = refl; unlike = refl; few = lit≤ tt; free = refl; places = (refl, refl, refl, (refl, refl, refl, refl)); faults = λ words. refl; matches = λ words. refl }
checked Live = record { once = refl; unlike = refl; few = lit≤ tt; free = refl; places = (refl, refl, refl, (refl, refl, refl, refl)); faults = λ words. refl; matches = λ words. refl }
checked Replay = record { once = refl; unlike = refl; few = lit≤ tt; free = refl; places = (refl, refl, refl, (refl, refl, refl, (refl, refl, refl, refl))); faults = λ words. refl; matches = λ words. refl }
checked Asm = record { once = refl; unlike = refl; few = lit≤ tt; free = refl; places = (refl, refl, refl, refl); faults = λ words. refl; matches = λ words. refl }
checked Points = record { once = refl; unlike = refl; few = lit≤ tt; free = refl; places = (refl, refl, refl, refl); faults = λ words. refl; matches = λ words. refl }
checked Plan = record { once = refl; unlike = refl; few = lit≤ tt; free = refl; places = (refl, refl, refl, (refl, refl, refl, (refl, refl, refl, (refl, refl, refl, refl)))); faults = λ words. refl; matches = λ words. refl }
checked Stress = record { once = refl; unlike = refl; few = lit≤ tt; free = refl; places = (refl, refl, refl, (refl, refl, refl, refl)); faults = λ words. refl; matches = λ words. refl }
checked Relog = record { once = refl; unlike = refl; few = lit≤ tt; free = refl; places = (refl, refl, refl, refl); faults = λ words. refl; matches = λ words. refl }
checked Blocks = record { once = refl; unlike = refl; few = lit≤ tt; free = refl; places = (refl, refl, refl, refl); faults = λ words. refl; matches = λ words. refl }
checked Visi = record { once = refl; unlike = refl; few = lit≤ tt; free = refl; places = (refl, refl, refl, (refl, refl, refl, refl)); faults = λ words. refl; matches = λ words. refl }
checked Advise = record { once = refl; unlike = refl; few = lit≤ tt; free = refl; places = (refl, refl, refl, refl); faults = λ words. refl; matches = λ words. refl }
checked Direct = record { once = refl; unlike = refl; few = lit≤ tt; free = refl; places = (refl, refl, refl, (refl, refl, refl, (refl, refl, refl, refl))); faults = λ words. refl; matches = λ words. refl }
checked Profile = record { once = refl; unlike = refl; few = lit≤ tt; free = refl; places = (refl, refl, refl, refl); faults = λ words. refl; matches = λ words. refl }
checked Annotate = record { once = refl; unlike = refl; few = lit≤ tt; free = refl; places = (refl, refl, refl, refl); faults = λ words. refl; matches = λ words. refl }
checked Show = record { once = refl; unlike = refl; few = lit≤ tt; free = refl; places = (refl, refl, refl, refl); faults = λ words. refl; matches = λ words. refl }
checked Diff = record { once = refl; unlike = refl; few = lit≤ tt; free = refl; places = (refl, refl, refl, (refl, refl, refl, refl)); faults = λ words. refl; matches = λ words. refl }
checked Ask = record { once = refl; unlike = refl; few = lit≤ tt; free = refl; places = (refl, refl, refl, (refl, refl, refl, refl)); faults = λ words. refl; matches = λ words. refl }

pub is_free_for : (name : CommandName) → is_simple_and_free (app_for name) ≡ true
is_free_for name = (checked name).free

-- The machine gives what the grammar says.
pub grammar_takes : (name : CommandName) (words : List Text) → SameGiven (machine_takes (form_of name) words) (taken_of (form_of name) words)
grammar_takes name words = machine_same (form_of name) (checked name).once (checked name).unlike words

-- The walk without memory has the values that the grammar gives.
pub values_for : (name : CommandName) (words : List Text) → Same (form_of name) (values_of (form_of name) words) (taken_of (form_of name) words)
values_for name words = same_values (form_of name) (checked name).few (checked name).once (checked name).unlike words

-- clap takes what the machine takes.
pub agrees_for : (name : CommandName) (words : List Text) → AreUtf8 (drop 1 words) → Agrees (machine_takes (form_of name) (drop 1 words)) (fault_of (app_for name) words) (matches_of (app_for name) words)
agrees_for name words u =
    subst (λ (k : Kinds). Agrees (machine_takes (form_of name) (drop 1 words)) k (matches_of (app_for name) words)) (sym ((checked name).faults words))
    (subst (λ (rows : List Row). Agrees (machine_takes (form_of name) (drop 1 words)) (built_fault (record { top = leaf (form_of name).word (rules_of (form_of name)); subs = [] }) nothing_held (drop 1 words)) rows) (sym ((checked name).matches words))
    (takes_exactly (form_of name).word (form_of name) (rules_of (form_of name)) (fits_with (form_of name) (checked name).places (checked name).unlike) (drop 1 words) u))
