-- The commands are simple ones, and the words of a command line are texts.
use Rattle.std.proofs.Common.{◌≡◌, ◌&&◌, Bool, true, false, refl, ap, sym, subst, ◌∙◌, inl, inr, None, List, [], ◌∷◌, drop, map, string_bytes}
use Rattle.std.specs.Prelude.{String}
use Rattle.std.proofs.lemmas.Str.{IsUtf8-string_bytes}
use Rattle.clap.specs.Words.{App, Row, Kinds, HasKind, IsAmong, HasMatchesOf, fault_of, is_simple, is_simple_and_free, matches_of, first_of, found_of, kind_of}
use Rattle.clap.specs.Faults.{is_free_app}
use Rattle.clap.specs.Simple.{built}
use Rattle.clap.specs.declared.error.Error.{Error}
use Rattle.clap.specs.declared.error.kind.ErrorKind.TheVariants as kind
use Rattle.clap.specs.declared.parser.matches.ArgMatches.{ArgMatches}
use Rattle.clap.proofs.WalkLemmas.{first_value-rows}
use Rattle.command_words.specs.Asked.{AreMatches}
use Rattle.command_words.specs.Apps.{app_for}
use Rattle.command_words.specs.Grammar.{taken_of}
use Rattle.command_words.proofs.Machine.{machine_takes}
use Rattle.command_words.proofs.ValuesTaken.{same_none, same_some}
use Rattle.command_words.specs.Commands.{form_of}
use Rattle.command_words.specs.declared.commands.CommandName.{CommandName}
use Rattle.command_words.proofs.Settling.{AreUtf8, Agrees}
use Rattle.command_words.proofs.Fitting.{first_of-row, taken_from, none_from}
use Rattle.command_words.proofs.CommandsChecked.{agrees_for, grammar_takes, is_free_for}

simple_and : (a b : Bool) → (a && b) ≡ true → a ≡ true
simple_and true b e = refl
simple_and false b e = absurd (cc)

is_simple_for : (name : CommandName) → is_simple (app_for name) ≡ true
is_simple_for name = simple_and (is_simple (app_for name)) (is_free_app (built (app_for name))) (is_free_for name)

texts_utf8 : {Z : Type 0} (words : List (String Z)) → AreUtf8 (map string_bytes words)
texts_utf8 [] = tt
texts_utf8 (word ∷ words) = (IsUtf8-string_bytes word, texts_utf8 words)

rest_utf8 : {Z : Type 0} (words : List (String Z)) → AreUtf8 (drop 1 (map string_bytes words))
rest_utf8 [] = tt
rest_utf8 (word ∷ words) = texts_utf8 words

module _ {Z : Type 0} (name : CommandName) (words : List (String Z)) (app : App) (same : app ≡ app_for name) where
  -- what clap says of the words after a command's own
  agrees_words : Agrees (machine_takes (form_of name) (drop 1 (map string_bytes words))) (fault_of (app_for name) (map string_bytes words)) (matches_of (app_for name) (map string_bytes words))
  agrees_words = agrees_for name (map string_bytes words) (rest_utf8 words)

  free : is_simple_and_free app ≡ true
  free = ap is_simple_and_free same ∙ is_free_for name

  pub holds_from : (m : ArgMatches) → (is_simple_and_free app ≡ true → fault_of app (map string_bytes words) ≡ []) → HasMatchesOf app (map string_bytes words) m →
      AreMatches (form_of name) (drop 1 (map string_bytes words)) m
  holds_from m kinds matches =
      let t = taken_from _ _ _ agrees_words (ap (λ (a : App). fault_of a (map string_bytes words)) (sym same) ∙ kinds free) in
      let rows = (matches (ap is_simple same ∙ is_simple_for name)).0 ∙ ap (λ (a : App). matches_of a (map string_bytes words)) same ∙ t.2 in
      let said = same_some _ (taken_of (form_of name) (drop 1 (map string_bytes words))) t.0 t.1 (grammar_takes name (drop 1 (map string_bytes words))) in
      record {
        taken = said.0;
        reads = said.1;
        given = λ n. first_value-rows (found_of m) n ∙ ap (λ (rs : List Row). first_of n rs) rows ∙ first_of-row n t.0 ∙ said.2 n;
      }

  pub none_taken : (e : Error) → (is_simple_and_free app ≡ true → HasKind (fault_of app (map string_bytes words)) e) → (kind_of e ≡ kind.OutOfMemory → ⊥) →
      taken_of (form_of name) (drop 1 (map string_bytes words)) ≡ None
  none_taken e kinds other = same_none _ _ (none_from _ _ _ agrees_words (λ k. go (kinds free) k)) (grammar_takes name (drop 1 (map string_bytes words)))
    where
      go : HasKind (fault_of app (map string_bytes words)) e → fault_of (app_for name) (map string_bytes words) ≡ [] → ⊥
      go (inl memory) k = other memory
      go (inr among) k = subst (λ (ks : Kinds). IsAmong (kind_of e) ks) (ap (λ (a : App). fault_of a (map string_bytes words)) same ∙ k) among
