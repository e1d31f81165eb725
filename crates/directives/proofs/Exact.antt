-- What the reader returns is what the text means.
use Rattle.std.proofs.Common.{◌≡◌, ℕ, List, [], ◌∷◌, ◌++◌, flat_map, Option, Some, None, Ok, refl, sym, ap, subst, ◌∙◌, arith}
use Rattle.std.proofs.lemmas.List.{append_assoc, append-nil}
use Rattle.pn_text.specs.Scans.{Ending, AtEnd, AtFault, tokens_of}
use Rattle.mdl_parse.specs.Picks.{is_any}
use Rattle.mdl_parse.specs.Steps.{Read, some_read}
use Rattle.mdl_parse.specs.WordsInText.{PlacedWord, Spells, placed_words}
use Rattle.mdl_parse.proofs.Rules.{Misses}
use Rattle.mdl_parse.proofs.Readers.{Completed, any}
use Rattle.mdl_parse.proofs.Repeats.{all_ok}
use Rattle.mdl_parse.proofs.BlockRules.{all_any}
use Rattle.directives.specs.declared.directive.Directive.{Directive}
use Rattle.directives.specs.declared.fault.DirectiveFault.{DirectiveFault}
use Rattle.directives.specs.Spelling.{directive_words}
use Rattle.directives.specs.Reading.{directives_at}
use Rattle.directives.specs.Meaning.{AreOf, Begin, IsDirectives, AtWord, AtBytes, AtLast, DirectiveFaults}
use Rattle.directives.specs.Ahead.{Ahead, ahead, StopsAt, fault_in, unread_in}
use Rattle.directives.specs.declared.stop.Stop.TheVariants.{Unexpected}
use Rattle.directives.proofs.Rules.{directives_reads}

none_left : (rest : List PlacedWord) → Misses is_any rest → rest ≡ []
none_left [] h = refl
none_left (placed ∷ rest) h = absurd cc

-- all words are read: they are those of the directives
pub all_read : (words_ahead : List PlacedWord) (ds : List Directive) (rest : List PlacedWord) → directives_at words_ahead ≡ Ok (ds, rest) → (rest ≡ []) × AreOf words_ahead ds
all_read words_ahead ds rest e =
    let s = directives_reads.sound 0 words_ahead ds rest e in
    let none = none_left rest s.ends in
    let whole : words_ahead ≡ s.front = s.split ∙ ap (λ (t : List PlacedWord). s.front ++ t) none ∙ append-nil s.front in
    (none, subst (Spells (flat_map directive_words ds)) (sym whole) s.spelled)

-- the words of directives are read
pub read_again : (words_ahead : List PlacedWord) (ds : List Directive) → AreOf words_ahead ds → directives_at words_ahead ≡ Ok (ds, [])
read_again words_ahead ds a = ap directives_at (sym (append-nil words_ahead)) ∙ directives_reads.whole 0 ds words_ahead [] a (all_any 0 ds) tt

begins : (words_ahead : List PlacedWord) → Completed (flat_map directive_words) (all_ok any) 0 words_ahead → Begin words_ahead
begins words_ahead c = record { whole = c.whole; tail = c.tail; words = c.words; spelled = c.spelled }

-- directives are a beginning
pub whole_begins : (words_ahead : List PlacedWord) (ds : List Directive) → AreOf words_ahead ds → Begin words_ahead
whole_begins words_ahead ds a = record { whole = ds; tail = []; words = tt; spelled = subst (λ (t : List PlacedWord). AreOf t ds) (sym (append-nil words_ahead)) a }

-- ---- results

-- reading stops before these words
abbrev pub stops : List PlacedWord → Read (List Directive)
stops left = some_read None left

-- where nothing is read, nothing begins
not_begun : (used : List PlacedWord) (x : PlacedWord) → ((other : List PlacedWord) → directives_at (used ++ (x ∷ other)) ≡ stops (x ∷ other)) → Begin (used ++ (x ∷ [])) → ⊥
not_begun used x bad b =
    let again = read_again ((used ++ (x ∷ [])) ++ b.tail) b.whole b.spelled in
    let e = sym again ∙ ap directives_at (append_assoc used (x ∷ []) b.tail) ∙ bad b.tail in
    absurd cc

-- reading stops before these words, which end so
pub stopped : (text : List ℕ) (left : List PlacedWord) (ending : Ending) → (tokens_of text).ending ≡ ending → directives_at (placed_words text) ≡ stops left → DirectiveFaults text (fault_in left ending)
stopped text (x ∷ after) ending d e =
    let f = directives_reads.fails 0 (placed_words text) _ e in
    AtWord f.used x after f.split (begins f.used f.begun) (not_begun f.used x (f.bad x after refl 0 (omega arith)))
stopped text [] (AtFault fault) d e =
    let f = directives_reads.fails 0 (placed_words text) _ e in
    AtBytes fault d (subst Begin (sym (f.split ∙ append-nil f.used)) (begins f.used f.begun))
stopped text [] (AtEnd last) d e =
    let f = directives_reads.fails 0 (placed_words text) _ e in
    AtLast last d (subst Begin (sym (f.split ∙ append-nil f.used)) (begins f.used f.begun)) (λ ds a. (let e2 = sym (read_again (placed_words text) ds a) ∙ e in absurd cc))

-- all words are read, and this stands after them
abbrev Ended : List ℕ → List Directive → Option DirectiveFault → Type 0
Ended text ds None = IsDirectives text ds
Ended text ds (Some fault) = DirectiveFaults text fault

ended : (text : List ℕ) (ds : List Directive) (ending : Ending) → (tokens_of text).ending ≡ ending → AreOf (placed_words text) ds → Ended text ds (unread_in [] ending)
ended text ds (AtEnd last) d a = record { last = last; end = d; spelled = a }
ended text ds (AtFault fault) d a = AtBytes fault d (whole_begins (placed_words text) ds a)

-- ---- the call

-- what was read of all words of a text
module _ (text : List ℕ) (before after : Ahead) (is : before ≡ ahead text) (on : after.ending ≡ before.ending) where
  ending_is : (tokens_of text).ending ≡ after.ending
  ending_is = ap (λ (a : Ahead). a.ending) (sym is) ∙ sym on

  as_text : (r : Read (List Directive)) → directives_at before.words_ahead ≡ r → directives_at (placed_words text) ≡ r
  as_text r e = ap (λ (a : Ahead). directives_at a.words_ahead) (sym is) ∙ e

  pub fault_stops : (fault : DirectiveFault) → StopsAt Unexpected after.words_ahead (directives_at before.words_ahead) → fault ≡ fault_in after.words_ahead after.ending → DirectiveFaults text fault
  fault_stops fault e f = subst (DirectiveFaults text) (sym f) (stopped text after.words_ahead after.ending ending_is (as_text (stops after.words_ahead) e))

  all_ended : (ds : List Directive) (o : Option DirectiveFault) → directives_at before.words_ahead ≡ Ok (ds, after.words_ahead) → o ≡ unread_in after.words_ahead after.ending → Ended text ds o
  all_ended ds o e u =
      let a = all_read (placed_words text) ds after.words_ahead (as_text (Ok (ds, after.words_ahead)) e) in
      subst (Ended text ds) (sym (u ∙ ap (λ (t : List PlacedWord). unread_in t after.ending) a.0)) (ended text ds after.ending ending_is a.1)

  pub directives_end : (ds : List Directive) (o : Option DirectiveFault) → directives_at before.words_ahead ≡ Ok (ds, after.words_ahead) → o ≡ unread_in after.words_ahead after.ending → o ≡ None → IsDirectives text ds
  directives_end ds o e u n = subst (Ended text ds) n (all_ended ds o e u)

  pub fault_ends : (ds : List Directive) (o : Option DirectiveFault) (fault : DirectiveFault) → directives_at before.words_ahead ≡ Ok (ds, after.words_ahead) → o ≡ unread_in after.words_ahead after.ending → o ≡ Some fault → DirectiveFaults text fault
  fault_ends ds o fault e u n = subst (Ended text ds) n (all_ended ds o e u)
