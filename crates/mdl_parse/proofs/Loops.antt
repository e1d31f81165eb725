-- Loops that read parts: what was read before goes in front of what is still read.
use Rattle.std.proofs.Common.{◌≡◌, ℕ, ◌<◌, Bool, true, false, List, [], ◌∷◌, ◌++◌, length, Ok, Err, refl, sym, ap, ◌∙◌}
use Rattle.std.proofs.lemmas.List.{append_assoc, append-nil}
use Rattle.pn_text.specs.Words.{Word}
use Rattle.mdl_parse.specs.declared.refusal.Stop.{Stop as Answered}
use Rattle.mdl_parse.specs.declared.refusal.Stop.TheVariants.{NoMemory, Refused}
use Rattle.mdl_parse.specs.WordsInText.{PlacedWord, TreeWord}
use Rattle.mdl_parse.specs.Steps.{Stop, Read, ◌>>=◌, stop, is_first, many_at}
use Rattle.mdl_parse.specs.Gives.{Stops}
use Rattle.mdl_parse.proofs.Rules.{StartsAs}
use Rattle.mdl_parse.proofs.Readers.{Reads, closed}
use Rattle.mdl_parse.proofs.Repeats.{shorter, many_none, many_step, many_stops}

abbrev pub with_front : {A : Type 0} → List A → Read (List A) → Read (List A)
with_front front read = read >>= λ x. Ok (front ++ x.0, x.1)

-- a part more is read
pub front_more : {A : Type 0} (front : List A) (a : A) (whole here more : Read (List A)) → whole ≡ with_front front here → here ≡ (more >>= λ x. Ok (a ∷ x.0, x.1)) → whole ≡ with_front (front ++ (a ∷ [])) more
front_more front a whole here (Ok x) e h = e ∙ rw h (ap (λ (t : List _). Ok (t, x.1)) (sym (append_assoc front (a ∷ []) x.0)))
front_more front a whole here (Err s) e h = e ∙ rw h refl

-- none is left
pub front_all : {A : Type 0} (front : List A) (whole here : Read (List A)) (rest : List PlacedWord) → whole ≡ with_front front here → here ≡ Ok ([], rest) → whole ≡ Ok (front, rest)
front_all front whole here rest e h = e ∙ rw h (ap (λ (t : List _). Ok (t, rest)) (append-nil front))

-- one isn't read
pub front_stops : {A : Type 0} (front : List A) (whole here : Read (List A)) (s : Stop) → whole ≡ with_front front here → here ≡ Err s → whole ≡ Err s
front_stops front whole here s e h = e ∙ rw h refl

-- ---- a loop over parts that begin with words of one kind

pub stops_whole : {A B : Type 0} (part : Read A) (here whole : Read (List B)) (front : List B) (e : Answered) (rest : List PlacedWord) →
    ((s : Stop) → part ≡ Err s → here ≡ Err s) → whole ≡ with_front front here → Stops e rest part → Stops e rest whole
stops_whole part here whole front NoMemory rest on e h = tt
stops_whole part here whole front (Refused why) rest on e h = front_stops front whole here (stop why rest) e (on (stop why rest) h)

-- what reading such parts keeps
pub record Loop {A : Type 0} (first : Word → Bool) (r : List PlacedWord → Read A) : Type 0 where
  pub shorter : (words_ahead : List PlacedWord) (a : A) (rest : List PlacedWord) → r words_ahead ≡ Ok (a, rest) → length rest < length words_ahead
  pub none : (words_ahead : List PlacedWord) → is_first first words_ahead ≡ false → many_at first r words_ahead ≡ Ok ([], words_ahead)
  pub step : (words_ahead : List PlacedWord) (a : A) (rest : List PlacedWord) → is_first first words_ahead ≡ true → r words_ahead ≡ Ok (a, rest) → many_at first r words_ahead ≡ (many_at first r rest >>= λ xs. Ok (a ∷ xs.0, xs.1))
  pub stops : (words_ahead : List PlacedWord) (s : Stop) → is_first first words_ahead ≡ true → r words_ahead ≡ Err s → many_at first r words_ahead ≡ Err s

pub loops : {A : Type 0} (first : Word → Bool) (r : ℕ → List PlacedWord → Read A) (m : A → List TreeWord) (ok : ℕ → A → Type 0) → Reads r m ok closed →
    ((n : ℕ) (a : A) → ok n a → StartsAs first true (m a)) → (n : ℕ) → Loop first (r n)
loops first r m ok p starts n = record {
  shorter = shorter first r m ok p starts n;
  none = many_none first r m ok p starts n;
  step = many_step first r m ok p starts n;
  stops = many_stops first r m ok p starts n;
}

pub loop_shorter : {A : Type 0} {first : Word → Bool} {r : List PlacedWord → Read A} → Loop first r → (words_ahead : List PlacedWord) (a : A) (rest : List PlacedWord) → r words_ahead ≡ Ok (a, rest) → length rest < length words_ahead
loop_shorter l words_ahead a rest e = l.shorter words_ahead a rest e

pub loop_more : {A : Type 0} {first : Word → Bool} {r : List PlacedWord → Read A} → Loop first r → (whole : Read (List A)) (front next : List A) (words_ahead : List PlacedWord) (a : A) (rest : List PlacedWord) →
    whole ≡ with_front front (many_at first r words_ahead) → true ≡ is_first first words_ahead → r words_ahead ≡ Ok (a, rest) → next ≡ front ++ (a ∷ []) → whole ≡ with_front next (many_at first r rest)
loop_more {first} {r} l whole front next words_ahead a rest e t k i =
    rw i (front_more front a whole (many_at first r words_ahead) (many_at first r rest) e (l.step words_ahead a rest (sym t) k))

pub loop_all : {A : Type 0} {first : Word → Bool} {r : List PlacedWord → Read A} (whole : Read (List A)) (front : List A) (words_ahead : List PlacedWord) →
    whole ≡ with_front front (many_at first r words_ahead) → Loop first r → false ≡ is_first first words_ahead → whole ≡ Ok (front, words_ahead)
loop_all {first} {r} whole front words_ahead e l t = front_all front whole (many_at first r words_ahead) words_ahead e (l.none words_ahead (sym t))

-- a part isn't read
pub loop_stops : {A : Type 0} {first : Word → Bool} {r : List PlacedWord → Read A} (why : Answered) (whole : Read (List A)) (front : List A) (words_ahead rest : List PlacedWord) →
    whole ≡ with_front front (many_at first r words_ahead) → Loop first r → true ≡ is_first first words_ahead → Stops why rest (r words_ahead) → Stops why rest whole
loop_stops {first} {r} why whole front words_ahead rest e l t k = stops_whole (r words_ahead) (many_at first r words_ahead) whole front why rest (λ s q. l.stops words_ahead s (sym t) q) e k
