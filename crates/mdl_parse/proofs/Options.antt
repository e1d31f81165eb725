-- Readers of parts that may be there, and of one of several forms.
use Rattle.std.proofs.Common.{◌≡◌, ℕ, suc, ◌≤◌, Bool, true, false, List, [], ◌∷◌, ◌++◌, Option, Some, None, Ok, Err, refl, sym, ap, subst, ◌∙◌, inl, inr, if◌then◌else◌}
use Rattle.pn_text.specs.Words.{Word}
use Rattle.mdl_parse.specs.WordsInText.{PlacedWord, TreeWord, plain_word, Spells}
use Rattle.mdl_parse.specs.Steps.{Stop, Read, ◌>>=◌, stop, first_word, passes, is_first, option_at}
use Rattle.mdl_parse.proofs.Rules.{Misses, never, Misses-never, StartsAs, is_first-spelled, first-Misses, fits_word, bind_ok, bind_err, bind_same, ok_is, Misses-first}
use Rattle.mdl_parse.proofs.Readers.{Reads, Reads_, Fails, Completed, as_well, closed}

-- ---- a part that may be there

abbrev pub option_tree_words : {A : Type 0} → (A → List TreeWord) → Option A → List TreeWord
option_tree_words tree_words None = []
option_tree_words tree_words (Some a) = tree_words a

abbrev pub option_ok : {A : Type 0} → (ℕ → A → Type 0) → ℕ → Option A → Type 0
option_ok ok n None = Unit {0}
option_ok ok n (Some a) = ok n a

abbrev pub option_on : {A : Type 0} → (Word → Bool) → Option A → Word → Bool
option_on first None = first
option_on first (Some a) = never

-- the first word is the same with another word after the bad one
first_word_again : (words_ahead used left : List PlacedWord) (x : PlacedWord) (more other : List PlacedWord) → words_ahead ≡ used ++ left → left ≡ x ∷ more → first_word (used ++ (x ∷ other)) ≡ first_word words_ahead
first_word_again words_ahead used left x more other e l = same used ∙ ap first_word (sym (e ∙ ap (λ (t : List PlacedWord). used ++ t) l))
  where
    same : (used : List PlacedWord) → first_word (used ++ (x ∷ other)) ≡ first_word (used ++ (x ∷ more))
    same [] = refl
    same (y ∷ used) = refl

-- and so is the result of a test
pub first_again : (first : Word → Bool) (words_ahead used left : List PlacedWord) (x : PlacedWord) (more other : List PlacedWord) (b : Bool) → words_ahead ≡ used ++ left → left ≡ x ∷ more → is_first first words_ahead ≡ b → is_first first (used ++ (x ∷ other)) ≡ b
first_again first words_ahead used left x more other b e l h = ap (passes first) (first_word_again words_ahead used left x more other e l) ∙ h

module _ {A : Type 0} (first : Word → Bool) (r : ℕ → List PlacedWord → Read A) (m : A → List TreeWord) (ok : ℕ → A → Type 0) (p : Reads r m ok closed)
    (starts : (n : ℕ) (a : A) → ok n a → StartsAs first true (m a)) where
  option_step : (n : ℕ) (words_ahead : List PlacedWord) → is_first first words_ahead ≡ true → option_at first (r n) words_ahead ≡ (r n words_ahead >>= λ x. Ok (Some x.0, x.1))
  unfolding option_at
  option_step n words_ahead h = rw h refl

  option_none : (n : ℕ) (words_ahead : List PlacedWord) → is_first first words_ahead ≡ false → option_at first (r n) words_ahead ≡ Ok (None, words_ahead)
  unfolding option_at
  option_none n words_ahead h = rw h refl

  option_begun : (n : ℕ) (used : List PlacedWord) → Completed m ok n used → Completed (option_tree_words m) (option_ok ok) n used
  option_begun n used c = record { whole = Some c.whole; tail = c.tail; shaped = c.shaped; spelled = c.spelled; words = c.words }

  option_sound : (n : ℕ) (words_ahead : List PlacedWord) (v : Option A) (rest : List PlacedWord) → option_at first (r n) words_ahead ≡ Ok (v, rest) → Reads_ (option_tree_words m) (option_ok ok) (option_on first) n words_ahead v rest
  option_sound n words_ahead v rest e = go (is_first first words_ahead) refl
    where
      go : (b : Bool) → is_first first words_ahead ≡ b → Reads_ (option_tree_words m) (option_ok ok) (option_on first) n words_ahead v rest
      go true h =
          let b = bind_ok (r n words_ahead) (λ x. Ok (Some x.0, x.1)) (v, rest) (sym (option_step n words_ahead h) ∙ e) in
          let s = p.sound n words_ahead b.0.0 b.0.1 b.1 in
          let made : Reads_ (option_tree_words m) (option_ok ok) (option_on first) n words_ahead (Some b.0.0) b.0.1 = record { front = s.front; split = s.split; spelled = s.spelled; shaped = s.shaped; ends = Misses-never b.0.1 } in
          subst (λ (p : Option A × List PlacedWord). Reads_ (option_tree_words m) (option_ok ok) (option_on first) n words_ahead p.0 p.1) (ok_is (Some b.0.0, b.0.1) (v, rest) b.2) made
      go false h =
          let made : Reads_ (option_tree_words m) (option_ok ok) (option_on first) n words_ahead None words_ahead = record { front = []; split = refl; spelled = tt; shaped = tt; ends = Misses-first first words_ahead h } in
          subst (λ (p : Option A × List PlacedWord). Reads_ (option_tree_words m) (option_ok ok) (option_on first) n words_ahead p.0 p.1) (ok_is (None, words_ahead) (v, rest) (sym (option_none n words_ahead h) ∙ e)) made

  option_whole : (n : ℕ) (v : Option A) (front rest : List PlacedWord) → Spells (option_tree_words m v) front → option_ok ok n v → Misses (option_on first v) rest → option_at first (r n) (front ++ rest) ≡ Ok (v, rest)
  option_whole n None [] rest h k miss = option_none n rest (first-Misses first rest miss)
  option_whole n None (x ∷ front) rest h k miss = absurd h
  option_whole n (Some a) front rest h k miss =
      option_step n (front ++ rest) (is_first-spelled first true (m a) front rest h (starts n a k)) ∙ rw (p.whole n a front rest h k miss) refl

  option_fails : (n : ℕ) (words_ahead : List PlacedWord) (s : Stop) → option_at first (r n) words_ahead ≡ Err s → Fails (λ n. option_at first (r n)) (option_tree_words m) (option_ok ok) n words_ahead s
  option_fails n words_ahead s e = go (is_first first words_ahead) refl
    where
      go : (b : Bool) → is_first first words_ahead ≡ b → Fails (λ n. option_at first (r n)) (option_tree_words m) (option_ok ok) n words_ahead s
      go true h = elim (bind_err (r n words_ahead) (λ x. Ok (Some x.0, x.1)) s (sym (option_step n words_ahead h) ∙ e)) [
        | inl e1 ↦ let f = p.fails n words_ahead s e1 in record {
          used = f.used;
          split = f.split;
          ended = f.ended;
          begun = option_begun n f.used f.begun;
          bad = λ x more l k reach other. option_step k (f.used ++ (x ∷ other)) (first_again first words_ahead f.used s.left x more other true f.split l h)
              ∙ bind_same (r k (f.used ++ (x ∷ other))) (λ x. Ok (Some x.0, x.1)) (stop s.why (x ∷ other)) (f.bad x more l k reach other);
          deeper = λ x more l w. option_begun (suc n) (f.used ++ (x ∷ [])) (f.deeper x more l w);
        }
        | inr b ↦ absurd cc
      ]
      go false h = absurd (let e2 = sym (option_none n words_ahead h) ∙ e in cc)

  option_wider : (n k : ℕ) (v : Option A) → n ≤ k → option_ok ok n v → option_ok ok k v
  option_wider n k None le h = tt
  option_wider n k (Some a) le h = p.wider n k a le h

  pub option_reads : Reads (λ n. option_at first (r n)) (option_tree_words m) (option_ok ok) (option_on first)
  option_reads = record {
    sound = option_sound;
    whole = option_whole;
    fails = option_fails;
    wider = option_wider;
    some = None;
    some_shaped = λ n. tt;
    some_words = tt;
  }

-- ---- one of several forms, by the first word

-- the words begin as those of this form do
abbrev pub BeginsAs : {K : Type 0} → (Option Word → K) → K → List TreeWord → Type 0
BeginsAs kind_at kind [] = ⊥
BeginsAs kind_at kind (tree_word ∷ tree_words) = kind_at (Some (plain_word tree_word)) ≡ kind

abbrev pub of_kind : {K A : Type 0} → (A → K) → (ℕ → A → Type 0) → K → ℕ → A → Type 0
of_kind kind ok k n a = (kind a ≡ k) × ok n a

abbrev pub chosen_at : {K A : Type 0} → (Option Word → K) → (K → ℕ → List PlacedWord → Read A) → ℕ → List PlacedWord → Read A
chosen_at kind_at r n words_ahead = r (kind_at (first_word words_ahead)) n words_ahead

kind_spelled : {K : Type 0} (kind_at : Option Word → K) (kind : K) (tree_words : List TreeWord) (words_ahead rest : List PlacedWord) → Spells tree_words words_ahead → BeginsAs kind_at kind tree_words → kind_at (first_word (words_ahead ++ rest)) ≡ kind
kind_spelled kind_at kind [] words_ahead rest h b = absurd b
kind_spelled kind_at kind (tree_word ∷ tree_words) [] rest h b = absurd h
kind_spelled kind_at kind (tree_word ∷ tree_words) (placed ∷ words_ahead) rest h b = ap (λ (w : Word). kind_at (Some w)) (fits_word tree_word placed h.0) ∙ b

pub chosen_reads : {K A : Type 0} (kind_at : Option Word → K) (kind : A → K) {r : K → ℕ → List PlacedWord → Read A} {m : A → List TreeWord} {ok : ℕ → A → Type 0} {on : A → Word → Bool} →
    ((k : K) → Reads (r k) m (of_kind kind ok k) on) → ((n : ℕ) (a : A) → ok n a → BeginsAs kind_at (kind a) (m a)) → Reads (chosen_at kind_at r) m ok on
chosen_reads {K} {A} kind_at kind {r} {m} {ok} {on} p begins = record {
  sound = λ n words_ahead v rest e. let s = (p (kind_at (first_word words_ahead))).sound n words_ahead v rest e in record { front = s.front; split = s.split; spelled = s.spelled; shaped = s.shaped.1; ends = s.ends };
  whole = λ n v front rest h k miss. ap (λ (j : K). r j n (front ++ rest)) (kind_spelled kind_at (kind v) (m v) front rest h (begins n v k)) ∙ (p (kind v)).whole n v front rest h (refl, k) miss;
  fails = fails;
  wider = λ n k v le h. ((p (kind v)).wider n k v le (refl, h)).1;
  some = (p (kind_at None)).some;
  some_shaped = λ n. ((p (kind_at None)).some_shaped n).1;
  some_words = (p (kind_at None)).some_words;
}
  where
    fails : (n : ℕ) (words_ahead : List PlacedWord) (s : Stop) → chosen_at kind_at r n words_ahead ≡ Err s → Fails (chosen_at kind_at r) m ok n words_ahead s
    fails n words_ahead s e = let f = (p (kind_at (first_word words_ahead))).fails n words_ahead s e in record {
      used = f.used;
      split = f.split;
      ended = f.ended;
      begun = as_well (λ a h. h.1) f.begun;
      bad = λ x more l k reach other. ap (λ (o : Option Word). r (kind_at o) k (f.used ++ (x ∷ other))) (first_word_again words_ahead f.used s.left x more other f.split l) ∙ f.bad x more l k reach other;
      deeper = λ x more l w. as_well (λ a h. h.1) (f.deeper x more l w);
    }

-- one of two forms
abbrev pub either : {A : Type 0} → (ℕ → List PlacedWord → Read A) → (ℕ → List PlacedWord → Read A) → Bool → ℕ → List PlacedWord → Read A
either one other b n words_ahead = if b then one n words_ahead else other n words_ahead

pub either_reads : {A : Type 0} (first : Word → Bool) (kind : A → Bool) {r1 r2 : ℕ → List PlacedWord → Read A} {m : A → List TreeWord} {ok : ℕ → A → Type 0} {on : A → Word → Bool} →
    Reads r1 m (of_kind kind ok true) on → Reads r2 m (of_kind kind ok false) on → ((n : ℕ) (a : A) → ok n a → StartsAs first (kind a) (m a)) → Reads (chosen_at (passes first) (either r1 r2)) m ok on
either_reads first kind {r1} {r2} {m} {ok} {on} p1 p2 starts = chosen_reads (passes first) kind two (λ n a h. begins (kind a) (m a) (starts n a h))
  where
    two : (b : Bool) → Reads (either r1 r2 b) m (of_kind kind ok b) on
    two true = p1
    two false = p2

    begins : (b : Bool) (tree_words : List TreeWord) → StartsAs first b tree_words → BeginsAs (passes first) b tree_words
    begins b [] h = h
    begins b (tree_word ∷ tree_words) h = h
