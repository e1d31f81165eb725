-- Readers of a limited number of parts, and of values that hold the line of their first word.
use Rattle.std.proofs.Common.{◌≡◌, ℕ, zero, suc, ◌≤◌, Bool, true, false, List, [], ◌∷◌, ◌++◌, length, Ok, Err, refl, sym, ap, subst, ◌∙◌, arith, inl, inr}
use Rattle.std.specs.List.{flat_map}
use Rattle.std.proofs.lemmas.List.{append_assoc, append-nil}
use Rattle.pn_text.specs.Words.{Word}
use Rattle.mdl_parse.specs.WordsInText.{PlacedWord, TreeWord, Starts, Goes, plain_word, Spells}
use Rattle.mdl_parse.specs.Steps.{Stop, Read, ◌>>=◌, stop, is_first, line_at, bounded_at}
use Rattle.mdl_parse.specs.declared.refusal.Refusal.{Refusal}
use Rattle.mdl_parse.specs.declared.refusal.Refusal.TheVariants.{Unexpected, TooDeep}
use Rattle.mdl_parse.proofs.Rules.{AreTreeWords, Spells-append, Spells-parted, Misses, Misses-never, StartsAs, is_first-spelled, first-Misses, bind_ok, bind_err, bind_same, ok_is, err_is, Misses-first}
use Rattle.mdl_parse.proofs.Readers.{Reads, Reads_, Fails, Completed, Reaches, Reaches-le, closed, any}
use Rattle.mdl_parse.proofs.Options.{first_again}
use Rattle.mdl_parse.proofs.Repeats.{always}

-- ---- a limited number of parts

-- no more than the limit
abbrev pub few : {A : Type 0} → ℕ → List A → Type 0
few n v = length v ≤ n

Reaches-down : (why : Refusal) (n m : ℕ) → Reaches why (suc n) (suc m) → Reaches why n m
Reaches-down Unexpected n m h = omega arith
Reaches-down TooDeep n m h = omega arith

module _ {A : Type 0} (first : Word → Bool) (r : List PlacedWord → Read A) (m : A → List TreeWord) (p : Reads (λ n. r) m any closed)
    (starts : (a : A) → StartsAs first true (m a))
    (opens : (x : PlacedWord) → first x.word ≡ true → Completed m any 0 (x ∷ [])) where
  abbrev onto : A → List A × List PlacedWord → Read (List A)
  onto a xs = Ok (a ∷ xs.0, xs.1)

  pub bounded_none : (n : ℕ) (words_ahead : List PlacedWord) → is_first first words_ahead ≡ false → bounded_at first r n words_ahead ≡ Ok ([], words_ahead)
  unfolding bounded_at
  bounded_none zero words_ahead h = rw h refl
  bounded_none (suc n) words_ahead h = rw h refl

  pub bounded_deep : (words_ahead : List PlacedWord) → is_first first words_ahead ≡ true → bounded_at first r zero words_ahead ≡ Err (stop TooDeep words_ahead)
  unfolding bounded_at
  bounded_deep words_ahead h = rw h refl

  bounded_more : (n : ℕ) (words_ahead : List PlacedWord) → is_first first words_ahead ≡ true → bounded_at first r (suc n) words_ahead ≡ (r words_ahead >>= λ x. bounded_at first r n x.1 >>= λ xs. Ok (x.0 ∷ xs.0, xs.1))
  unfolding bounded_at
  bounded_more n words_ahead h = rw h refl

  abbrev Bounded : ℕ → List PlacedWord → List A → List PlacedWord → Type 0
  Bounded n words_ahead v rest = Reads_ (flat_map m) few (always first) n words_ahead v rest

  abbrev BoundedFails : ℕ → List PlacedWord → Stop → Type 0
  BoundedFails n words_ahead s = Fails (bounded_at first r) (flat_map m) few n words_ahead s

  bounded_nothing : (n : ℕ) (words_ahead : List PlacedWord) (v : List A) (rest : List PlacedWord) → is_first first words_ahead ≡ false → bounded_at first r n words_ahead ≡ Ok (v, rest) → Bounded n words_ahead v rest
  bounded_nothing n words_ahead v rest h e =
      let made : Bounded n words_ahead [] words_ahead = record { front = []; split = refl; spelled = tt; shaped = omega arith; ends = Misses-first first words_ahead h } in
      subst (λ (p : List A × List PlacedWord). Bounded n words_ahead p.0 p.1) (ok_is ([], words_ahead) (v, rest) (sym (bounded_none n words_ahead h) ∙ e)) made

  bounded_sound : (n : ℕ) (words_ahead : List PlacedWord) (v : List A) (rest : List PlacedWord) → bounded_at first r n words_ahead ≡ Ok (v, rest) → Bounded n words_ahead v rest
  bounded_sound zero words_ahead v rest e = go (is_first first words_ahead) refl
    where
      go : (b : Bool) → is_first first words_ahead ≡ b → Bounded zero words_ahead v rest
      go false h = bounded_nothing zero words_ahead v rest h e
      go true h = absurd (let e2 = sym (bounded_deep words_ahead h) ∙ e in cc)
  bounded_sound (suc n) words_ahead v rest e = go (is_first first words_ahead) refl (λ words_ahead v rest e. bounded_sound n words_ahead v rest e)
    where
      go : (b : Bool) → is_first first words_ahead ≡ b → ((words_ahead : List PlacedWord) (v : List A) (rest : List PlacedWord) → bounded_at first r n words_ahead ≡ Ok (v, rest) → Bounded n words_ahead v rest) → Bounded (suc n) words_ahead v rest
      go false h ih = bounded_nothing (suc n) words_ahead v rest h e
      go true h ih =
          let b1 = bind_ok (r words_ahead) (λ x. bounded_at first r n x.1 >>= λ xs. Ok (x.0 ∷ xs.0, xs.1)) (v, rest) (sym (bounded_more n words_ahead h) ∙ e) in
          let x = b1.0 in
          let b2 = bind_ok (bounded_at first r n x.1) (λ xs. Ok (x.0 ∷ xs.0, xs.1)) (v, rest) b1.2 in
          let y = b2.0 in
          let s1 = p.sound n words_ahead x.0 x.1 b1.1 in
          let s2 = ih x.1 y.0 y.1 b2.1 in
          let made : Bounded (suc n) words_ahead (x.0 ∷ y.0) y.1 = record {
            front = s1.front ++ s2.front;
            split = s1.split ∙ ap (λ (t : List PlacedWord). s1.front ++ t) s2.split ∙ sym (append_assoc s1.front s2.front y.1);
            spelled = Spells-append (m x.0) (flat_map m y.0) s1.front s2.front s1.spelled s2.spelled;
            shaped = let few = s2.shaped in omega arith;
            ends = s2.ends;
          } in
          subst (λ (p : List A × List PlacedWord). Bounded (suc n) words_ahead p.0 p.1) (ok_is (x.0 ∷ y.0, y.1) (v, rest) b2.2) made

  pub bounded_step : (n : ℕ) (words_ahead : List PlacedWord) (a : A) (rest : List PlacedWord) → is_first first words_ahead ≡ true → r words_ahead ≡ Ok (a, rest) → bounded_at first r (suc n) words_ahead ≡ (bounded_at first r n rest >>= onto a)
  bounded_step n words_ahead a rest h e = bounded_more n words_ahead h ∙ rw e refl

  pub bounded_stops : (n : ℕ) (words_ahead : List PlacedWord) (s : Stop) → is_first first words_ahead ≡ true → r words_ahead ≡ Err s → bounded_at first r (suc n) words_ahead ≡ Err s
  bounded_stops n words_ahead s h e = bounded_more n words_ahead h ∙ rw e refl

  bounded_whole : (n : ℕ) (v : List A) (front rest : List PlacedWord) → Spells (flat_map m v) front → few n v → Misses first rest → bounded_at first r n (front ++ rest) ≡ Ok (v, rest)
  bounded_whole n [] [] rest h k miss = bounded_none n rest (first-Misses first rest miss)
  bounded_whole n [] (x ∷ front) rest h k miss = absurd h
  bounded_whole zero (a ∷ others) front rest h k miss = absurd (omega arith)
  bounded_whole (suc n) (a ∷ others) front rest h k miss =
      let p2 = Spells-parted (m a) (flat_map m others) front h in
      let whole : front ++ rest ≡ p2.front ++ (p2.behind ++ rest) = ap (λ (t : List PlacedWord). t ++ rest) p2.parts ∙ append_assoc p2.front p2.behind rest in
      let one = p.whole n a p2.front (p2.behind ++ rest) p2.first tt (Misses-never (p2.behind ++ rest)) in
      let less : few n others = omega arith in
      ap (bounded_at first r (suc n)) whole
      ∙ bounded_step n (p2.front ++ (p2.behind ++ rest)) a (p2.behind ++ rest) (is_first-spelled first true (m a) p2.front (p2.behind ++ rest) p2.first (starts a)) one
      ∙ rw (bounded_whole n others p2.behind rest p2.second less miss) refl

  bounded_first : (n : ℕ) (used : List PlacedWord) → Completed m any n used → Completed (flat_map m) few (suc n) used
  bounded_first n used c = record {
    whole = c.whole ∷ [];
    tail = c.tail;
    shaped = omega arith;
    spelled = rw (append-nil (m c.whole)) c.spelled;
    words = c.words;
  }

  bounded_behind : (n : ℕ) (a : A) (front used : List PlacedWord) → Spells (m a) front → Completed (flat_map m) few n used → Completed (flat_map m) few (suc n) (front ++ used)
  bounded_behind n a front used h c = record {
    whole = a ∷ c.whole;
    tail = c.tail;
    shaped = let few = c.shaped in omega arith;
    spelled = subst (Spells (m a ++ flat_map m c.whole)) (sym (append_assoc front used c.tail)) (Spells-append (m a) (flat_map m c.whole) front (used ++ c.tail) h c.spelled);
    words = c.words;
  }

  bounded_not : (n : ℕ) (words_ahead : List PlacedWord) (s : Stop) → is_first first words_ahead ≡ false → bounded_at first r n words_ahead ≡ Err s → BoundedFails n words_ahead s
  bounded_not n words_ahead s h e = absurd (let e2 = sym (bounded_none n words_ahead h) ∙ e in cc)

  too_deep : (words_ahead : List PlacedWord) → is_first first words_ahead ≡ true → BoundedFails zero words_ahead (stop TooDeep words_ahead)
  too_deep [] h = absurd cc
  too_deep (y ∷ words_ahead) h = record {
    used = [];
    split = refl;
    ended = λ l. absurd cc;
    begun = record { whole = []; tail = []; shaped = omega arith; spelled = tt; words = tt };
    bad = λ x more l k reach other.
        let same : y ≡ x = cc in
        subst (λ (t : ℕ). bounded_at first r t (x ∷ other) ≡ Err (stop TooDeep (x ∷ other))) reach (bounded_deep (x ∷ other) (ap (λ (z : PlacedWord). first z.word) (sym same) ∙ h));
    deeper = λ x more l w. let same : y ≡ x = cc in bounded_first 0 (x ∷ []) (opens x (ap (λ (z : PlacedWord). first z.word) (sym same) ∙ h));
  }

  bounded_fails_first : (n : ℕ) (words_ahead : List PlacedWord) (s : Stop) → is_first first words_ahead ≡ true → r words_ahead ≡ Err s → BoundedFails (suc n) words_ahead s
  bounded_fails_first n words_ahead s h e =
      let f = p.fails (suc n) words_ahead s e in
      record {
        used = f.used;
        split = f.split;
        ended = f.ended;
        begun = bounded_first n f.used (record { whole = f.begun.whole; tail = f.begun.tail; shaped = tt; spelled = f.begun.spelled; words = f.begun.words });
        bad = λ x more l k reach other. go f.used x other k (Reaches-le s.why (suc n) k reach) (first_again first words_ahead f.used s.left x more other true f.split l h) (f.bad x more l k reach other);
        deeper = λ x more l w. bounded_first (suc n) (f.used ++ (x ∷ [])) (let c = f.deeper x more l w in record { whole = c.whole; tail = c.tail; shaped = tt; spelled = c.spelled; words = c.words });
      }
    where
      go : (used : List PlacedWord) (x : PlacedWord) (other : List PlacedWord) (k : ℕ) → suc n ≤ k → is_first first (used ++ (x ∷ other)) ≡ true → r (used ++ (x ∷ other)) ≡ Err (stop s.why (x ∷ other)) → bounded_at first r k (used ++ (x ∷ other)) ≡ Err (stop s.why (x ∷ other))
      go used x other zero le h e = absurd (omega arith)
      go used x other (suc k) le h e = bounded_stops k (used ++ (x ∷ other)) (stop s.why (x ∷ other)) h e

  bounded_fails_behind : (n : ℕ) (words_ahead : List PlacedWord) (s : Stop) (a : A) (rest : List PlacedWord) → is_first first words_ahead ≡ true → r words_ahead ≡ Ok (a, rest) → BoundedFails n rest s → BoundedFails (suc n) words_ahead s
  bounded_fails_behind n words_ahead s a rest h e f =
      let s1 = p.sound n words_ahead a rest e in
      record {
        used = s1.front ++ f.used;
        split = s1.split ∙ ap (λ (t : List PlacedWord). s1.front ++ t) f.split ∙ sym (append_assoc s1.front f.used s.left);
        ended = f.ended;
        begun = bounded_behind n a s1.front f.used s1.spelled f.begun;
        bad = λ x more l k reach other. go s1.front f.used s1.spelled x other k reach (λ k reach. f.bad x more l k reach other);
        deeper = λ x more l w. subst (Completed (flat_map m) few (suc (suc n))) (sym (append_assoc s1.front f.used (x ∷ [])))
            (bounded_behind (suc n) a s1.front (f.used ++ (x ∷ [])) s1.spelled (f.deeper x more l w));
      }
    where
      go : (front used : List PlacedWord) → Spells (m a) front → (x : PlacedWord) (other : List PlacedWord) (k : ℕ) → Reaches s.why (suc n) k
          → ((k : ℕ) → Reaches s.why n k → bounded_at first r k (used ++ (x ∷ other)) ≡ Err (stop s.why (x ∷ other)))
          → bounded_at first r k ((front ++ used) ++ (x ∷ other)) ≡ Err (stop s.why (x ∷ other))
      go front used spelled x other zero reach bad = absurd (let le = Reaches-le s.why (suc n) 0 reach in omega arith)
      go front used spelled x other (suc k) reach bad =
          let again = p.whole k a front (used ++ (x ∷ other)) spelled tt (Misses-never (used ++ (x ∷ other))) in
          ap (bounded_at first r (suc k)) (append_assoc front used (x ∷ other))
          ∙ bounded_step k (front ++ (used ++ (x ∷ other))) a (used ++ (x ∷ other)) (is_first-spelled first true (m a) front (used ++ (x ∷ other)) spelled (starts a)) again
          ∙ bind_same (bounded_at first r k (used ++ (x ∷ other))) (onto a) (stop s.why (x ∷ other)) (bad k (Reaches-down s.why n k reach))

  bounded_fails : (n : ℕ) (words_ahead : List PlacedWord) (s : Stop) → bounded_at first r n words_ahead ≡ Err s → BoundedFails n words_ahead s
  bounded_fails zero words_ahead s e = go (is_first first words_ahead) refl
    where
      go : (b : Bool) → is_first first words_ahead ≡ b → BoundedFails zero words_ahead s
      go false h = bounded_not zero words_ahead s h e
      go true h = subst (BoundedFails zero words_ahead) (err_is {A = List A} (stop TooDeep words_ahead) s (sym (bounded_deep words_ahead h) ∙ e)) (too_deep words_ahead h)
  bounded_fails (suc n) words_ahead s e = go (is_first first words_ahead) refl (λ words_ahead e. bounded_fails n words_ahead s e)
    where
      go : (b : Bool) → is_first first words_ahead ≡ b → ((words_ahead : List PlacedWord) → bounded_at first r n words_ahead ≡ Err s → BoundedFails n words_ahead s) → BoundedFails (suc n) words_ahead s
      go false h ih = bounded_not (suc n) words_ahead s h e
      go true h ih = elim (bind_err (r words_ahead) (λ x. bounded_at first r n x.1 >>= λ xs. Ok (x.0 ∷ xs.0, xs.1)) s (sym (bounded_more n words_ahead h) ∙ e)) [
        | inl e1 ↦ bounded_fails_first n words_ahead s h e1
        | inr b ↦ elim (bind_err (bounded_at first r n b.0.1) (λ xs. Ok (b.0.0 ∷ xs.0, xs.1)) s b.2) [
          | inl e2 ↦ bounded_fails_behind n words_ahead s b.0.0 b.0.1 h b.1 (ih b.0.1 e2)
          | inr d ↦ absurd cc
        ]
      ]

  pub bounded_reads : Reads (bounded_at first r) (flat_map m) few (always first)
  bounded_reads = record {
    sound = bounded_sound;
    whole = bounded_whole;
    fails = bounded_fails;
    wider = λ n k v le h. omega arith;
    some = [];
    some_shaped = λ n. omega arith;
    some_words = tt;
  }

-- ---- the line of the first word

-- the words with the line of the first
abbrev pub on_line : ℕ → List TreeWord → List TreeWord
on_line line [] = []
on_line line (tree_word ∷ tree_words) = Starts line (plain_word tree_word) ∷ tree_words

abbrev pub lined_tree_words : {A : Type 0} → (A → List TreeWord) → ℕ × A → List TreeWord
lined_tree_words m p = on_line p.0 (m p.1)

abbrev pub lined_ok : {A : Type 0} → (ℕ → A → Type 0) → ℕ → ℕ × A → Type 0
lined_ok ok n p = ok n p.1

abbrev pub lined_on : {A : Type 0} → (A → Word → Bool) → ℕ × A → Word → Bool
lined_on on p = on p.1

abbrev pub lined_at : {A : Type 0} → (ℕ → List PlacedWord → Read A) → ℕ → List PlacedWord → Read (ℕ × A)
lined_at r n words_ahead = r n words_ahead >>= λ x. Ok ((line_at words_ahead, x.0), x.1)

-- the first word is there, and no line is held of it
abbrev pub IsUnlined : List TreeWord → Type 0
IsUnlined [] = ⊥
IsUnlined (Starts line word ∷ tree_words) = ⊥
IsUnlined (Goes word ∷ tree_words) = Unit {0}

line_spelled : (tree_words : List TreeWord) (words_ahead rest : List PlacedWord) → IsUnlined tree_words → Spells tree_words words_ahead → Spells (on_line (line_at (words_ahead ++ rest)) tree_words) words_ahead
line_spelled [] words_ahead rest u h = absurd u
line_spelled (Starts line word ∷ tree_words) words_ahead rest u h = absurd u
line_spelled (Goes word ∷ tree_words) [] rest u h = h
line_spelled (Goes word ∷ tree_words) (x ∷ words_ahead) rest u h = ((h.0, refl), h.1)

unlined : (line : ℕ) (tree_words : List TreeWord) (words_ahead rest : List PlacedWord) → IsUnlined tree_words → Spells (on_line line tree_words) words_ahead → Spells tree_words words_ahead × (line_at (words_ahead ++ rest) ≡ line)
unlined line [] words_ahead rest u h = absurd u
unlined line (Starts l word ∷ tree_words) words_ahead rest u h = absurd u
unlined line (Goes word ∷ tree_words) [] rest u h = absurd h
unlined line (Goes word ∷ tree_words) (x ∷ words_ahead) rest u h = ((h.0.0, h.1), h.0.1)

lined_good : (line : ℕ) (tree_words : List TreeWord) → AreTreeWords tree_words → AreTreeWords (on_line line tree_words)
lined_good line [] h = tt
lined_good line (tree_word ∷ tree_words) h = h

module _ {A : Type 0} (r : ℕ → List PlacedWord → Read A) (m : A → List TreeWord) (ok : ℕ → A → Type 0) (on : A → Word → Bool) (p : Reads r m ok on)
    (first : (n : ℕ) (a : A) → ok n a → IsUnlined (m a)) where
  lined_sound : (n : ℕ) (words_ahead : List PlacedWord) (v : ℕ × A) (rest : List PlacedWord) → lined_at r n words_ahead ≡ Ok (v, rest) → Reads_ (lined_tree_words m) (lined_ok ok) (lined_on on) n words_ahead v rest
  lined_sound n words_ahead v rest e =
      let b = bind_ok (r n words_ahead) (λ x. Ok ((line_at words_ahead, x.0), x.1)) (v, rest) e in
      let x = b.0 in
      let s = p.sound n words_ahead x.0 x.1 b.1 in
      let made : Reads_ (lined_tree_words m) (lined_ok ok) (lined_on on) n words_ahead (line_at words_ahead, x.0) x.1 = record {
        front = s.front;
        split = s.split;
        spelled = subst (λ (t : List PlacedWord). Spells (on_line (line_at t) (m x.0)) s.front) (sym s.split) (line_spelled (m x.0) s.front x.1 (first n x.0 s.shaped) s.spelled);
        shaped = s.shaped;
        ends = s.ends;
      } in
      subst (λ (p : (ℕ × A) × List PlacedWord). Reads_ (lined_tree_words m) (lined_ok ok) (lined_on on) n words_ahead p.0 p.1) (ok_is ((line_at words_ahead, x.0), x.1) (v, rest) b.2) made

  lined_whole : (n : ℕ) (v : ℕ × A) (front rest : List PlacedWord) → Spells (lined_tree_words m v) front → lined_ok ok n v → Misses (lined_on on v) rest → lined_at r n (front ++ rest) ≡ Ok (v, rest)
  lined_whole n v front rest h k miss =
      let u = unlined v.0 (m v.1) front rest (first n v.1 k) h in
      rw (p.whole n v.1 front rest u.0 k miss, u.1) refl

  lined_begun : (n : ℕ) (used : List PlacedWord) → Completed m ok n used → Completed (lined_tree_words m) (lined_ok ok) n used
  lined_begun n used c = record {
    whole = (line_at ((used ++ c.tail) ++ []), c.whole);
    tail = c.tail;
    shaped = c.shaped;
    spelled = line_spelled (m c.whole) (used ++ c.tail) [] (first n c.whole c.shaped) c.spelled;
    words = c.words;
  }

  lined_fails : (n : ℕ) (words_ahead : List PlacedWord) (s : Stop) → lined_at r n words_ahead ≡ Err s → Fails (lined_at r) (lined_tree_words m) (lined_ok ok) n words_ahead s
  lined_fails n words_ahead s e = elim (bind_err (r n words_ahead) (λ x. Ok ((line_at words_ahead, x.0), x.1)) s e) [
    | inl e1 ↦ let f = p.fails n words_ahead s e1 in record {
      used = f.used;
      split = f.split;
      ended = f.ended;
      begun = lined_begun n f.used f.begun;
      bad = λ x more l k reach other. bind_same (r k (f.used ++ (x ∷ other))) (λ y. Ok ((line_at (f.used ++ (x ∷ other)), y.0), y.1)) (stop s.why (x ∷ other)) (f.bad x more l k reach other);
      deeper = λ x more l w. lined_begun (suc n) (f.used ++ (x ∷ [])) (f.deeper x more l w);
    }
    | inr b ↦ absurd cc
  ]

  pub lined_reads : Reads (lined_at r) (lined_tree_words m) (lined_ok ok) (lined_on on)
  lined_reads = record {
    sound = lined_sound;
    whole = lined_whole;
    fails = lined_fails;
    wider = λ n k v le h. p.wider n k v.1 le h;
    some = (0, p.some);
    some_shaped = λ n. p.some_shaped n;
    some_words = lined_good 0 (m p.some) p.some_words;
  }
