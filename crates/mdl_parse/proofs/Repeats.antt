-- Readers of parts, as many as there are.
use Rattle.std.proofs.Common.{◌≡◌, ℕ, zero, suc, ◌<◌, ◌≤◌, Bool, true, false, List, [], ◌∷◌, ◌++◌, length, Ok, Err, refl, sym, ap, subst, ◌∙◌, arith, inl, inr, if◌then◌else◌}
use Rattle.std.specs.List.{flat_map, AllByRecursion}
use Rattle.std.proofs.lemmas.List.{append_assoc, append-nil}
use Rattle.pn_text.specs.Words.{Word}
use Rattle.mdl_parse.specs.WordsInText.{PlacedWord, TreeWord, Spells}
use Rattle.mdl_parse.specs.Steps.{Stop, Read, ◌>>=◌, stop, is_first, many_in, many_at}
use Rattle.mdl_parse.proofs.Rules.{Spells-append, Spells-parted, Misses, Misses-never, StartsAs, is_first-spelled, first-Misses, bind_ok, bind_err, bind_same, ok_is, Misses-first, longer}
use Rattle.mdl_parse.proofs.Readers.{Reads, Reads_, Fails, Completed, completed, Reaches-le, closed}
use Rattle.mdl_parse.proofs.Options.{first_again}

-- ---- parts, as many as there are

abbrev pub all_ok : {A : Type 0} → (ℕ → A → Type 0) → ℕ → List A → Type 0
all_ok ok n = AllByRecursion (ok n)

abbrev pub always : {A : Type 0} → (Word → Bool) → A → Word → Bool
always first v = first

module _ {A : Type 0} (first : Word → Bool) (r : ℕ → List PlacedWord → Read A) (m : A → List TreeWord) (ok : ℕ → A → Type 0) (p : Reads r m ok closed)
    (starts : (n : ℕ) (a : A) → ok n a → StartsAs first true (m a)) where
  -- reading a part makes the words fewer
  pub shorter : (n : ℕ) (words_ahead : List PlacedWord) (a : A) (rest : List PlacedWord) → r n words_ahead ≡ Ok (a, rest) → length rest < length words_ahead
  shorter n words_ahead a rest e =
      let s = p.sound n words_ahead a rest e in
      subst (λ (t : List PlacedWord). length rest < length t) (sym s.split) (longer first true (m a) s.front rest s.spelled (starts n a s.shaped))

  abbrev onto : A → List A × List PlacedWord → Read (List A)
  onto a xs = Ok (a ∷ xs.0, xs.1)

  abbrev step : ℕ → (List PlacedWord → Read (List A)) → List PlacedWord → Read (List A)
  step n more words_ahead = if is_first first words_ahead then (r n words_ahead >>= λ x. more x.1 >>= λ xs. Ok (x.0 ∷ xs.0, xs.1)) else Ok ([], words_ahead)

  empty_first : (words_ahead : List PlacedWord) → length words_ahead ≤ 0 → is_first first words_ahead ≡ false
  empty_first [] h = refl
  empty_first (x ∷ words_ahead) h = absurd (omega arith)

  -- the number of parts that are looked for plays no role, if it is large enough
  many_same : (k j n : ℕ) (words_ahead : List PlacedWord) → length words_ahead ≤ k → length words_ahead ≤ j → many_in first (r n) k words_ahead ≡ many_in first (r n) j words_ahead
  many_same zero zero n words_ahead hk hj = refl
  many_same zero (suc j) n words_ahead hk hj = rw (empty_first words_ahead hk) refl
  many_same (suc k) zero n words_ahead hk hj = rw (empty_first words_ahead hj) refl
  many_same (suc k) (suc j) n words_ahead hk hj = go (is_first first words_ahead) refl (r n words_ahead) refl (λ rest h h'. many_same k j n rest h h')
    where
      go : (b : Bool) → is_first first words_ahead ≡ b → (x : Read A) → r n words_ahead ≡ x → ((rest : List PlacedWord) → length rest ≤ k → length rest ≤ j → many_in first (r n) k rest ≡ many_in first (r n) j rest)
          → many_in first (r n) (suc k) words_ahead ≡ many_in first (r n) (suc j) words_ahead
      go false h x e ih = rw h refl
      go true h (Err s) e ih = rw (h, e) refl
      go true h (Ok x) e ih =
          let less = shorter n words_ahead x.0 x.1 e in
          rw (h, e) (ap (λ (t : Read (List A)). t >>= onto x.0) (ih x.1 (omega arith) (omega arith)))

  -- no further part
  pub many_none : (n : ℕ) (words_ahead : List PlacedWord) → is_first first words_ahead ≡ false → many_at first (r n) words_ahead ≡ Ok ([], words_ahead)
  unfolding many_at
  many_none n [] h = refl
  many_none n (x ∷ words_ahead) h = rw h refl

  -- a part, and those after it
  pub many_more : (n : ℕ) (words_ahead : List PlacedWord) → is_first first words_ahead ≡ true → many_at first (r n) words_ahead ≡ (r n words_ahead >>= λ x. many_at first (r n) x.1 >>= λ xs. Ok (x.0 ∷ xs.0, xs.1))
  unfolding many_at
  many_more n [] h = absurd cc
  many_more n (y ∷ words_ahead) h = go (r n (y ∷ words_ahead)) refl
    where
      go : (x : Read A) → r n (y ∷ words_ahead) ≡ x → many_in first (r n) (length (y ∷ words_ahead)) (y ∷ words_ahead) ≡ (r n (y ∷ words_ahead) >>= λ x. many_in first (r n) (length x.1) x.1 >>= λ xs. Ok (x.0 ∷ xs.0, xs.1))
      go (Err s) e = rw (h, e) refl
      go (Ok x) e =
          let less = shorter n (y ∷ words_ahead) x.0 x.1 e in
          rw (h, e) (ap (λ (t : Read (List A)). t >>= onto x.0) (many_same (length words_ahead) (length x.1) n x.1 (omega arith) (omega arith)))

  pub many_step : (n : ℕ) (words_ahead : List PlacedWord) (a : A) (rest : List PlacedWord) → is_first first words_ahead ≡ true → r n words_ahead ≡ Ok (a, rest) → many_at first (r n) words_ahead ≡ (many_at first (r n) rest >>= onto a)
  many_step n words_ahead a rest h e = many_more n words_ahead h ∙ rw e refl

  pub many_stops : (n : ℕ) (words_ahead : List PlacedWord) (s : Stop) → is_first first words_ahead ≡ true → r n words_ahead ≡ Err s → many_at first (r n) words_ahead ≡ Err s
  many_stops n words_ahead s h e = many_more n words_ahead h ∙ rw e refl

  abbrev Many : ℕ → List PlacedWord → List A → List PlacedWord → Type 0
  Many n words_ahead v rest = Reads_ (flat_map m) (all_ok ok) (always first) n words_ahead v rest

  many_nothing : (n : ℕ) (words_ahead : List PlacedWord) (v : List A) (rest : List PlacedWord) → is_first first words_ahead ≡ false → many_at first (r n) words_ahead ≡ Ok (v, rest) → Many n words_ahead v rest
  many_nothing n words_ahead v rest h e =
      let made : Many n words_ahead [] words_ahead = record { front = []; split = refl; spelled = tt; shaped = tt; ends = Misses-first first words_ahead h } in
      subst (λ (p : List A × List PlacedWord). Many n words_ahead p.0 p.1) (ok_is ([], words_ahead) (v, rest) (sym (many_none n words_ahead h) ∙ e)) made

  many_sound : (k n : ℕ) (words_ahead : List PlacedWord) (v : List A) (rest : List PlacedWord) → length words_ahead ≤ k → many_at first (r n) words_ahead ≡ Ok (v, rest) → Many n words_ahead v rest
  many_sound zero n words_ahead v rest len e = many_nothing n words_ahead v rest (empty_first words_ahead len) e
  many_sound (suc k) n words_ahead v rest len e = go (is_first first words_ahead) refl (λ words_ahead v rest len e. many_sound k n words_ahead v rest len e)
    where
      go : (b : Bool) → is_first first words_ahead ≡ b → ((words_ahead : List PlacedWord) (v : List A) (rest : List PlacedWord) → length words_ahead ≤ k → many_at first (r n) words_ahead ≡ Ok (v, rest) → Many n words_ahead v rest) → Many n words_ahead v rest
      go false h ih = many_nothing n words_ahead v rest h e
      go true h ih =
          let b1 = bind_ok (r n words_ahead) (λ x. many_at first (r n) x.1 >>= λ xs. Ok (x.0 ∷ xs.0, xs.1)) (v, rest) (sym (many_more n words_ahead h) ∙ e) in
          let x = b1.0 in
          let b2 = bind_ok (many_at first (r n) x.1) (λ xs. Ok (x.0 ∷ xs.0, xs.1)) (v, rest) b1.2 in
          let y = b2.0 in
          let s1 = p.sound n words_ahead x.0 x.1 b1.1 in
          let less = shorter n words_ahead x.0 x.1 b1.1 in
          let s2 = ih x.1 y.0 y.1 (omega arith) b2.1 in
          let made : Many n words_ahead (x.0 ∷ y.0) y.1 = record {
            front = s1.front ++ s2.front;
            split = s1.split ∙ ap (λ (t : List PlacedWord). s1.front ++ t) s2.split ∙ sym (append_assoc s1.front s2.front y.1);
            spelled = Spells-append (m x.0) (flat_map m y.0) s1.front s2.front s1.spelled s2.spelled;
            shaped = (s1.shaped, s2.shaped);
            ends = s2.ends;
          } in
          subst (λ (p : List A × List PlacedWord). Many n words_ahead p.0 p.1) (ok_is (x.0 ∷ y.0, y.1) (v, rest) b2.2) made

  many_whole : (n : ℕ) (v : List A) (front rest : List PlacedWord) → Spells (flat_map m v) front → all_ok ok n v → Misses first rest → many_at first (r n) (front ++ rest) ≡ Ok (v, rest)
  many_whole n [] [] rest h k miss = many_none n rest (first-Misses first rest miss)
  many_whole n [] (x ∷ front) rest h k miss = absurd h
  many_whole n (a ∷ others) front rest h k miss =
      let p2 = Spells-parted (m a) (flat_map m others) front h in
      let whole : front ++ rest ≡ p2.front ++ (p2.behind ++ rest) = ap (λ (t : List PlacedWord). t ++ rest) p2.parts ∙ append_assoc p2.front p2.behind rest in
      let one = p.whole n a p2.front (p2.behind ++ rest) p2.first k.0 (Misses-never (p2.behind ++ rest)) in
      ap (many_at first (r n)) whole
      ∙ many_step n (p2.front ++ (p2.behind ++ rest)) a (p2.behind ++ rest) (is_first-spelled first true (m a) p2.front (p2.behind ++ rest) p2.first (starts n a k.0)) one
      ∙ rw (many_whole n others p2.behind rest p2.second k.1 miss) refl

  many_first : (n : ℕ) (used : List PlacedWord) → Completed m ok n used → Completed (flat_map m) (all_ok ok) n used
  many_first n used c = completed m ok (flat_map m) (all_ok ok) (λ a. a ∷ []) n [] used []
      (λ a h. (h, tt)) (λ a words_ahead h. rw (append-nil (m a), append-nil words_ahead) h) tt c

  many_behind : (n : ℕ) (a : A) (front used : List PlacedWord) → Spells (m a) front → ok n a → Completed (flat_map m) (all_ok ok) n used → Completed (flat_map m) (all_ok ok) n (front ++ used)
  many_behind n a front used h k c = completed (flat_map m) (all_ok ok) (flat_map m) (all_ok ok) (λ others. a ∷ others) n front used []
      (λ others g. (k, g)) (λ others words_ahead g. Spells-append (m a) (flat_map m others) front (words_ahead ++ []) h (rw (append-nil words_ahead) g)) tt c

  abbrev ManyFails : ℕ → List PlacedWord → Stop → Type 0
  ManyFails n words_ahead s = Fails (λ n. many_at first (r n)) (flat_map m) (all_ok ok) n words_ahead s

  many_not : (n : ℕ) (words_ahead : List PlacedWord) (s : Stop) → is_first first words_ahead ≡ false → many_at first (r n) words_ahead ≡ Err s → ManyFails n words_ahead s
  many_not n words_ahead s h e = absurd (let e2 = sym (many_none n words_ahead h) ∙ e in cc)

  many_fails_first : (n : ℕ) (words_ahead : List PlacedWord) (s : Stop) → is_first first words_ahead ≡ true → r n words_ahead ≡ Err s → ManyFails n words_ahead s
  many_fails_first n words_ahead s h e =
      let f = p.fails n words_ahead s e in
      record {
        used = f.used;
        split = f.split;
        ended = f.ended;
        begun = many_first n f.used f.begun;
        bad = λ x more l k reach other. many_stops k (f.used ++ (x ∷ other)) (stop s.why (x ∷ other)) (first_again first words_ahead f.used s.left x more other true f.split l h) (f.bad x more l k reach other);
        deeper = λ x more l w. many_first (suc n) (f.used ++ (x ∷ [])) (f.deeper x more l w);
      }

  many_fails_behind : (n : ℕ) (words_ahead : List PlacedWord) (s : Stop) (a : A) (rest : List PlacedWord) → is_first first words_ahead ≡ true → r n words_ahead ≡ Ok (a, rest) → ManyFails n rest s → ManyFails n words_ahead s
  many_fails_behind n words_ahead s a rest h e f =
      let s1 = p.sound n words_ahead a rest e in
      record {
        used = s1.front ++ f.used;
        split = s1.split ∙ ap (λ (t : List PlacedWord). s1.front ++ t) f.split ∙ sym (append_assoc s1.front f.used s.left);
        ended = f.ended;
        begun = many_behind n a s1.front f.used s1.spelled s1.shaped f.begun;
        bad = λ x more l k reach other.
            let again = p.whole k a s1.front (f.used ++ (x ∷ other)) s1.spelled (p.wider n k a (Reaches-le s.why n k reach) s1.shaped) (Misses-never (f.used ++ (x ∷ other))) in
            ap (many_at first (r k)) (append_assoc s1.front f.used (x ∷ other))
            ∙ many_step k (s1.front ++ (f.used ++ (x ∷ other))) a (f.used ++ (x ∷ other)) (is_first-spelled first true (m a) s1.front (f.used ++ (x ∷ other)) s1.spelled (starts n a s1.shaped)) again
            ∙ bind_same (many_at first (r k) (f.used ++ (x ∷ other))) (onto a) (stop s.why (x ∷ other)) (f.bad x more l k reach other);
        deeper = λ x more l w. subst (Completed (flat_map m) (all_ok ok) (suc n)) (sym (append_assoc s1.front f.used (x ∷ [])))
            (many_behind (suc n) a s1.front (f.used ++ (x ∷ [])) s1.spelled (p.wider n (suc n) a (omega arith) s1.shaped) (f.deeper x more l w));
      }

  many_fails : (k n : ℕ) (words_ahead : List PlacedWord) (s : Stop) → length words_ahead ≤ k → many_at first (r n) words_ahead ≡ Err s → ManyFails n words_ahead s
  many_fails zero n words_ahead s len e = many_not n words_ahead s (empty_first words_ahead len) e
  many_fails (suc k) n words_ahead s len e = go (is_first first words_ahead) refl (λ words_ahead len e. many_fails k n words_ahead s len e)
    where
      go : (b : Bool) → is_first first words_ahead ≡ b → ((words_ahead : List PlacedWord) → length words_ahead ≤ k → many_at first (r n) words_ahead ≡ Err s → ManyFails n words_ahead s) → ManyFails n words_ahead s
      go false h ih = many_not n words_ahead s h e
      go true h ih = elim (bind_err (r n words_ahead) (λ x. many_at first (r n) x.1 >>= λ xs. Ok (x.0 ∷ xs.0, xs.1)) s (sym (many_more n words_ahead h) ∙ e)) [
        | inl e1 ↦ many_fails_first n words_ahead s h e1
        | inr b ↦ elim (bind_err (many_at first (r n) b.0.1) (λ xs. Ok (b.0.0 ∷ xs.0, xs.1)) s b.2) [
          | inl e2 ↦ let less = shorter n words_ahead b.0.0 b.0.1 b.1 in many_fails_behind n words_ahead s b.0.0 b.0.1 h b.1 (ih b.0.1 (omega arith) e2)
          | inr d ↦ absurd cc
        ]
      ]

  many_wider : (n k : ℕ) (v : List A) → n ≤ k → all_ok ok n v → all_ok ok k v
  many_wider n k [] le h = tt
  many_wider n k (a ∷ v) le h = (p.wider n k a le h.0, many_wider n k v le h.1)

  pub many_reads : Reads (λ n. many_at first (r n)) (flat_map m) (all_ok ok) (always first)
  many_reads = record {
    sound = λ n words_ahead v rest e. many_sound (length words_ahead) n words_ahead v rest (omega arith) e;
    whole = many_whole;
    fails = λ n words_ahead s e. many_fails (length words_ahead) n words_ahead s (omega arith) e;
    wider = many_wider;
    some = [];
    some_shaped = λ n. tt;
    some_words = tt;
  }
