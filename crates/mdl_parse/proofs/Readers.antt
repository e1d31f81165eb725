-- What a reader keeps, and how that carries over to readers made of others.
use Rattle.std.proofs.Common.{◌≡◌, ℕ, suc, ◌≤◌, Bool, false, List, [], ◌∷◌, ◌++◌, Option, Some, None, Ok, Err, refl, sym, ap, subst, ◌∙◌, arith, inl, inr}
use Rattle.std.proofs.lemmas.List.{append_assoc, append-nil}
use Rattle.pn_text.specs.Words.{Word}
use Rattle.mdl_parse.specs.WordsInText.{IsWord}
use Rattle.mdl_parse.specs.WordsInText.{PlacedWord, AreWords, TreeWord, Goes, Spells}
use Rattle.mdl_parse.specs.Steps.{Stop, Read, ◌>>=◌, stop, some_read, leaf_at}
use Rattle.mdl_parse.specs.declared.refusal.Refusal.{Refusal}
use Rattle.mdl_parse.specs.declared.refusal.Refusal.TheVariants.{Unexpected, TooDeep}
use Rattle.mdl_parse.proofs.Rules.{AreTreeWords, all_placed_as, placed_spell, placed_are_words, AreWords-append, AreTreeWords-append, Spells-append, Spells-parted, Misses, never, Misses-never, Misses-same, StartsAs, is_first-spelled, bind_ok, bind_err, bind_same, ok_is, err_is, Misses-first}

-- a value that these words can be completed to
pub record Completed {A : Type 0} (tree_words : A → List TreeWord) (ok : ℕ → A → Type 0) (n : ℕ) (used : List PlacedWord) : Type 0 where
  pub whole : A
  pub tail : List PlacedWord
  pub shaped : ok n whole
  pub spelled : Spells (tree_words whole) (used ++ tail)
  pub words : AreWords tail

-- the same for values of another kind
pub as_well : {A : Type 0} {tree_words : A → List TreeWord} {ok ok' : ℕ → A → Type 0} {n k : ℕ} {used : List PlacedWord} → ((a : A) → ok n a → ok' k a) → Completed tree_words ok n used → Completed tree_words ok' k used
as_well there c = record { whole = c.whole; tail = c.tail; shaped = there c.whole c.shaped; spelled = c.spelled; words = c.words }

-- the limits at which a reader stops at the same word
abbrev pub Reaches : Refusal → ℕ → ℕ → Type 0
Reaches Unexpected n m = n ≤ m
Reaches TooDeep n m = n ≡ m

pub Reaches-le : (why : Refusal) (n m : ℕ) → Reaches why n m → n ≤ m
Reaches-le Unexpected n m h = h
Reaches-le TooDeep n m h = omega arith

-- the words before the one that doesn't fit can be completed, and with that one nothing is read, whatever follows it
pub record Fails {A : Type 0} (read : ℕ → List PlacedWord → Read A) (tree_words : A → List TreeWord) (ok : ℕ → A → Type 0) (n : ℕ) (words_ahead : List PlacedWord) (s : Stop) : Type 0 where
  pub used : List PlacedWord
  pub split : words_ahead ≡ used ++ s.left
  pub begun : Completed tree_words ok n used
  pub bad : (x : PlacedWord) (more : List PlacedWord) → s.left ≡ x ∷ more → (m : ℕ) → Reaches s.why n m → (other : List PlacedWord) → read m (used ++ (x ∷ other)) ≡ Err (stop s.why (x ∷ other))
  pub deeper : (x : PlacedWord) (more : List PlacedWord) → s.left ≡ x ∷ more → s.why ≡ TooDeep → Completed tree_words ok (suc n) (used ++ (x ∷ []))
  pub ended : s.left ≡ [] → s.why ≡ Unexpected

-- what was read is what these words spell
pub record Reads_ {A : Type 0} (tree_words : A → List TreeWord) (ok : ℕ → A → Type 0) (on : A → Word → Bool) (n : ℕ) (words_ahead : List PlacedWord) (v : A) (rest : List PlacedWord) : Type 0 where
  pub front : List PlacedWord
  pub split : words_ahead ≡ front ++ rest
  pub spelled : Spells (tree_words v) front
  pub shaped : ok n v
  pub ends : Misses (on v) rest

-- a reader of values with these words; `on` are the words that would go on with a value
pub record Reads {A : Type 0} (read : ℕ → List PlacedWord → Read A) (tree_words : A → List TreeWord) (ok : ℕ → A → Type 0) (on : A → Word → Bool) : Type 0 where
  pub sound : (n : ℕ) (words_ahead : List PlacedWord) (v : A) (rest : List PlacedWord) → read n words_ahead ≡ Ok (v, rest) → Reads_ tree_words ok on n words_ahead v rest
  pub whole : (n : ℕ) (v : A) (front rest : List PlacedWord) → Spells (tree_words v) front → ok n v → Misses (on v) rest → read n (front ++ rest) ≡ Ok (v, rest)
  pub fails : (n : ℕ) (words_ahead : List PlacedWord) (s : Stop) → read n words_ahead ≡ Err s → Fails read tree_words ok n words_ahead s
  pub wider : (n m : ℕ) (v : A) → n ≤ m → ok n v → ok m v
  pub some : A
  pub some_shaped : (n : ℕ) → ok n some
  pub some_words : AreTreeWords (tree_words some)

-- completing a part completes the whole
pub completed : {A B : Type 0} (tree_words : A → List TreeWord) (ok : ℕ → A → Type 0) (tree_words' : B → List TreeWord) (ok' : ℕ → B → Type 0)
    (to : A → B) (n : ℕ) (front used : List PlacedWord) (post : List TreeWord) →
    ((a : A) → ok n a → ok' n (to a)) →
    ((a : A) (words_ahead : List PlacedWord) → Spells (tree_words a) words_ahead → Spells (tree_words' (to a)) (front ++ (words_ahead ++ all_placed_as post))) →
    AreTreeWords post → Completed tree_words ok n used → Completed tree_words' ok' n (front ++ used)
completed tree_words ok tree_words' ok' to n front used post shaped spelled good c = record {
  whole = to c.whole;
  tail = c.tail ++ all_placed_as post;
  shaped = shaped c.whole c.shaped;
  spelled =
      let e : (front ++ used) ++ (c.tail ++ all_placed_as post) ≡ front ++ ((used ++ c.tail) ++ all_placed_as post) =
      append_assoc front used (c.tail ++ all_placed_as post) ∙ ap (λ (t : List PlacedWord). front ++ t) (sym (append_assoc used c.tail (all_placed_as post))) in
      subst (Spells (tree_words' (to c.whole))) (sym e) (spelled c.whole (used ++ c.tail) c.spelled);
  words = AreWords-append c.tail (all_placed_as post) c.words (placed_are_words post good);
}

-- ---- two, one after the other

abbrev pub pair_tree_words : {A B : Type 0} → (A → List TreeWord) → (B → List TreeWord) → A × B → List TreeWord
pair_tree_words first second p = first p.0 ++ second p.1

abbrev pub pair_ok : {A B : Type 0} → (ℕ → A → Type 0) → (ℕ → B → Type 0) → ℕ → A × B → Type 0
pair_ok first second n p = first n p.0 × second n p.1

abbrev pub pair_on : {A B : Type 0} → (B → Word → Bool) → A × B → Word → Bool
pair_on on p = on p.1

abbrev pub pair_at : {A B : Type 0} → (ℕ → List PlacedWord → Read A) → (ℕ → List PlacedWord → Read B) → ℕ → List PlacedWord → Read (A × B)
pair_at first second n words_ahead = first n words_ahead >>= λ x. second n x.1 >>= λ y. Ok ((x.0, y.0), y.1)

module _ {A B : Type 0} (r1 : ℕ → List PlacedWord → Read A) (m1 : A → List TreeWord) (ok1 : ℕ → A → Type 0) (on1 : A → Word → Bool)
    (r2 : ℕ → List PlacedWord → Read B) (m2 : B → List TreeWord) (ok2 : ℕ → B → Type 0) (on2 : B → Word → Bool)
    (p1 : Reads r1 m1 ok1 on1) (p2 : Reads r2 m2 ok2 on2)
    (parts : (n : ℕ) (a : A) (b : B) (g rest : List PlacedWord) → ok2 n b → Spells (m2 b) g → Misses (on2 b) rest → Misses (on1 a) (g ++ rest)) where
  pair_step : (n : ℕ) (words_ahead : List PlacedWord) (a : A) (rest : List PlacedWord) → r1 n words_ahead ≡ Ok (a, rest) → pair_at r1 r2 n words_ahead ≡ (r2 n rest >>= λ y. Ok ((a, y.0), y.1))
  pair_step n words_ahead a rest e = rw e refl

  pair_sound : (n : ℕ) (words_ahead : List PlacedWord) (v : A × B) (rest : List PlacedWord) → pair_at r1 r2 n words_ahead ≡ Ok (v, rest) → Reads_ (pair_tree_words m1 m2) (pair_ok ok1 ok2) (pair_on on2) n words_ahead v rest
  pair_sound n words_ahead v rest e =
      let b1 = bind_ok (r1 n words_ahead) (λ x. r2 n x.1 >>= λ y. Ok ((x.0, y.0), y.1)) (v, rest) e in
      let x = b1.0 in
      let b2 = bind_ok (r2 n x.1) (λ y. Ok ((x.0, y.0), y.1)) (v, rest) b1.2 in
      let y = b2.0 in
      let s1 = p1.sound n words_ahead x.0 x.1 b1.1 in
      let s2 = p2.sound n x.1 y.0 y.1 b2.1 in
      let made : Reads_ (pair_tree_words m1 m2) (pair_ok ok1 ok2) (pair_on on2) n words_ahead (x.0, y.0) y.1 = record {
        front = s1.front ++ s2.front;
        split = s1.split ∙ ap (λ (t : List PlacedWord). s1.front ++ t) s2.split ∙ sym (append_assoc s1.front s2.front y.1);
        spelled = Spells-append (m1 x.0) (m2 y.0) s1.front s2.front s1.spelled s2.spelled;
        shaped = (s1.shaped, s2.shaped);
        ends = s2.ends;
      } in
      subst (λ (p : (A × B) × List PlacedWord). Reads_ (pair_tree_words m1 m2) (pair_ok ok1 ok2) (pair_on on2) n words_ahead p.0 p.1) (ok_is ((x.0, y.0), y.1) (v, rest) b2.2) made

  pair_whole : (n : ℕ) (v : A × B) (front rest : List PlacedWord) → Spells (pair_tree_words m1 m2 v) front → pair_ok ok1 ok2 n v → Misses (on2 v.1) rest → pair_at r1 r2 n (front ++ rest) ≡ Ok (v, rest)
  pair_whole n v front rest h k miss =
      let p = Spells-parted (m1 v.0) (m2 v.1) front h in
      let e1 = p1.whole n v.0 p.front (p.behind ++ rest) p.first k.0 (parts n v.0 v.1 p.behind rest k.1 p.second miss) in
      let e2 = p2.whole n v.1 p.behind rest p.second k.1 miss in
      let whole : front ++ rest ≡ p.front ++ (p.behind ++ rest) = ap (λ (t : List PlacedWord). t ++ rest) p.parts ∙ append_assoc p.front p.behind rest in
      ap (pair_at r1 r2 n) whole ∙ pair_step n (p.front ++ (p.behind ++ rest)) v.0 (p.behind ++ rest) e1 ∙ rw e2 refl

  pair_first : (n : ℕ) (used : List PlacedWord) → Completed m1 ok1 n used → Completed (pair_tree_words m1 m2) (pair_ok ok1 ok2) n used
  pair_first n used c = completed m1 ok1 (pair_tree_words m1 m2) (pair_ok ok1 ok2) (λ a. (a, p2.some)) n [] used (m2 p2.some)
      (λ a h. (h, p2.some_shaped n)) (λ a words_ahead h. Spells-append (m1 a) (m2 p2.some) words_ahead (all_placed_as (m2 p2.some)) h (placed_spell (m2 p2.some))) p2.some_words c

  pair_second : (n : ℕ) (a : A) (front used : List PlacedWord) → Spells (m1 a) front → ok1 n a → Completed m2 ok2 n used → Completed (pair_tree_words m1 m2) (pair_ok ok1 ok2) n (front ++ used)
  pair_second n a front used h k c = completed m2 ok2 (pair_tree_words m1 m2) (pair_ok ok1 ok2) (λ b. (a, b)) n front used []
      (λ b g. (k, g)) (λ b words_ahead g. Spells-append (m1 a) (m2 b) front (words_ahead ++ []) h (rw (append-nil words_ahead) g)) tt c

  pair_fails_first : (n : ℕ) (words_ahead : List PlacedWord) (s : Stop) → r1 n words_ahead ≡ Err s → Fails (pair_at r1 r2) (pair_tree_words m1 m2) (pair_ok ok1 ok2) n words_ahead s
  pair_fails_first n words_ahead s e =
      let f = p1.fails n words_ahead s e in
      record {
        used = f.used;
        split = f.split;
        ended = f.ended;
        begun = pair_first n f.used f.begun;
        bad = λ x more l m reach other. bind_same (r1 m (f.used ++ (x ∷ other))) (λ x. r2 m x.1 >>= λ y. Ok ((x.0, y.0), y.1)) (stop s.why (x ∷ other)) (f.bad x more l m reach other);
        deeper = λ x more l w. pair_first (suc n) (f.used ++ (x ∷ [])) (f.deeper x more l w);
      }

  pair_fails_second : (n : ℕ) (words_ahead : List PlacedWord) (s : Stop) (a : A) (rest : List PlacedWord) → r1 n words_ahead ≡ Ok (a, rest) → r2 n rest ≡ Err s → Fails (pair_at r1 r2) (pair_tree_words m1 m2) (pair_ok ok1 ok2) n words_ahead s
  pair_fails_second n words_ahead s a rest e1 e2 =
      let s1 = p1.sound n words_ahead a rest e1 in
      let f = p2.fails n rest s e2 in
      record {
        used = s1.front ++ f.used;
        split = s1.split ∙ ap (λ (t : List PlacedWord). s1.front ++ t) f.split ∙ sym (append_assoc s1.front f.used s.left);
        ended = f.ended;
        begun = pair_second n a s1.front f.used s1.spelled s1.shaped f.begun;
        bad = λ x more l m reach other.
            let misses : Misses (on1 a) (f.used ++ (x ∷ more)) = subst (Misses (on1 a)) (f.split ∙ ap (λ (t : List PlacedWord). f.used ++ t) l) s1.ends in
            let again = p1.whole m a s1.front (f.used ++ (x ∷ other)) s1.spelled (p1.wider n m a (Reaches-le s.why n m reach) s1.shaped) (Misses-same (on1 a) f.used x more other misses) in
            ap (pair_at r1 r2 m) (append_assoc s1.front f.used (x ∷ other)) ∙ pair_step m (s1.front ++ (f.used ++ (x ∷ other))) a (f.used ++ (x ∷ other)) again
            ∙ bind_same (r2 m (f.used ++ (x ∷ other))) (λ y. Ok ((a, y.0), y.1)) (stop s.why (x ∷ other)) (f.bad x more l m reach other);
        deeper = λ x more l w. subst (Completed (pair_tree_words m1 m2) (pair_ok ok1 ok2) (suc n)) (sym (append_assoc s1.front f.used (x ∷ [])))
            (pair_second (suc n) a s1.front (f.used ++ (x ∷ [])) s1.spelled (p1.wider n (suc n) a (omega arith) s1.shaped) (f.deeper x more l w));
      }

  pair_fails : (n : ℕ) (words_ahead : List PlacedWord) (s : Stop) → pair_at r1 r2 n words_ahead ≡ Err s → Fails (pair_at r1 r2) (pair_tree_words m1 m2) (pair_ok ok1 ok2) n words_ahead s
  pair_fails n words_ahead s e = elim (bind_err (r1 n words_ahead) (λ x. r2 n x.1 >>= λ y. Ok ((x.0, y.0), y.1)) s e) [
    | inl e1 ↦ pair_fails_first n words_ahead s e1
    | inr b ↦ elim (bind_err (r2 n b.0.1) (λ y. Ok ((b.0.0, y.0), y.1)) s b.2) [
      | inl e2 ↦ pair_fails_second n words_ahead s b.0.0 b.0.1 b.1 e2
      | inr d ↦ absurd cc
    ]
  ]

  pub pair_reads : Reads (pair_at r1 r2) (pair_tree_words m1 m2) (pair_ok ok1 ok2) (pair_on on2)
  pair_reads = record {
    sound = pair_sound;
    whole = pair_whole;
    fails = pair_fails;
    wider = λ n m v le h. (p1.wider n m v.0 le h.0, p2.wider n m v.1 le h.1);
    some = (p1.some, p2.some);
    some_shaped = λ n. (p1.some_shaped n, p2.some_shaped n);
    some_words = AreTreeWords-append (m1 p1.some) (m2 p2.some) p1.some_words p2.some_words;
  }

-- ---- one word

-- no word goes on
abbrev pub closed : {A : Type 0} → A → Word → Bool
closed v = never

-- all are well formed
abbrev pub any : {A : Type 0} → ℕ → A → Type 0
any n v = Unit {0}

abbrev pub one : {A : Type 0} → (A → Word) → A → List TreeWord
one word a = Goes (word a) ∷ []

-- well formed whatever the limit
abbrev pub plainly : {A : Type 0} → (A → Type 0) → ℕ → A → Type 0
plainly ok n v = ok v

module _ {A : Type 0} (pick : Word → Option A) (word : A → Word) (ok : A → Type 0)
    (picked : (w : Word) (a : A) → pick w ≡ Some a → (w ≡ word a) × ok a)
    (again : (a : A) → ok a → pick (word a) ≡ Some a)
    (a0 : A) (shaped0 : ok a0) (good : IsWord (word a0)) where
  leaf_sound : (n : ℕ) (words_ahead : List PlacedWord) (v : A) (rest : List PlacedWord) → leaf_at pick words_ahead ≡ Ok (v, rest) → Reads_ (one word) (plainly ok) closed n words_ahead v rest
  unfolding leaf_at
  leaf_sound n [] v rest e = absurd cc
  leaf_sound n (placed ∷ words_ahead) v rest e = go (pick placed.word) refl e
    where
      go : (o : Option A) → pick placed.word ≡ o → some_read o (placed ∷ words_ahead) ≡ Ok (v, rest) → Reads_ (one word) (plainly ok) closed n (placed ∷ words_ahead) v rest
      go None p e = absurd cc
      go (Some a) p e =
          let made : Reads_ (one word) (plainly ok) closed n (placed ∷ words_ahead) a words_ahead = record { front = placed ∷ []; split = refl; spelled = ((picked placed.word a p).0, tt); shaped = (picked placed.word a p).1; ends = Misses-never words_ahead } in
          subst (λ (p : A × List PlacedWord). Reads_ (one word) (plainly ok) closed n (placed ∷ words_ahead) p.0 p.1) (ok_is (a, words_ahead) (v, rest) e) made

  leaf_whole : (n : ℕ) (v : A) (front rest : List PlacedWord) → Spells (one word v) front → ok v → Misses never rest → leaf_at pick (front ++ rest) ≡ Ok (v, rest)
  unfolding leaf_at
  leaf_whole n v [] rest h k m = absurd h
  leaf_whole n v (placed ∷ []) rest h k m = rw (h.0, again v k) refl
  leaf_whole n v (placed ∷ x ∷ front) rest h k m = absurd h.1

  leaf_begun : (n : ℕ) → Completed (one word) (plainly ok) n []
  leaf_begun n = record { whole = a0; tail = all_placed_as (one word a0); shaped = shaped0; spelled = placed_spell (one word a0); words = placed_are_words (one word a0) (good, tt) }

  leaf_fails : (n : ℕ) (words_ahead : List PlacedWord) (s : Stop) → leaf_at pick words_ahead ≡ Err s → Fails (λ n. leaf_at pick) (one word) (plainly ok) n words_ahead s
  unfolding leaf_at
  leaf_fails n [] s e = subst (Fails (λ n. leaf_at pick) (one word) (plainly ok) n []) (err_is {A = A} (stop Unexpected []) s e) (record {
    used = [];
    split = refl;
    ended = λ l. refl;
    begun = leaf_begun n;
    bad = λ x more l m reach other. absurd cc;
    deeper = λ x more l w. absurd cc;
  })
  leaf_fails n (placed ∷ words_ahead) s e = go (pick placed.word) refl e
    where
      go : (o : Option A) → pick placed.word ≡ o → some_read o (placed ∷ words_ahead) ≡ Err s → Fails (λ n. leaf_at pick) (one word) (plainly ok) n (placed ∷ words_ahead) s
      go None p e = subst (Fails (λ n. leaf_at pick) (one word) (plainly ok) n (placed ∷ words_ahead)) (err_is {A = A} (stop Unexpected (placed ∷ words_ahead)) s e) (record {
        used = [];
        split = refl;
        ended = λ l. refl;
        begun = leaf_begun n;
        bad = λ x more l m reach other. let same : placed ≡ x = cc in subst (λ (y : PlacedWord). leaf_at pick (y ∷ other) ≡ Err (stop Unexpected (y ∷ other))) same (rw p refl);
        deeper = λ x more l w. absurd cc;
      })
      go (Some a) p e = absurd cc

  pub leaf_reads : Reads (λ n. leaf_at pick) (one word) (plainly ok) closed
  leaf_reads = record {
    sound = leaf_sound;
    whole = leaf_whole;
    fails = leaf_fails;
    wider = λ n m v le h. h;
    some = a0;
    some_shaped = λ n. shaped0;
    some_words = (good, tt);
  }

-- ---- what goes on with the first doesn't begin the second

pub apart_closed : {A B : Type 0} (m2 : B → List TreeWord) (ok2 : ℕ → B → Type 0) (on2 : B → Word → Bool) (n : ℕ) (a : A) (b : B) (g rest : List PlacedWord) → ok2 n b → Spells (m2 b) g → Misses (on2 b) rest → Misses (closed a) (g ++ rest)
apart_closed m2 ok2 on2 n a b g rest k h miss = Misses-never (g ++ rest)

pub apart_first : {A B : Type 0} (on1 : A → Word → Bool) (m2 : B → List TreeWord) (ok2 : ℕ → B → Type 0) (on2 : B → Word → Bool) (first : (n : ℕ) (a : A) (b : B) → ok2 n b → StartsAs (on1 a) false (m2 b))
    (n : ℕ) (a : A) (b : B) (g rest : List PlacedWord) → ok2 n b → Spells (m2 b) g → Misses (on2 b) rest → Misses (on1 a) (g ++ rest)
apart_first on1 m2 ok2 on2 first n a b g rest k h miss = Misses-first (on1 a) (g ++ rest) (is_first-spelled (on1 a) false (m2 b) g rest h (first n a b k))
