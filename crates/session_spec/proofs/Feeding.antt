-- What is told of each sample is what is recorded.
use Rattle.std.proofs.Common.{◌≡◌, ℕ, ◌+◌, ◌-◌, ◌≤◌, ◌<◌, Bool, true, false, cond, Option, Some, None, List, [], ◌∷◌, ◌++◌, length, map, refl, sym, ap, ap₂, subst, ◌∙◌, arith, inl, inr, ⊎_elim}
use Rattle.std.specs.Prelude.{filter, is_none, nat_lt, replicate, ◌&&◌, ◌==◌}
use Rattle.std.proofs.lemmas.Bool.{cond_both, cond-false, eq-eqb, ne_eqb}
use Rattle.std.proofs.lemmas.List.{length_push}
use Rattle.fold_hist.specs.declared.bin.Bin.{Bin}
use Rattle.pn_types.specs.declared.quantum.Quantum.{Quantum}
use Rattle.machine.specs.Cores.{In}
use Rattle.instrument.specs.Placements.{Placements}
use Rattle.instrument.proofs.Folds.{filter_append, in_append, map_append}
use Rattle.session_spec.specs.declared.data.LatestSample.{LatestSample}
use Rattle.session_spec.specs.declared.data.MetricFocusPair.{MetricFocusPair}
use Rattle.session_spec.specs.Inputs.{Inputs}
use Rattle.session_spec.specs.States.{SessionState, State}
use Rattle.session_spec.specs.Admission.{shown_next, with_admission}
use Rattle.session_spec.specs.Due.{is_armed, latest_from, measured, place_behind, recorded_with, sample_of, sampled_to, with_arms, with_frees, with_next}
use Rattle.session_spec.specs.Due as due
use Rattle.session_spec.specs.Turns.{with_entries, with_hart, with_quiet}
use Rattle.session_spec.specs.Opening.{opening_state}
use Rattle.session_spec.specs.Tests.{tests_next}
use Rattle.session_spec.specs.Verdicts.{with_search_end, with_verdicts}
use Rattle.session_spec.specs.Work.{final_state, first_state, is_due, samples_now, state_admitted, state_done, state_ended, state_handed, state_last, state_quiet, state_sampled, state_turned, state_worked, after_quantum, tests_now, with_room, after_quanta, after_quanta_from}
use Rattle.session_spec.proofs.Likes.{AreLike, like_armed, like_sampled}
use Rattle.session_spec.specs.Feed.{AreFed, IsFeed, bin_told, places_behind, told_at}
use Rattle.session_spec.specs.Laws.{FeedTold}
use Rattle.session_spec.proofs.AdmittingSteps.{Keeps, admission_kept}
use Rattle.session_spec.proofs.Keeping.{Tells, tells_admitted, tells_first, tells_armed, tells_done, tells_handed, tells_last, tells_quiet, tells_sampled, tells_turned, verdicts_shown}

-- ---- what is told of a place

told_append : (n : ℕ) (f g : List LatestSample) → told_at n (f ++ g) ≡ told_at n f ++ told_at n g
told_append n f g = ap (map bin_told) (filter_append (λ (l : LatestSample). l.shown == n) f g) ∙ map_append bin_told (filter (λ (l : LatestSample). l.shown == n) f) (filter (λ (l : LatestSample). l.shown == n) g)

behind_more : (o : Option ℕ) (n : ℕ) → n ≤ place_behind o n
behind_more None n = omega arith
behind_more (Some d) n = omega arith

places_more : (n : ℕ) (xs : List MetricFocusPair) → n ≤ places_behind n xs
places_more n [] = omega arith
places_more n (x ∷ xs) = omega (arith, behind_more x.node n, places_more (place_behind x.node n) xs)

told_past : (n : ℕ) (feed : List LatestSample) → ((l : LatestSample) → In l feed → l.shown < n) → told_at n feed ≡ []
told_past n [] f = refl
told_past n (l ∷ feed) f =
    let less : l.shown < n = f l (inl refl) in
    let other : l.shown ≡ n → ⊥ = λ q. absurd (omega (arith, less, q)) in
    ap (map bin_told) (cond-false (l.shown == n) (l ∷ filter (λ (z : LatestSample). z.shown == n) feed) (filter (λ (z : LatestSample). z.shown == n) feed) (ne_eqb l.shown n other))
    ∙ told_past n feed (λ z h. f z (inr h))

module _ (i : Inputs) (p : Placements) (owns : List ℕ) (t : ℕ) where
  abbrev one : ℕ → MetricFocusPair → List LatestSample
  one n x = cond (is_none x.node && is_armed p x) (record { shown = n; from = x.from; to = t; sum = measured i owns x t } ∷ []) []

  abbrev all : ℕ → List MetricFocusPair → List LatestSample
  all n xs = latest_from n i p owns t xs

  -- of a place other than its own
  one_other : (k n : ℕ) (x : MetricFocusPair) → (n ≡ k → ⊥) → told_at k (one n x) ≡ []
  one_other k n x o = by (is_none x.node && is_armed p x)
    where
      by : (b : Bool) → told_at k (cond b (record { shown = n; from = x.from; to = t; sum = measured i owns x t } ∷ []) []) ≡ []
      by true = ap (λ (b : Bool). map bin_told (cond b (record { shown = n; from = x.from; to = t; sum = measured i owns x t } ∷ []) [])) (ne_eqb n k o)
      by false = refl

  one_own : (n : ℕ) (x : MetricFocusPair) → x.node ≡ None → told_at n (one n x) ≡ cond (is_armed p x) (sample_of i owns t x ∷ []) []
  one_own n x e = ap (λ (o : Option ℕ). told_at n (cond (is_none o && is_armed p x) (record { shown = n; from = x.from; to = t; sum = measured i owns x t } ∷ []) [])) e ∙ by (is_armed p x)
    where
      by : (b : Bool) → told_at n (cond b (record { shown = n; from = x.from; to = t; sum = measured i owns x t } ∷ []) []) ≡ cond b (sample_of i owns t x ∷ []) []
      by true = ap (λ (b : Bool). map bin_told (cond b (record { shown = n; from = x.from; to = t; sum = measured i owns x t } ∷ []) [])) (eq-eqb n n refl)
      by false = refl

  -- one that isn't wished tells nothing
  one_none : (k n d : ℕ) (x : MetricFocusPair) → x.node ≡ Some d → told_at k (one n x) ≡ []
  one_none k n d x e = ap (λ (o : Option ℕ). told_at k (cond (is_none o && is_armed p x) (record { shown = n; from = x.from; to = t; sum = measured i owns x t } ∷ []) [])) e

  all_early : (k n : ℕ) (xs : List MetricFocusPair) → k < n → told_at k (all n xs) ≡ []
  all_early k n [] l = refl
  all_early k n (x ∷ xs) l =
      let m = behind_more x.node n in
      told_append k (one n x) (all (place_behind x.node n) xs)
      ∙ ap₂ (λ (a b : List Bin). a ++ b) (one_other k n x (λ q. absurd (omega (arith, l, q)))) (all_early k (place_behind x.node n) xs (omega (arith, l, m)))

  same_node : (x : MetricFocusPair) → (sampled_to p t x).node ≡ x.node
  same_node x = by (is_armed p x)
    where
      by : (b : Bool) → (cond b (record x { from = t }) x).node ≡ x.node
      by true = refl
      by false = refl

  nil_right : (xs : List Bin) → xs ++ [] ≡ xs
  nil_right [] = refl
  nil_right (x ∷ xs) = ap (λ (l : List Bin). x ∷ l) (nil_right xs)

  pub fed_sampled : (n : ℕ) (f g : List LatestSample) (xs : List MetricFocusPair) (rs : List (List Bin)) → length rs ≡ length xs → ((k : ℕ) → n ≤ k → told_at k g ≡ told_at k (all n xs))
      → AreFed n f xs rs → AreFed n (f ++ g) (map (sampled_to p t) xs) (recorded_with i p owns t xs rs)
  fed_sampled n f g [] rs m e h = tt
  fed_sampled n f g (x ∷ xs) [] m e h = absurd (omega arith)
  fed_sampled n f g (x ∷ xs) (r ∷ rs) m e h =
      let next = place_behind x.node n in (
        (λ q.
            let wished : x.node ≡ None = sym (same_node x) ∙ q in
            let later : n < next = subst (λ (o : Option ℕ). n < place_behind o n) (sym wished) (omega arith) in
            let own : told_at n g ≡ cond (is_armed p x) (sample_of i owns t x ∷ []) [] =
            e n (omega arith) ∙ (told_append n (one n x) (all next xs)
            ∙ (ap₂ (λ (a b : List Bin). a ++ b) (one_own n x wished) (all_early n next xs later) ∙ nil_right (cond (is_armed p x) (sample_of i owns t x ∷ []) []))) in
            told_append n f g ∙ (ap₂ (λ (a b : List Bin). a ++ b) (h.0 wished) own ∙ by (is_armed p x))),
        subst (λ (o : Option ℕ). AreFed (place_behind o n) (f ++ g) (map (sampled_to p t) xs) (recorded_with i p owns t xs rs)) (sym (same_node x))
            (fed_sampled next f g xs rs (omega arith) (λ k l. e k (omega (arith, l, behind_more x.node n)) ∙ (told_append k (one n x) (all next xs)
            ∙ ap (λ (a : List Bin). a ++ told_at k (all next xs)) (nothing k l x.node refl))) h.1),
      )
    where
      by : (b : Bool) → r ++ cond b (sample_of i owns t x ∷ []) [] ≡ cond b (r ++ sample_of i owns t x ∷ []) r
      by true = refl
      by false = nil_right r

      nothing : (k : ℕ) → place_behind x.node n ≤ k → (o : Option ℕ) → x.node ≡ o → told_at k (one n x) ≡ []
      nothing k l None q =
          let z : n < k = let y : place_behind x.node n ≡ n + 1 = ap (λ (o : Option ℕ). place_behind o n) q in omega (arith, l, y) in
          one_other k n x (λ w. absurd (omega (arith, z, w)))
      nothing k l (Some d) q = one_none k n d x q

  -- ---- no other place is told

  one_below : (n : ℕ) (x : MetricFocusPair) (l : LatestSample) → In l (one n x) → l.shown < place_behind x.node n
  one_below n x l h = by x.node refl (is_armed p x) h
    where
      by : (o : Option ℕ) → x.node ≡ o → (b : Bool) → In l (cond (is_none o && b) (record { shown = n; from = x.from; to = t; sum = measured i owns x t } ∷ []) []) → l.shown < place_behind o n
      by None e true h = ⊎_elim (λ (q : l ≡ record { shown = n; from = x.from; to = t; sum = measured i owns x t }). let z : l.shown ≡ n = ap (λ (v : LatestSample). v.shown) q in omega (arith, z)) (λ q. absurd q) h
      by None e false h = absurd h
      by (Some d) e b h = absurd h

  pub all_below : (n : ℕ) (xs : List MetricFocusPair) (l : LatestSample) → In l (all n xs) → l.shown < places_behind n xs
  all_below n [] l h = absurd h
  all_below n (x ∷ xs) l h = ⊎_elim
      (λ q. let a = one_below n x l q in let b = places_more (place_behind x.node n) xs in omega (arith, a, b))
      (λ q. all_below (place_behind x.node n) xs l q) (in_append (one n x) (all (place_behind x.node n) xs) l h)

-- ---- instruments come, and stay alike

places_append : (n : ℕ) (xs ys : List MetricFocusPair) → places_behind n (xs ++ ys) ≡ places_behind (places_behind n xs) ys
places_append n [] ys = refl
places_append n (x ∷ xs) ys = places_append (place_behind x.node n) xs ys

fed_push : (n : ℕ) (f : List LatestSample) (xs : List MetricFocusPair) (rs : List (List Bin)) (y : MetricFocusPair) → length rs ≤ length xs → told_at (places_behind n xs) f ≡ [] → AreFed n f xs rs → AreFed n f (xs ++ y ∷ []) rs
fed_push n f [] [] y l e h = ((λ _. e), tt)
fed_push n f [] (r ∷ rs) y l e h = absurd (omega arith)
fed_push n f (x ∷ xs) [] y l e h = (h.0, fed_push (place_behind x.node n) f xs [] y (omega arith) e h.1)
fed_push n f (x ∷ xs) (r ∷ rs) y l e h = (h.0, fed_push (place_behind x.node n) f xs rs y (omega arith) e h.1)

fed_blank : (n : ℕ) (f : List LatestSample) (xs : List MetricFocusPair) → AreFed n f xs [] → AreFed n f xs (replicate (length xs) [])
fed_blank n f [] h = tt
fed_blank n f (x ∷ xs) h = (h.0, fed_blank (place_behind x.node n) f xs h.1)

fed_room : (n : ℕ) (f : List LatestSample) (xs : List MetricFocusPair) (rs : List (List Bin)) → AreFed n f xs rs → AreFed n f xs (with_room xs rs)
fed_room n f [] rs h = tt
fed_room n f (x ∷ xs) [] h =
    let z : length (x ∷ xs) - 0 ≡ length (x ∷ xs) = omega arith in
    subst (λ (k : ℕ). AreFed n f (x ∷ xs) (replicate k [])) (sym z) (fed_blank n f (x ∷ xs) h)
fed_room n f (x ∷ xs) (r ∷ rs) h =
    let z : length (x ∷ xs) - length (r ∷ rs) ≡ length xs - length rs = omega arith in
    subst (λ (k : ℕ). AreFed n f (x ∷ xs) ((r ∷ rs) ++ replicate k [])) (sym z) (h.0, fed_room (place_behind x.node n) f xs rs h.1)

fed_like : (n : ℕ) (f : List LatestSample) (xs ys : List MetricFocusPair) (rs : List (List Bin)) → AreLike xs ys → AreFed n f xs rs → AreFed n f ys rs
fed_like n f [] [] rs a h = tt
fed_like n f [] (y ∷ ys) rs a h = absurd a
fed_like n f (x ∷ xs) [] rs a h = absurd a
fed_like n f (x ∷ xs) (y ∷ ys) [] a h =
    let e : y.node ≡ x.node = ap (λ (z : MetricFocusPair). z.node) a.0 in
    ((λ q. h.0 (sym e ∙ q)), subst (λ (o : Option ℕ). AreFed (place_behind o n) f ys []) (sym e) (fed_like (place_behind x.node n) f xs ys [] a.1 h.1))
fed_like n f (x ∷ xs) (y ∷ ys) (r ∷ rs) a h =
    let e : y.node ≡ x.node = ap (λ (z : MetricFocusPair). z.node) a.0 in
    ((λ q. h.0 (sym e ∙ q)), subst (λ (o : Option ℕ). AreFed (place_behind o n) f ys rs) (sym e) (fed_like (place_behind x.node n) f xs ys rs a.1 h.1))

places_like : (n : ℕ) (xs ys : List MetricFocusPair) → AreLike xs ys → places_behind n ys ≡ places_behind n xs
places_like n [] [] a = refl
places_like n [] (y ∷ ys) a = absurd a
places_like n (x ∷ xs) [] a = absurd a
places_like n (x ∷ xs) (y ∷ ys) a =
    ap (λ (o : Option ℕ). places_behind (place_behind o n) ys) (ap (λ (z : MetricFocusPair). z.node) a.0) ∙ places_like (place_behind x.node n) xs ys a.1

-- ---- through an admission

-- what holds of pairs that were told this, and for which that was recorded
record AreTelling (f : List LatestSample) (rs : List (List Bin)) (xs : List MetricFocusPair) : Type 0 where
  fed : AreFed 0 f xs rs
  below : (l : LatestSample) → In l f → l.shown < places_behind 0 xs
  few : length rs ≤ length xs

telling_push : (f : List LatestSample) (rs : List (List Bin)) (xs : List MetricFocusPair) (y : MetricFocusPair) → AreTelling f rs xs → AreTelling f rs (xs ++ y ∷ [])
telling_push f rs xs y s = record {
  fed = fed_push 0 f xs rs y s.few (told_past (places_behind 0 xs) f s.below) s.fed;
  below = λ l h. let a = s.below l h in let b = places_append 0 xs (y ∷ []) in let c = behind_more y.node (places_behind 0 xs) in omega (arith, a, b, c);
  few = let a = s.few in omega (arith, length_push xs y);
}

telling_like : (f : List LatestSample) (rs : List (List Bin)) (xs ys : List MetricFocusPair) → AreLike xs ys → length ys ≡ length xs → AreTelling f rs xs → AreTelling f rs ys
telling_like f rs xs ys a e s = record {
  fed = fed_like 0 f xs ys rs a s.fed;
  below = λ l h. let b = s.below l h in omega (arith, b, places_like 0 xs ys a);
  few = let b = s.few in omega (arith, e);
}

module _ (i : Inputs) where
  module _ (f : List LatestSample) (rs : List (List Bin)) where
    telling_keeps : Keeps i (λ (k : SessionState). AreTelling f rs k.shown)
    telling_keeps = record {
      beside = λ k j b s. subst (AreTelling f rs) (sym b.shown) s;
      drops = λ k n s. s;
      wished = λ k plan w placer is e s. telling_push f rs k.shown (shown_next w k) s;
      barred = λ k n node cause stands waits by s. s;
      tested = λ k n node plan placer stands waits is room e s. telling_push f rs k.shown (tests_next i n node k) s;
    }

  -- ---- a quantum

  record Feeds (s : State) : Type 0 where
    tells : Tells i s
    feed : AreTelling s.feed s.recorded s.kept.shown

  feeds_admitted : (s : State) → Feeds s → Feeds (state_admitted i s)
  feeds_admitted s z =
      let k = with_admission i s.kept in
      let a = admission_kept i (λ (k : SessionState). AreTelling s.feed s.recorded k.shown) (telling_keeps s.feed s.recorded) s.kept z.feed in
      let t = tells_admitted i s z.tells in
      record { tells = t; feed = record { fed = fed_room 0 s.feed k.shown s.recorded a.fed; below = a.below; few = let m = t.many in omega arith } }

  begun_shown : (h n : ℕ) (s : State) → (state_handed (state_turned h n s)).kept.shown ≡ s.kept.shown
  unfolding with_hart with_entries
  begun_shown h n s = refl

  quiet_shown : (s : State) → (state_quiet s).kept.shown ≡ s.kept.shown
  unfolding with_quiet
  quiet_shown s = refl

  next_shown : (width : ℕ) (k : SessionState) → (with_next width k).shown ≡ k.shown
  unfolding with_next
  next_shown width k = refl

  end_shown : (k : SessionState) → (with_search_end k).shown ≡ k.shown
  unfolding with_search_end
  end_shown k = refl

  feeds_begun : (h n : ℕ) (s : State) → Feeds s → Feeds (state_handed (state_turned h n s))
  feeds_begun h n s z = record {
    tells = tells_handed i (state_turned h n s) (tells_turned i h n s z.tells);
    feed = subst (AreTelling s.feed s.recorded) (sym (begun_shown h n s)) z.feed;
  }

  feeds_quiet : (s : State) → Feeds s → Feeds (state_quiet s)
  feeds_quiet s z = record { tells = tells_quiet i s z.tells; feed = subst (AreTelling s.feed s.recorded) (sym (quiet_shown s)) z.feed }

  telling_sampled : (s : State) → Feeds s → AreTelling (state_sampled i s).feed (state_sampled i s).recorded (state_sampled i s).kept.shown
  unfolding due.with_samples
  telling_sampled s z =
      let k = s.kept in
      let p = k.machine.placer in
      let xs = map (sampled_to p k.time) k.shown in
      let same = places_like 0 k.shown xs (like_sampled p k.time k.shown) in
      let many = (tells_sampled i s z.tells).many in
      record {
        fed = fed_sampled i p s.owns k.time 0 s.feed (samples_now i s) k.shown s.recorded z.tells.many (λ k l. refl) z.feed.fed;
        below = λ l h. ⊎_elim
            (λ q. let a = z.feed.below l q in omega (arith, a, same))
            (λ q. let a = all_below i p s.owns k.time 0 k.shown l q in omega (arith, a, same)) (in_append s.feed (samples_now i s) l h);
        few = omega (arith, many);
      }

  arms_like : (k : SessionState) → AreLike k.shown (with_arms (with_frees k)).shown
  unfolding with_arms with_frees
  arms_like k = like_armed k.time (with_frees k).machine k.shown

  feeds_done : (s : State) → Feeds s → Feeds (state_done i s)
  feeds_done s z =
      let q = state_sampled i s in
      let a = with_arms (with_frees q.kept) in
      let v = with_verdicts (tests_now i s) a in
      let sampled = tells_sampled i s z.tells in
      let armed = tells_armed i q sampled in
      let len : length a.shown ≡ length q.kept.shown = sym armed.many ∙ sampled.many in
      record {
        tells = tells_done i s z.tells;
        feed = subst (AreTelling q.feed q.recorded) (sym (next_shown i.settings.width v ∙ verdicts_shown i (tests_now i s) a))
            (telling_like q.feed q.recorded q.kept.shown a.shown (arms_like q.kept) len (telling_sampled s z));
      }

  feeds_last : (s : State) → Feeds s → Feeds (state_last i s)
  feeds_last s z =
      let q = state_sampled i s in
      record { tells = tells_last i s z.tells; feed = subst (AreTelling q.feed q.recorded) (sym (verdicts_shown i (tests_now i s) q.kept)) (telling_sampled s z) }

  feeds_worked : (s : State) → Feeds s → Feeds (state_worked i s)
  feeds_worked s z = cond_both (is_due s.kept) (state_done i (state_quiet s)) s Feeds (λ _. feeds_done (state_quiet s) (feeds_quiet s z)) (λ _. z)

  feeds_tend : (h n : ℕ) (s : State) → Feeds s → Feeds (after_quantum i h n s)
  unfolding after_quantum
  feeds_tend h n s z =
      let a = state_admitted i s in
      feeds_worked (state_handed (state_turned h n a)) (feeds_begun h n a (feeds_admitted s z))

  none_fed : (n : ℕ) (xs : List MetricFocusPair) → AreFed n [] xs (map (λ (s : MetricFocusPair). []) xs)
  none_fed n [] = tt
  none_fed n (x ∷ xs) = ((λ _. refl), none_fed (place_behind x.node n) xs)

  feeds_first : Feeds (first_state i)
  feeds_first =
      let t = tells_first i in
      record { tells = t; feed = record { fed = none_fed 0 (opening_state i).shown; below = λ l h. absurd h; few = let m = t.many in omega (arith, m) } }

  feeds_from : (quanta : List Quantum) (s : State) → Feeds s → Feeds (after_quanta_from i quanta s)
  feeds_from [] s z = z
  feeds_from (q ∷ quanta) s z = feeds_from quanta (after_quantum i q.hart q.turns s) (feeds_tend q.hart q.turns s z)

  feeds_work : (quanta : List Quantum) → Feeds (after_quanta i quanta)
  unfolding after_quanta
  feeds_work quanta = feeds_from quanta (first_state i) feeds_first

  ended_feed : (s : State) → Feeds s → IsFeed (state_ended s)
  ended_feed s z =
      let t = subst (AreTelling s.feed s.recorded) (sym (end_shown s.kept)) z.feed in
      record { fed = t.fed; below = t.below }

  closed_feed : (s : State) → Feeds s → IsFeed (final_state i s)
  unfolding final_state
  closed_feed s z =
      let q = state_quiet s in
      let quiet = feeds_quiet s z in
      cond_both (nat_lt q.kept.last q.kept.time) (state_last i q) q (λ (x : State). IsFeed (state_ended x)) (λ _. ended_feed (state_last i q) (feeds_last q quiet)) (λ _. ended_feed q quiet)

pub feed_told : FeedTold
feed_told = record {
  works = λ i quanta. let z = feeds_work i quanta in record { fed = z.feed.fed; below = z.feed.below };
  closes = λ i quanta. closed_feed i (after_quanta i quanta) (feeds_work i quanta);
}
