-- Where no wish is left, no pair that was wished leaves.
use Rattle.std.proofs.Common.{◌≡◌, ℕ, zero, suc, Bool, true, false, cond, Option, Some, None, List, [], ◌∷◌, ◌++◌, length, refl, sym, ap, subst, ◌∙◌, inl, inr, ⊎_elim}
use Rattle.std.specs.Prelude.{not, slice_get}
use Rattle.std.proofs.lemmas.Bool.{and_parts, cond_both, cases_eq}
use Rattle.pn_types.specs.declared.plan.Plan.{Plan}
use Rattle.machine.specs.Cores.{In}
use Rattle.machine.proofs.Lists.{find_gives}
use Rattle.mdl_check.specs.declared.checked.CheckedWish.{CheckedWish}
use Rattle.instrument.specs.Books.{freed_point}
use Rattle.instrument.specs.Handing.{is_barred}
use Rattle.instrument.specs.Numbers.{Admit, Call, Drop, Freed, IsNoDrop, IsNumbered, Next, NextFree, PutBack, called}
use Rattle.instrument.specs.Placements.{Placements, after_first, free_behind, free_front, freed, front, is_leaving, put_back, state_of}
use Rattle.instrument.specs.Scenes.{Admits, Arms, Hands, InstrumentScene, Sweeps, frees, hands, hands_by, sweeps}
use Rattle.instrument.specs.declared.entry.Entry.{Entry}
use Rattle.instrument.proofs.Numbers as numbers
use Rattle.instrumented.specs.Instrumented.{Instrumented, after_act, repeated, scene_of}
use Rattle.w3_search.specs.Nodes.{is_same_number}
use Rattle.w3_search.specs.Steps.{search_step}
use Rattle.w3_search.specs.declared.node.NodeSample.{NodeSample}
use Rattle.session_spec.specs.declared.data.MetricFocusPair.{MetricFocusPair}
use Rattle.session_spec.specs.Inputs.{Inputs}
use Rattle.session_spec.specs.States.{SessionState}
use Rattle.session_spec.specs.Admission.{with_admission, with_wishes}
use Rattle.session_spec.specs.Turns.{handed_at_once, with_entries}
use Rattle.session_spec.specs.Due.{arm_all, is_ready, machine_armed, with_frees, with_next}
use Rattle.session_spec.specs.Opening.{with_agenda}
use Rattle.session_spec.specs.Tests.{tests_next, with_tests}
use Rattle.session_spec.specs.Verdicts.{tester_of, tests, with_search_end, with_verdicts, without_tester, without_tests}
use Rattle.session_spec.specs.Rosters.{AreNumbered}
use Rattle.session_spec.proofs.Acting.{admitted_placer, dropped_placer}
use Rattle.session_spec.proofs.Arming.{ready_arms, ready_placing}
use Rattle.session_spec.proofs.Grown.{get_push}
use Rattle.session_spec.proofs.Leaving.{same_number}
use Rattle.session_spec.proofs.Seen.{AreApart, NotBy, tags}
use Rattle.fold_hist.specs.declared.bin.Bin.{Bin}
use Rattle.session_spec.specs.Searches.{rules_of}
use Rattle.session_spec.proofs.AdmittingSteps.{KeepsNode, tests_kept}
use Rattle.session_spec.proofs.Keeping.{IsTelling, tell_agenda, tell_end, tell_entries, tell_frees, tell_keeps, tell_next, tell_search}
use Rattle.session_spec.proofs.Testers.{not_by_at}

-- ---- an instrument that isn't dropped doesn't leave

abbrev Holds : ℕ → Placements → Placements → Type 0
Holds n p q = IsNumbered q × (is_leaving (state_of p n) ≡ false → is_leaving (state_of q n) ≡ false)

holds_none : (n : ℕ) (p : Placements) → IsNumbered p → Holds n p p
holds_none n p k = (k, λ l. l)

holds_on : (n : ℕ) (p q r : Placements) → Holds n p q → (IsNumbered q → Holds n q r) → Holds n p r
holds_on n p q r a b = let c = b a.0 in (c.0, λ l. c.1 (a.1 l))

holds_call : (n : ℕ) (k : Call) (p : Placements) → IsNoDrop n k → IsNumbered p → Holds n p (called k p)
holds_call n k p o c = ((numbers.states_stay).numbered k p c, λ l. (numbers.states_stay).held k p n c l o)

module _ (n : ℕ) (s : InstrumentScene) (k : IsNumbered s.placer) where
  holds_frees : (b : Bool) (point : ℕ) (q : Placements) → Holds n s.placer q → Holds n s.placer (frees b point q s).scene.placer
  holds_frees false point q a = holds_on n s.placer q (freed point q) a (holds_call n (Freed point) q tt)
  holds_frees true point q a = holds_on n s.placer q (put_back point q) a (holds_call n (PutBack point) q tt)

  holds_by : (o : Option ℕ) (e : Entry) → Holds n s.placer (hands_by o e s).scene.placer
  holds_by None e = holds_call n Next s.placer tt k
  holds_by (Some point) e = holds_frees (is_barred s.core point) point (after_first s.placer) (holds_call n Next s.placer tt k)

  holds_hands : (o : Option Entry) → Holds n s.placer (hands o s).scene.placer
  holds_hands None = holds_none n s.placer k
  holds_hands (Some e) = holds_by (freed_point e) e

  holds_sweeps : (o : Option ℕ) → Holds n s.placer (sweeps o (free_behind s.placer) s).scene.placer
  holds_sweeps None = holds_call n NextFree s.placer tt k
  holds_sweeps (Some point) = holds_frees false point (free_behind s.placer) (holds_call n NextFree s.placer tt k)

done_hands : (n : ℕ) (m : Instrumented) → IsNumbered m.placer → Holds n m.placer (after_act Hands m).placer
unfolding after_act
done_hands n m k = holds_hands n (scene_of m) k (front m.placer)

done_sweeps : (n : ℕ) (m : Instrumented) → IsNumbered m.placer → Holds n m.placer (after_act Sweeps m).placer
unfolding after_act
done_sweeps n m k = holds_sweeps n (scene_of m) k (free_front m.placer)

repeated_hands : (n c : ℕ) (m : Instrumented) → IsNumbered m.placer → Holds n m.placer (repeated c Hands m).placer
repeated_hands n zero m k = holds_none n m.placer k
repeated_hands n (suc c) m k = holds_on n m.placer (after_act Hands m).placer (repeated c Hands (after_act Hands m)).placer (done_hands n m k) (repeated_hands n c (after_act Hands m))

repeated_sweeps : (n c : ℕ) (m : Instrumented) → IsNumbered m.placer → Holds n m.placer (repeated c Sweeps m).placer
repeated_sweeps n zero m k = holds_none n m.placer k
repeated_sweeps n (suc c) m k = holds_on n m.placer (after_act Sweeps m).placer (repeated c Sweeps (after_act Sweeps m)).placer (done_sweeps n m k) (repeated_sweeps n c (after_act Sweeps m))

-- one that isn't leaving doesn't where others are armed, or it is
armed_step : (n : ℕ) (m : Instrumented) (z : MetricFocusPair) → AreNumbered m.placer
    → AreNumbered (machine_armed m z).placer × (is_leaving (state_of m.placer n) ≡ false → is_leaving (state_of (machine_armed m z).placer n) ≡ false)
armed_step n m z r = by (is_ready m z) refl
  where
    by : (b : Bool) → is_ready m z ≡ b
        → AreNumbered (cond b (after_act (Arms z.instrument.n) m) m).placer × (is_leaving (state_of m.placer n) ≡ false → is_leaving (state_of (cond b (after_act (Arms z.instrument.n) m) m).placer n) ≡ false)
    by false e = (r, λ a. a)
    by true e =
        let g = ready_arms m z r e in
        let d = (after_act (Arms z.instrument.n) m).placer in (
          g.roster,
          λ a. ⊎_elim
              (λ (q : n ≡ z.instrument.n). ap (λ (k : ℕ). is_leaving (state_of d k)) q ∙ ap is_leaving (g.itself (ready_placing m z e)))
              (λ q. ap is_leaving (g.other n q) ∙ a) (cases_eq n z.instrument.n),
        )

pub armed_all : (n : ℕ) (xs : List MetricFocusPair) (m : Instrumented) → AreNumbered m.placer → is_leaving (state_of m.placer n) ≡ false → is_leaving (state_of (arm_all m xs).placer n) ≡ false
armed_all n [] m r a = a
armed_all n (z ∷ xs) m r a = let g = armed_step n m z r in armed_all n xs (machine_armed m z) g.0 (g.1 a)

-- ---- one number, one instrument

not_by_in : (n : ℕ) (xs : List MetricFocusPair) (s : MetricFocusPair) → NotBy n (tags xs) → In s xs → s.instrument.n ≡ n → ⊥
not_by_in n [] s o h e = h
not_by_in n (x ∷ xs) s o (inl h) e = o.0 (ap (λ (z : MetricFocusPair). z.instrument.n) (sym h) ∙ e)
not_by_in n (x ∷ xs) s o (inr h) e = not_by_in n xs s o.1 h e

same_by_number : (xs : List MetricFocusPair) (s : MetricFocusPair) (k : ℕ) (x : MetricFocusPair) → AreApart (tags xs) → In s xs → slice_get xs k ≡ Some x → s.instrument.n ≡ x.instrument.n → s ≡ x
same_by_number [] s k x a h e n = absurd h
same_by_number (y ∷ xs) s zero x a (inl h) e n = let z : y ≡ x = cc in h ∙ z
same_by_number (y ∷ xs) s zero x a (inr h) e n =
    let z : y ≡ x = cc in
    absurd (not_by_in y.instrument.n xs s a.0 h (n ∙ ap (λ (v : MetricFocusPair). v.instrument.n) (sym z)))
same_by_number (y ∷ xs) s (suc k) x a (inl h) e n = absurd (not_by_at y.instrument.n xs k x a.0 e (sym n ∙ ap (λ (v : MetricFocusPair). v.instrument.n) h))
same_by_number (y ∷ xs) s (suc k) x a (inr h) e n = same_by_number xs s k x a.1 h e n

none_is : (d : ℕ) (o : Option ℕ) → o ≡ Some d → o ≡ None → ⊥
none_is d o e f = let z : Some d ≡ None = sym e ∙ f in cc

-- ---- the pairs that were wished

-- none of them leaves, and Z holds of each
abbrev pub AreStaying : (MetricFocusPair → Type 0) → Placements → List MetricFocusPair → Type 0
AreStaying Z p xs = (n : ℕ) (x : MetricFocusPair) → slice_get xs n ≡ Some x → x.node ≡ None → (is_leaving (state_of p x.instrument.n) ≡ false) × Z x

module _ (i : Inputs) (Z : MetricFocusPair → Type 0) where
  -- and no wish is left
  pub record IsStaying (owns : List ℕ) (rs : List (List Bin)) (k : SessionState) : Type 0 where
    pub tell : IsTelling i owns rs k
    pub wishes : k.wishes ≡ []
    pub stay : AreStaying Z k.machine.placer k.shown

  pub stay_holds : (p q : Placements) (xs : List MetricFocusPair) → ((n : ℕ) → Holds n p q) → AreStaying Z p xs → AreStaying Z q xs
  stay_holds p q xs f h n x e o = let g = h n x e o in ((f x.instrument.n).1 g.0, g.1)

  pub stay_push : (p q : Placements) (xs : List MetricFocusPair) (y : MetricFocusPair) → ((n : ℕ) → Holds n p q) → (y.node ≡ None → (is_leaving (state_of q y.instrument.n) ≡ false) × Z y) → AreStaying Z p xs
      → AreStaying Z q (xs ++ y ∷ [])
  stay_push p q xs y f g h n x e o = ⊎_elim
      (λ z. stay_holds p q xs f h n x z o)
      (λ (z : y ≡ x). subst (λ (v : MetricFocusPair). (is_leaving (state_of q v.instrument.n) ≡ false) × Z v) z (g (ap (λ (v : MetricFocusPair). v.node) z ∙ o))) (get_push xs y n x e)

  pub admits_hold : (plan : Plan) (cost : Option ℕ) (m : Instrumented) → AreNumbered m.placer → (n : ℕ) → Holds n m.placer (after_act (Admits plan cost) m).placer
  admits_hold plan cost m r n = subst (Holds n m.placer) (sym (admitted_placer plan cost m)) (holds_call n (Admit plan cost) m.placer tt r.numbered)

  module _ (owns : List ℕ) (rs : List (List Bin)) where
    -- ---- the search takes nodes

    pub stay_nodes : KeepsNode i (IsStaying owns rs)
    stay_nodes = record {
      barred = λ k n node cause stands waits by s. record { tell = (tell_keeps i owns rs).barred k n node cause stands waits by s.tell; wishes = s.wishes; stay = s.stay };
      tested = λ k n node plan placer stands waits is room e s. record {
        tell = (tell_keeps i owns rs).tested k n node plan placer stands waits is room e s.tell;
        wishes = s.wishes;
        stay = stay_push k.machine.placer (after_act (Admits plan (Some (rules_of i).decl.cost)) k.machine).placer k.shown (tests_next i n node k)
            (admits_hold plan (Some (rules_of i).decl.cost) k.machine s.tell.roster) (λ o. absurd (none_is n (Some n) refl o)) s.stay;
      };
    }

    -- no wish is left to look at
    pub stay_admission : (k : SessionState) → IsStaying owns rs k → IsStaying owns rs (with_admission i k)
    unfolding with_admission
    stay_admission k s =
        let none : with_wishes i k.wishes k ≡ k = ap (λ (ws : List CheckedWish). with_wishes i ws k) s.wishes in
        let t = tests_kept i (IsStaying owns rs) stay_nodes k s in
        let w = subst (λ (j : SessionState). IsStaying owns rs (with_tests i j)) (sym none) t in
        let j = with_tests i (with_wishes i k.wishes k) in
        cond_both k.worked (record j { worked = false }) k (IsStaying owns rs)
        (λ _. record { tell = (tell_keeps i owns rs).beside j (record j { worked = false }) (record { machine = refl; shown = refl; search = refl; time = refl; last = refl; due = refl }) w.tell; wishes = w.wishes; stay = w.stay })
        (λ _. s)

    -- ---- a tester is dropped

    tester_holds : (d : ℕ) (k : SessionState) → IsTelling i owns rs k → (o : Option MetricFocusPair) → tester_of k.machine.placer d k.shown ≡ o → AreStaying Z k.machine.placer k.shown
        → AreStaying Z (without_tester o k).machine.placer k.shown
    tester_holds d k t None f h n x e o = h n x e o
    tester_holds d k t (Some s) f h n x e o =
        let p = k.machine.placer in
        let g = find_gives (tests p d) k.shown s f in
        let of = same_number s.node d (and_parts (is_same_number s.node (Some d)) (not (is_leaving (state_of p s.instrument.n))) g.1).0 in
        let other : s.instrument.n ≡ x.instrument.n → ⊥ = λ q. none_is d s.node of (ap (λ (z : MetricFocusPair). z.node) (same_by_number k.shown s n x t.apart g.0 e q) ∙ o) in
        let z = h n x e o in (
          ap (λ (q : Placements). is_leaving (state_of q x.instrument.n)) (dropped_placer s.instrument.n k.machine)
              ∙ (holds_call x.instrument.n (Drop s.instrument.n) p other t.roster.numbered).1 z.0,
          z.1,
        )

    tester_tells : (k : SessionState) (o : Option MetricFocusPair) → IsTelling i owns rs k → IsTelling i owns rs (without_tester o k)
    tester_tells k None t = t
    tester_tells k (Some s) t = (tell_keeps i owns rs).drops k s.instrument.n t

    tester_shown : (k : SessionState) (o : Option MetricFocusPair) → ((without_tester o k).shown ≡ k.shown) × ((without_tester o k).wishes ≡ k.wishes)
    tester_shown k None = (refl, refl)
    tester_shown k (Some s) = (refl, refl)

    stay_tests : (ds : List ℕ) (k : SessionState) → IsStaying owns rs k → IsStaying owns rs (without_tests ds k)
    stay_tests [] k s = s
    stay_tests (d ∷ ds) k s =
        let o = tester_of k.machine.placer d k.shown in
        let j = without_tester o k in
        stay_tests ds j (record {
          tell = tester_tells k o s.tell;
          wishes = (tester_shown k o).1 ∙ s.wishes;
          stay = subst (AreStaying Z j.machine.placer) (sym (tester_shown k o).0) (tester_holds d k s.tell o refl s.stay);
        })

    pub stay_verdicts : (samples : List NodeSample) (k : SessionState) → IsStaying owns rs k → IsStaying owns rs (with_verdicts samples k)
    unfolding with_verdicts
    stay_verdicts samples k s =
        let v = search_step k.time samples k.search in
        stay_tests v.drops (record k { search = v }) (record { tell = tell_search i owns rs k v s.tell; wishes = s.wishes; stay = s.stay })

    -- ---- the agenda

    pub stay_entries : (k : SessionState) → IsStaying owns rs k → IsStaying owns rs (with_entries k)
    unfolding with_entries
    stay_entries k s =
        record { tell = tell_entries i owns rs k s.tell; wishes = s.wishes; stay = stay_holds k.machine.placer (with_entries k).machine.placer k.shown (λ n. repeated_hands n handed_at_once k.machine s.tell.roster.numbered) s.stay }

    pub stay_agenda : (k : SessionState) → IsStaying owns rs k → IsStaying owns rs (with_agenda k)
    unfolding with_agenda
    stay_agenda k s =
        record { tell = tell_agenda i owns rs k s.tell; wishes = s.wishes; stay = stay_holds k.machine.placer (with_agenda k).machine.placer k.shown (λ n. repeated_hands n (length k.machine.placer.book.agenda) k.machine s.tell.roster.numbered) s.stay }

    pub stay_frees : (k : SessionState) → IsStaying owns rs k → IsStaying owns rs (with_frees k)
    unfolding with_frees
    stay_frees k s =
        record { tell = tell_frees i owns rs k s.tell; wishes = s.wishes; stay = stay_holds k.machine.placer (with_frees k).machine.placer k.shown (λ n. repeated_sweeps n (length k.machine.placer.book.agenda) k.machine s.tell.roster.numbered) s.stay }

    pub stay_next : (width : ℕ) (k : SessionState) → IsStaying owns rs k → IsStaying owns rs (with_next width k)
    unfolding with_next
    stay_next width k s = record { tell = tell_next i owns rs width k s.tell; wishes = s.wishes; stay = s.stay }

    pub stay_end : (k : SessionState) → IsStaying owns rs k → IsStaying owns rs (with_search_end k)
    unfolding with_search_end
    stay_end k s = record { tell = tell_end i owns rs k s.tell; wishes = s.wishes; stay = s.stay }
