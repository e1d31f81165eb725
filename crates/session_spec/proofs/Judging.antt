-- The samples of a due work, and what the search makes of them, keep what holds of the nodes and their tests.
use Rattle.std.proofs.Common.{◌≡◌, ℕ, ◌^◌, ◌<◌, ◌≤◌, true, false, Option, Some, List, [], ◌∷◌, length, map, refl, sym, ap, subst, ◌∙◌, arith, inl, inr, ⊎_elim}
use Rattle.std.specs.Prelude.{drop, not, slice_get}
use Rattle.std.specs.Option.{option_map_or}
use Rattle.machine.specs.Cores.{In}
use Rattle.machine.proofs.Lists.{filter_in}
use Rattle.instrument.specs.Placements.{Placements, is_leaving, state_of}
use Rattle.instrument.specs.Scenes.{Sweeps}
use Rattle.instrumented.specs.Instrumented.{repeated}
use Rattle.w3_search.specs.declared.node.Node.{Node}
use Rattle.w3_search.specs.declared.node.NodeSample.{NodeSample}
use Rattle.w3_search.specs.Nodes.{active_of, is_active, is_active_at}
use Rattle.w3_search.specs.Steps.{Rules, SearchData, ended_tests, search_step, with_all_families, with_all_samples, with_samples}
use Rattle.session_spec.specs.declared.data.MetricFocusPair.{MetricFocusPair}
use Rattle.session_spec.specs.Inputs.{Inputs}
use Rattle.session_spec.specs.Searches.{rules_of}
use Rattle.session_spec.specs.States.{SessionState}
use Rattle.session_spec.specs.Due.{all_armed, arm_all, sampled_to, with_arms, with_frees}
use Rattle.session_spec.specs.Due as due
use Rattle.session_spec.specs.Verdicts.{node_samples, with_verdicts, without_tests}
use Rattle.session_spec.specs.Rosters.{AreBelow, AreNumbered}
use Rattle.session_spec.proofs.Acting.{repeated_since}
use Rattle.session_spec.proofs.Likes.{AreLike, below_like, below_more, like_armed, like_on, like_sampled}
use Rattle.session_spec.proofs.Grown.{Each, Steps, number_in, steps_families, steps_on, steps_phases}
use Rattle.session_spec.proofs.Running.{IsEnded}
use Rattle.session_spec.proofs.Sampling.{Ran, run}
use Rattle.session_spec.proofs.Seen.{AreAlone, AreApart, AreTaken, AreTests, IsNode, IsSeen, IsTaken, IsTest, Tag, no_node, tags}
use Rattle.session_spec.proofs.Tagged.{tags_like, taken_grown}
use Rattle.session_spec.proofs.Carrying.{all_arm, tests_grown, tests_since}
use Rattle.session_spec.proofs.Leaving.{all_dropped, tests_alone}
use Rattle.session_spec.proofs.Ends.{new_is, unfinished_is}

-- ---- what is sampled, and maybe freed and armed since

pub record IsReady (i : Inputs) (owns : List ℕ) (k a : SessionState) : Type 0 where
  pub search : a.search ≡ k.search
  pub time : a.time ≡ k.time
  pub roster : AreNumbered a.machine.placer
  pub below : AreBelow a.machine.placer.count a.shown
  pub like : AreLike k.shown a.shown
  pub tests : (ns : List Node) (ds : List ℕ) → AreTests i owns k.machine.placer ns (λ n. In n ds) (map (sampled_to k.machine.placer k.time) k.shown)
      → AreTests i owns a.machine.placer ns (λ n. In n ds) a.shown

module _ (i : Inputs) (owns : List ℕ) (k : SessionState) (s : IsSeen i owns k) where
  pub ready_samples : IsReady i owns k (due.with_samples k)
  unfolding due.with_samples
  ready_samples =
      let like = like_sampled k.machine.placer k.time k.shown in
      record {
        search = refl;
        time = refl;
        roster = s.roster;
        below = below_like k.machine.placer.count k.shown (map (sampled_to k.machine.placer k.time) k.shown) like s.below;
        like = like;
        tests = λ ns ds h. h;
      }

  pub ready_arms : IsReady i owns k (with_arms (with_frees (due.with_samples k)))
  unfolding due.with_samples with_frees with_arms
  ready_arms =
      let p = k.machine.placer in
      let m = repeated (length p.book.agenda) Sweeps k.machine in
      let since = repeated_since (length p.book.agenda) Sweeps tt k.machine s.roster in
      let ss = map (sampled_to p k.time) k.shown in
      let like = like_sampled p k.time k.shown in
      let was = below_like p.count k.shown ss like s.below in
      let apart = subst AreApart (sym (tags_like k.shown ss like)) s.apart in
      let last = arm_all m ss in
      let armed = λ (ns : List Node) (D : ℕ → Type 0) (h : AreTests i owns p ns D ss).
      all_arm i owns ns D k.time s.time ss m since.roster apart (tests_since i owns ns D p m.placer ss since was h) in
      let count : last.placer.count ≡ m.placer.count = (armed [] any (none ss)).count in
      record {
        search = refl;
        time = refl;
        roster = (armed [] any (none ss)).roster;
        below = below_like last.placer.count ss (all_armed k.time m ss) (like_armed k.time m ss)
            (subst (λ c. AreBelow c ss) (sym count) (below_more p.count m.placer.count ss since.count was));
        like = like_on k.shown ss (all_armed k.time m ss) like (like_armed k.time m ss);
        tests = λ ns ds h. (armed ns (λ n. In n ds) h).tests;
      }
    where
      any : ℕ → Type 0
      any n = Unit {0}

      none : (ss : List MetricFocusPair) → AreTests i owns k.machine.placer [] any ss
      none [] = tt
      none (x ∷ ss) = ((λ n e l. inl tt), none ss)

-- ---- what is told of the nodes that ended

-- a node that was under test and isn't any more is told
in_ended : (before now : List Node) (n : ℕ) (x : Node) → slice_get before n ≡ Some x → is_active x.state ≡ true → IsEnded now n → In n (ended_tests before now)
in_ended before now n x e a o =
    let was : In n (active_of before) = subst (λ (j : ℕ). In j (active_of before)) (omega arith) (number_in (λ y. is_active y.state) 0 before n x e a) in
    let isnt : is_active_at now n ≡ false = ap (λ (z : Option Node). option_map_or (λ y. is_active y.state) z false) o.stands ∙ o.ended in
    filter_in (λ j. not (is_active_at now j)) (active_of before) n was (ap not isnt)

module _ (i : Inputs) (owns : List ℕ) (p : Placements) (time : ℕ) (ns ms : List Node) where
  tests_ended : (xs ys : List MetricFocusPair) → AreLike xs ys → AreTests i owns p ns no_node xs → AreTests i owns p ms (IsEnded ms) ys → AreTests i owns p ms (λ n. In n (ended_tests ns ms)) ys
  tests_ended [] [] l h g = tt
  tests_ended [] (y ∷ ys) l h g = absurd l
  tests_ended (x ∷ xs) [] l h g = absurd l
  tests_ended (x ∷ xs) (y ∷ ys) l h g = (
    (λ n e s.
        let node : x.node ≡ Some n = sym (ap (λ (z : MetricFocusPair). z.node) l.0) ∙ e in
        let live = sym (ap (λ (z : MetricFocusPair). is_leaving (state_of p z.instrument.n)) l.0) ∙ s in
        ⊎_elim
        (λ d. ⊎_elim (λ z. absurd z) (λ (o : IsTest i owns (state_of p x.instrument.n) ns n x). inl (in_ended ns ms n o.node o.stands (ap is_active o.active) d)) (h.0 n node live))
        (λ t. inr t) (g.0 n e s)),
    tests_ended xs ys l.1 h.1 g.1,
  )

taken_all : (ns ms : List Node) (ts : List Tag) → ((n : ℕ) → IsTaken ns n → IsTaken ms n) → AreTaken ns ts → AreTaken ms ts
taken_all ns ms [] f a = tt
taken_all ns ms (t ∷ ts) f a = ((λ n e. f n (a.0 n e)), taken_all ns ms ts f a.1)

-- ---- the step of the search

module _ (i : Inputs) (owns : List ℕ) (k : SessionState) (some : 1 ≤ (rules_of i).decl.window) (low : k.time < 2 ^ 64) (s : IsSeen i owns k) where
  abbrev p : Placements
  p = k.machine.placer

  abbrev samples : List NodeSample
  samples = node_samples i p owns k.time k.shown

  abbrev ns : List Node
  ns = k.search.nodes

  abbrev first : SearchData
  first = with_all_samples k.time samples k.search

  abbrev after : SearchData
  after = search_step k.time samples k.search

  ran : Ran i owns p k.time s.time low ns first.nodes k.shown
  ran = subst (λ (r : Rules). Ran i owns p k.time s.time low ns (with_samples r.hypotheses r.decl.window k.time samples ns) k.shown) (sym s.rules)
      (run i owns p k.time s.time low k.shown ns s.tests s.alone s.nodes)

  steps : Steps (IsNode i owns) first after
  unfolding search_step
  steps =
      let v = with_all_families first in
      steps_on (IsNode i owns) first v (search_step k.time samples k.search)
      (steps_families (IsNode i owns) (new_is i owns some) (unfinished_is i owns) first)
      (steps_phases (IsNode i owns) (new_is i owns some) (unfinished_is i owns) k.time (drop v.present v.rules.phases) v)

  taken_after : AreTaken after.nodes (tags k.shown)
  taken_after = taken_grown (IsNode i owns) (λ n. In n after.drops) first.nodes after.nodes (tags k.shown) steps.grows (taken_all ns first.nodes (tags k.shown) ran.taken s.taken)

  -- of the instruments that were armed since, too
  tests_after : (a : SessionState) → IsReady i owns k a → AreTests i owns a.machine.placer after.nodes (λ n. In n after.drops) a.shown
  tests_after a r =
      let sampled = map (sampled_to p k.time) k.shown in
      let now = tests_ended i owns p k.time ns first.nodes k.shown sampled (like_sampled p k.time k.shown) s.tests ran.tests in
      tests_grown i owns a.machine.placer (IsNode i owns) (λ n. In n after.drops) (λ n. In n first.drops) (λ n. In n after.drops) first.nodes after.nodes a.shown
      steps.grows (λ n h. h) steps.drops (r.tests first.nodes first.drops now)

  pub seen_verdicts : (a : SessionState) → IsReady i owns k a → IsSeen i owns (with_verdicts samples a)
  unfolding with_verdicts
  seen_verdicts a r =
      let v = search_step a.time samples a.search in
      let same : v ≡ after = ap (λ (t : ℕ). search_step t samples a.search) r.time ∙ ap (search_step k.time samples) r.search in
      let w : SessionState = record a { search = v } in
      let alike : tags a.shown ≡ tags k.shown = tags_like k.shown a.shown r.like in
      let alone : AreAlone (tags a.shown) = subst AreAlone (sym alike) s.alone in
      let tests : AreTests i owns a.machine.placer v.nodes (λ n. In n v.drops) a.shown =
      subst (λ (z : SearchData). AreTests i owns a.machine.placer z.nodes (λ n. In n z.drops) a.shown) (sym same) (tests_after a r) in
      let d = all_dropped i owns v.nodes v.drops w r.roster r.below alone tests in
      let m = (without_tests v.drops w).machine in
      subst (IsSeen i owns) (sym (tests_alone v.drops w))
      (record {
        rules = ap (λ (z : SearchData). z.rules) same ∙ (steps.rules ∙ s.rules);
        time = r.time ∙ s.time;
        roster = (d.since).roster;
        below = below_more a.machine.placer.count m.placer.count a.shown (d.since).count r.below;
        apart = subst AreApart (sym alike) s.apart;
        alone = alone;
        taken = subst (λ (z : SearchData). AreTaken z.nodes (tags a.shown)) (sym same) (subst (AreTaken after.nodes) (sym alike) taken_after);
        nodes = subst (λ (z : SearchData). Each (IsNode i owns) z.nodes) (sym same) ((steps.grows).each ran.nodes);
        tests = d.tests;
      })
