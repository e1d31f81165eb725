-- The texts of a session's report are names, foci, or in one line.
use Rattle.std.proofs.Common.{◌≡◌, ◌⊎◌, inl, inr, ℕ, zero, suc, ◌+◌, ◌-◌, ◌*◌, ◌<◌, ◌≤◌, ◌==◌, nat_lt, nat_le, mod-lt, length-take, length-drop, take, drop, filter, cond, Bool, true, false, Option, Some, None, IfSome, is_none, List, [], ◌∷◌, length, get_or, slice_get, refl, sym, ap, ◌∙◌, subst, arith}
use Rattle.std.specs.List.{All, list_any}
use Rattle.std.specs.Option.{option_map_or}
use Rattle.std.proofs.lemmas.List.Elements.{All-append, All-cons, All-map, All-nil}
use Rattle.std.proofs.lemmas.List.{length-map}
use Rattle.std.proofs.lemmas.Option.{get_or_from_slice_get, slice_get-get_or, slice_get_within}
use Rattle.pn_text.specs.Words.{is_name}
use Rattle.fold_hist.specs.Bins.{hist_of}
use Rattle.fold_hist.specs.declared.bin.Bin.{Bin}
use Rattle.mdl_ast.specs.declared.items.Hypothesis.{Hypothesis}
use Rattle.mdl_ast.specs.declared.items.PhaseDecl.{PhaseDecl}
use Rattle.mdl_ast.specs.declared.items.SearchDecl.{SearchDecl}
use Rattle.mdl_ast.specs.declared.metric.Metric.{Metric}
use Rattle.pn_types.specs.declared.focus.Focus.{Focus}
use Rattle.resource_tree.specs.Foci.{canonical}
use Rattle.resource_tree.proofs.Canonical.{there}
use Rattle.report.specs.declared.parts.ShownPart.{ShownPart}
use Rattle.session.specs.Parts.{hypothesis_name, metric_of, name_of, node_part, phase_name, refused_part, search_part, shown_part, shown_parts, units_of}
use Rattle.session_spec.specs.declared.data.RefusedWish.{RefusedWish}
use Rattle.session_spec.specs.declared.data.MetricFocusPair.{MetricFocusPair}
use Rattle.session_spec.specs.Inputs.{Inputs}
use Rattle.w3_search.specs.declared.node.Node.{Node}
use Rattle.std.proofs.lemmas.Bool.{and_parts, ltb-true}
use Rattle.machine.specs.Measures.{measure, measure_of}
use Rattle.pn_types.specs.declared.plan.Plan.{Plan}
use Rattle.pn_types.specs.declared.quantum.Quantum.{Quantum}
use Rattle.rv_mem.specs.Start.{program_of}
use Rattle.rv_exec.specs.Start.{start}
use Rattle.rv_word.specs.Plain.{Plain, Words}
use Rattle.session.specs.Given.{HasWindow}
use Rattle.session_spec.specs.Laws.{VerdictsTold}
use Rattle.session_spec.specs.Inputs.{harts_of_focus}
use Rattle.session_spec.specs.Searches.{rules_by, rules_of}
use Rattle.session_spec.specs.States.{State}
use Rattle.session_spec.specs.Told.{AreEnded, IsJudged, IsOpenEnd, IsVerdict}
use Rattle.session_spec.specs.Verdicts.{ticks_in}
use Rattle.session_spec.specs.Work.{final_state, after_quanta}
use Rattle.w3_search.specs.Refining.{threshold_of}
use Rattle.w3_search.specs.Testing.{holds}
use Rattle.w3_search.specs.declared.node.NodeState.TheVariants.{Confirmed, Rejected}
use Rattle.advice.specs.Seams.{AreSums, HasNumbers, AreSearchLines, IsHistogramLine, IsNodeLine, IsRefusedLine, IsSmall, is_one_line}
use Rattle.advice.proofs.CanonicalFoci.{canonical_is_focus}
use Rattle.advice.proofs.Spaced.{focus_above, word_line}
use Rattle.headline.specs.Readable.{HasNames, IsNodeOfPhase, IsPrintable, SessionIsReadable}

-- what holds of all holds of one
at : {X : Type 0} (P : X → Type 0) (xs : List X) (k : ℕ) (x : X) → All P xs → slice_get xs k ≡ Some x → P x
at P xs k x h e = subst P (get_or_from_slice_get xs k x x e) (h k x (slice_get_within xs k x e))

module _ (i : Inputs) (h : HasNames i) where
  focus_line : (f : Focus) → is_one_line (canonical i.tree f) ≡ true
  focus_line f = word_line (canonical i.tree f) (focus_above (canonical i.tree f) (canonical_is_focus i.tree f h.tree))

  metric_name : (n : ℕ) (m : Option Metric) → metric_of i n ≡ m → is_one_line (name_of m) ≡ true
  metric_name n None e = refl
  metric_name n (Some m) e = (at IsPrintable i.checked.metrics n m h.metrics e).name

  metric_units : (n : ℕ) (m : Option Metric) → metric_of i n ≡ m → is_one_line (units_of m) ≡ true
  metric_units n None e = refl
  metric_units n (Some m) e = (at IsPrintable i.checked.metrics n m h.metrics e).units

  refused : (r : RefusedWish) → IsRefusedLine (refused_part i r)
  refused r = record { metric = metric_name r.metric (metric_of i r.metric) refl; focus = focus_line r.focus }

  shown_one : (s : MetricFocusPair) (bins : List Bin) → IsHistogramLine (shown_part i s (hist_of i.settings.bins bins))
  shown_one s bins = record {
    metric = metric_name s.metric (metric_of i s.metric) refl;
    focus = focus_line s.focus;
    units = metric_units s.metric (metric_of i s.metric) refl;
  }

  shown : (ss : List MetricFocusPair) (rs : List (List Bin)) → All IsHistogramLine (shown_parts i ss rs)
  shown [] rs = All-nil IsHistogramLine
  shown (s ∷ ss) [] = All-nil IsHistogramLine
  shown (s ∷ ss) (r ∷ rs) =
      let part = shown_part i s (hist_of i.settings.bins r) in
      All-append IsHistogramLine (cond (is_none s.node) (part ∷ []) []) (shown_parts i ss rs) (by (is_none s.node) part (shown_one s r)) (shown ss rs)
    where
      by : (b : Bool) (part : ShownPart) → IsHistogramLine part → All IsHistogramLine (cond b (part ∷ []) [])
      by true part one = All-cons IsHistogramLine part [] one (All-nil IsHistogramLine)
      by false part one = All-nil IsHistogramLine

  phase : (n : ℕ) → n ≤ length i.checked.phases → is_name (phase_name i.checked.phases n) ≡ true
  phase zero few = refl
  phase (suc n) few =
      let p = there i.checked.phases n (omega arith) in
      ap (λ (o : Option PhaseDecl). is_name (option_map_or (λ q. q.name) o [])) p.1 ∙ at (λ (q : PhaseDecl). is_name q.name ≡ true) i.checked.phases n p.0 h.phases p.1

  hypothesis : (n : ℕ) → n < length i.checked.hypotheses → is_name (hypothesis_name i n) ≡ true
  hypothesis n few =
      let p = there i.checked.hypotheses n few in
      ap (λ (o : Option Hypothesis). is_name (option_map_or (λ q. q.name) o [])) p.1 ∙ at (λ (q : Hypothesis). is_name q.name ≡ true) i.checked.hypotheses n p.0 h.hypotheses p.1

  node : (n : Node) → IsNodeOfPhase i n → HasNumbers n n.state → IsNodeLine (node_part i n)
  node n g numbers = record {
    phase = phase n.phase g.phase;
    parent = g.parent;
    hypothesis = hypothesis n.hypothesis g.hypothesis;
    focus = canonical_is_focus i.tree n.focus h.tree;
    numbers = numbers;
  }

  searched : (o : Option SearchDecl) (nodes : List Node) → IfSome o (λ decl. IsSmall decl.window) → IsSmall (length nodes) → All (IsNodeOfPhase i) nodes → ((k : ℕ) (n : Node) → slice_get nodes k ≡ Some n → HasNumbers n n.state) → IfSome (search_part i o nodes) AreSearchLines
  searched None nodes window count each numbers = tt
  searched (Some decl) nodes window count each numbers = record {
    window = window;
    count = subst IsSmall (sym (length-map nodes (node_part i))) count;
    nodes = All-map IsNodeLine (node_part i) nodes (λ k d few. node (get_or nodes k d) (each k d few) (numbers k (get_or nodes k d) (slice_get-get_or nodes k d few)));
  }

-- ---- the numbers of a node that has ended

few_pass : (p : ℕ → Bool) (xs : List ℕ) → length (filter p xs) ≤ length xs
few_pass p [] = omega arith
few_pass p (x ∷ xs) = by (p x) (few_pass p xs)
  where
    by : (b : Bool) → length (filter p xs) ≤ length xs → length (cond b (x ∷ filter p xs) (filter p xs)) ≤ suc (length xs)
    by true h = omega arith
    by false h = omega arith

few_ticks : (owns harts : List ℕ) (b c : ℕ) → ticks_in owns harts b c ≤ length owns
few_ticks owns harts b c =
    let few = few_pass (λ x. list_any (λ y. y == x) harts) (take (c - b) (drop b owns)) in
    omega (arith, few, length-take (c - b) (drop b owns), length-drop b owns)

small_measure : (t : Words) (plan : Plan) (harts : List ℕ) (a b c : ℕ) (turns : List ℕ) (s : Plain) → IsSmall (measure t plan harts a b c turns s)
small_measure t plan [] a b c turns s = omega arith
small_measure t plan (x ∷ harts) a b c turns s = mod-lt (measure_of t plan a b c x turns s + measure t plan harts a b c turns s) (omega arith)

holds_ticks : (value ticks threshold : ℕ) → holds value ticks threshold ≡ true → 0 < ticks
unfolding holds
holds_ticks value ticks threshold h = ltb-true 0 ticks (and_parts (nat_lt 0 ticks) (nat_le (threshold * ticks) (value * 1000)) h).0

module _ (i : Inputs) (owns : List ℕ) (n : Node) (few : IsSmall (length owns)) where
  sums : IsVerdict i owns n → AreSums n
  sums v =
      let ticks = few_ticks owns (harts_of_focus i n.focus) n.from n.to in
      record {
        value = subst IsSmall (sym v.value) (small_measure (program_of i.image) v.plan (harts_of_focus i n.focus) n.from n.from n.to owns (start i.image i.settings.harts));
        ticks = omega (arith, v.ticks, ticks);
        from = omega (arith, v.ordered, v.past);
        to = omega (arith, v.past);
      }

  judged : IsVerdict i owns n → HasNumbers n n.state
  judged v = by (holds n.value n.ticks (threshold_of (rules_of i).hypotheses n.hypothesis)) refl v.verdict (sums v)
    where
      by : (b : Bool) → holds n.value n.ticks (threshold_of (rules_of i).hypotheses n.hypothesis) ≡ b → n.state ≡ cond b Confirmed Rejected → AreSums n → HasNumbers n n.state
      by true is e own = subst (HasNumbers n) (sym e) (own, holds_ticks n.value n.ticks (threshold_of (rules_of i).hypotheses n.hypothesis) is)
      by false is e own = subst (HasNumbers n) (sym e) own

  unjudged : (quanta : List Quantum) (k : ℕ) → IsSmall (rules_of i).decl.window → IsOpenEnd i quanta k n → HasNumbers n n.state
  unjudged quanta k window (inl barred) = subst (HasNumbers n) (sym barred.1) tt
  unjudged quanta k window (inr left) = subst (HasNumbers n) (sym left.0) (omega (arith, left.1))

numbers : (i : Inputs) (quanta : List Quantum) (s : State) → IsSmall (length s.owns) → IsSmall (rules_of i).decl.window → AreEnded i quanta s → (k : ℕ) (n : Node) → slice_get s.kept.search.nodes k ≡ Some n → HasNumbers n n.state
numbers i quanta s few window ended k n e = by (ended k n e)
  where
    by : (IsJudged i s k n ⊎ IsOpenEnd i quanta k n) → HasNumbers n n.state
    by (inl own) = judged i s.owns n few own.0
    by (inr left) = unjudged i s.owns n few quanta k window left

small_window : (i : Inputs) (o : Option SearchDecl) → IfSome o (λ decl. IsSmall decl.window) → IsSmall (rules_by o i).decl.window
small_window i None h = omega arith
small_window i (Some decl) h = h

some_window : (i : Inputs) (o : Option SearchDecl) → HasWindow o → 1 ≤ (rules_by o i).decl.window
some_window i None h = omega arith
some_window i (Some decl) h = h

pub session_is_readable : VerdictsTold → SessionIsReadable
session_is_readable told i quanta skipped width window h g each small =
    let s = final_state i (after_quanta i quanta) in
    let ended = told.closes i quanta width (some_window i i.checked.search window) g.time in
    record {
      harts = g.harts;
      ticks = g.ticks;
      samples = g.samples;
      symbols = small;
      output = g.output;
      refused = All-map IsRefusedLine (refused_part i) s.kept.refused (λ k d few. refused i h (get_or s.kept.refused k d));
      shown = shown i h s.kept.shown s.recorded;
      search = searched i h i.checked.search s.kept.search.nodes g.window g.count each (numbers i quanta s g.run (small_window i i.checked.search g.window) ended);
    }
