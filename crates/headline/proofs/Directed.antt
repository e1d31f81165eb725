-- What is printed of a search follows the directives by which its hypotheses were made.
use Rattle.std.proofs.Common.{◌≡◌, ◌≢◌, ◌⊎◌, inl, inr, ℕ, zero, suc, ◌==◌, cond, Bool, true, false, Option, Some, None, Ok, List, [], ◌∷◌, flat_map, map, refl, sym, ap, ◌∙◌, subst}
use Rattle.std.specs.Prelude.{IfSome, length, nat_le, not, slice_get}
use Rattle.std.specs.List.{list_any}
use Rattle.std.specs.Option.{option_map_or}
use Rattle.std.specs.Str.{bytes_eq}
use Rattle.std.proofs.lemmas.Bool.{eqb-true}
use Rattle.std.proofs.lemmas.Slice.Eq.{bytes_eq-Decides}
use Rattle.directives.specs.Acts.{applied, expanded}
use Rattle.directives.specs.Applying.{IsAccepted}
use Rattle.directives.specs.Hypotheses.{is_along, is_named}
use Rattle.directives.specs.Laws.{AxisIsGone, IsAncestor, LastThresholdHolds, OthersStay, PrunedIsGone, hypothesis_in, is_axis_prune, is_off, is_prune, last_threshold}
use Rattle.directives.specs.declared.directive.Directive.{Directive}
use Rattle.mdl_ast.specs.declared.items.Hypothesis.{Hypothesis}
use Rattle.mdl_ast.specs.declared.items.Item.{Item}
use Rattle.mdl_ast.specs.declared.items.SearchDecl.{SearchDecl}
use Rattle.mdl_check.specs.Checking.{IsAnswer}
use Rattle.mdl_check.specs.declared.checked.Checked.{Checked}
use Rattle.mdl_shipped.specs.Shipped.{shipped_conf}
use Rattle.pn_types.specs.Texts.{axis_text}
use Rattle.pn_types.specs.declared.focus.Axis.{Axis}
use Rattle.pn_types.specs.declared.pick.BarCause.{BarCause}
use Rattle.pn_types.specs.declared.quantum.Quantum.{Quantum}
use Rattle.report.specs.declared.parts.NodePart.{NodePart}
use Rattle.report.specs.declared.parts.SearchPart.{SearchPart}
use Rattle.resource_tree.specs.Resources.{Resources}
use Rattle.session.specs.Parts.{node_part, parts_of, search_part}
use Rattle.session_spec.specs.Inputs.{Inputs}
use Rattle.session_spec.specs.Searches.{rules_by, rules_of}
use Rattle.session_spec.specs.Told.{IsJudged, IsOpenEnd}
use Rattle.w3_search.specs.Refining.{threshold_of}
use Rattle.w3_search.specs.Testing.{holds}
use Rattle.w3_search.specs.Nodes.{most_nodes}
use Rattle.w3_search.specs.Steps.{Rules, SearchData}
use Rattle.w3_search.specs.declared.node.Node.{Node}
use Rattle.w3_search.specs.declared.node.NodeState.{NodeState}
use Rattle.w3_search.specs.declared.node.NodeState.TheVariants.{Barred, Confirmed, Rejected, Unfinished}
use Rattle.headline.specs.Followed.{AreFollowed, AreSameOn}
use Rattle.headline.specs.Honest.{AreVerdicts, IsHonest, end_of}
use Rattle.headline.proofs.Untested.{both_true, untested}
use Rattle.headline.proofs.Going.{hypothesis_there, node_same}

-- the laws of directives
pub record DirectiveLaws : Type 0 where
  pub pruned : PrunedIsGone
  pub axis : AxisIsGone
  pub threshold : LastThresholdHolds
  pub others : OthersStay

-- ---- one hypothesis

same_bytes : (xs : List ℕ) → bytes_eq xs xs ≡ true
same_bytes xs = (bytes_eq-Decides xs xs).1 refl

equal_if : (m n : ℕ) → not (m == n) ≡ false → m ≡ n
equal_if m n e = by (m == n) refl
  where
    by : (b : Bool) → (m == n) ≡ b → m ≡ n
    by true same = eqb-true m n same
    by false apart = absurd (cc)

-- a hypothesis that directives left
record IsLeft (items : List Item) (directives : List Directive) (h : Hypothesis) : Type 0 where
  pruned : (name : List ℕ) → list_any (λ d. is_prune name d.act) directives ≡ true → (h.name ≢ name) × (IsAncestor (expanded shipped_conf.items items) name h.name → ⊥)
  axes : (axis : List ℕ) → list_any (λ d. is_axis_prune h.name axis d.act) directives ≡ true → list_any (bytes_eq axis) h.axes ≡ false
  threshold : (n : ℕ) → last_threshold h.name None directives ≡ Some n → h.threshold ≡ n

-- what the check says of a configuration, and of what directives make of it
pub record IsMade (items : List Item) (directives : List Directive) (searched : Checked) : Type 0 where
  pub tree : Resources
  pub before : Checked
  pub accepted : IsAnswer tree shipped_conf.items items (Ok before)
  pub made : List Item
  pub applied : applied shipped_conf.items items directives ≡ Ok made
  pub checked : IsAnswer tree shipped_conf.items made (Ok searched)

module _ (laws : DirectiveLaws) (items : List Item) (directives : List Directive) (searched : Checked) (is : IsMade items directives searched) where
  hypotheses : searched.hypotheses ≡ flat_map hypothesis_in is.made
  hypotheses = ap (λ (k : Checked). k.hypotheses) (laws.others is.tree shipped_conf.items items is.made directives is.before searched is.accepted is.applied is.checked)

  was_accepted : IsAccepted is.tree shipped_conf.items items
  unfolding IsAccepted
  was_accepted = (is.before, is.accepted)

  left : (number : ℕ) (h : Hypothesis) → slice_get searched.hypotheses number ≡ Some h → IsLeft items directives h
  left number h there =
      let here : slice_get (flat_map hypothesis_in is.made) number ≡ Some h = subst (λ (hs : List Hypothesis). slice_get hs number ≡ Some h) hypotheses there in
      record {
        pruned = λ name d.
            let gone = laws.pruned is.tree shipped_conf.items items is.made directives name was_accepted is.applied d in (
              λ e. let off = untested (is_named name) is.made number h gone.0 here in let on = same_bytes name in cc,
              λ a. let off = untested (is_named h.name) is.made number h (gone.1 h.name a) here in let on = same_bytes h.name in cc,
            );
        axes = λ axis d.
            let off = untested (is_along h.name axis) is.made number h (laws.axis shipped_conf.items items is.made directives h.name axis is.applied d) here in
            both_true (bytes_eq h.name h.name) (list_any (bytes_eq axis) h.axes) off (same_bytes h.name);
        threshold = λ n d.
            let off = untested (is_off h.name n) is.made number h (laws.threshold shipped_conf.items items is.made directives h.name n is.applied d) here in
            equal_if h.threshold n (both_true (bytes_eq h.name h.name) (not (h.threshold == n)) off (same_bytes h.name));
      }

-- ---- the nodes

-- a printed node, and the search's
record Source (i : Inputs) (ns : List Node) (k : ℕ) (n : NodePart) : Type 0 where
  node : Node
  there : slice_get ns k ≡ Some node
  is : n ≡ node_part i node

source : (i : Inputs) (ns : List Node) (k : ℕ) (n : NodePart) → slice_get (map (node_part i) ns) k ≡ Some n → Source i ns k n
source i [] k n e = absurd (cc)
source i (x ∷ ns) zero n e = let same : node_part i x ≡ n = cc in record { node = x; there = refl; is = sym same }
source i (x ∷ ns) (suc k) n e = let s = source i ns k n e in record { node = s.node; there = s.there; is = s.is }

-- a node that was judged is neither barred nor unfinished
not_barred : (c : BarCause) (state : NodeState) → state ≡ Barred c → (state ≡ Confirmed) ⊎ (state ≡ Rejected) → ⊥
not_barred c state e (inl f) = cc
not_barred c state e (inr f) = cc

not_unfinished : (n : ℕ) (state : NodeState) → state ≡ Unfinished n → (state ≡ Confirmed) ⊎ (state ≡ Rejected) → ⊥
not_unfinished n state e (inl f) = cc
not_unfinished n state e (inr f) = cc

-- the verdict on a node, by the test at its hypothesis's threshold
verdict : (i : Inputs) (quanta : List Quantum) (k : ℕ) (n : Node) → IsJudged i (end_of i quanta) k n ⊎ IsOpenEnd i quanta k n → (n.state ≡ Confirmed) ⊎ (n.state ≡ Rejected)
    → n.state ≡ cond (holds n.value n.ticks (threshold_of (rules_of i).hypotheses n.hypothesis)) Confirmed Rejected
verdict i quanta k n (inl judged) state = judged.0.verdict
verdict i quanta k n (inr (inl barred)) state = absurd (not_barred barred.0 n.state barred.1 state)
verdict i quanta k n (inr (inr left)) state = absurd (not_unfinished n.seen n.state left.0 state)

module _ (laws : DirectiveLaws) (i : Inputs) (quanta : List Quantum) (items : List Item) (directives : List Directive) (is : IsMade items directives i.checked) where
  abbrev ended : SearchData
  ended = (end_of i quanta).kept.search

  -- the search's node of a printed one, and what directives left of its hypothesis
  record IsOf (k : ℕ) (n : NodePart) : Type 0 where
    node : Node
    there : slice_get ended.nodes k ≡ Some node
    same : n.node ≡ node
    hypothesis : Hypothesis
    stands : slice_get ended.rules.hypotheses node.hypothesis ≡ Some hypothesis
    threshold : threshold_of (rules_of i).hypotheses node.hypothesis ≡ hypothesis.threshold
    name : n.hypothesis ≡ hypothesis.name
    left : IsLeft items directives hypothesis

  module _ (printed : SearchPart) (nodes : printed.nodes ≡ map (node_part i) ended.nodes) (are : AreVerdicts i quanta) (rules : (rules_of i).hypotheses ≡ i.checked.hypotheses) where
    node_of : (k : ℕ) (n : NodePart) → slice_get printed.nodes k ≡ Some n → IsOf k n
    node_of k n e =
        let s = source i ended.nodes k n (subst (λ (l : List NodePart). slice_get l k ≡ Some n) nodes e) in
        let h = hypothesis_there ended are.history k s.node s.there in
        let own : slice_get (rules_of i).hypotheses s.node.hypothesis ≡ Some h.0 = subst (λ (r : Rules). slice_get r.hypotheses s.node.hypothesis ≡ Some h.0) are.rules h.1 in
        let there : slice_get i.checked.hypotheses s.node.hypothesis ≡ Some h.0 = subst (λ (hs : List Hypothesis). slice_get hs s.node.hypothesis ≡ Some h.0) rules own in
        record {
          node = s.node;
          there = s.there;
          same = ap (λ (p : NodePart). p.node) s.is;
          hypothesis = h.0;
          stands = h.1;
          threshold = ap (λ (o : Option Hypothesis). option_map_or (λ x. x.threshold) o 0) own;
          name = ap (λ (p : NodePart). p.hypothesis) s.is ∙ ap (λ (o : Option Hypothesis). option_map_or (λ x. x.name) o []) there;
          left = left laws items directives i.checked is s.node.hypothesis h.0 there;
        }

    pruned_of : (k : ℕ) (n : NodePart) → slice_get printed.nodes k ≡ Some n → (name : List ℕ) → list_any (λ d. is_prune name d.act) directives ≡ true
        → (n.hypothesis ≢ name) × (IsAncestor (expanded shipped_conf.items items) name n.hypothesis → ⊥)
    pruned_of k n e name d =
        let a = node_of k n e in
        let gone = (a.left).pruned name d in
        (λ same. gone.0 (sym a.name ∙ same), λ under. gone.1 (subst (IsAncestor (expanded shipped_conf.items items) name) a.name under))

    same_of : (k parent : ℕ) (n p : NodePart) → slice_get printed.nodes k ≡ Some n → n.node.parent ≡ Some parent → slice_get printed.nodes parent ≡ Some p
        → (axis : Axis) → list_any (λ d. is_axis_prune n.hypothesis (axis_text axis) d.act) directives ≡ true → AreSameOn axis n.node.focus p.node.focus
    same_of k parent n p e named f axis d =
        let a = node_of k n e in
        let b = node_of parent p f in
        let off = (a.left).axes (axis_text axis) (subst (λ (name : List ℕ). list_any (λ x. is_axis_prune name (axis_text axis) x.act) directives ≡ true) a.name d) in
        let same = node_same ended are.history k parent a.node b.node a.there (subst (λ (m : Node). m.parent ≡ Some parent) a.same named) b.there a.hypothesis a.stands axis off in
        subst (λ (m : Node). AreSameOn axis m.focus p.node.focus) (sym a.same) (subst (λ (m : Node). AreSameOn axis (a.node).focus m.focus) (sym b.same) same)

    verdict_of : (k : ℕ) (n : NodePart) → slice_get printed.nodes k ≡ Some n → (threshold : ℕ) → last_threshold n.hypothesis None directives ≡ Some threshold
        → (n.node.state ≡ Confirmed) ⊎ (n.node.state ≡ Rejected) → n.node.state ≡ cond (holds n.node.value n.node.ticks threshold) Confirmed Rejected
    verdict_of k n e threshold d state =
        let a = node_of k n e in
        let given = (a.left).threshold threshold (subst (λ (name : List ℕ). last_threshold name None directives ≡ Some threshold) a.name d) in
        let judged = verdict i quanta k a.node (are.verdicts k a.node a.there) (subst (λ (m : Node). (m.state ≡ Confirmed) ⊎ (m.state ≡ Rejected)) a.same state) in
        let by = ap (λ t. cond (holds (a.node).value (a.node).ticks t) Confirmed Rejected) (a.threshold ∙ given) in
        subst (λ (m : Node). m.state ≡ cond (holds m.value m.ticks threshold) Confirmed Rejected) (sym a.same) (judged ∙ by)

    all_followed : AreFollowed items directives printed
    all_followed = record { pruned = pruned_of; axes = same_of; thresholds = verdict_of }

  followed : (o : Option SearchDecl) → i.checked.search ≡ o → AreVerdicts i quanta → IfSome (search_part i o ended.nodes) (AreFollowed items directives)
  followed None e are = tt
  followed (Some decl) e are = all_followed (record { full = nat_le most_nodes (length ended.nodes); window = decl.window; nodes = map (node_part i) ended.nodes }) refl are (ap (λ (d : Option SearchDecl). (rules_by d i).hypotheses) e)

  -- the search of an honest report
  pub report_follows : IsHonest i quanta (parts_of i (end_of i quanta)) → IfSome (parts_of i (end_of i quanta)).search (AreFollowed items directives)
  report_follows honest = followed i.checked.search refl honest.search
