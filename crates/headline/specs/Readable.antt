-- The report of a session is one that `advice` reads.
use Rattle.std.specs.Prelude.{ℕ, ◌≡◌, ◌<◌, ◌≤◌, true, IfSome, List, length, sum_by}
use Rattle.std.specs.List.{All}
use Rattle.pn_text.specs.Words.{is_name}
use Rattle.mdl_ast.specs.declared.metric.Metric.{Metric}
use Rattle.pn_types.specs.declared.quantum.Quantum.{Quantum}
use Rattle.resource_tree.specs.Names.{IsNamed}
use Rattle.advice.specs.Seams.{IsReadable, IsSmall, is_one_line}
use Rattle.session.specs.Parts.{parts_of}
use Rattle.session.specs.Given.{HasWindow}
use Rattle.session_spec.specs.Inputs.{Inputs}
use Rattle.session_spec.specs.States.{State}
use Rattle.session_spec.specs.Work.{final_state, after_quanta}
use Rattle.w3_search.specs.declared.node.Node.{Node}

-- no LF stands in its name and its units
pub record IsPrintable (m : Metric) : Type 0 where
  pub name : is_one_line m.name ≡ true
  pub units : is_one_line m.units ≡ true

-- the names that texts of configurations have, and good names in the tree
pub record HasNames (i : Inputs) : Type 0 where
  pub tree : IsNamed i.tree
  pub metrics : All IsPrintable i.checked.metrics
  pub hypotheses : All (λ h. is_name h.name ≡ true) i.checked.hypotheses
  pub phases : All (λ p. is_name p.name ≡ true) i.checked.phases

-- a node whose phase and hypothesis there are
pub record IsNodeOfPhase (i : Inputs) (n : Node) : Type 0 where
  pub phase : n.phase ≤ length i.checked.phases
  pub hypothesis : n.hypothesis < length i.checked.hypotheses
  pub parent : IfSome n.parent IsSmall

-- what is counted and printed of a session in this state is within 64 bits
pub record AreSmall (i : Inputs) (s : State) : Type 0 where
  pub harts : IsSmall (length (parts_of i s).harts)
  pub ticks : IsSmall (sum_by (λ part. part.ticks) (parts_of i s).harts)
  pub samples : IsSmall s.kept.samples
  pub output : IsSmall (length (parts_of i s).output)
  pub time : IsSmall s.kept.time
  pub run : IsSmall (length s.owns)
  pub window : IfSome i.checked.search (λ decl. IsSmall decl.window)
  pub count : IsSmall (length s.kept.search.nodes)

-- What a session gives at its end can be read: each text in it is a name, a focus or in one line, and what was judged true has ticks.
abbrev pub SessionIsReadable : Type 0
SessionIsReadable = (i : Inputs) (quanta : List Quantum) (skipped : ℕ) → 1 ≤ i.settings.width → HasWindow i.checked.search → HasNames i
    → AreSmall i (final_state i (after_quanta i quanta))
    → All (IsNodeOfPhase i) (final_state i (after_quanta i quanta)).kept.search.nodes → IsSmall skipped
    → IsReadable (parts_of i (final_state i (after_quanta i quanta))) skipped
