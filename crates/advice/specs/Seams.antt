-- What `report` writes, `advice` reads.
use Rattle.std.specs.Prelude.{ℕ, ◌≡◌, ◌<◌, ◌^◌, not, Bool, true, false, Option, Some, None, IfSome, Ok, List, [], length, flat_map, sum_by}
use Rattle.std.specs.List.{list_all, All}
use Rattle.std.specs.Option.{option_map_or, option_to_list}
use Rattle.pn_text.specs.Lines.{is_lf}
use Rattle.pn_text.specs.Words.{is_name}
use Rattle.pn_types.specs.declared.focus.Focus.{Focus}
use Rattle.report.specs.declared.parts.NodePart.{NodePart}
use Rattle.report.specs.declared.parts.RefusedPart.{RefusedPart}
use Rattle.report.specs.declared.parts.ReportParts.{ReportParts}
use Rattle.report.specs.declared.parts.SearchPart.{SearchPart}
use Rattle.report.specs.declared.parts.ShownPart.{ShownPart}
use Rattle.report.specs.Text.{report_text}
use Rattle.resource_tree.specs.Foci.{canonical}
use Rattle.resource_tree.specs.Names.{IsNamed}
use Rattle.resource_tree.specs.Resources.{Resources}
use Rattle.w3_search.specs.declared.node.Node.{Node}
use Rattle.w3_search.specs.declared.node.NodeState.{NodeState}
use Rattle.w3_search.specs.declared.node.NodeState.TheVariants.{Waiting, Active, Confirmed, Rejected, Barred, Unfinished}
use Rattle.advice.specs.Reading.{verdicts_of}
use Rattle.advice.specs.Words.{is_focus}
use Rattle.advice.specs.declared.verdict.Verdict.{Verdict}

-- ---- what can be read

-- a number that 64 bits hold, as all that the code holds are
abbrev pub IsSmall : ℕ → Type 0
IsSmall n = n < 2 ^ 64

-- no LF stands in a text
abbrev pub is_one_line : List ℕ → Bool
is_one_line text = list_all (λ byte. not (is_lf byte)) text

-- the texts of a refused wish
pub record IsRefusedLine (r : RefusedPart) : Type 0 where
  pub metric : is_one_line r.metric ≡ true
  pub focus : is_one_line r.focus ≡ true

-- the texts of what was shown
pub record IsHistogramLine (s : ShownPart) : Type 0 where
  pub metric : is_one_line s.metric ≡ true
  pub focus : is_one_line s.focus ≡ true
  pub units : is_one_line s.units ≡ true

-- the sums over the samples of a node, and their interval
pub record AreSums (n : Node) : Type 0 where
  pub value : IsSmall n.value
  pub ticks : IsSmall n.ticks
  pub from : IsSmall n.from
  pub to : IsSmall n.to

-- the numbers that are printed of a node in this state; a test that was true had ticks
abbrev pub HasNumbers : Node → NodeState → Type 0
HasNumbers n Waiting = IsSmall n.seen
HasNumbers n Active = IsSmall n.seen
HasNumbers n Confirmed = AreSums n × (0 < n.ticks)
HasNumbers n Rejected = AreSums n
HasNumbers n (Barred cause) = Unit {0}
HasNumbers n (Unfinished seen) = IsSmall seen

-- the names of a phase and of a hypothesis, a focus in its canonical form, and numbers
pub record IsNodeLine (p : NodePart) : Type 0 where
  pub phase : is_name p.phase ≡ true
  pub parent : IfSome p.node.parent IsSmall
  pub hypothesis : is_name p.hypothesis ≡ true
  pub focus : is_focus p.focus ≡ true
  pub numbers : HasNumbers p.node p.node.state

pub record AreSearchLines (s : SearchPart) : Type 0 where
  pub window : IsSmall s.window
  pub count : IsSmall (length s.nodes)
  pub nodes : All IsNodeLine s.nodes

-- What a report can be of. The output may be any bytes.
pub record IsReadable (parts : ReportParts) (skipped : ℕ) : Type 0 where
  pub harts : IsSmall (length parts.harts)
  pub ticks : IsSmall (sum_by (λ part. part.ticks) parts.harts)
  pub samples : IsSmall parts.samples
  pub symbols : IsSmall skipped
  pub output : IsSmall (length parts.output)
  pub refused : All IsRefusedLine parts.refused
  pub shown : All IsHistogramLine parts.shown
  pub search : IfSome parts.search AreSearchLines

-- ---- what is read

abbrev pub verdict : Bool → NodePart → Verdict
verdict holds p = record { hypothesis = p.hypothesis; holds = holds; value = p.node.value; ticks = p.node.ticks }

-- the verdict on a node in this state, if it has one
abbrev pub verdict_in : NodePart → NodeState → Option Verdict
verdict_in p Confirmed = Some (verdict true p)
verdict_in p Rejected = Some (verdict false p)
verdict_in p state = None

abbrev pub verdict_on : NodePart → Option Verdict
verdict_on p = verdict_in p p.node.state

-- the verdicts on the nodes of the search, in their order; none where it has no search
abbrev pub verdicts_in : ReportParts → List Verdict
verdicts_in parts = option_map_or (λ s. flat_map (λ p. option_to_list (verdict_on p)) s.nodes) parts.search []

-- From the text of a report the verdicts on its nodes are read.
abbrev pub ReportIsRead : Type 0
ReportIsRead = (parts : ReportParts) (skipped : ℕ) → IsReadable parts skipped →
    verdicts_of (report_text parts skipped) ≡ Ok (verdicts_in parts)

-- The canonical text of a focus is one that is read, where the names of the tree are good.
abbrev pub CanonicalIsFocus : Type 0
CanonicalIsFocus = (t : Resources) (f : Focus) → IsNamed t → is_focus (canonical t f) ≡ true
