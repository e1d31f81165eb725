-- Parts whose lines can be read: each number has as many bits as the code holds it in, and each name is one word.
use Rattle.std.specs.Prelude.{ℕ, ◌≡◌, ◌<◌, ◌^◌, nat_lt, Bool, true, IfSome, List}
use Rattle.std.specs.List.{list_all}
use Rattle.fold_hist.specs.declared.bin.Bin.{Bin}
use Rattle.pn_types.specs.declared.pick.PickCause.{PickCause}
use Rattle.pn_types.specs.declared.pick.PickCause.TheVariants.{NoConstraint, TooManySites, TooManyStmts, OverCost, TooMany, NoSlot, NoRoom, Unmovable, AlreadyShown, NotShown}
use Rattle.pn_types.specs.declared.stop.StopText.{StopText}
use Rattle.pn_types.specs.declared.stop.StopText.TheVariants.{Exit, Illegal, Break, Misaligned, Access, TextAccess, FetchOutside, Budget, Cut}
use Rattle.report.specs.SearchTexts.{pick_of}
use Rattle.report.specs.declared.parts.HartPart.{HartPart}
use Rattle.report.specs.declared.parts.NodePart.{NodePart}
use Rattle.report.specs.declared.parts.RefusedPart.{RefusedPart}
use Rattle.report.specs.declared.parts.ShownPart.{ShownPart}
use Rattle.w3_search.specs.declared.node.Node.{Node}
use Rattle.w3_search.specs.declared.node.NodeState.{NodeState}
use Rattle.w3_search.specs.declared.node.NodeState.TheVariants.{Waiting, Active, Confirmed, Rejected, Barred, Unfinished}
use Rattle.advice.specs.Seams.{is_one_line}

-- ---- numbers and words

abbrev pub Is32Bit : ℕ → Type 0
Is32Bit n = n < 2 ^ 32

abbrev pub Is64Bit : ℕ → Type 0
Is64Bit n = n < 2 ^ 64

-- a byte above the space
abbrev pub is_word_byte : ℕ → Bool
is_word_byte byte = nat_lt 32 byte

-- one word: no space and no LF stands in it
abbrev pub IsOneWord : List ℕ → Type 0
IsOneWord text = list_all is_word_byte text ≡ true

-- ---- harts

abbrev pub IsStop : StopText → Type 0
IsStop (Exit status) = status < 256
IsStop (Access at) = Is64Bit at
IsStop (TextAccess at) = Is64Bit at
IsStop Illegal = Unit {0}
IsStop Break = Unit {0}
IsStop Misaligned = Unit {0}
IsStop FetchOutside = Unit {0}
IsStop Budget = Unit {0}
IsStop Cut = Unit {0}

pub record IsHartPart (part : HartPart) : Type 0 where
  pub ticks : Is64Bit part.ticks
  pub stop : IsStop part.stop
  pub pc : Is64Bit part.pc

-- ---- wishes

abbrev pub IsCause : PickCause → Type 0
IsCause (TooManySites n) = Is32Bit n
IsCause (TooManyStmts at) = Is64Bit at
IsCause (OverCost n) = Is64Bit n
IsCause (NoSlot n) = Is32Bit n
IsCause (NoRoom n) = Is32Bit n
IsCause (Unmovable at) = Is64Bit at
IsCause (NoConstraint axis) = Unit {0}
IsCause TooMany = Unit {0}
IsCause AlreadyShown = Unit {0}
IsCause NotShown = Unit {0}

pub record IsRefusedPart (part : RefusedPart) : Type 0 where
  pub metric : IsOneWord part.metric
  pub focus : IsOneWord part.focus
  pub at : Is64Bit part.at
  pub cause : IsCause part.cause

-- ---- histograms

pub record IsHistogramPart (part : ShownPart) : Type 0 where
  pub metric : IsOneWord part.metric
  pub focus : IsOneWord part.focus
  pub units : is_one_line part.units ≡ true
  pub from : IfSome part.from Is64Bit
  pub width : Is64Bit part.width

pub record IsBin (bin : Bin) : Type 0 where
  pub from : Is64Bit bin.from
  pub to : Is64Bit bin.to
  pub sum : Is64Bit bin.sum

-- ---- nodes

pub record AreNodeSums (node : Node) : Type 0 where
  pub value : Is64Bit node.value
  pub ticks : Is64Bit node.ticks
  pub from : Is64Bit node.from
  pub to : Is64Bit node.to

-- what is printed of a node in this state
abbrev pub IsPrintedState : Node → NodeState → Type 0
IsPrintedState node Waiting = Is32Bit node.seen
IsPrintedState node Active = Is32Bit node.seen
IsPrintedState node Confirmed = AreNodeSums node
IsPrintedState node Rejected = AreNodeSums node
IsPrintedState node (Barred cause) = IsCause (pick_of cause)
IsPrintedState node (Unfinished seen) = Is32Bit seen

pub record IsNodePart (part : NodePart) : Type 0 where
  pub phase : IsOneWord part.phase
  pub parent : IfSome part.node.parent Is32Bit
  pub hypothesis : IsOneWord part.hypothesis
  pub focus : IsOneWord part.focus
  pub state : IsPrintedState part.node part.node.state
