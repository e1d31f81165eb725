-- The kinds of faults of configurations and of directives.
use Rattle.std.specs.Prelude.{ℕ, List, codes}
use Rattle.mdl_parse.specs.declared.fault.SyntaxKind.{SyntaxKind}
use Rattle.mdl_parse.specs.declared.fault.SyntaxKind.TheVariants as syntax
use Rattle.mdl_check.specs.declared.fault.CheckKind.{CheckKind}
use Rattle.mdl_check.specs.declared.fault.CheckKind.TheVariants as check
use Rattle.directives.specs.declared.fault.DirectiveKind.{DirectiveKind}
use Rattle.directives.specs.declared.fault.DirectiveKind.TheVariants as directive
use Rattle.refusals.specs.declared.configuration.ConfKind.{ConfKind}
use Rattle.refusals.specs.declared.configuration.ConfKind.TheVariants.{BadByte, OpenString, BigNumber, Unexpected, TooDeep, TooLong, UnknownName, TwiceNamed, WrongKind, CyclicParent, BadFocus}
use Rattle.refusals.specs.declared.configuration.ConfFault.{ConfFault}

-- how each kind is written
abbrev pub kind_text : ConfKind → List ℕ
kind_text BadByte = codes "bad byte"
kind_text OpenString = codes "open string"
kind_text BigNumber = codes "number too large"
kind_text Unexpected = codes "unexpected"
kind_text TooDeep = codes "nesting too deep"
kind_text TooLong = codes "too long"
kind_text UnknownName = codes "unknown name"
kind_text TwiceNamed = codes "named twice"
kind_text WrongKind = codes "wrong kind"
kind_text CyclicParent = codes "cyclic parent"
kind_text BadFocus = codes "bad focus"

-- a fault of form
abbrev pub syntax_kind : SyntaxKind → ConfKind
syntax_kind syntax.BadByte = BadByte
syntax_kind syntax.OpenString = OpenString
syntax_kind syntax.BigNumber = BigNumber
syntax_kind syntax.Unexpected = Unexpected
syntax_kind syntax.TooDeep = TooDeep

-- a fault that the check finds
abbrev pub check_kind : CheckKind → ConfKind
check_kind check.UnknownName = UnknownName
check_kind check.TwiceNamed = TwiceNamed
check_kind check.WrongKind = WrongKind
check_kind check.CyclicParent = CyclicParent
check_kind check.BadFocus = BadFocus

-- a fault of directives
abbrev pub directive_kind : DirectiveKind → ConfKind
directive_kind directive.BadByte = BadByte
directive_kind directive.OpenString = OpenString
directive_kind directive.BigNumber = BigNumber
directive_kind directive.Unexpected = Unexpected
directive_kind directive.UnknownName = UnknownName
directive_kind directive.WrongKind = WrongKind

-- a fault and where it stands
abbrev pub fault_at : ℕ → ℕ → ConfKind → ConfFault
fault_at line col kind = record { line = line; col = col; kind = kind }
