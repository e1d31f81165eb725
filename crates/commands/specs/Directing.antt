-- What is due for `direct`.
use Rattle.std.specs.Prelude.{◌≡◌, ℕ, List, Result, Ok, Err}
use Rattle.command_words.specs.Requests.{DirectRequest}
use Rattle.directives.specs.Acts.{applied}
use Rattle.directives.specs.Meaning.{IsDirectives, IsFault}
use Rattle.directives.specs.declared.directive.Directive.{Directive}
use Rattle.directives.specs.declared.fault.DirectiveFault.{DirectiveFault}
use Rattle.directives.specs.declared.fault.DirectiveKind.{DirectiveKind}
use Rattle.mdl_ast.specs.declared.items.Conf.{Conf}
use Rattle.mdl_ast.specs.declared.items.Item.{Item}
use Rattle.mdl_shipped.specs.Shipped.{shipped_conf}
use Rattle.pn_types.specs.declared.image.Image.{Image}
use Rattle.refusals.specs.Kinds.{fault_at, directive_kind}
use Rattle.refusals.specs.Refusals.{Step, Then}
use Rattle.refusals.specs.declared.configuration.ConfKind.TheVariants.{TooLong}
use Rattle.refusals.specs.declared.fault.Fault.{Fault}
use Rattle.refusals.specs.declared.fault.Fault.TheVariants.{BadDirectives}
use Rattle.commands.specs.Found.{IsFound}
use Rattle.commands.specs.Given.{inputs_with}
use Rattle.commands.specs.Inputs.{AreInputs}
use Rattle.commands.specs.Runs.{IsInOrder, IsSession, report_alone}
use Rattle.commands.specs.FileReadings.{FileReading, IsContent}
use Rattle.commands.specs.declared.inputs.Inputs.{Inputs as Read}
use Rattle.commands.specs.declared.texts.Texts.{Texts}

-- ---- directives

-- The text spells the directives, or has this first fault.
abbrev pub MeansDirectives : List ℕ → Step (List Directive)
MeansDirectives text (Ok directives) = IsDirectives text directives
MeansDirectives text (Err fault) =
    (line : ℕ) × (col : ℕ) × (kind : DirectiveKind)
    × IsFault text line col kind × (fault ≡ BadDirectives (fault_at line col (directive_kind kind)))

-- what a file of directives has, at most 1,048,576 bytes
abbrev pub IsDirectivesContent : FileReading → List ℕ → Step (List ℕ)
IsDirectivesContent sees = IsContent sees 1048576 (BadDirectives (fault_at 0 0 TooLong))

-- the directives of a name
abbrev pub AreDirectives : FileReading → List ℕ → Step (List Directive)
AreDirectives sees name = Then (IsDirectivesContent sees name) MeansDirectives

-- what is refused
abbrev pub directive_fault : DirectiveFault → Fault
directive_fault fault = BadDirectives (fault_at fault.line fault.col (directive_kind fault.kind))

abbrev pub or_bad_directives : Result (List Item) DirectiveFault → Result (List Item) Fault
or_bad_directives (Ok items) = Ok items
or_bad_directives (Err fault) = Err (directive_fault fault)

-- a configuration of these items
abbrev pub conf_with : Result (List Item) Fault → Result Conf Fault
conf_with (Ok items) = Ok (record { items = items })
conf_with (Err fault) = Err fault

-- the configuration after directives
abbrev pub IsConfAfter : Conf → List Directive → Step Conf
IsConfAfter conf directives directed = directed ≡ conf_with (or_bad_directives (applied shipped_conf.items conf.items directives))

-- ---- direct

-- a whole run of an image under a configuration, which is checked again
abbrev pub IsDirectRun : DirectRequest → Image → Conf → Step Texts
IsDirectRun r image conf =
    Then (IsFound image r.session.settings.harts conf) (λ found.
    IsSession (IsInOrder r.order) report_alone (inputs_with image found r.session.settings))

-- directives, and the run under what they make of the configuration
abbrev pub IsDirection : DirectRequest → FileReading → Read → Step Texts
IsDirection r sees i = Then (AreDirectives sees r.directives) (λ directives. Then (IsConfAfter i.conf directives) (IsDirectRun r i.image))

-- The program and the configuration are read and checked, and then the directives.
abbrev pub IsDirectDue : DirectRequest → FileReading → Step Texts
IsDirectDue r sees =
    Then (AreInputs sees r.session.program r.session.conf) (λ i.
    Then (IsFound i.image r.session.settings.harts i.conf) (λ found. IsDirection r sees i))
