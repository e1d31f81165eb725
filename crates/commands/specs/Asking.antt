-- What is due for `ask`.
use Rattle.std.specs.Prelude.{◌≡◌, ℕ, nat_lt, if◌then◌else◌, is_some, Bool, true, false, List, [], ◌∷◌, Option, None, Some, Result, Ok, Err, codes, filter, map}
use Rattle.std.specs.List.{list_all}
use Rattle.code_points.specs.Procedures.{procedures_of}
use Rattle.command_words.specs.Requests.{AskRequest, ProfileSource}
use Rattle.command_words.specs.declared.requests.NodeKind.{NodeKind}
use Rattle.command_words.specs.declared.requests.NodeKind.TheVariants.{Procedure, Module, Lock, Hart}
use Rattle.mdl_ast.specs.declared.items.Conf.{Conf}
use Rattle.mdl_ast.specs.declared.metric.Metric.{Metric}
use Rattle.pair_wishes.specs.Foci.{procedure_foci, module_foci}
use Rattle.pair_wishes.specs.Wishes.{ask_text}
use Rattle.pn_types.specs.declared.code.Proc.{Proc}
use Rattle.pn_types.specs.declared.focus.Axis.{Axis}
use Rattle.pn_types.specs.declared.focus.Axis.TheVariants.{Machine, SyncObject}
use Rattle.pn_types.specs.declared.focus.Focus.{Focus}
use Rattle.pn_types.specs.declared.image.Image.{Image}
use Rattle.profile_text.specs.Rows.{Row, rows_of}
use Rattle.refusals.specs.Kinds.{fault_at}
use Rattle.refusals.specs.Refusals.{Step, Then}
use Rattle.refusals.specs.declared.configuration.ConfKind.TheVariants.{UnknownName}
use Rattle.refusals.specs.declared.fault.Fault.{Fault}
use Rattle.refusals.specs.declared.fault.Fault.TheVariants.{BadConf}
use Rattle.resource_tree.specs.Foci.{canonical, children}
use Rattle.resource_tree.specs.Resources.{Resources}
use Rattle.word_counts.specs.declared.profile.Profile.{Profile}
use Rattle.commands.specs.FileReadings.{FileReading}
use Rattle.commands.specs.Found.{IsFound}
use Rattle.commands.specs.Inputs.{IsProgramOfFile, MeansConf}
use Rattle.commands.specs.Output.{output}
use Rattle.commands.specs.Plans.{IsSelected, metric_named}
use Rattle.commands.specs.Profiles.{IsProfiled}
use Rattle.commands.specs.declared.finding.Found.{Found}
use Rattle.commands.specs.declared.texts.Texts.{Texts}

-- ---- metrics

-- the configuration that has the shipped metrics alone
abbrev pub shipped_metrics : List ℕ
shipped_metrics = codes "include metrics;\n"

-- names, each of which has to be that of a metric
abbrev pub known : List Metric → List (List ℕ) → Result (List (List ℕ)) Fault
known metrics names =
    if list_all (λ name. is_some (metric_named metrics name)) names then Ok names else Err (BadConf (fault_at 0 0 UnknownName))

-- ---- foci

-- a list, or one element in place of an empty one
abbrev pub or_one : {A : Type 0} → A → List A → List A
or_one a [] = a ∷ []
or_one a (b ∷ bs) = b ∷ bs

-- the children of a focus on an axis, or itself where it has none
abbrev pub children_foci : Resources → Focus → Axis → List (List ℕ)
children_foci t focus axis = or_one (canonical t focus) (map (canonical t) (children t focus axis))

-- the run that tells which procedures come first
abbrev pub source_of : AskRequest → ProfileSource
source_of q = record { counted = q.counted; also = [] }

-- the procedures that were executed, by descending ticks
abbrev pub executed_in : List Row → List Proc
executed_in rows = map (λ row. row.proc) (filter (λ row. nat_lt 0 row.ticks) rows)

abbrev pub executed : Image → Profile → List Proc
executed image r = executed_in (rows_of image (procedures_of image) r)

-- their foci, or those of their modules, within a focus, or itself where there are none
abbrev pub code_foci : Bool → List ℕ → List Proc → List (List ℕ)
code_foci by_module focus procs = or_one focus (if by_module then module_foci focus procs else procedure_foci focus procs)

abbrev pub AreCodeFoci : Bool → AskRequest → Image → List ℕ → Step (List (List ℕ))
AreCodeFoci by_module q image focus = Then (IsProfiled (source_of q) image) (λ r foci. foci ≡ Ok (code_foci by_module focus (executed image r)))

-- The foci of nodes of a kind below a focus: procedures and modules by descending ticks, locks and harts in the tree's order.
abbrev pub AreFoci : Option NodeKind → AskRequest → Image → Resources → Focus → Step (List (List ℕ))
AreFoci None q image t focus foci = foci ≡ Ok (canonical t focus ∷ [])
AreFoci (Some Procedure) q image t focus foci = AreCodeFoci false q image (canonical t focus) foci
AreFoci (Some Module) q image t focus foci = AreCodeFoci true q image (canonical t focus) foci
AreFoci (Some Lock) q image t focus foci = foci ≡ Ok (children_foci t focus SyncObject)
AreFoci (Some Hart) q image t focus foci = foci ≡ Ok (children_foci t focus Machine)

-- ---- all

-- the configuration that asks for metrics at foci
abbrev pub asked_text : AskRequest → List (List ℕ) → List (List ℕ) → List ℕ
asked_text q names foci = ask_text names foci q.limit q.interval.from q.interval.until

abbrev pub IsAskAt : AskRequest → Image → Resources → List (List ℕ) → Focus → Step Texts
IsAskAt q image t names focus = Then (AreFoci q.each q image t focus) (λ foci texts. texts ≡ Ok (output (asked_text q names foci)))

-- The names are looked for first, then the focus, and then the program is run where procedures or modules are asked for.
abbrev pub IsAsk : AskRequest → Image → Found → Step Texts
IsAsk q image found =
    Then (λ names. names ≡ known found.checked.metrics q.metrics)
    (λ names. Then (IsSelected found.tree q.under) (IsAskAt q image found.tree names))

-- what is due for a program under a configuration
abbrev pub IsAskFor : AskRequest → Image → Conf → Step Texts
IsAskFor q image conf = Then (IsFound image q.counted.harts conf) (IsAsk q image)

abbrev pub IsAskOf : AskRequest → Image → Step Texts
IsAskOf q image = Then (MeansConf shipped_metrics) (IsAskFor q image)

abbrev pub IsAskDue : AskRequest → FileReading → Step Texts
IsAskDue q sees = Then (IsProgramOfFile sees q.counted.program) (IsAskOf q)
