-- What comes of what `ask` looks for is one thing, and no file is at fault.
use Rattle.std.proofs.Common.{◌≡◌, ℕ, Bool, true, false, cond, List, Option, None, Some, Result, Ok, Err, refl, sym, ◌∙◌}
use Rattle.std.specs.Prelude.{is_some}
use Rattle.std.specs.List.{list_all}
use Rattle.command_words.specs.Requests.{AskRequest}
use Rattle.command_words.specs.declared.requests.NodeKind.{NodeKind}
use Rattle.command_words.specs.declared.requests.NodeKind.TheVariants.{Procedure, Module, Lock, Hart}
use Rattle.mdl_ast.specs.declared.metric.Metric.{Metric}
use Rattle.pn_types.specs.declared.focus.Focus.{Focus}
use Rattle.pn_types.specs.declared.image.Image.{Image}
use Rattle.refusals.proofs.Steps.{IsOne, of_either, one_then}
use Rattle.refusals.specs.Kinds.{fault_at}
use Rattle.refusals.specs.declared.configuration.ConfKind.TheVariants.{UnknownName}
use Rattle.refusals.specs.declared.fault.Fault.{Fault}
use Rattle.refusals.specs.declared.fault.Fault.TheVariants.{BadConf, FileFault}
use Rattle.resource_tree.specs.Foci.{canonical}
use Rattle.resource_tree.specs.Resources.{Resources}
use Rattle.commands.specs.Asking.{AreCodeFoci, AreFoci, IsAskAt, asked_text, code_foci, executed, known, source_of}
use Rattle.commands.specs.Output.{output}
use Rattle.commands.specs.Plans.{metric_named}
use Rattle.commands.specs.Profiles.{IsProfiled}
use Rattle.commands.proofs.Profiled.{profiled_once, profiled_spared}

code_once : (by_module : Bool) (q : AskRequest) (image : Image) (focus : List ℕ) → IsOne (AreCodeFoci by_module q image focus)
code_once by_module q image focus =
    one_then (IsProfiled (source_of q) image) (λ r foci. foci ≡ Ok (code_foci by_module focus (executed image r))) (profiled_once (source_of q) image)
    (λ r a b e f. e ∙ sym f)

foci_once : (each : Option NodeKind) (q : AskRequest) (image : Image) (t : Resources) (focus : Focus) → IsOne (AreFoci each q image t focus)
foci_once None q image t focus a b e f = e ∙ sym f
foci_once (Some Procedure) q image t focus a b e f = code_once false q image (canonical t focus) a b e f
foci_once (Some Module) q image t focus a b e f = code_once true q image (canonical t focus) a b e f
foci_once (Some Lock) q image t focus a b e f = e ∙ sym f
foci_once (Some Hart) q image t focus a b e f = e ∙ sym f

pub ask_at_once : (q : AskRequest) (image : Image) (t : Resources) (names : List (List ℕ)) (focus : Focus) → IsOne (IsAskAt q image t names focus)
ask_at_once q image t names focus =
    one_then (AreFoci q.each q image t focus) (λ foci texts. texts ≡ Ok (output (asked_text q names foci))) (foci_once q.each q image t focus)
    (λ foci a b e f. e ∙ sym f)

-- ---- no file is at fault

code_spared : (by_module : Bool) (q : AskRequest) (image : Image) (focus name : List ℕ) → AreCodeFoci by_module q image focus (Err (FileFault name)) → ⊥
code_spared by_module q image focus name =
    of_either ⊥ (IsProfiled (source_of q) image) (λ r foci. foci ≡ Ok (code_foci by_module focus (executed image r))) (FileFault name)
    (profiled_spared (source_of q) image name) (λ r e. cc)

foci_spared : (each : Option NodeKind) (q : AskRequest) (image : Image) (t : Resources) (focus : Focus) (name : List ℕ) → AreFoci each q image t focus (Err (FileFault name)) → ⊥
foci_spared None q image t focus name e = cc
foci_spared (Some Procedure) q image t focus name e = code_spared false q image (canonical t focus) name e
foci_spared (Some Module) q image t focus name e = code_spared true q image (canonical t focus) name e
foci_spared (Some Lock) q image t focus name e = cc
foci_spared (Some Hart) q image t focus name e = cc

pub ask_at_spared : (q : AskRequest) (image : Image) (t : Resources) (names : List (List ℕ)) (focus : Focus) (name : List ℕ) → IsAskAt q image t names focus (Err (FileFault name)) → ⊥
ask_at_spared q image t names focus name =
    of_either ⊥ (AreFoci q.each q image t focus) (λ foci texts. texts ≡ Ok (output (asked_text q names foci))) (FileFault name)
    (foci_spared q.each q image t focus name) (λ foci e. cc)

either_known : (b : Bool) (names : List (List ℕ)) (name : List ℕ) → Err (FileFault name) ≡ cond b (Ok names) (Err (BadConf (fault_at 0 0 UnknownName))) → ⊥
either_known true names name e = cc
either_known false names name e = cc

pub known_spared : (metrics : List Metric) (names : List (List ℕ)) (name : List ℕ) → Err (FileFault name) ≡ known metrics names → ⊥
known_spared metrics names name e = either_known (list_all (λ n. is_some (metric_named metrics n)) names) names name e
