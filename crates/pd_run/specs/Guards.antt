-- What kind of file a call writes, and what may be written over.
use Rattle.std.specs.Prelude.{◌≡◌, ◌⊎◌, ℕ, ⊤, true, List, [], ◌∷◌, Some, None, codes}
use Rattle.std.specs.List.{list_any}
use Rattle.command_words.specs.Requests.{Request, run, live, replay, plan, asm, points, relog, stress, blocks, visi, advise, direct, profile, annotate, show, diff, ask}
use Rattle.command_words.specs.declared.requests.ProfileShape.{ProfileShape}
use Rattle.command_words.specs.declared.requests.ProfileShape.TheVariants as shape
use Rattle.command_words.specs.declared.requests.ViewFormat.{ViewFormat}
use Rattle.command_words.specs.declared.requests.ViewFormat.TheVariants as format
use Rattle.commands.specs.FileReadings.{reads}
use Rattle.commands.specs.declared.texts.Texts.{Texts}
use Rattle.outside.specs.Outside.{Holding}
use Rattle.pn_text.specs.Bytes.{begins_with}
use Rattle.headline.specs.Headline.{Tells}
use Rattle.pd_run.specs.declared.kinds.Kind.{Kind}
use Rattle.pd_run.specs.declared.kinds.Kind.TheVariants as kind

-- ---- how files begin

-- how files of a kind begin: in one of these ways
unfoldable pub beginnings_of : Kind → List (List ℕ)
beginnings_of kind.Log = codes "PDYNLOG" ∷ []
beginnings_of kind.Report = codes "paradyn report " ∷ []
beginnings_of kind.Samples = codes "paradyn visi " ∷ []
beginnings_of kind.Summary = codes "stress " ∷ []
beginnings_of kind.Profile = codes "profile harts " ∷ []
beginnings_of kind.View = codes "ticks " ∷ []
beginnings_of kind.Annotation = codes "procedure " ∷ []
beginnings_of kind.Blocks = codes "blocks " ∷ []
beginnings_of kind.Points = codes "points " ∷ []
beginnings_of kind.Plan = codes "plan " ∷ []
beginnings_of kind.Difference =
    codes "             old" ∷ codes "hart " ∷ codes "only in " ∷ codes "output: " ∷ codes "same sum: " ∷ codes "same state: "
    ∷ codes "true -> " ∷ codes "false -> " ∷ codes "barred -> " ∷ codes "waiting -> " ∷ codes "nothing differs" ∷ []
beginnings_of kind.Json = codes "{\"format\":\"paradyn report " ∷ []
beginnings_of kind.Csv = codes "record,number,name," ∷ []
beginnings_of kind.Svg = codes "<svg " ∷ []
beginnings_of kind.Html = codes "<!DOCTYPE html>" ∷ []
beginnings_of kind.Configuration = codes "include metrics;" ∷ []
beginnings_of kind.Directives = codes "prune " ∷ codes "threshold " ∷ codes "first " ∷ []
beginnings_of kind.Elf = (127 ∷ codes "ELF") ∷ []
beginnings_of kind.Callgrind = codes "# callgrind format" ∷ []

-- the file is empty, or begins as one of the kind
abbrev pub IsOfKind : Kind → List ℕ → Type 0
IsOfKind k file = (file ≡ []) ⊎ (list_any (λ front. begins_with front file) (beginnings_of k) ≡ true)

-- ---- what a call writes

abbrev pub kind_in_format : ViewFormat → Kind
kind_in_format format.Blocks = kind.View
kind_in_format format.Ascii = kind.View
kind_in_format format.Json = kind.Json
kind_in_format format.Csv = kind.Csv
kind_in_format format.Svg = kind.Svg
kind_in_format format.Html = kind.Html

abbrev pub kind_in_shape : ProfileShape → Kind
kind_in_shape shape.Lines = kind.Profile
kind_in_shape shape.Words = kind.Profile
kind_in_shape shape.Table = kind.View

-- the kind of a request's text
abbrev pub written_kind : Request → Kind
written_kind (run q) = kind.Report
written_kind (live q) = kind.Report
written_kind (replay q) = kind.Report
written_kind (direct q) = kind.Report
written_kind (visi q) = kind.Samples
written_kind (stress q) = kind.Summary
written_kind (profile q) = kind_in_shape q.shape
written_kind (annotate q) = kind.Annotation
written_kind (blocks q) = kind.Blocks
written_kind (points name) = kind.Points
written_kind (plan q) = kind.Plan
written_kind (asm name) = kind.Elf
written_kind (relog name) = kind.Log
written_kind (advise name) = kind.Directives
written_kind (show q) = kind_in_format q.format
written_kind (diff q) = kind.Difference
written_kind (ask q) = kind.Configuration

-- the kind of its second text
abbrev pub log_kind : Request → Kind
log_kind (profile q) = kind.Callgrind
log_kind q = kind.Log

-- The texts that a command tells are of these kinds.
abbrev pub KindsAreTold : Type 0
KindsAreTold =
    (holds : List ℕ → Holding) (before now : List ℕ → ℕ) (q : Request) (texts : Texts) →
    Tells (Some q) (reads holds before now) texts → IsOfKind (written_kind q) texts.out × IsOfKind (log_kind q) texts.log

-- ---- what may be written over

-- The file isn't there, or it is of the kind, as far as is told what it holds.
abbrev pub MayGo : Kind → Holding → Type 0
MayGo k None = ⊤
MayGo k (Some None) = ⊤
MayGo k (Some (Some file)) = IsOfKind k file
