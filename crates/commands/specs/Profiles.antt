-- What is due for `profile` and `annotate`.
use Rattle.std.specs.Prelude.{◌≡◌, ℕ, ◌++◌, true, false, if◌then◌else◌, List, [], Option, None, Some, Result, Ok, Err, map}
use Rattle.std.specs.List.{list_any}
use Rattle.std.specs.Option.{option_map_or}
use Rattle.block_count.specs.Counted.{IsFault}
use Rattle.block_count.specs.Heads.{heads_of}
use Rattle.block_count.specs.declared.counts.CountFault.TheVariants as fault
use Rattle.code_points.specs.Procedures.{procedures_of}
use Rattle.command_words.specs.Requests.{ProfileSource, ProfileRequest, AnnotateRequest}
use Rattle.command_words.specs.declared.requests.AnnotationUnit.{AnnotationUnit}
use Rattle.command_words.specs.declared.requests.AnnotationUnit.TheVariants as unit
use Rattle.command_words.specs.declared.requests.ProfileShape.{ProfileShape}
use Rattle.command_words.specs.declared.requests.ProfileShape.TheVariants.{Lines, Words, Table}
use Rattle.line_table.specs.Meaning.{meaning_of, paths_meaning}
use Rattle.line_table.specs.declared.fault.LineFault.{LineFault}
use Rattle.line_table.specs.declared.paths.UnitPaths.{UnitPaths}
use Rattle.line_table.specs.declared.registers.LineTable.{LineTable}
use Rattle.pn_types.specs.declared.code.Proc.{Proc}
use Rattle.pn_types.specs.declared.image.Image.{Image}
use Rattle.profile_text.specs.Annotated.{annotated_text}
use Rattle.profile_text.specs.Callgrind.{callgrind_text}
use Rattle.profile_text.specs.Lines.{profile_lines}
use Rattle.profile_text.specs.Names.{is_named}
use Rattle.profile_text.specs.Table.{profile_table}
use Rattle.refusals.specs.Refusals.{Step, Then}
use Rattle.refusals.specs.declared.fault.Fault.{Fault}
use Rattle.refusals.specs.declared.fault.Fault.TheVariants.{TooManyBlocks, NoProcedure, NoLines, BadLines}
use Rattle.source_text.specs.Text.{sourced_text}
use Rattle.word_counts.specs.Profiles.{IsProfile}
use Rattle.word_counts.specs.declared.profile.Profile.{Profile}
use Rattle.commands.specs.Blocks.{pace_of}
use Rattle.commands.specs.Inputs.{IsProgramContent, IsProgramOfFile, begins_elf, image_of}
use Rattle.commands.specs.FileReadings.{FileReading}
use Rattle.commands.specs.Output.{output}
use Rattle.commands.specs.declared.line_reading.LineParts.{LineParts}
use Rattle.commands.specs.declared.texts.Texts.{Texts}

-- ---- the profile

-- an address at which a block begins, as a procedure without a name and words
abbrev pub start_of : ℕ → Proc
start_of a = record { name = []; «module» = []; start = a; len = 0 }

-- the procedures, and the addresses at which a block begins beside those that the program's words tell
abbrev pub starts_of : Image → List ℕ → List Proc
starts_of image also = procedures_of image ++ map start_of also

-- The profile of the image's run, or that more blocks can be counted than a hart has slots.
abbrev pub IsProfiled : ProfileSource → Image → Step Profile
IsProfiled s image (Ok r) = IsProfile image (starts_of image s.also) s.counted.budget (pace_of s.counted) r
IsProfiled s image (Err why) =
    (count : ℕ) × IsFault image (starts_of image s.also) (fault.TooManyBlocks count) × (why ≡ TooManyBlocks count)

-- ---- profile

abbrev pub shape_text : ProfileShape → ℕ → Image → Profile → List ℕ
shape_text Lines top image r = profile_lines image (procedures_of image) r false
shape_text Words top image r = profile_lines image (procedures_of image) r true
shape_text Table top image r = profile_table image (procedures_of image) r top

-- what callgrind's tools read, where that is asked for
abbrev pub callgrind_asked : ProfileRequest → Image → Profile → List ℕ
callgrind_asked q image r = option_map_or (λ name. callgrind_text image (procedures_of image) r) q.callgrind []

abbrev pub profile_texts : ProfileRequest → Image → Profile → Texts
profile_texts q image r = record { out = shape_text q.shape q.top image r; log = callgrind_asked q image r }

abbrev pub AreProfileTexts : ProfileRequest → Image → Step Texts
AreProfileTexts q image = Then (IsProfiled q.source image) (λ r texts. texts ≡ Ok (profile_texts q image r))

abbrev pub IsProfileDue : ProfileRequest → FileReading → Step Texts
IsProfileDue q sees = Then (IsProgramOfFile sees q.source.counted.program) (AreProfileTexts q)

-- ---- annotate

-- the name that was given, which has to be that of a procedure
abbrev pub chosen : Option (List ℕ) → Image → Result (Option (List ℕ)) Fault
chosen None image = Ok None
chosen (Some name) image = if list_any (is_named name) (procedures_of image) then Ok (Some name) else Err (NoProcedure name)

-- a part of the line table, which the program has to have
abbrev pub or_no_lines : {A : Type 0} → Result (Option A) LineFault → Result A Fault
or_no_lines (Ok (Some part)) = Ok part
or_no_lines (Ok None) = Err NoLines
or_no_lines (Err fault) = Err (BadLines fault.place)

abbrev pub both_parts : Result LineTable Fault → Result (List UnitPaths) Fault → Result LineParts Fault
both_parts (Err fault) units = Err fault
both_parts (Ok table) (Err fault) = Err fault
both_parts (Ok table) (Ok units) = Ok (record { table = table; units = units })

-- those of a program's bytes; an assembly text has none
abbrev pub line_parts : List ℕ → Result LineParts Fault
line_parts bytes =
    if begins_elf bytes then both_parts (or_no_lines (meaning_of bytes)) (or_no_lines (paths_meaning bytes)) else Err NoLines

-- what is shown of the procedures that a name chooses: words, or lines of source
abbrev pub words_shown : AnnotateRequest → Image → Option (List ℕ) → Profile → List ℕ
words_shown q image name r = annotated_text image (procedures_of image) (heads_of image (starts_of image q.source.also)) r name

abbrev pub lines_shown : List ℕ → LineParts → Image → Option (List ℕ) → Profile → List ℕ
lines_shown bytes parts image name r = sourced_text bytes parts.units parts.table.rows image (procedures_of image) r name

-- the same of the profile of the image's run
abbrev pub IsShown : (Profile → List ℕ) → AnnotateRequest → Image → Step Texts
IsShown text_of q image = Then (IsProfiled q.source image) (λ r texts. texts ≡ Ok (output (text_of r)))

abbrev pub IsUnitShown : AnnotationUnit → AnnotateRequest → List ℕ → Image → Option (List ℕ) → Step Texts
IsUnitShown unit.Words q bytes image name = IsShown (words_shown q image name) q image
IsUnitShown unit.Lines q bytes image name =
    Then (λ parts. parts ≡ line_parts bytes) (λ parts. IsShown (lines_shown bytes parts image name) q image)

-- so these texts show the profile
abbrev pub AreAnnotation : AnnotationUnit → AnnotateRequest → List ℕ → Image → Option (List ℕ) → Profile → Texts → Type 0
AreAnnotation unit.Words q bytes image name r texts = texts ≡ output (words_shown q image name r)
AreAnnotation unit.Lines q bytes image name r texts =
    (parts : LineParts) × (Ok parts ≡ line_parts bytes) × (texts ≡ output (lines_shown bytes parts image name r))

-- The name is looked for first, then the line table where lines are asked for, and then the program is run.
abbrev pub IsAnnotation : AnnotateRequest → List ℕ → Image → Step Texts
IsAnnotation q bytes image = Then (λ name. name ≡ chosen q.procedure image) (IsUnitShown q.unit q bytes image)

-- what is due for the bytes of a program's file
abbrev pub IsBytesAnnotation : AnnotateRequest → List ℕ → Step Texts
IsBytesAnnotation q bytes = Then (λ image. image ≡ image_of bytes) (IsAnnotation q bytes)

abbrev pub IsAnnotateDue : AnnotateRequest → FileReading → Step Texts
IsAnnotateDue q sees = Then (IsProgramContent sees q.source.counted.program) (IsBytesAnnotation q)
