-- What the bytes of files stand for, and what commands read.
use Rattle.std.specs.Prelude.{◌≡◌, ℕ, ◌&&◌, nat_le, if◌then◌else◌, Bool, List, [], ◌∷◌, length, take, Result, Ok, Err}
use Rattle.std.specs.Str.{bytes_eq}
use Rattle.elf_write.specs.Made.{elf_of}
use Rattle.elf_form.specs.Meaning.{meaning_of}
use Rattle.elf_form.specs.declared.fault.ElfFault.{ElfFault}
use Rattle.mdl_ast.specs.declared.items.Conf.{Conf}
use Rattle.mdl_parse.specs.Meaning.{IsConf, IsFault}
use Rattle.mdl_parse.specs.declared.fault.SyntaxKind.{SyntaxKind}
use Rattle.pn_types.specs.declared.image.Image.{Image}
use Rattle.refusals.specs.Kinds.{fault_at, syntax_kind}
use Rattle.refusals.specs.Refusals.{Step, Then}
use Rattle.refusals.specs.declared.configuration.ConfKind.TheVariants.{TooLong as TooLongConf}
use Rattle.refusals.specs.declared.fault.Fault.{Fault}
use Rattle.refusals.specs.declared.fault.Fault.TheVariants.{BadProgram, BadConf}
use Rattle.refusals.specs.declared.program.ProgramFault.TheVariants.{Elf, Asm, TooLong}
use Rattle.rv_asm.specs.Assembly.{assembled}
use Rattle.rv_asm.specs.declared.fault.AsmFault.{AsmFault}
use Rattle.commands.specs.FileReadings.{FileReading, IsContent}
use Rattle.commands.specs.declared.inputs.Inputs.{Inputs}

-- ---- programs

-- the bytes begin with 0x7f and `ELF`
abbrev pub begins_elf : List ℕ → Bool
begins_elf bytes = nat_le 4 (length bytes) && bytes_eq (take 4 bytes) (127 ∷ 69 ∷ 76 ∷ 70 ∷ [])

abbrev pub or_bad_elf : {A : Type 0} → Result A ElfFault → Result A Fault
or_bad_elf (Ok a) = Ok a
or_bad_elf (Err fault) = Err (BadProgram (Elf fault))

abbrev pub or_bad_text : {A : Type 0} → Result A AsmFault → Result A Fault
or_bad_text (Ok a) = Ok a
or_bad_text (Err fault) = Err (BadProgram (Asm fault))

-- The image of a program's bytes, which are an ELF file or assembly text, or its first fault.
abbrev pub image_of : List ℕ → Result Image Fault
image_of bytes = if begins_elf bytes then or_bad_elf (meaning_of bytes) else or_bad_text (assembled bytes)

-- The ELF file of the bytes of an assembly text, or their first fault.
abbrev pub file_of : List ℕ → Result (List ℕ) Fault
file_of bytes = or_bad_text (elf_of bytes)

-- ---- configurations

-- The text spells the configuration, or has this first fault.
abbrev pub MeansConf : List ℕ → Step Conf
MeansConf text (Ok conf) = IsConf text conf
MeansConf text (Err fault) =
    (line : ℕ) × (col : ℕ) × (kind : SyntaxKind) × IsFault text line col kind × (fault ≡ BadConf (fault_at line col (syntax_kind kind)))

-- ---- what commands read

-- what a program's file has, at most 33,554,432 bytes
abbrev pub IsProgramContent : FileReading → List ℕ → Step (List ℕ)
IsProgramContent sees = IsContent sees 33554432 (BadProgram TooLong)

-- the program of a name
abbrev pub IsProgramOfFile : FileReading → List ℕ → Step Image
IsProgramOfFile sees name = Then (IsProgramContent sees name) (λ bytes image. image ≡ image_of bytes)

-- the ELF file of the assembly text of a name
abbrev pub IsElfFile : FileReading → List ℕ → Step (List ℕ)
IsElfFile sees name = Then (IsProgramContent sees name) (λ bytes file. file ≡ file_of bytes)

-- what a configuration's file has, at most 1,048,576 bytes
abbrev pub IsConfContent : FileReading → List ℕ → Step (List ℕ)
IsConfContent sees = IsContent sees 1048576 (BadConf (fault_at 0 0 TooLongConf))

-- the configuration of a name
abbrev pub IsConfiguration : FileReading → List ℕ → Step Conf
IsConfiguration sees name = Then (IsConfContent sees name) MeansConf

-- first the program, then the configuration
abbrev pub AreInputs : FileReading → List ℕ → List ℕ → Step Inputs
AreInputs sees program conf =
    Then (IsProgramOfFile sees program)
    (λ image. Then (IsConfiguration sees conf) (λ c inputs. inputs ≡ Ok (record { image = image; conf = c })))
