-- The lines of faults, and their statuses.
use Rattle.std.specs.Prelude.{ℕ, List, ◌++◌, codes}
use Rattle.std.specs.Fmt.{decimal}
use Rattle.pn_types.specs.Texts.{address, cause_text}
use Rattle.elf_form.specs.declared.fault.ElfFault.{ElfFault}
use Rattle.elf_form.specs.declared.fault.ElfFault.TheVariants as elf
use Rattle.rv_asm.specs.declared.fault.AsmFault.{AsmFault}
use Rattle.rv_asm.specs.declared.fault.AsmFault.TheVariants as asm
use Rattle.refusals.specs.declared.fault.Fault.{Fault}
use Rattle.refusals.specs.declared.fault.Fault.TheVariants.{Usage, FileFault, BadProgram, BadConf, BadPick, BadLog, TooManyBlocks, BadDirectives, BadReport, BadNewReport, NoProcedure, NoLines, BadLines}
use Rattle.refusals.specs.Kinds.{kind_text}
use Rattle.refusals.specs.declared.configuration.ConfFault.{ConfFault}
use Rattle.refusals.specs.declared.log.LogCause.{LogCause}
use Rattle.refusals.specs.declared.log.LogCause.TheVariants as log
use Rattle.refusals.specs.declared.program.ProgramFault.{ProgramFault}
use Rattle.refusals.specs.declared.program.ProgramFault.TheVariants.{Elf, Asm, TooLong}

-- what is wrong with an ELF file; lengths and numbers are decimal, flags and addresses hexadecimal
abbrev pub elf_text : ElfFault → List ℕ
elf_text elf.NotElf = codes "not elf"
elf_text (elf.Short n) = codes "short " ++ decimal n
elf_text elf.NotRiscv64 = codes "not riscv64"
elf_text (elf.Flags n) = codes "flags " ++ address n
elf_text (elf.BadSegment n) = codes "bad segment " ++ decimal n
elf_text (elf.LowSegment at) = codes "low segment " ++ address at
elf_text (elf.HighSegment at) = codes "high segment " ++ address at
elf_text (elf.Overlap at) = codes "overlap " ++ address at
elf_text (elf.TooBig n) = codes "too big " ++ decimal n
elf_text elf.NoText = codes "no text"
elf_text (elf.TwoTexts at) = codes "two texts " ++ address at
elf_text (elf.TextUnaligned at) = codes "text unaligned " ++ address at
elf_text (elf.TextTooLong n) = codes "text too long " ++ decimal n
elf_text (elf.UsesScratch at) = codes "uses x31 at " ++ address at
elf_text (elf.BadEntry at) = codes "bad entry " ++ address at
elf_text elf.BadSymbols = codes "bad symbols"

-- what is wrong with an assembly text
abbrev pub asm_text : AsmFault → List ℕ
asm_text (asm.BadLine n) = codes "bad line " ++ decimal n
asm_text (asm.BadNumber n) = codes "bad number line " ++ decimal n
asm_text (asm.UsesScratch n) = codes "uses x31 line " ++ decimal n
asm_text (asm.TwiceNamed n) = codes "named twice line " ++ decimal n
asm_text (asm.UnknownName n) = codes "unknown name line " ++ decimal n
asm_text (asm.OutOfReach n) = codes "out of reach line " ++ decimal n
asm_text asm.NoText = codes "no text"
asm_text (asm.TextTooLong n) = codes "text too long " ++ decimal n
asm_text (asm.DataTooLong n) = codes "data too long " ++ decimal n

abbrev pub program_text : ProgramFault → List ℕ
program_text (Elf fault) = elf_text fault
program_text (Asm fault) = asm_text fault
program_text TooLong = codes "too long"

-- what is wrong with a log
abbrev pub log_text : LogCause → List ℕ
log_text log.BadHead = codes "bad head"
log_text log.Short = codes "short"
log_text log.BadField = codes "bad field"
log_text log.Trailing = codes "trailing"
log_text log.TooLong = codes "too long"
log_text (log.NotRunnable hart) = codes "hart " ++ decimal hart ++ codes " not runnable"
log_text (log.OtherOwns of_log of_run) = codes "owns " ++ decimal of_log ++ codes " not " ++ decimal of_run
log_text log.Unfinished = codes "unfinished"

-- what is wrong with a configuration or with directives, and where
abbrev pub conf_text : ConfFault → List ℕ
conf_text f = codes "line " ++ decimal f.line ++ codes " column " ++ decimal f.col ++ codes ": " ++ kind_text f.kind

-- a metric at a focus
abbrev pub pick_text : List ℕ → List ℕ → List ℕ
pick_text metric focus = metric ++ (codes " " ++ focus)

abbrev pub fault_line : Fault → List ℕ
fault_line Usage = codes "paradyn: usage\n"
fault_line (FileFault name) = codes "paradyn: cannot read " ++ name ++ codes "\n"
fault_line (BadProgram fault) = codes "paradyn: bad program: " ++ program_text fault ++ codes "\n"
fault_line (BadConf fault) = codes "paradyn: bad configuration: " ++ conf_text fault ++ codes "\n"
fault_line (BadPick metric focus cause) =
    codes "paradyn: cannot measure " ++ (pick_text metric focus ++ (codes ": " ++ (cause_text cause ++ codes "\n")))
fault_line (BadLog place cause) = codes "paradyn: bad log at " ++ decimal place ++ codes ": " ++ log_text cause ++ codes "\n"
fault_line (TooManyBlocks count) = codes "paradyn: too many blocks " ++ decimal count ++ codes "\n"
fault_line (BadDirectives fault) = codes "paradyn: bad directives: " ++ conf_text fault ++ codes "\n"
fault_line (BadReport place) = codes "paradyn: bad report at " ++ decimal place ++ codes "\n"
fault_line (BadNewReport place) = codes "paradyn: bad new report at " ++ decimal place ++ codes "\n"
fault_line (NoProcedure name) = codes "paradyn: no procedure " ++ name ++ codes "\n"
fault_line NoLines = codes "paradyn: no line table\n"
fault_line (BadLines place) = codes "paradyn: bad line table at " ++ decimal place ++ codes "\n"

abbrev pub fault_status : Fault → ℕ
fault_status Usage = 2
fault_status (FileFault name) = 3
fault_status (BadProgram fault) = 4
fault_status (BadConf fault) = 5
fault_status (BadPick metric focus cause) = 6
fault_status (BadLog place cause) = 9
fault_status (TooManyBlocks count) = 11
fault_status (BadDirectives fault) = 12
fault_status (BadReport place) = 13
fault_status (BadNewReport place) = 13
fault_status (NoProcedure name) = 14
fault_status NoLines = 15
fault_status (BadLines place) = 15
