-- What is due for the points of a program, and for the ELF file of a text.
use Rattle.std.specs.Prelude.{◌≡◌, ℕ, List, Ok}
use Rattle.code_points.specs.Points.{points_of}
use Rattle.code_points.specs.Procedures.{procedures_of, skipped_of}
use Rattle.refusals.specs.Refusals.{Step, Then}
use Rattle.report.specs.Points.{points_text}
use Rattle.commands.specs.Inputs.{IsProgramOfFile, IsElfFile}
use Rattle.commands.specs.Output.{output}
use Rattle.commands.specs.FileReadings.{FileReading}
use Rattle.commands.specs.declared.texts.Texts.{Texts}

-- the points of the program of a name
abbrev pub IsPointsDue : List ℕ → FileReading → Step Texts
IsPointsDue name sees =
    Then (IsProgramOfFile sees name)
    (λ image texts. texts ≡ Ok (output (points_text (procedures_of image) (points_of image (procedures_of image)) (skipped_of image))))

-- the ELF file of the text of a name
abbrev pub IsAsmDue : List ℕ → FileReading → Step Texts
IsAsmDue name sees = Then (IsElfFile sees name) (λ file texts. texts ≡ Ok (output file))
