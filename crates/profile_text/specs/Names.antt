-- How procedures are named, and which procedure has an address.
use Rattle.std.specs.Prelude.{ℕ, ◌==◌, ◌||◌, Bool, Option, Some, List, codes}
use Rattle.std.specs.List.{find}
use Rattle.std.specs.Option.{option_map_or}
use Rattle.std.specs.Str.{bytes_eq}
use Rattle.pn_types.specs.Texts.{address}
use Rattle.pn_types.specs.declared.code.Proc.{Proc}
use Rattle.report.specs.Points.{proc_path}
use Rattle.rv_word.specs.Memory.{in_range}

-- `MODULE/NAME`
abbrev pub path_of : Proc → List ℕ
path_of p = proc_path (Some p)

-- a text is the name of a procedure, with its module or without
abbrev pub is_named : List ℕ → Proc → Bool
is_named name p = bytes_eq p.name name || bytes_eq (path_of p) name

-- the procedure that has the word at an address
abbrev pub procedure_at : List Proc → ℕ → Option Proc
procedure_at procs a = find (λ p. in_range p.start p.len a) procs

-- the procedure that starts at an address
abbrev pub procedure_from : List Proc → ℕ → Option Proc
procedure_from procs a = find (λ p. p.start == a) procs

-- the procedure that has the word at an address, and `-` where none has
abbrev pub owner_text : List Proc → ℕ → List ℕ
owner_text procs a = option_map_or path_of (procedure_at procs a) (codes "-")

-- the procedure that starts at an address, and else the address
abbrev pub target_text : List Proc → ℕ → List ℕ
target_text procs a = option_map_or path_of (procedure_from procs a) (address a)
