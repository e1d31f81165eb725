-- The points of procedures.
use Rattle.std.specs.Prelude.{ℕ, ◌+◌, ◌-◌, ◌*◌, ◌/◌, ◌==◌, ◌&&◌, ◌||◌, nat_lt, Bool, Option, option_and_then, List, [], ◌∷◌, ◌++◌, map}
use Rattle.std.specs.List.{filter, range_with_len}
use Rattle.pn_types.specs.declared.code.Point.{Point}
use Rattle.pn_types.specs.declared.code.Proc.{Proc}
use Rattle.pn_types.specs.declared.image.Image.{Image}
use Rattle.rv_mem.specs.Start.{program_of}
use Rattle.rv_word.specs.Names.{is_call_of, is_return_of}
use Rattle.rv_word.specs.Plain.{Words, program_word}
use Rattle.rv_word.specs.Table.{decode_of}
use Rattle.rv_word.specs.declared.instr.Instr.{Instr}

-- the instruction at an address, where the text has one there
abbrev pub instr_at : Words → ℕ → Option Instr
instr_at t at = option_and_then decode_of (program_word t at)

-- the word at an address calls
abbrev pub calls_at : Words → ℕ → Bool
calls_at t at = is_call_of (instr_at t at)

-- the kinds of an address of procedure number n; it is after a call where the word before it is the procedure's and calls
abbrev pub point_at : Words → ℕ → Proc → ℕ → Point
point_at t n p at = record {
  at = at;
  proc_no = n;
  entry = at == p.start;
  after = nat_lt p.start at && calls_at t (at - 4);
  ret = is_return_of (instr_at t at) at p.start p.len;
  call = calls_at t at;
}

-- one of the kinds holds
abbrev pub has_kind : Point → Bool
has_kind q = q.entry || q.after || q.ret || q.call

-- the addresses of a procedure's words
abbrev pub addresses : Proc → List ℕ
addresses p = map (λ k. p.start + 4 * k) (range_with_len 0 (p.len / 4))

-- the points of procedure number n
abbrev pub points_in : Words → ℕ → Proc → List Point
points_in t n p = filter has_kind (map (point_at t n p) (addresses p))

-- the points of the procedures, of which the first has number n
abbrev pub points_from : Words → ℕ → List Proc → List Point
points_from t n [] = []
points_from t n (p ∷ ps) = points_in t n p ++ points_from t (n + 1) ps

-- the points of an image's procedures, procedure by procedure
abbrev pub points_of : Image → List Proc → List Point
points_of image procs = points_from (program_of image) 0 procs
