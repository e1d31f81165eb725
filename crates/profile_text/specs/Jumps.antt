-- The direct calls and the loops of a text.
use Rattle.std.specs.Prelude.{ℕ, ◌%◌, ◌==◌, ◌&&◌, not, nat_le, if◌then◌else◌, Bool, Option, None}
use Rattle.pn_types.specs.declared.code.Proc.{Proc}
use Rattle.rv_word.specs.Memory.{in_range}
use Rattle.rv_word.specs.Names.{is_call_of, jump_of}
use Rattle.rv_word.specs.Table.{decode_of}
use Rattle.profile_text.specs.declared.numbered_word.NumberedWord.{NumberedWord}

-- where a word calls directly: a jump with a link register
abbrev pub call_target : NumberedWord → Option ℕ
call_target x = if is_call_of (decode_of x.word) then jump_of (decode_of x.word) x.at else None

-- where a word jumps or branches without a link
abbrev pub jump_target : NumberedWord → Option ℕ
jump_target x = if is_call_of (decode_of x.word) then None else jump_of (decode_of x.word) x.at

-- the word, which p has, was executed, and leads back to a word of p, or to itself
abbrev pub is_back_edge : Proc → ℕ → NumberedWord → Bool
is_back_edge p target x = nat_le target x.at && in_range p.start p.len target && (target % 4 == 0) && not (x.number == 0)
