-- A comment on an order has no code.
use Rattle.std.proofs.Common.{◌≡◌, ◌==◌, ℕ, cond, Bool, true, false, Option, Some, None, List, [], ◌++◌, refl}
use Rattle.std.specs.Prelude.{codes}
use Rattle.rv_asm.specs.Bytes.{skip_blanks}
use Rattle.rv_asm.specs.Parsing.{body_of}
use Rattle.rv_word.specs.declared.instr.Instr.{Instr}
use Rattle.disassembler.specs.Laws.{HasNoCode}
use Rattle.disassembler.specs.Texts.{comment_by, order_of}

sign_first : (text : List ℕ) → body_of (codes "  # " ++ text) ≡ []
unfolding body_of skip_blanks
sign_first text = refl

either : (b : Bool) (text behind : List ℕ) → HasNoCode behind → HasNoCode ((cond b [] (codes "  # " ++ text)) ++ behind)
either true text behind quiet = quiet
either false text behind quiet = sign_first (text ++ behind)

pub comment_has_no_code : (i : Option Instr) (behind : List ℕ) → HasNoCode behind → HasNoCode (comment_by i ++ behind)
comment_has_no_code None behind quiet = quiet
comment_has_no_code (Some i) behind quiet = either (order_of i == 0) _ behind quiet
