use Rattle.std.proofs.Common.{length, arith}
use Rattle.pn_text.specs.declared.token.TokenKind.TheVariants.{Name}
use Rattle.mdl_parse.proofs.InView.{view_stands}
use Rattle.mdl_parse.proofs.words.Words.word.Goals as goal

pub slice_bounds-text-end : goal.slice_bounds-text-end
slice_bounds-text-end c =
    let h = view_stands c.self.inside.tokens.now (length c.self.inside.text.now) (record { kind = Name; from = 0; to = 0; line = 0; col = 0 }) c.self.invariant c.in-len1-up.len_at_least in
    omega arith
