-- Where no space stands between two words of a line.
use Rattle.std.proofs.Common.{◌≡◌, ◌&&◌, ◌||◌, Bool, true, false, refl, if◌then◌else◌}
use Rattle.pn_text.specs.Words.{Word, NameWord, SignWord}
use Rattle.pn_text.specs.Writing.{stand_apart}
use Rattle.pn_text.specs.declared.token.Sign.TheVariants.{OpenBracket, OpenParen, Comma}
use Rattle.mdl_parse.specs.Printing.{is_closing, is_opening, is_calling, is_tight}
use Rattle.mdl_parse.specs.Tight.{runs_behind, runs_before}

same : (b : Bool) → b ≡ (b && true)
same true = refl
same false = refl

pub close_same : (left right : Word) → (if runs_behind left right || runs_before left right then false else is_closing right || is_opening left || (is_opening right && is_calling left)) ≡ (is_tight left right && stand_apart left right)
close_same (NameWord name) (SignWord OpenParen) = same (is_calling (NameWord name))
close_same (NameWord name) (SignWord OpenBracket) = same (is_calling (NameWord name))
close_same (SignWord OpenParen) (SignWord Comma) = refl
close_same left (SignWord Comma) = refl
close_same left right = refl
