-- For proofs alone: where two words that are written tight would run into one another.
use Rattle.std.specs.Prelude.{not, Bool, false}
use Rattle.pn_text.specs.Words.{Word, FocusPath, SignWord}
use Rattle.pn_text.specs.declared.token.Sign.TheVariants.{OpenParen, CloseCode, Semicolon}
use Rattle.mdl_parse.specs.Picks.{is_sign}

-- a focus goes on with what closes, but for `;`
abbrev pub runs_behind : Word → Word → Bool
runs_behind (FocusPath path) right = not (is_sign Semicolon right)
runs_behind left right = false

-- `(` goes on with `*)`
abbrev pub runs_before : Word → Word → Bool
runs_before (SignWord OpenParen) right = is_sign CloseCode right
runs_before left right = false
