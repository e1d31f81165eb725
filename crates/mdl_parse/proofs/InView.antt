-- The token in view stands in the text.
use Rattle.std.proofs.Common.{ℕ, ◌≤◌, List, [], ◌∷◌, length, slice_index_or, arith}
use Rattle.pn_text.specs.Scans.{AreSpans}
use Rattle.pn_text.specs.declared.token.Token.{Token}

spans_within : (at : ℕ) (tokens : List Token) (len : ℕ) → AreSpans at tokens len → at ≤ len
spans_within at [] len h = h
spans_within at (token ∷ tokens) len h = let k = spans_within token.to tokens len h.2 in omega arith

-- the first stands in the text
pub view_stands : (tokens : List Token) (len : ℕ) (none : Token) → AreSpans 0 tokens len → 1 ≤ length tokens → ((slice_index_or tokens 0 none).from ≤ (slice_index_or tokens 0 none).to) × ((slice_index_or tokens 0 none).to ≤ len)
view_stands [] len none h l = absurd (omega arith)
view_stands (token ∷ tokens) len none h l = (omega (arith, h.1), spans_within token.to tokens len h.2)
