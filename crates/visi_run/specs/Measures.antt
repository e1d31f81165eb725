-- A reading as words.
use Rattle.std.specs.Prelude.{ℕ, Bool, true, false, List, [], ◌∷◌}
use Rattle.visi_run.specs.declared.dial.Reading.{Reading}

abbrev pub as_word : Bool → ℕ
as_word true = 1
as_word false = 0

abbrev pub words_of : Reading → List ℕ
words_of r = r.published ∷ r.ticks ∷ as_word r.ended ∷ []
