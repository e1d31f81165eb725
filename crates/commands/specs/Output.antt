-- The texts of an answer that has none for the log.
use Rattle.std.specs.Prelude.{ℕ, List, []}
use Rattle.commands.specs.declared.texts.Texts.{Texts}

-- a text for the output, and nothing for the log
abbrev pub output : List ℕ → Texts
output text = record { out = text; log = [] }
