-- The unpatched machine with its program and its budget.
use Rattle.std.specs.Prelude.{ℕ}
use Rattle.rv_word.specs.Plain.{Words, Plain, plain}

pub record Machine : Type 0 where
  pub program : Words
  pub budget : ℕ
  pub state : Plain

-- after one turn of hart h
abbrev pub turned : Machine → ℕ → Machine
turned m h = record { program = m.program; budget = m.budget; state = plain m.program h m.state }
