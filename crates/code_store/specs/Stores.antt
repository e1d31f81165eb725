-- What a store of code holds.
use Rattle.std.specs.Prelude.{◌≡◌, ℕ, ◌+◌, ◌*◌, ◌%◌, ◌≤◌}
use Rattle.std.specs.FinMap.{empty}
use Rattle.pn_types.specs.declared.image.Image.{Image}
use Rattle.pn_types.specs.declared.limits.TheConstants.{TOOL_TEXT_LEN}
use Rattle.rv_word.specs.Plain.{Words}
use Rattle.rv_mem.specs.Start.{program_of}
use Rattle.tramp_spec.specs.Codes.{Code, text_code, tool_at}
use Rattle.tramp_spec.specs.declared.mark.Mark.{Mark}
use Rattle.tramp_spec.specs.declared.mark.MarkedWord.{MarkedWord}
use Rattle.code_store.specs.Owners.{Owners}

-- The words of a program, which stay; the words of text and tool text that harts fetch; and the points of the blocks to which
-- those of the tool text belong.
pub record StoredCode : Type 0 where
  pub program : Words
  pub code : Code
  pub owners : Owners

-- a word with its mark
abbrev pub marked : ℕ × Mark → MarkedWord
marked w = record { word = w.0; mark = w.1 }

-- the words of an image before anything is put
abbrev pub first_code : Image → StoredCode
first_code image = record { program = program_of image; code = text_code (program_of image); owners = empty }

-- this many words from an address on are words of the tool text
pub record IsInToolText (program : Words) (at len : ℕ) : Type 0 where
  pub aligned : at % 4 ≡ 0
  pub low : tool_at program ≤ at
  pub high : at + 4 * len ≤ tool_at program + TOOL_TEXT_LEN
