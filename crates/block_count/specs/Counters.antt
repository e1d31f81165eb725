-- The counter of a basic block.
use Rattle.std.specs.Prelude.{ℕ, ◌+◌, ◌*◌, true, false, codes, List, [], ◌∷◌, length}
use Rattle.pn_types.specs.declared.placed.Placed.{Placed}
use Rattle.pn_types.specs.declared.plan.Act.TheVariants.{Up}
use Rattle.pn_types.specs.declared.plan.Plan.{Plan}
use Rattle.pn_types.specs.declared.plan.Stmt.{Stmt}
use Rattle.pn_types.specs.declared.plan.Var.{Var}
use Rattle.tramp_spec.specs.Blocks.{base_words, mini_words, tail_of}
use Rattle.tramp_spec.specs.Statements.{body_of}
use Rattle.tramp_spec.specs.declared.block.Block.{Block}
use Rattle.tramp_spec.specs.declared.mark.MarkedWord.{MarkedWord}

-- the one variable, which is 0 at first
abbrev pub passes : List Var
passes = record { name = codes "passes"; timer = false; initially = 0 } ∷ []

-- it goes up by one
abbrev pub one_more : List Stmt
one_more = record { conds = []; act = Up 0 } ∷ []

-- what is counted: the positions of the word at an address
abbrev pub plan_at : ℕ → Plan
plan_at point = record { vars = passes; sites = record { at = point; stmts = one_more } ∷ []; opens = [] }

-- a counter: the address of the word at which it counts, its slot, the address of its base block, and there the words that do what the
-- program's word does
pub record Counter : Type 0 where
  pub point : ℕ
  pub slot : ℕ
  pub at : ℕ
  pub moved : List MarkedWord

-- its mini block stands after the three words of the base block and the moved words
abbrev pub mini_at : Counter → ℕ
mini_at c = c.at + 4 * (3 + length c.moved)

-- the mini block has four words that count, and the jump to the base block's tail
abbrev pub end_of : Counter → ℕ
end_of c = mini_at c + 4 * 5

abbrev pub base_of : Counter → Block
base_of c = record { point = c.point; at = c.at; words = base_words c.at (tail_of c.at) c.moved; base = true }

abbrev pub mini_of : Counter → Block
mini_of c = record {
  point = c.point;
  at = mini_at c;
  words = mini_words (mini_at c) (body_of (c.slot ∷ []) one_more) (tail_of c.at);
  base = false;
}

abbrev pub placed_of : Counter → Placed
placed_of c = record { vars = passes; slots = c.slot ∷ []; sites = record { at = c.point; mini = mini_at c } ∷ []; opens = [] }

abbrev pub counter_at : ℕ → ℕ → ℕ → List MarkedWord → Counter
counter_at point slot at moved = record { point = point; slot = slot; at = at; moved = moved }
