-- What the admission of a plan needs in memory of its own, and what is ready.
use Rattle.std.specs.Prelude.{ℕ, ◌+◌, ◌==◌, ◌&&◌, if◌then◌else◌, Bool, List, [], ◌∷◌, length, map}
use Rattle.std.specs.Bool.{beq}
use Rattle.std.specs.Cmp.Lexicographic.{pointwise}
use Rattle.std.specs.Str.{bytes_eq}
use Rattle.pn_types.specs.declared.plan.Open.{Open}
use Rattle.pn_types.specs.declared.plan.Plan.{Plan}
use Rattle.pn_types.specs.declared.plan.Var.{Var}
use Rattle.prim_code.specs.Counts.{site_words}
use Rattle.instrument.specs.Opens.{is_open}

-- a copy of its variables and of its Opens, and how many words the mini block of each site has
pub record Need : Type 0 where
  pub vars : List Var
  pub words : List ℕ
  pub opens : List Open

abbrev pub need_of : Plan → Need
need_of plan = record { vars = plan.vars; words = map site_words plan.sites; opens = plan.opens }

-- ---- the same need

abbrev pub is_var : Var → Var → Bool
is_var v w = bytes_eq v.name w.name && (beq v.timer w.timer && (v.initially == w.initially))

abbrev pub is_need : Need → Need → Bool
is_need n m = pointwise is_var n.vars m.vars && (pointwise (λ v w. v == w) n.words m.words && pointwise is_open n.opens m.opens)

-- ---- several

-- how many sites they have
abbrev pub sites_in : List Need → ℕ
sites_in [] = 0
sites_in (n ∷ needs) = length n.words + sites_in needs

-- the needs without the first that is this one, if there is one
abbrev pub without : Need → List Need → List Need
without need [] = []
without need (n ∷ needs) = if is_need need n then needs else (n ∷ without need needs)
