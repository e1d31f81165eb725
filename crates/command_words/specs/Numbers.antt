-- The numbers among the words.
use Rattle.std.specs.Prelude.{ℕ, nat_le, if◌then◌else◌, Option, Some, None, codes}
use Rattle.std.specs.Option.{option_and_then, option_map_or}
use Rattle.pn_types.specs.declared.limits.TheConstants.{MAX_HARTS, MAX_WORKERS, MAX_BUDGET, MAX_QUANTUM, MIN_BINS, MAX_BINS, MAX_WIDTH, MAX_INSTRUMENTS}
use Rattle.pn_text.specs.Numbers.{small_number}
use Rattle.command_words.specs.Grammar.{Text, Given}

-- a number of 1 to 10 digits from `least` to `most`
abbrev pub number_between : ℕ → ℕ → Text → Option ℕ
number_between least most text = option_and_then (λ n. if nat_le least n then Some n else None) (small_number text most)

-- an option whose value is a number: its name, its range, and the number that holds where it isn't given
pub record NumberOption : Type 0 where
  pub name : Text
  pub least : ℕ
  pub most : ℕ
  pub default : ℕ

abbrev pub harts_option : NumberOption
harts_option = record { name = codes "harts"; least = 1; most = MAX_HARTS; default = 1 }

abbrev pub workers_option : NumberOption
workers_option = record { name = codes "workers"; least = 1; most = MAX_WORKERS; default = 2 }

abbrev pub seed_option : NumberOption
seed_option = record { name = codes "seed"; least = 0; most = 4294967295; default = 0 }

-- the most turns of a quantum
abbrev pub quantum_option : NumberOption
quantum_option = record { name = codes "quantum"; least = 1; most = MAX_QUANTUM; default = 50 }

abbrev pub budget_option : NumberOption
budget_option = record { name = codes "budget"; least = 1; most = MAX_BUDGET; default = 1000000 }

abbrev pub bins_option : NumberOption
bins_option = record { name = codes "bins"; least = MIN_BINS; most = MAX_BINS; default = 64 }

abbrev pub width_option : NumberOption
width_option = record { name = codes "width"; least = 1; most = MAX_WIDTH; default = 1000 }

-- the threads that view a run
abbrev pub views_option : NumberOption
views_option = record { name = codes "views"; least = 1; most = 8; default = 2 }

abbrev pub instruments_option : NumberOption
instruments_option = record { name = codes "instruments"; least = 1; most = MAX_INSTRUMENTS; default = 64 }

-- how many procedures a table of a profile has, at most
abbrev pub top_option : NumberOption
top_option = record { name = codes "top"; least = 1; most = 1000000; default = 20 }

-- how many columns a report is shown in
abbrev pub columns_option : NumberOption
columns_option = record { name = codes "columns"; least = 20; most = 1000; default = 80 }

-- the tick from which on something is asked for
abbrev pub from_option : NumberOption
from_option = record { name = codes "from"; least = 0; most = 2147483647; default = 0 }

-- the number that an option gives, or its default where it isn't given
abbrev pub number_given : Given → NumberOption → Option ℕ
number_given given option = option_map_or (number_between option.least option.most) (given option.name) (Some option.default)
