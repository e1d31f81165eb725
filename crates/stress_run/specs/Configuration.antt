-- The configuration of a stress run: a search, and wishes that come one after another.
use Rattle.std.specs.Prelude.{ℕ, zero, suc, ◌+◌, ◌*◌, List, [], ◌∷◌, ◌++◌, codes, min}
use Rattle.std.specs.Fmt.{decimal}
use Rattle.std.specs.List.{concat}

-- the wish for the time of procedure number i: one more every 2000 ticks
unfoldable pub wish : ℕ → List ℕ
wish i = concat (
    codes "at " ∷ decimal (2000 * (i + 1)) ∷ codes " show cpu_inclusive /Code/program/w" ∷ decimal i ∷ codes ";\n" ∷ [])

-- the wishes for a number of procedures, from number i on
abbrev pub wishes : ℕ → ℕ → List ℕ
wishes zero i = []
wishes (suc left) i = wish i ++ wishes left (i + 1)

-- The configuration for n procedures: the search's bounds, the wish that stands from the start, and the wishes for at most
-- the first 8 procedures.
unfoldable pub configuration_text : ℕ → List ℕ
configuration_text n =
    codes "include metrics;\ninclude hypotheses;\nsearch { window 4; cost 4000; observed 1000000; }\n"
    ++ codes "at 0 show procedure_calls /Code;\n" ++ wishes (min n 8) 0
