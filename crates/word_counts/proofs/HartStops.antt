-- How harts stopped says how they ended.
use Rattle.std.proofs.Common.{◌≡◌, ℕ, List, [], ◌∷◌, Option, Some, None, refl, ap, ◌∙◌, Bool, true, false}
use Rattle.std.specs.Prelude.{is_some, map}
use Rattle.rv_word.specs.Plain.{PlainHart, may_go}
use Rattle.rv_word.specs.declared.outcome.Cause.{Cause}
use Rattle.rv_word.specs.declared.outcome.Cause.TheVariants.{Exit, Illegal, Break, Misaligned, Access, TextAccess, FetchOutside}
use Rattle.report.specs.HartEnds.{hart_end}
use Rattle.block_count.specs.Counted.{stop_of}
use Rattle.word_flow.specs.HartEnds.{hart_end_of, hart_ends_of}
use Rattle.word_counts.specs.Stops.{end_of_stop, is_stopped}

is_stopped-hart_end : (o : Option Cause) (going : Bool) → is_stopped (hart_end o going) ≡ is_some o
is_stopped-hart_end None true = refl
is_stopped-hart_end None false = refl
is_stopped-hart_end (Some (Exit s)) going = refl
is_stopped-hart_end (Some Illegal) going = refl
is_stopped-hart_end (Some Break) going = refl
is_stopped-hart_end (Some Misaligned) going = refl
is_stopped-hart_end (Some (Access a)) going = refl
is_stopped-hart_end (Some (TextAccess a)) going = refl
is_stopped-hart_end (Some FetchOutside) going = refl

pub ends_of_stops : (budget : ℕ) (hs : List PlainHart) → map end_of_stop (map (stop_of budget) hs) ≡ hart_ends_of hs
ends_of_stops budget [] = refl
ends_of_stops budget (x ∷ xs) =
    ap (λ b. record { is_stopped = b; pc = x.pc } ∷ map end_of_stop (map (stop_of budget) xs))
    (is_stopped-hart_end x.stop (may_go (Some x) budget))
    ∙ ap (λ es. hart_end_of x ∷ es) (ends_of_stops budget xs)
