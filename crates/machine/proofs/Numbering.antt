-- The linkings that blocks tell of themselves.
use Rattle.std.proofs.Common.{◌≡◌, ℕ, ◌-◌, List, Option, Some, None, refl, sym, ap, ◌∙◌, arith}
use Rattle.std.specs.Prelude.{find, ◌==◌}
use Rattle.std.proofs.lemmas.Bool.{eq-eqb, eqb-true}
use Rattle.rv_word.specs.Plain.{Plain}
use Rattle.machine.specs.Cores.{In, Core}
use Rattle.machine.specs.Kept.{Linkings}
use Rattle.machine.proofs.Follow.{Numbers}
use Rattle.machine.proofs.Homes.{one_block}
use Rattle.machine.proofs.Invariant.{Piece, Inv}
use Rattle.machine.proofs.Lists.{find_gives, find_finds}

abbrev age_if : Option Piece → ℕ
age_if None = 0
age_if (Some x) = x.age

abbrev family_if : Option Piece → ℕ
family_if None = 0
family_if (Some x) = x.family

abbrev at_address : List Piece → ℕ → Option Piece
at_address ps a = find (λ x. x.row.at == a) ps

abbrev pub told_linkings : List Piece → ℕ → Linkings
told_linkings ps clock = record { count = clock - 1; number = λ a. age_if (at_address ps a); under = λ a. family_if (at_address ps a) }

module _ (c : Core) (s : Plain) (v : Inv c s) where
  found : (x : Piece) → In x v.ps → at_address v.ps x.row.at ≡ Some x
  found x h =
      let f = find_finds (λ q. q.row.at == x.row.at) v.ps x h (eq-eqb x.row.at x.row.at refl) in
      let g = find_gives (λ q. q.row.at == x.row.at) v.ps f.0 f.1 in
      f.1 ∙ ap (λ (q : Piece). Some q) (one_block c.program c.code c.rows v.ps v.clock v.static f.0 x g.0 h (eqb-true (f.0).row.at x.row.at g.1))

  pub told_numbers : Numbers (told_linkings v.ps v.clock) v.ps v.clock
  told_numbers = (let z = v.some in omega arith, λ x h lx. (ap age_if (sym (found x h)), ap family_if (sym (found x h))))
