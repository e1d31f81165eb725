use Rattle.std.proofs.Common.{◌≡◌, Ok, Err, subst, sym, ◌∙◌, false, rules}
use Rattle.rv_word.specs.Memory.{cell}
use Rattle.rv_word.specs.declared.outcome.MemStop.TheVariants.{Unmapped}
use Rattle.rv_mem.proofs.Maps.{get_flat}
use Rattle.rv_mem.proofs.Writes.{outside}
use Rattle.rv_mem.proofs.mem.Mem.byte.Goals as goal

pub returns-in-Some : goal.returns-in-Some
returns-in-Some c =
    let f : false ≡ c.is_within.result = search rules in
    subst (λ m. Ok c.in-Some.byte ≡ cell m c.args.at) c.self.view_is (outside _ _ c.args.at _ _ (f ∙ c.is_within.ensures) (get_flat c.self.inside.regions.items c.args.at ∙ sym c.find_byte.ensures ∙ c.in-Some.is))

pub returns-in-None : goal.returns-in-None
returns-in-None c =
    let f : false ≡ c.is_within.result = search rules in
    subst (λ m. Err (Unmapped c.args.at) ≡ cell m c.args.at) c.self.view_is (outside _ _ c.args.at _ _ (f ∙ c.is_within.ensures) (get_flat c.self.inside.regions.items c.args.at ∙ sym c.find_byte.ensures ∙ c.in-None.is))
