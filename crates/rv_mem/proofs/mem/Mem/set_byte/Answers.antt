use Rattle.std.proofs.Common.{ap, sym, subst, IsOk, ◌∙◌}
use Rattle.std.specs.Option.{IsSome}
use Rattle.rv_word.specs.Memory.{cell, set_byte, in_range}
use Rattle.rv_word.specs.declared.outcome.MemStop.TheVariants.{InText}
use Rattle.rv_mem.proofs.Maps.{get_flat, put_flat}
use Rattle.rv_mem.proofs.Writes.{is_there}
use Rattle.rv_mem.proofs.Clear.{numbers_kept, clear_kept}
use Rattle.rv_mem.proofs.mem.Mem.set_byte.Goals as goal

pub put_byte-requires : goal.put_byte-requires
put_byte-requires c =
    let s = c.self.inside in
    subst IsSome (get_flat s.regions.items c.args.at) (is_there (in_range s.text_at s.text_len c.args.at) (InText c.args.at) c.args.at _ (subst (λ m. IsOk (cell m c.args.at)) (sym c.self.view_is) c.requires))

pub returns : goal.returns
returns c =
    let s = c.self.inside in
    ap (λ cells. record { text_at = s.text_at; text_len = s.text_len; cells = cells }) (put_flat s.regions.items c.put_byte.new.regions.items c.args.at c.args.byte c.put_byte.ensures.put) ∙ ap (λ m. set_byte m c.args.at c.args.byte) c.self.view_is

pub invariant_of-self : goal.invariant_of-self
invariant_of-self c =
    let s = c.self.inside in (
      clear_kept s.text_at s.text_len s.regions.items c.put_byte.new.regions.items c.self.invariant.0 c.put_byte.ensures.shape,
      numbers_kept s.regions.items c.put_byte.new.regions.items s.pages.items c.self.invariant.1 c.put_byte.ensures.shape,
    )
