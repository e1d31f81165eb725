use Rattle.std.proofs.Common.{◌∙◌, ap, subst, sym, length, List}
use Rattle.instrument.specs.Books.{Book}
use Rattle.instrument.specs.Listed.{AreNumberedBelow}
use Rattle.instrument.specs.Needs.{sites_in}
use Rattle.instrument.specs.Placers.{AreAdmitted, HasMemory}
use Rattle.instrument.specs.declared.instrument.Instrument.{Instrument}
use Rattle.instrument.proofs.Ready.{given_up, same_here}
use Rattle.instrument.proofs.placer.Placer.reserve.Goals as goal

pub invariant_of-self-in_err-take_memory : goal.invariant_of-self-in_err-take_memory
invariant_of-self-in_err-take_memory c =
    let k = c.self.invariant in
    given_up c.self.inside.text c.take_memory.new.text c.self.inside.roster c.take_memory.new.roster c.self.inside.count c.self.inside.kits.items c.clear.new.self.items k c.clear.ensures.items c.take_memory.ensures.kept c.take_memory.ensures.book c.take_memory.ensures.instruments

pub invariant_of-self-2 : goal.invariant_of-self-2
invariant_of-self-2 c =
    let e = c.in_ok-take_memory.ensures in
    record {
      memory = subst (λ n. HasMemory c.take_memory.new.text c.take_memory.new.roster c.self.inside.count n (length c.in_ok-kits.kits.items)) (c.in-Some.ensures ∙ ap sites_in c.as_slice.ensures.value)
          (subst (λ n. HasMemory c.take_memory.new.text c.take_memory.new.roster c.self.inside.count c.in-Some.sites n) (c.len.ensures ∙ c.in_ok-kits.kits.ok.0) e.memory);
      admitted = subst (λ (b : Book). AreAdmitted c.self.inside.count b.rooms) (sym e.book) c.self.invariant.admitted;
      listed = subst (λ (is : List Instrument). AreNumberedBelow c.self.inside.count is) (sym e.instruments) c.self.invariant.listed;
      here = same_here c.self.inside.text c.take_memory.new.text c.self.inside.roster c.take_memory.new.roster e.book e.instruments c.self.invariant.here;
    }
