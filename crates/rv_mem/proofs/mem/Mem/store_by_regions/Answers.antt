use Rattle.std.proofs.Common.{◌≡◌, ◌+◌, ◌^◌, ◌<◌, ◌≤◌, ℕ, Ok, arith, rules, subst, true, false}
use Rattle.rv_word.specs.Memory.{store, in_range}
use Rattle.rv_mem.proofs.Overlays.{memory_in, store-regions}
use Rattle.rv_mem.proofs.Clear.{numbers_kept, clear_kept}
use Rattle.rv_mem.proofs.mem.Mem.store_by_regions.Goals as goal

pub returns-then-put_number-clause-stored : goal.returns-then-put_number-clause-stored
returns-then-put_number-clause-stored c =
    let s = c.self.inside in
    let e : c.in-Some.end ≡ c.args.at + c.args.n = search rules in
    let l : c.args.at + c.args.n < 2 ^ 64 = search rules in
    let m : c.misses.result ≡ true = search rules in
    let done : c.put_number.result ≡ true = search rules in
    let out : (q : ℕ) → c.args.at ≤ q → q < c.args.at + c.args.n → in_range s.text_at s.text_len q ≡ false = λ q g k. c.misses.ensures m q g (omega arith) in
    let new = c.put_number.new.regions.items in
    subst (λ z. store c.args.n z c.args.at c.args.v ≡ Ok (memory_in s.text_at s.text_len new)) c.self.view_is (store-regions c.args.n s.text_at s.text_len s.regions.items new c.args.at c.args.v l out (c.put_number.ensures.there done) (c.put_number.ensures.put done))

pub invariant_of-self : goal.invariant_of-self
invariant_of-self c =
    let s = c.self.inside in (
      clear_kept s.text_at s.text_len s.regions.items c.put_number.new.regions.items c.self.invariant.0 c.put_number.ensures.shape,
      numbers_kept s.regions.items c.put_number.new.regions.items s.pages.items c.self.invariant.1 c.put_number.ensures.shape,
    )

pub invariant_of-self-else-put_number : goal.invariant_of-self-else-put_number
invariant_of-self-else-put_number c =
    let s = c.self.inside in (
      clear_kept s.text_at s.text_len s.regions.items c.put_number.new.regions.items c.self.invariant.0 c.put_number.ensures.shape,
      numbers_kept s.regions.items c.put_number.new.regions.items s.pages.items c.self.invariant.1 c.put_number.ensures.shape,
    )
