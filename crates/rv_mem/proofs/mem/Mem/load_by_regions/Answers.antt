use Rattle.std.proofs.Common.{◌≡◌, ◌+◌, ◌^◌, ◌<◌, ℕ, arith, rules, ◌∙◌, sym, ap, subst, Ok, true, false, ◌≤◌}
use Rattle.rv_word.specs.Memory.{load, in_range}
use Rattle.rv_mem.specs.Regions.{number_in}
use Rattle.rv_mem.proofs.Maps.{funext, get_flat}
use Rattle.rv_mem.proofs.Numbers.{loaded}
use Rattle.rv_mem.proofs.mem.Mem.load_by_regions.Goals as goal

pub returns-in-Some-find_number-clause-value : goal.returns-in-Some-find_number-clause-value
returns-in-Some-find_number-clause-value c =
    let s = c.self.inside in
    let e : c.in-Some.end ≡ c.args.at + c.args.n = search rules in
    let l : c.args.at + c.args.n < 2 ^ 64 = search rules in
    let m : c.misses.result ≡ true = search rules in
    let out : (q : ℕ) → c.args.at ≤ q → q < c.args.at + c.args.n → in_range s.text_at s.text_len q ≡ false = λ q g k. c.misses.ensures m q g (omega arith) in
    subst (λ z. Ok c.in-Some-find_number.v ≡ load c.args.n z c.args.at) c.self.view_is (sym (loaded c.args.n _ c.args.at c.in-Some-find_number.v l out (ap (λ f. number_in c.args.n f c.args.at) (funext (get_flat s.regions.items)) ∙ c.in-Some-find_number.ensures.value)))
