use Rattle.std.proofs.Common.{List, ℕ, length, ◌≡◌, ◌+◌, ◌≤◌, ◌∙◌, None, sym, ap, subst, arith}
use Rattle.std.specs.Prelude.{true, false, IsTrue}
use Rattle.std.specs.Vec.{with_items}
use Rattle.std.proofs.lemmas.List.{with_items_is}
use Rattle.rv_exec.specs.Shared.{prog_in}
use Rattle.tramp_spec.specs.Harts.{Hart, Solo}
use Rattle.machine.specs.Alone.{alone_of, may_alone, TurnsLead}
use Rattle.machine.specs.contracts.hart.HartState.{the_view}
use Rattle.machine.specs.ToolRuns.{AreToolRun, stood_at}
use Rattle.machine.specs.declared.turning.Progress.{Progress}
use Rattle.machine.proofs.ToolRuns.{are_tool_turns, standing_inside}
use Rattle.machine.proofs.Stretches.{are_turns, left, left_standing, outside_below}
use Rattle.machine.proofs.turning.take_words.Goals as goal

pub returns-clause-leads : goal.returns-clause-leads
returns-clause-leads c =
    let a = c.args.progress.now in
    let i = c.hart.inside in
    let x : Hart = the_view i in
    let s = c.args.store.now in
    let p = prog_in c.args.shared.now in
    let t = c.run_words-turns.new in
    let n = c.run_words-turns.result in
    let q = prog_in t.shared in
    let y : Hart = the_view (record i { regs = t.regs }) in
    let outside = c.if-progress.false in
    let may = subst (λ (h : Hart). IsTrue (may_alone c.args.budget (alone_of a h p))) (sym c.hart.view_is) c.requires.may in
    let open_here = outside_below a x p c.args.budget may in
    let below = open_here.1 outside in
    let most = c.run_words-turns.ensures.bound in
    let least = c.min-words.ensures in
    let within : a.ticks + n ≤ c.args.budget = omega arith in
    let begins : left_standing a.ticks x.bank (left a.pc None x.regs p) ≡ alone_of a x p =
    ap (λ o. alone_of (record { pc = a.pc; ticks = a.ticks; inside = false }) (record x { stop = o }) p) (sym open_here.0)
    ∙ ap (λ b. alone_of (record { pc = a.pc; ticks = a.ticks; inside = b }) x p) (sym outside) in
    let ends : left_standing (a.ticks + n) x.bank (left t.pc None t.regs q) ≡ alone_of (record { pc = t.pc; ticks = a.ticks + n; inside = a.inside }) y q =
    ap (λ o. alone_of (record { pc = t.pc; ticks = a.ticks + n; inside = false }) (record y { stop = o }) q) (sym open_here.0)
    ∙ ap (λ b. alone_of (record { pc = t.pc; ticks = a.ticks + n; inside = b }) y q) (sym outside) in
    let after = alone_of (record { pc = t.pc; ticks = a.ticks + n; inside = a.inside }) y q in
    let ran = are_turns s c.args.number c.args.budget x.bank (left t.pc None t.regs q) n a.ticks (left a.pc None x.regs p) c.run_words-turns.ensures.ran within in
    subst (λ (h : Hart). TurnsLead s c.args.budget c.args.number n (alone_of a h p) after) c.hart.view_is
    (subst (λ (v : Solo). TurnsLead s c.args.budget c.args.number n v after) begins
    (subst (λ (v : Solo). TurnsLead s c.args.budget c.args.number n (left_standing a.ticks x.bank (left a.pc None x.regs p)) v) ends ran))

pub returns-then-progress-clause-leads : goal.returns-then-progress-clause-leads
returns-then-progress-clause-leads c =
    let a = c.args.progress.now in
    let i = c.hart.inside in
    let x : Hart = the_view i in
    let s = c.args.store.now in
    let p = prog_in c.args.shared.now in
    let t = c.run_tool_words.new in
    let n = c.run_tool_words.result in
    let y : Hart = the_view (record i { regs = t.regs; bank = with_items i.bank t.bank }) in
    let inside = c.if-progress.true in
    let may = subst (λ (h : Hart). IsTrue (may_alone c.args.budget (alone_of a h p))) (sym c.hart.view_is) c.requires.may in
    let none = (outside_below a x p c.args.budget may).0 in
    let z = stood_at t.progress.pc t.regs t.bank in
    let begins : standing_inside a.ticks (stood_at a.pc x.regs x.bank) p ≡ alone_of a x p =
    ap (λ o. alone_of (record { pc = a.pc; ticks = a.ticks; inside = true }) (record x { stop = o }) p) (sym none)
    ∙ ap (λ b. alone_of (record { pc = a.pc; ticks = a.ticks; inside = b }) x p) (sym inside) in
    let after = alone_of t.progress y (prog_in t.shared) in
    let kept : (with_items i.bank t.bank).items ≡ t.bank = with_items_is i.bank t.bank (c.run_tool_words.ensures.len ∙ (ap length c.as_mut_slice-bank.ensures.value ∙ sym i.bank.ok.0)) in
    let ends : standing_inside a.ticks z p ≡ after =
    ap (λ (bank : List ℕ). alone_of (record { pc = t.progress.pc; ticks = a.ticks; inside = true }) (record y { stop = None; bank = bank }) p) (sym kept)
    ∙ (ap (λ o. alone_of (record { pc = t.progress.pc; ticks = a.ticks; inside = true }) (record y { stop = o }) p) (sym none)
    ∙ (ap (λ b. alone_of (record { pc = t.progress.pc; ticks = a.ticks; inside = b }) y p) (sym inside)
    ∙ (ap (λ (g : Progress). alone_of g y p) (sym c.run_tool_words.ensures.stands)
    ∙ ap (alone_of t.progress y) (sym c.run_tool_words.ensures.shares)))) in
    let ran = subst (λ (bank : List ℕ). AreToolRun s a.ticks n (stood_at a.pc x.regs bank) z) c.as_mut_slice-bank.ensures.value c.run_tool_words.ensures.ran in
    subst (λ (h : Hart). TurnsLead s c.args.budget c.args.number n (alone_of a h p) after) c.hart.view_is
    (subst (λ (v : Solo). TurnsLead s c.args.budget c.args.number n v after) begins
    (subst (λ (v : Solo). TurnsLead s c.args.budget c.args.number n (standing_inside a.ticks (stood_at a.pc x.regs x.bank) p) v) ends
    (are_tool_turns s c.args.number c.args.budget a.ticks p z n (stood_at a.pc x.regs x.bank) ran)))
