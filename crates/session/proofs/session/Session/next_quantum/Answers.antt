use Rattle.std.proofs.Common.{◌≡◌, ℕ, ap₂, ◌∙◌, ◌+◌, ◌<◌, ◌≤◌, ◌++◌, ◌∷◌, [], List, ap, sym, subst, length, arith}
use Rattle.std.specs.Prelude.{drop, false, true}
use Rattle.pn_types.specs.declared.limits.TheConstants.{MAX_QUANTA}
use Rattle.pn_types.specs.declared.quantum.Quantum.{Quantum}
use Rattle.mdl_check.specs.declared.checked.CheckedWish.{CheckedWish}
use Rattle.machine.specs.Cores.{Core, In}
use Rattle.machine.specs.Quanta.{KeepsBudget}
use Rattle.machine.specs.Replays.{owns}
use Rattle.machine.specs.States.{quantum_turns}
use Rattle.machine.specs.Turns.{is_runnable}
use Rattle.session.specs.Kept.{IsTableAfter}
use Rattle.session.specs.Sessions.{SessionData, state_at, state_of}
use Rattle.session_spec.specs.Work.{after_quanta}
use Rattle.session.specs.Tables.{IsAfterAdmission, StateTable, table_tended}
use Rattle.session_spec.specs.States.{SessionState}
use Rattle.session.proofs.Halting.{allowed_now, budget_kept, can_sample_now, costs, drop_sum, program_kept}
use Rattle.session.proofs.Owns.{taken_few}
use Rattle.session.proofs.Quanta.{drop_many, quantum_kept}
use Rattle.session.proofs.session.Session.next_quantum.Goals as goal

-- ---- the admission

pub admit_from-requires-clause-wishes : goal.admit_from-requires-clause-wishes
admit_from-requires-clause-wishes c w h = c.self.invariant.0.wishes w (subst (λ (l : List CheckedWish). In w (drop c.self.inside.looked l)) c.deref.ensures.value h)

pub admit_from-requires-clause-program : goal.admit_from-requires-clause-program
admit_from-requires-clause-program c =
    let s = c.self.inside in
    program_kept s.inputs s.quanta.items s.closed (drop s.looked s.wishes.items) s.stored c.self.invariant.0

pub admit_from-requires-clause-few : goal.admit_from-requires-clause-few
admit_from-requires-clause-few c =
    let s = c.self.inside in
    let few : length s.quanta.items < MAX_QUANTA = subst (λ (x : SessionData). length x.quanta < MAX_QUANTA) (sym c.self.view_is) (c.requires.few) in
    let many = c.self.invariant.0.many in
    let wishes = c.self.invariant.0.given.few_wishes in
    let items = ap (λ (l : List CheckedWish). length (drop s.looked l)) c.deref.ensures.value in
    omega arith

pub admit_from-requires-clause-costs : goal.admit_from-requires-clause-costs
admit_from-requires-clause-costs c = let s = c.self.inside in costs s.inputs s.stored.samples s.stored.pairs c.self.invariant.0.pairs

-- ---- the turns

pub tend-owns-requires-clause-time : goal.tend-owns-requires-clause-time
tend-owns-requires-clause-time c =
    let s = c.self.inside in
    let few : length s.quanta.items < MAX_QUANTA = subst (λ (x : SessionData). length x.quanta < MAX_QUANTA) (sym c.self.view_is) (c.requires.few) in
    let going : s.closed ≡ false = ap (λ (x : SessionData). x.closed) c.self.view_is ∙ c.requires.going in
    let time = c.self.invariant.0.sooner going in
    let same = ap (λ (x : StateTable). x.time) (c.in_ok-looked.ensures.ok.stays).same in
    omega arith

pub tend-owns-requires-clause-idle : goal.tend-owns-requires-clause-idle
tend-owns-requires-clause-idle c =
    let s = c.self.inside in
    let few : length s.quanta.items < MAX_QUANTA = subst (λ (x : SessionData). length x.quanta < MAX_QUANTA) (sym c.self.view_is) (c.requires.few) in
    let going : s.closed ≡ false = ap (λ (x : SessionData). x.closed) c.self.view_is ∙ c.requires.going in
    let idle = c.self.invariant.0.idle going in
    let same = ap (λ (x : StateTable). x.idle) (c.in_ok-looked.ensures.ok.stays).same in
    omega arith

pub tend-owns-requires-clause-soon : goal.tend-owns-requires-clause-soon
tend-owns-requires-clause-soon c =
    let s = c.self.inside in
    let going : s.closed ≡ false = ap (λ (x : SessionData). x.closed) c.self.view_is ∙ c.requires.going in
    let soon = c.self.invariant.0.soon going in
    let last = ap (λ (x : StateTable). x.last) (c.in_ok-looked.ensures.ok.stays).same in
    let due = ap (λ (x : StateTable). x.due) (c.in_ok-looked.ensures.ok.stays).same in
    omega arith

pub tend-owns-requires-clause-sampled : goal.tend-owns-requires-clause-sampled
tend-owns-requires-clause-sampled c =
    let s = c.self.inside in
    let few : length s.quanta.items < MAX_QUANTA = subst (λ (x : SessionData). length x.quanta < MAX_QUANTA) (sym c.self.view_is) (c.requires.few) in
    let going : s.closed ≡ false = ap (λ (x : SessionData). x.closed) c.self.view_is ∙ c.requires.going in
    can_sample_now s.inputs s.quanta.items s.closed (drop s.looked s.wishes.items) s.stored c.admit_from.new.stored c.in_ok-looked.looked c.self.invariant.0 few
    (subst (λ (l : List CheckedWish). IsAfterAdmission s.inputs (drop s.looked l) s.stored c.admit_from.new.stored c.in_ok-looked.looked) c.deref.ensures.value c.in_ok-looked.ensures.ok) going

pub overflow_cast-quantum-4 : goal.overflow_cast-quantum-4
overflow_cast-quantum-4 c =
    let core = c.admit_from.new.stored.machine.state.core in
    let own = c.tend-owns.ensures.owns in
    let few : length (owns (quantum_turns c.args.turns c.numbered.result core) core) ≤ c.args.turns = taken_few c.numbered.result c.args.turns core in
    let most = c.requires.turns.1 in
    omega arith

-- what is kept after it
kept_now : (c : goal.After-put_quantum) → IsTableAfter c.self.inside.inputs (c.put_quantum.new.list.items) false (drop (c.self.inside.looked + c.in_ok-looked.looked) c.self.inside.wishes.items) c.tend-owns.new.self
kept_now c =
    let s = c.self.inside in
    let i = s.inputs in
    let later = drop s.looked s.wishes.items in
    let n = c.in_ok-looked.looked in
    let q : Quantum = record { worker = c.args.worker; hart = c.args.hart; turns = c.args.turns; owns = c.tend-owns.result } in
    let few : length s.quanta.items < MAX_QUANTA = subst (λ (x : SessionData). length x.quanta < MAX_QUANTA) (sym c.self.view_is) (c.requires.few) in
    let going : s.closed ≡ false = ap (λ (x : SessionData). x.closed) c.self.view_is ∙ c.requires.going in
    let k : IsTableAfter i s.quanta.items false later s.stored = subst (λ b. IsTableAfter i s.quanta.items b later s.stored) going c.self.invariant.0 in
    let admitted : IsAfterAdmission i later s.stored c.admit_from.new.stored n = subst (λ (l : List CheckedWish). IsAfterAdmission i (drop s.looked l) s.stored c.admit_from.new.stored n) c.deref.ensures.value c.in_ok-looked.ensures.ok in
    let e = c.tend-owns.ensures in
    let table : c.tend-owns.new.self ≡ table_tended i.settings.width c.args.hart c.args.turns c.admit_from.new.stored =
    e.table ∙ ap₂ (λ (w h : ℕ). table_tended w h c.args.turns c.admit_from.new.stored) c.width-width.ensures c.numbered.ensures in
    let core = c.admit_from.new.stored.machine.state.core in
    let own : c.tend-owns.result ≡ length (owns (quantum_turns c.args.turns c.args.hart core) core) = e.owns ∙ ap (λ (h : ℕ). length (owns (quantum_turns c.args.turns h core) core)) c.numbered.ensures in
    let hart : c.args.hart < i.settings.harts = subst (λ (x : SessionData). c.args.hart < x.inputs.settings.harts) (sym c.self.view_is) c.requires.hart in
    let going_on : is_runnable (state_at i s.quanta.items s.closed).kept.machine.core c.args.hart ≡ true =
    subst (λ (x : SessionData). is_runnable (state_of x).kept.machine.core c.args.hart ≡ true) (sym c.self.view_is) (c.requires.open) in
    let runs : is_runnable (after_quanta i s.quanta.items).kept.machine.core c.args.hart ≡ true = subst (λ b. is_runnable (state_at i s.quanta.items b).kept.machine.core c.args.hart ≡ true) going going_on in
    let allowed = allowed_now i s.quanta.items false later s.stored c.admit_from.new.stored n k few admitted q c.requires.worker hart c.requires.turns.0 c.requires.turns.1 runs own in
    let kept = quantum_kept i s.quanta.items later s.stored c.admit_from.new.stored c.tend-owns.new.self n q k few admitted table e.harts e.later e.idle e.soon e.live allowed in
    let quanta : c.put_quantum.new.list.items ≡ s.quanta.items ++ q ∷ [] = c.put_quantum.ensures.items ∙ ap (λ (l : List Quantum). l ++ q ∷ []) c.in_ok-reserve.ensures.items in
    subst (λ (l : List CheckedWish). IsTableAfter i c.put_quantum.new.list.items false l c.tend-owns.new.self) (sym (drop_sum n s.looked s.wishes.items))
    (subst (λ (l : List Quantum). IsTableAfter i l false (drop n later) c.tend-owns.new.self) (sym quanta) kept)

kept_on : (c : goal.After-put_quantum)
    → IsTableAfter c.self.inside.inputs (c.put_quantum.new.list.items) c.self.inside.closed (drop (c.self.inside.looked + c.in_ok-looked.looked) c.self.inside.wishes.items) c.tend-owns.new.self
kept_on c =
    let s = c.self.inside in
    let going : s.closed ≡ false = ap (λ (x : SessionData). x.closed) c.self.view_is ∙ c.requires.going in
    subst (λ b. IsTableAfter s.inputs c.put_quantum.new.list.items b (drop (s.looked + c.in_ok-looked.looked) s.wishes.items) c.tend-owns.new.self) (sym going) (kept_now c)

pub invariant_of-self-2 : goal.invariant_of-self-2
invariant_of-self-2 c =
    let s = c.self.inside in
    let admitted : IsAfterAdmission s.inputs (drop s.looked s.wishes.items) s.stored c.admit_from.new.stored c.in_ok-looked.looked =
    subst (λ (l : List CheckedWish). IsAfterAdmission s.inputs (drop s.looked l) s.stored c.admit_from.new.stored c.in_ok-looked.looked) c.deref.ensures.value c.in_ok-looked.ensures.ok in
    let low = admitted.looked in
    let first = c.self.invariant.1 in
    let len = c.deref.ensures.len in
    let items = ap (λ (l : List CheckedWish). length l) c.deref.ensures.value in
    let left = drop_many s.looked s.wishes.items (omega arith) in (
      kept_on c,
      omega arith,
      c.admit_from.ensures.known,
    )

pub returns-clause-machine : goal.returns-clause-machine
returns-clause-machine c = ap (λ (k : SessionState). k.machine) (kept_on c).state.kept

-- ---- the budget

pub returns-clause-budget : goal.returns-clause-budget
returns-clause-budget c =
    let s = c.self.inside in
    budget_kept s.inputs c.put_quantum.new.list.items s.closed (drop (s.looked + c.in_ok-looked.looked) s.wishes.items) c.tend-owns.new.self (kept_on c)

pub returns-in_err-reserve-clause-budget : goal.returns-in_err-reserve-clause-budget
returns-in_err-reserve-clause-budget c = let s = c.self.inside in budget_kept s.inputs s.quanta.items s.closed (drop s.looked s.wishes.items) s.stored c.self.invariant.0

pub returns-in_err-looked-clause-budget : goal.returns-in_err-looked-clause-budget
returns-in_err-looked-clause-budget c =
    let s = c.self.inside in
    subst (λ (x : Core). KeepsBudget x) (sym (ap (λ (t : StateTable). t.machine.state.core) c.in_err-looked.ensures.err))
    (budget_kept s.inputs s.quanta.items s.closed (drop s.looked s.wishes.items) s.stored c.self.invariant.0)
