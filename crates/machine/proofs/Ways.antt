-- From block to block, what a hart's bank tells of an instrument in force.
use Rattle.std.proofs.Common.{◌≡◌, ℕ, ◌+◌, ◌-◌, ◌^◌, ◌<◌, ◌≤◌, List, length, Some, None, sym, ap, ◌∙◌, subst, arith, ⊎_elim, inl, inr}
use Rattle.std.specs.Prelude.{Bool, ◌⊎◌}
use Rattle.std.proofs.lemmas.Bool.{cases_lt, cases_order}
use Rattle.pn_types.specs.declared.placed.Placed.{Placed}
use Rattle.pn_types.specs.declared.placed.PlacedSite.{PlacedSite}
use Rattle.pn_types.specs.declared.plan.Plan.{Plan}
use Rattle.rv_word.specs.Plain.{Words, PlainHart}
use Rattle.rv_word.specs.Registers.{arguments_of}
use Rattle.tramp_spec.specs.Bodies.{Stands, bank_at_end}
use Rattle.tramp_spec.specs.Codes.{Code}
use Rattle.tramp_spec.specs.Harts.{Hart, bench_of}
use Rattle.tramp_spec.specs.Slots.{places_of}
use Rattle.tramp_spec.specs.Statements.{body_of}
use Rattle.tramp_spec.specs.declared.mark.MarkedWord.{MarkedWord}
use Rattle.prim_code.specs.Standing.{SameSlots}
use Rattle.machine.specs.Cores.{In, Row}
use Rattle.machine.specs.Instruments.{IsMiniOf, Spares}
use Rattle.machine.specs.Measures.{Level, site_values, site_at}
use Rattle.machine.proofs.Force.{acted, Mine, Ready, Way}
use Rattle.machine.proofs.Homes.{one_block}
use Rattle.machine.proofs.Invariant.{Piece, Linked, LiveOf, Leads, Static, Saved}
use Rattle.machine.proofs.Told.{Stand, Stood, starts, behind, same_told, unmoved, works}

-- the arguments are the program's
pub same_arguments : (x : Hart) (y : PlainHart) → Saved x y → arguments_of x.regs ≡ arguments_of y.regs
same_arguments x y k =
    let a = k.agree 10 (omega arith) (λ e. omega arith) in
    let b = k.agree 11 (omega arith) (λ e. omega arith) in
    let c = k.agree 12 (omega arith) (λ e. omega arith) in
    let d = k.agree 13 (omega arith) (λ e. omega arith) in
    let e = k.agree 14 (omega arith) (λ e. omega arith) in
    let f = k.agree 15 (omega arith) (λ e. omega arith) in
    let g = k.agree 16 (omega arith) (λ e. omega arith) in
    let h = k.agree 17 (omega arith) (λ e. omega arith) in cc

module _ (i : Placed) (plan : Plan) (families ages : ℕ → ℕ) (t : Words) (code : Code) (rows : List Row) (ps : List Piece) (clock : ℕ) (st : Static t code rows ps clock) (rd : Ready i plan families ages ps) (budget : ℕ) (cap : budget < 2 ^ 64) (x : Hart) (y : PlainHart) (v : Level) where
  mine : (s : PlacedSite) → In s i.sites → Mine i plan families ages ps s
  mine = rd.mines

  -- where no site is nothing acts
  pub none_acts : site_at plan y.pc ≡ None → acted plan y v ≡ v
  none_acts e = ap (λ o. record { values = site_values o (arguments_of y.regs) v.values; runs = v.runs }) e

  pub no_site : (s : PlacedSite) → In s i.sites → s.at ≡ y.pc → site_at plan y.pc ≡ None → ⊥
  no_site s h e n = let k = mine s h in let f = ap (site_at plan) (sym e) ∙ k.found in let z = sym n ∙ f in absurd cc

  -- a position without statements
  pub rests : site_at plan y.pc ≡ None → (bank : List ℕ) (ticks : ℕ) → Stand i budget v bank ticks → Stood i budget (acted plan y v) bank ticks
  rests e bank ticks k = subst (λ w. Stood i budget w bank ticks) (sym (none_acts e)) (unmoved i budget v bank ticks k)

  -- a body that leaves the slots
  spared : (m : Piece) → Spares i m.body → Stands m.body m.row.at (bench_of x) → SameSlots (places_of i) x.bank (bank_at_end m.body m.row.at (bench_of x) x.ticks)
  spared m s k q h = s q h m.row.at x.ticks (bench_of x) k

  past : (m : Piece) (w : Level) → Spares i m.body → Stands m.body m.row.at (bench_of x)
      → (Stand i budget w x.bank x.ticks → Stand i budget w (bank_at_end m.body m.row.at (bench_of x) x.ticks) x.ticks)
      × (Stood i budget w x.bank x.ticks → Stood i budget w (bank_at_end m.body m.row.at (bench_of x) x.ticks) x.ticks)
  past m w s k = (
    same_told (places_of i) (length i.vars) (starts (budget - x.ticks)) w x.bank (bank_at_end m.body m.row.at (bench_of x) x.ticks) x.ticks (spared m s k),
    same_told (places_of i) (length i.vars) (starts (budget - (x.ticks + 1))) w x.bank (bank_at_end m.body m.row.at (bench_of x) x.ticks) x.ticks (spared m s k),
  )

  -- the instrument's own
  own_works : (s : PlacedSite) (h : In s i.sites) (m : Piece) → m ≡ (mine s h).x → s.at ≡ y.pc → Stands m.body m.row.at (bench_of x) → x.ticks < budget → Saved x y → Stand i budget v x.bank x.ticks
      → Stood i budget (acted plan y v) (bank_at_end m.body m.row.at (bench_of x) x.ticks) x.ticks
  own_works s h m is e k low sv stand =
      let n = mine s h in
      let body : m.body ≡ body_of i.slots (n.site).stmts = ap (λ (u : Piece). u.body) is ∙ n.body in
      let here : site_at plan y.pc ≡ Some n.site = ap (site_at plan) (sym e) ∙ n.found in
      let f = rd.fits in
      let acts : acted plan y v ≡ behind (n.site).stmts (arguments_of x.regs) v =
      ap (λ o. record { values = site_values o (arguments_of y.regs) v.values; runs = v.runs }) here ∙ ap (λ a. behind (n.site).stmts a v) (sym (same_arguments x y sv)) in
      subst (λ w. Stood i budget w (bank_at_end m.body m.row.at (bench_of x) x.ticks) x.ticks) (sym acts)
      (subst (λ (b : List MarkedWord). Stood i budget (behind (n.site).stmts (arguments_of x.regs) v) (bank_at_end b m.row.at (bench_of x) x.ticks) x.ticks) (sym body)
      (works i budget (n.site).stmts m.row.at x.ticks (bench_of x) v f.many f.places (f.stmts y.pc n.site here) (f.few y.pc n.site here)
      (subst (λ (b : List MarkedWord). Stands b m.row.at (bench_of x)) body k) low cap stand))

  -- a mini block of the program's point is the instrument's or leaves its slots
  whose : (m : Piece) → In m ps → Linked m → m.row.point ≡ y.pc → ((s : PlacedSite) × In s i.sites × (s.at ≡ y.pc) × (s.mini ≡ m.row.at)) ⊎ Spares i m.body
  whose m hm k e = ⊎_elim
      (λ (o : IsMiniOf i m.row.at).
      let n = mine o.0 o.1 in
      let same : n.x ≡ m = one_block t code rows ps clock st n.x m n.is_in hm (n.at ∙ o.2) in
      inl (o.0, o.1, sym n.point ∙ (ap (λ (u : Piece). u.row.point) same ∙ e), o.2))
      (λ s. inr s) (rd.spares m hm k.mini)

  -- one that isn't the instrument's own of this site leaves them
  others : (s : PlacedSite) (h : In s i.sites) → s.at ≡ y.pc → (m : Piece) → In m ps → Linked m → m.row.point ≡ y.pc → (m ≡ (mine s h).x → ⊥) → Spares i m.body
  others s h e m hm k ep not = ⊎_elim
      (λ (o : (r : PlacedSite) × In r i.sites × (r.at ≡ y.pc) × (r.mini ≡ m.row.at)).
      let same = (rd.fits).one s o.0 h o.1 (e ∙ sym o.2) in
      let n = mine s h in
      absurd (not (one_block t code rows ps clock st m n.x hm n.is_in (sym o.3 ∙ (sym (ap (λ (u : PlacedSite). u.mini) same) ∙ sym n.at)))))
      (λ z. z) (whose m hm k ep)

  -- to a mini block: no live one of the family lies between
  pub onto_mini : (family n q : ℕ) (live : Bool) (l : Leads ps family n q live) (m : Piece) → In m ps → Linked m → m.family ≡ family → m.age ≡ l.lo → m.row.point ≡ y.pc
      → Stands m.body m.row.at (bench_of x) → x.ticks < budget → Saved x y → Way i plan families ages budget y v family n x.bank x.ticks
      → Way i plan families ages budget y v m.family m.age (bank_at_end m.body m.row.at (bench_of x) x.ticks) x.ticks
  onto_mini family n q live l m hm km ef ea ep k low sv way = record {
    none = λ e. (past m v (⊎_elim (λ (o : (r : PlacedSite) × In r i.sites × (r.at ≡ y.pc) × (r.mini ≡ m.row.at)). absurd (no_site o.0 o.1 o.2 e)) (λ z. z) (whose m hm km ep)) k).0 (way.none e);
    some = λ s h e.
        let o = way.some s h e in
        let u = mine s h in
        let below = l.below in
        let age = u.age in
        let fam : (u.x).family ≡ family = u.family ∙ o.0 in
        let live : LiveOf family u.x = record { mini = (u.linked).mini; of = fam; live = u.live } in (
          o.0 ∙ sym ef,
          λ less. (past m v (others s h e m hm km ep (λ same. let a = ap (λ (z : Piece). z.age) same in omega arith)) k).0 (o.1 (omega arith)),
          λ ge. ⊎_elim
              (λ (same : m.age ≡ (u.x).age). own_works s h m (st.distinct m u.x hm u.is_in km u.linked same) e k low sv (o.1 (omega arith)))
              (λ (z : (m.age < (u.x).age) ⊎ ((u.x).age < m.age)). ⊎_elim
              (λ less. ⊎_elim
              (λ (between : (u.x).age < n). absurd (l.free u.x u.is_in live (omega arith) between))
              (λ (beyond : n ≤ (u.x).age). (past m (acted plan y v) (others s h e m hm km ep (λ same. let a = ap (λ (z : Piece). z.age) same in omega arith)) k).1 (o.2 (omega arith)))
              (cases_lt (u.x).age n))
              (λ more. absurd (omega arith)) z)
              (cases_order m.age (u.x).age),
        );
  }

  -- to the tail: all have acted
  pub onto_tail : (family n q : ℕ) (live : Bool) (l : Leads ps family n q live) → l.lo ≡ 0 → Way i plan families ages budget y v family n x.bank x.ticks → Stood i budget (acted plan y v) x.bank x.ticks
  onto_tail family n q live l e way = ⊎_elim
      (λ z. rests z x.bank x.ticks (way.none z))
      (λ (r : (s : PlacedSite) × In s i.sites × (s.at ≡ y.pc)).
      let o = way.some r.0 r.1 r.2 in
      let u = mine r.0 r.1 in
      let age = u.age in
      let pos = (st.ages u.x u.is_in u.linked).0 in
      ⊎_elim
      (λ (between : (u.x).age < n). absurd (l.free u.x u.is_in (record { mini = (u.linked).mini; of = u.family ∙ o.0; live = u.live }) (omega arith) between))
      (λ (beyond : n ≤ (u.x).age). o.2 (omega arith))
      (cases_lt (u.x).age n))
      ((rd.fits).sites y.pc)
