-- Entering and noting keep the rule.
use Rattle.std.proofs.Common.{◌≡◌, ◌≢◌, ⊎_elim, ℕ, ◌+◌, ◌<◌, ◌≤◌, ◌==◌, eq-eqb, List, [], ◌∷◌, ◌++◌, length, length-append, Some, refl, sym, ap, ◌∙◌, subst, arith}
use Rattle.std.specs.Prelude.{slice_index, slice_set}
use mathlib.Core.Option.{some}
use prog.Atomic.{either}
use lib.ListN.{get_elem?}
use Rattle.atomic_table.specs.Table.{Me, step, keeps, Allows, Splits}
use Rattle.atomic_table.proofs.Lists.{at_set}
use Rattle.session_spec.specs.Inputs.{Inputs}
use Rattle.pn_types.specs.declared.quantum.Quantum.{Quantum}
use Rattle.session_spec.specs.Work.{Halted}
use Rattle.live_run.specs.declared.view.Receipt.{Receipt}
use Rattle.live_run.specs.declared.view.OwnList.{OwnList}
use Rattle.live_run.specs.declared.view.Note.{Note}
use Rattle.live_run.specs.declared.view.Book.{Book}
use Rattle.live_run.specs.declared.view.View.{View}
use Rattle.std.specs.List.{AllByRecursion}
use Rattle.live_run.specs.Receipts.{receipt, receipts_of}
use Rattle.live_run.specs.Rule.{IsEntering, IsFitting, IsHaltNote, IsNoting, IsRuled}
use Rattle.live_run.specs.Views.{book_alone, with_quantum_entry, hired, hiring, keeping, longer, note, noting, together, without_book, working, writing}
use Rattle.live_run.proofs.Entries.{each_map, each_append, one_of, not_of, numbers_below, take_longer, take_whole}
use Rattle.live_run.proofs.Owners.{owned_set, placed}
use Rattle.live_run.proofs.Keeping.{hires, parts}

-- a compare-exchange of the first word that finds what it expects
exchanged : (n old new : ℕ) → n ≡ old → slice_set (n ∷ []) 0 (either (slice_index (n ∷ []) 0 == old) new (slice_index (n ∷ []) 0)) ≡ new ∷ []
exchanged n old new e = ap (λ b. either b new n ∷ []) (eq-eqb n old e)

-- the quantum is entered into the book and into the seat's own_list list
pub enters : (inputs : Inputs) (first : List Quantum) (slots id : ℕ) (b : Book) (o : OwnList) (ns : List Note) (q : Quantum) (old : ℕ) → old ≡ length b.entries → q.worker ≡ o.worker
    → Allows (IsRuled inputs first) slots id (writing b o ns, []) 0 (λ n. either (n == old) (old + 1) n) (IsEntering (step slots 0 old (old + 1) (some q)) (writing b o ns, []))
enters inputs first slots id b o ns q old long his s k homes at small =
    let mine = k.fits id (writing b o ns) at in
    let is = mine.keeps b refl in
    let mine_list = mine.lists.0 in
    let book = longer q k.book in
    let size : length k.book.entries ≡ old = ap (λ (c : Book). length c.entries) (sym is.1) ∙ sym long in
    let note_kept : (n : Note) → IsHaltNote inputs first k.book.entries n → IsHaltNote inputs first book.entries n = λ n h. (
      let le : n.at ≤ length k.book.entries = h.0 in omega (arith, length-append k.book.entries (q ∷ [])),
      subst (λ l. Halted inputs (first ++ l) n.hart) (sym (take_longer n.at k.book.entries (q ∷ []) h.0)) h.1,
    ) in
    let seated : q.worker < k.book.seats = (let l : o.worker < k.book.seats = mine_list.0 in omega arith) in (
      with_quantum_entry q (writing b o ns),
      keeps,
      tt,
      record {
        keeper = k.keeper;
        book = book;
        owner = k.owner;
        words_are =
            subst (λ ws. slice_set ws 0 (either (slice_index ws 0 == old) (old + 1) (slice_index ws 0)) ≡ length book.entries ∷ []) (sym k.words_are)
            (exchanged (length k.book.entries) old (old + 1) size ∙ ap (λ n. n ∷ []) (let h : old + 1 ≡ length book.entries = omega (arith, length-append k.book.entries (q ∷ [])) in h));
        from_is = k.from_is;
        held = (with_quantum_entry q (writing b o ns), ap (λ n. get_elem? (slice_set s.views id (with_quantum_entry q (writing b o ns))) n) (sym is.0) ∙ placed s.views id (writing b o ns) (with_quantum_entry q (writing b o ns)) at, ap (λ (c : Book). Some (longer q c)) is.1);
        owned = owned_set s.views id (writing b o ns) (with_quantum_entry q (writing b o ns)) k.owner k.book.seats at (λ n h. h) k.owned;
        fits = λ j u e. ⊎_elim
            (λ (t : (j ≡ id) × (with_quantum_entry q (writing b o ns) ≡ u)). subst (λ (v : View). IsFitting inputs first k.keeper book k.owner j v) t.1
            (subst (λ (n : ℕ). IsFitting inputs first k.keeper book k.owner n (with_quantum_entry q (writing b o ns))) (sym t.0) (record {
              keeps = λ c h. (is.0, let same = is.1 in cc);
              lists = (
                (
                  mine_list.0,
                  mine_list.1,
                  ap (λ l. l ++ receipt (b.from + length b.entries) q ∷ []) mine_list.2
                      ∙ sym (one_of o.worker k.book.from (b.from + length b.entries) k.book.entries q his (ap (λ (c : Book). c.from + length c.entries) (sym is.1))),
                ),
                tt,
              );
              notes = each_map ns note_kept mine.notes;
            })))
            (λ (t : (j ≢ id) × (get_elem? s.views j ≡ some u)).
            let f = k.fits j u t.1 in record {
              keeps = λ c h. let h' = f.keeps c h in absurd (t.0 (h'.0 ∙ sym is.0));
              lists = each_map u.lists (λ p l. (l.0, l.1, l.2 ∙ sym (not_of p.worker k.book.from k.book.entries q (λ same. t.0 (sym l.1 ∙ ap k.owner (sym same ∙ his) ∙ mine_list.1))))) f.lists;
              notes = each_map u.notes note_kept f.notes;
            })
            (at_set s.views id j (with_quantum_entry q (writing b o ns)) u e);
        workers = each_append (λ (x : Quantum). x.worker < k.book.seats) k.book.entries (q ∷ []) k.workers (seated, tt);
      },
      (
        refl,
        (
          subst (λ l. AllByRecursion (λ (r : Receipt). r.number < b.from + length b.entries) l) (sym mine_list.2)
              (subst (λ (c : Book). AllByRecursion (λ (r : Receipt). r.number < c.from + length c.entries) (receipts_of o.worker k.book.from k.book.entries)) (sym is.1) (numbers_below o.worker k.book.from k.book.entries)),
          tt,
        ),
      ),
    )

-- the hart is noted
pub notes : (inputs : Inputs) (first : List Quantum) (slots id : ℕ) (b : Book) (o : OwnList) (ns : List Note) (q : Quantum) (old : ℕ) → old ≡ length b.entries → Halted inputs (first ++ b.entries) q.hart
    → Allows (IsRuled inputs first) slots id (writing b o ns, []) 0 (λ n. either (n == old) old n) (IsNoting (step slots 0 old old (some q)) (writing b o ns, []))
notes inputs first slots id b o ns q old long halted s k homes at small =
    let mine = k.fits id (writing b o ns) at in
    let is = mine.keeps b refl in
    let size : length k.book.entries ≡ old = ap (λ (c : Book). length c.entries) (sym is.1) ∙ sym long in
    let new : IsHaltNote inputs first k.book.entries (note q.hart (length b.entries)) =
    subst (λ (c : Book). IsHaltNote inputs first c.entries (note q.hart (length b.entries))) is.1
    (omega arith, subst (λ l. Halted inputs (first ++ l) q.hart) (sym (take_whole b.entries)) halted) in (
      noting q (writing b o ns),
      keeps,
      tt,
      record {
        keeper = k.keeper;
        book = k.book;
        owner = k.owner;
        words_are = subst (λ ws. slice_set ws 0 (either (slice_index ws 0 == old) old (slice_index ws 0)) ≡ length k.book.entries ∷ []) (sym k.words_are) (exchanged (length k.book.entries) old old size ∙ ap (λ n. n ∷ []) (sym size));
        from_is = k.from_is;
        held = (noting q (writing b o ns), ap (λ n. get_elem? (slice_set s.views id (noting q (writing b o ns))) n) (sym is.0) ∙ placed s.views id (writing b o ns) (noting q (writing b o ns)) at, ap Some is.1);
        owned = owned_set s.views id (writing b o ns) (noting q (writing b o ns)) k.owner k.book.seats at (λ n h. h) k.owned;
        fits = λ j u e. ⊎_elim
            (λ (t : (j ≡ id) × (noting q (writing b o ns) ≡ u)). subst (λ (v : View). IsFitting inputs first k.keeper k.book k.owner j v) t.1
            (subst (λ (n : ℕ). IsFitting inputs first k.keeper k.book k.owner n (noting q (writing b o ns))) (sym t.0) (record {
              keeps = λ c h. (is.0, let same = is.1 in cc);
              lists = mine.lists;
              notes = each_append (IsHaltNote inputs first k.book.entries) ns (note q.hart (length b.entries) ∷ []) mine.notes (new, tt);
            })))
            (λ (t : (j ≢ id) × (get_elem? s.views j ≡ some u)). k.fits j u t.1)
            (at_set s.views id j (noting q (writing b o ns)) u e);
        workers = k.workers;
      },
      refl,
    )

-- the steps at a seat that is known
pub hires_as : (inputs : Inputs) (first : List Quantum) (id : ℕ) (b : Book) (v : View) → v ≡ keeping b → Splits (IsRuled inputs first) id v (hiring v) (hired v)
hires_as inputs first id b v e = subst (λ (x : View). Splits (IsRuled inputs first) id x (hiring x) (hired x)) (sym e) (hires inputs first id b)

pub parts_as : (inputs : Inputs) (first : List Quantum) (id : ℕ) (b : Book) (o : OwnList) (ns : List Note) (v : View) → v ≡ writing b o ns → Splits (IsRuled inputs first) id v (without_book v) (book_alone v)
parts_as inputs first id b o ns v e = subst (λ (x : View). Splits (IsRuled inputs first) id x (without_book x) (book_alone x)) (sym e) (parts inputs first id b o ns)

pub enters_as : (inputs : Inputs) (first : List Quantum) (slots id : ℕ) (b : Book) (o : OwnList) (ns : List Note) (q : Quantum) (old : ℕ) (me : Me Quantum View) → me ≡ (writing b o ns, []) → old ≡ length b.entries → q.worker ≡ o.worker
    → Allows (IsRuled inputs first) slots id me 0 (λ n. either (n == old) (old + 1) n) (IsEntering (step slots 0 old (old + 1) (some q)) me)
enters_as inputs first slots id b o ns q old me e long his =
    subst (λ (x : Me Quantum View). Allows (IsRuled inputs first) slots id x 0 (λ n. either (n == old) (old + 1) n) (IsEntering (step slots 0 old (old + 1) (some q)) x)) (sym e) (enters inputs first slots id b o ns q old long his)

pub notes_as : (inputs : Inputs) (first : List Quantum) (slots id : ℕ) (b : Book) (o : OwnList) (ns : List Note) (q : Quantum) (old : ℕ) (me : Me Quantum View) → me ≡ (writing b o ns, []) → old ≡ length b.entries → Halted inputs (first ++ b.entries) q.hart
    → Allows (IsRuled inputs first) slots id me 0 (λ n. either (n == old) old n) (IsNoting (step slots 0 old old (some q)) me)
notes_as inputs first slots id b o ns q old me e long halted =
    subst (λ (x : Me Quantum View). Allows (IsRuled inputs first) slots id x 0 (λ n. either (n == old) old n) (IsNoting (step slots 0 old old (some q)) x)) (sym e) (notes inputs first slots id b o ns q old long halted)

-- the two seats joined under the lock
pub met : (book seat : Me Quantum View) (b : Book) (o : OwnList) (ns : List Note) → book ≡ (keeping b, []) → seat ≡ (working o ns, []) → ◌≡◌ {A = Me Quantum View} (together seat.0 book.0, seat.1) (writing b o (ns ++ []), [])
met book seat b o ns e f = λ i. (together (f i).0 (e i).0, (f i).1)
