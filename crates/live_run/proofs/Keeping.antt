-- Making the word, splitting and joining keep the rule.
use Rattle.std.proofs.Common.{◌≡◌, ◌≢◌, ◌⊎◌, inl, inr, ⊎_elim, ℕ, zero, suc, ◌<◌, List, [], ◌∷◌, ◌++◌, length, Option, Some, None, refl, sym, ap, ◌∙◌, subst, arith}
use Rattle.std.specs.Prelude.{slice_set}
use mathlib.Core.Option.{some, some-injective, some-ne-none}
use mathlib.Core.Logic.{dite}
use native.Mathlib.Decide.{ℕ_discrete}
use lib.ListN.{get_elem?}
use Rattle.atomic_table.specs.Table.{Splits, Joins, opening}
use Rattle.atomic_table.proofs.Lists.{at_set, at_longer, at_last}
use Rattle.session_spec.specs.Inputs.{Inputs}
use Rattle.pn_types.specs.declared.quantum.Quantum.{Quantum}
use Rattle.live_run.specs.declared.view.OwnList.{OwnList}
use Rattle.live_run.specs.declared.view.Note.{Note}
use Rattle.live_run.specs.declared.view.Book.{Book}
use Rattle.live_run.specs.declared.view.View.{View}
use Rattle.std.specs.List.{AllByRecursion}
use Rattle.live_run.specs.Rule.{HasList, IsFitting, IsListed, IsHaltNote, IsRuled, opening_view}
use Rattle.live_run.specs.Views.{a_book, book_alone, either_book, hired, hiring, keeping, empty_view, together, without_book, working, writing}
use Rattle.live_run.proofs.Entries.{each_map, each_append, old_or_last, length_set, none_of}
use Rattle.live_run.proofs.Owners.{elsewhere, has_back, has_front, moved, moved_else, moved_here, one_view, owned_longer, owned_set, placed, with_owner, with_owner_else, with_owner_here}

-- the word is made
pub opens : (inputs : Inputs) (first : List Quantum) → IsRuled inputs first (opening (0 ∷ []) [] (opening_view first))
opens inputs first = record { keeper = 0; book = a_book (length first) [] 0; owner = λ _. 0; words_are = refl; from_is = refl; held = (opening_view first, refl, refl); owned = λ w lt. absurd (omega arith); fits = one; workers = tt }
  where
    one : (by : ℕ) (v : View) → get_elem? (opening_view first ∷ []) by ≡ some v → IsFitting inputs first 0 (a_book (length first) [] 0) (λ _. 0) by v
    one zero v e = subst (IsFitting inputs first 0 (a_book (length first) [] 0) (λ _. 0) 0) (some-injective _ _ e) (record { keeps = λ b h. (refl, cc); lists = tt; notes = tt })
    one (suc by) v e = absurd (some-ne-none v (sym e))

-- a worker's seat is split off the book's
pub hires : (inputs : Inputs) (first : List Quantum) (id : ℕ) (b : Book) → Splits (IsRuled inputs first) id (keeping b) (hiring (keeping b)) (hired (keeping b))
hires inputs first id b s k at =
    let is = (k.fits id (keeping b) at).keeps b refl in
    let book = a_book k.book.from k.book.entries (suc k.book.seats) in
    let place = length s.views in
    let owner : ℕ → ℕ = with_owner k.book.seats place k.owner in
    let old : (j : ℕ) (u : View) → get_elem? s.views j ≡ some u → AllByRecursion (IsListed book owner j) u.lists = λ j u e.
    each_map u.lists
    (λ o l. let below : o.worker < k.book.seats = l.0 in (omega arith, with_owner_else k.book.seats place k.owner o.worker (λ same. omega arith) ∙ l.1, l.2))
    (k.fits j u e).lists in
    let left : IsFitting inputs first k.keeper book owner id (hiring (keeping b)) = record {
      keeps = λ c e. (is.0, let same = is.1 in cc);
      lists = tt;
      notes = tt;
    } in
    let right : IsFitting inputs first k.keeper book owner place (hired (keeping b)) = record {
      keeps = λ c e. absurd cc;
      lists = (
        (
          let same : b.seats ≡ k.book.seats = ap (λ (c : Book). c.seats) is.1 in omega arith,
          ap owner (ap (λ (c : Book). c.seats) is.1) ∙ with_owner_here k.book.seats place k.owner,
          sym (none_of b.seats k.book.seats k.book.from k.book.entries k.workers (let same : b.seats ≡ k.book.seats = ap (λ (c : Book). c.seats) is.1 in omega arith)),
        ),
        tt,
      );
      notes = tt;
    } in
    record {
      keeper = k.keeper;
      book = book;
      owner = owner;
      words_are = k.words_are;
      from_is = k.from_is;
      held = (
        hiring (keeping b),
        at_longer (slice_set s.views id (hiring (keeping b))) (hired (keeping b) ∷ []) k.keeper (hiring (keeping b)) (ap (λ n. get_elem? (slice_set s.views id (hiring (keeping b))) n) (sym is.0) ∙ placed s.views id (keeping b) (hiring (keeping b)) at),
        ap (λ (c : Book). Some (a_book c.from c.entries (suc c.seats))) is.1,
      );
      owned = λ w lt. dite (ℕ_discrete w k.book.seats)
          (λ same. (
            hired (keeping b),
            ap (λ n. get_elem? (slice_set s.views id (hiring (keeping b)) ++ hired (keeping b) ∷ []) n) (ap owner same ∙ with_owner_here k.book.seats place k.owner)
                ∙ at_last (slice_set s.views id (hiring (keeping b))) (hired (keeping b)) place (length_set s.views id (hiring (keeping b))),
            inl (ap (λ (c : Book). c.seats) is.1 ∙ sym same),
          ))
          (λ other.
          let t = owned_longer (slice_set s.views id (hiring (keeping b))) (hired (keeping b)) k.owner k.book.seats (owned_set s.views id (keeping b) (hiring (keeping b)) k.owner k.book.seats at (λ n h. h) k.owned) w (omega arith) in
          (t.0, ap (λ n. get_elem? (slice_set s.views id (hiring (keeping b)) ++ hired (keeping b) ∷ []) n) (with_owner_else k.book.seats place k.owner w other) ∙ t.1, t.2));
      fits = λ j u e. ⊎_elim
          (λ was. ⊎_elim
          (λ (t : (j ≡ id) × (hiring (keeping b) ≡ u)). subst (λ (v : View). IsFitting inputs first k.keeper book owner j v) t.1 (subst (λ (n : ℕ). IsFitting inputs first k.keeper book owner n (hiring (keeping b))) (sym t.0) left))
          (λ (t : (j ≢ id) × (get_elem? s.views j ≡ some u)). record {
            keeps = λ c e'. let h = (k.fits j u t.1).keeps c e' in absurd (t.0 (h.0 ∙ sym is.0));
            lists = old j u t.1;
            notes = (k.fits j u t.1).notes;
          })
          (at_set s.views id j (hiring (keeping b)) u was))
          (λ (t : (j ≡ length (slice_set s.views id (hiring (keeping b)))) × (hired (keeping b) ≡ u)).
          subst (λ (v : View). IsFitting inputs first k.keeper book owner j v) t.1
          (subst (λ (n : ℕ). IsFitting inputs first k.keeper book owner n (hired (keeping b))) (sym (t.0 ∙ length_set s.views id (hiring (keeping b)))) right))
          (old_or_last (slice_set s.views id (hiring (keeping b))) (hired (keeping b)) u j e);
      workers = each_map k.book.entries (λ q lt. let h : q.worker < k.book.seats = lt in omega arith) k.workers;
    }

either_is : (x y : Option Book) (b : Book) → either_book x y ≡ Some b → (x ≡ Some b) ⊎ (y ≡ Some b)
either_is None y b e = inr e
either_is (Some a) y b e = inl e

either_second : (x y : Option Book) → ((b : Book) → x ≡ Some b → ⊥) → either_book x y ≡ y
either_second None y none = refl
either_second (Some a) y none = absurd (none a refl)

-- a seat takes in another
pub meets : (inputs : Inputs) (first : List Quantum) (id : ℕ) (v : View) (other : ℕ) (w : View) → Joins (IsRuled inputs first) id v other w (together v w) empty_view
meets inputs first id v other w s k at apart there =
    let keeper = moved other id k.keeper in
    let owner : ℕ → ℕ = λ n. moved other id (k.owner n) in
    let theirs : get_elem? s.views other ≡ some w = ⊎_elim (λ (t : (other ≡ id) × (together v w ≡ w)). absurd (apart t.0)) (λ (t : (other ≢ id) × (get_elem? s.views other ≡ some w)). t.1) (at_set s.views id other (together v w) w there) in
    let mine_fits = k.fits id v at in
    let last = slice_set (slice_set s.views id (together v w)) other empty_view in
    let mine_last : get_elem? last id ≡ some (together v w) = elsewhere (slice_set s.views id (together v w)) other empty_view id (together v w) (λ e. apart (sym e)) (placed s.views id v (together v w) at) in
    let their_fits = k.fits other w theirs in
    let both : IsFitting inputs first keeper k.book owner id (together v w) = record {
      keeps = λ b e. ⊎_elim
          (λ (h : v.book ≡ Some b). let t = mine_fits.keeps b h in (t.0 ∙ sym (moved_else other id k.keeper (λ same. apart (sym (t.0 ∙ same)))), t.1))
          (λ (h : w.book ≡ Some b). let t = their_fits.keeps b h in (sym (moved_here other id k.keeper (sym t.0)), t.1))
          (either_is v.book w.book b e);
      lists = each_append (IsListed k.book owner id) v.lists w.lists
          (each_map v.lists (λ o l. (l.0, moved_else other id (k.owner o.worker) (λ same. apart (sym same ∙ l.1)) ∙ l.1, l.2)) mine_fits.lists)
          (each_map w.lists (λ o l. (l.0, moved_here other id (k.owner o.worker) l.1, l.2)) their_fits.lists);
      notes = each_append (IsHaltNote inputs first k.book.entries) v.notes w.notes mine_fits.notes their_fits.notes;
    } in
    record {
      keeper = keeper;
      book = k.book;
      owner = owner;
      words_are = k.words_are;
      from_is = k.from_is;
      held = dite (ℕ_discrete k.keeper other)
          (λ same. (
            together v w,
            ap (λ n. get_elem? last n) (moved_here other id k.keeper same) ∙ mine_last,
            either_second v.book w.book (λ b e. apart (sym ((mine_fits.keeps b e).0 ∙ same))) ∙ ap (λ (x : View). x.book) (one_view s.views other k.keeper w k.held.0 (sym same) theirs k.held.1) ∙ k.held.2,
          ))
          (λ ne. dite (ℕ_discrete k.keeper id)
          (λ same. (
            together v w,
            ap (λ n. get_elem? last n) (moved_else other id k.keeper ne ∙ same) ∙ mine_last,
            ap (λ (x : Option Book). either_book x w.book) (ap (λ (x : View). x.book) (one_view s.views id k.keeper v k.held.0 (sym same) at k.held.1) ∙ k.held.2),
          ))
          (λ else. (
            k.held.0,
            ap (λ n. get_elem? last n) (moved_else other id k.keeper ne) ∙ elsewhere (slice_set s.views id (together v w)) other empty_view k.keeper k.held.0 ne (elsewhere s.views id (together v w) k.keeper k.held.0 else k.held.1),
            k.held.2,
          )));
      owned = λ n lt.
          let t = k.owned n lt in
          dite (ℕ_discrete (k.owner n) other)
          (λ same. (
            together v w,
            ap (λ i. get_elem? last i) (moved_here other id (k.owner n) same) ∙ mine_last,
            has_back n v.lists w.lists (subst (λ (x : View). HasList n x.lists) (one_view s.views (k.owner n) other t.0 w same t.1 theirs) t.2),
          ))
          (λ ne. dite (ℕ_discrete (k.owner n) id)
          (λ same. (
            together v w,
            ap (λ i. get_elem? last i) (moved_else other id (k.owner n) ne ∙ same) ∙ mine_last,
            has_front n v.lists w.lists (subst (λ (x : View). HasList n x.lists) (one_view s.views (k.owner n) id t.0 v same t.1 at) t.2),
          ))
          (λ else. (
            t.0,
            ap (λ i. get_elem? last i) (moved_else other id (k.owner n) ne) ∙ elsewhere (slice_set s.views id (together v w)) other empty_view (k.owner n) t.0 ne (elsewhere s.views id (together v w) (k.owner n) t.0 else t.1),
            t.2,
          )));
      fits = λ j u e. ⊎_elim
          (λ (t : (j ≡ other) × (empty_view ≡ u)). subst (λ (x : View). IsFitting inputs first keeper k.book owner j x) t.1 (record { keeps = λ b h. absurd cc; lists = tt; notes = tt }))
          (λ (t : (j ≢ other) × (get_elem? (slice_set s.views id (together v w)) j ≡ some u)). ⊎_elim
          (λ (r : (j ≡ id) × (together v w ≡ u)). subst (λ (x : View). IsFitting inputs first keeper k.book owner j x) r.1 (subst (λ (n : ℕ). IsFitting inputs first keeper k.book owner n (together v w)) (sym r.0) both))
          (λ (r : (j ≢ id) × (get_elem? s.views j ≡ some u)).
          let f = k.fits j u r.1 in record {
            keeps = λ b h. let h' = f.keeps b h in (h'.0 ∙ sym (moved_else other id k.keeper (λ same. t.0 (h'.0 ∙ same))), h'.1);
            lists = each_map u.lists (λ o l. (l.0, moved_else other id (k.owner o.worker) (λ same. t.0 (sym l.1 ∙ same)) ∙ l.1, l.2)) f.lists;
            notes = f.notes;
          })
          (at_set s.views id j (together v w) u t.1))
          (at_set (slice_set s.views id (together v w)) other j empty_view u e);
      workers = k.workers;
    }

-- the book's seat is split off again
pub parts : (inputs : Inputs) (first : List Quantum) (id : ℕ) (b : Book) (o : OwnList) (ns : List Note) → Splits (IsRuled inputs first) id (writing b o ns) (without_book (writing b o ns)) (book_alone (writing b o ns))
parts inputs first id b o ns s k at =
    let mine = k.fits id (writing b o ns) at in
    let is = mine.keeps b refl in
    let place = length s.views in
    record {
      keeper = place;
      book = k.book;
      owner = k.owner;
      words_are = k.words_are;
      from_is = k.from_is;
      held = (keeping b, at_last (slice_set s.views id (working o ns)) (keeping b) place (length_set s.views id (working o ns)), ap Some is.1);
      owned = owned_longer (slice_set s.views id (working o ns)) (keeping b) k.owner k.book.seats (owned_set s.views id (writing b o ns) (working o ns) k.owner k.book.seats at (λ n h. h) k.owned);
      fits = λ j u e. ⊎_elim
          (λ was. ⊎_elim
          (λ (t : (j ≡ id) × (working o ns ≡ u)). subst (λ (v : View). IsFitting inputs first place k.book k.owner j v) t.1
          (subst (λ (n : ℕ). IsFitting inputs first place k.book k.owner n (working o ns)) (sym t.0) (record { keeps = λ c h. absurd cc; lists = mine.lists; notes = mine.notes })))
          (λ (t : (j ≢ id) × (get_elem? s.views j ≡ some u)).
          let f = k.fits j u t.1 in record {
            keeps = λ c h. let h' = f.keeps c h in absurd (t.0 (h'.0 ∙ sym is.0));
            lists = f.lists;
            notes = f.notes;
          })
          (at_set s.views id j (working o ns) u was))
          (λ (t : (j ≡ length (slice_set s.views id (working o ns))) × (keeping b ≡ u)).
          subst (λ (v : View). IsFitting inputs first place k.book k.owner j v) t.1
          (record { keeps = λ c h. (t.0 ∙ length_set s.views id (working o ns), let same = is.1 in cc); lists = tt; notes = tt }))
          (old_or_last (slice_set s.views id (working o ns)) (keeping b) u j e);
      workers = k.workers;
    }
