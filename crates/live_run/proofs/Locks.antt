-- Seats under the lock, and what the steps leave.
use Rattle.std.proofs.Common.{◌≡◌, ℕ, zero, suc, ◌+◌, ◌-◌, List, [], ◌∷◌, ◌++◌, length, length-append, append-nil, append_assoc, take, drop, ◌<◌, map, Option, Some, refl, sym, ap, ◌∙◌, subst, arith}
use Rattle.std.proofs.lemmas.List.{map-append}
use Rattle.std.specs.Prelude.{slice_get}
use Rattle.atomic_table.specs.Table.{Me, State, Seen}
use Rattle.pn_types.specs.declared.quantum.Quantum.{Quantum}
use Rattle.live_run.specs.declared.view.Receipt.{Receipt}
use Rattle.live_run.specs.declared.view.OwnList.{OwnList}
use Rattle.live_run.specs.declared.view.Note.{Note}
use Rattle.live_run.specs.declared.view.Book.{Book}
use Rattle.live_run.specs.declared.view.View.{View}
use Rattle.session_spec.specs.Inputs.{Inputs}
use Rattle.session_spec.specs.Work.{Halted}
use Rattle.live_run.proofs.Stays.{stays}
use Rattle.std.specs.List.{AllByRecursion}
use Rattle.live_run.specs.Locked.{IsGathered, IsSettled, all_noted, halted_harts, lists_of}
use Rattle.live_run.specs.Receipts.{receipts_of}
use Rattle.live_run.specs.Rule.{AreBelowBook, IsHaltNote, IsRuled}
use Rattle.live_run.specs.Seats.{AreDealt, AreHalted, SeatData}
use Rattle.live_run.specs.Views.{a_book, book_alone, either_book, with_quantum_entry, gains, keeping, longer, note, noting, own_list, together, without_book, working}
use Rattle.live_run.proofs.Entering.{met}
use Rattle.live_run.proofs.Entries.{each_map, stands}

-- a badge's seat
pub resting : (m : Me Quantum View) (views : List View) (v : View) → views ≡ v ∷ [] → views ≡ m.0 ∷ [] → m.1 ≡ [] → m ≡ (v, [])
resting m views v is has none = let same : m.0 ≡ v = cc in λ i. (same i, none i)

-- the entries made, from the quanta's length
pub made_of : (n from : ℕ) (quanta first entries : List Quantum) → n ≡ length quanta → quanta ≡ first ++ entries → from ≡ length first → n - from ≡ length entries
made_of n from quanta first entries e q f = let h = ap length q in omega (arith, length-append first entries)

pub halted_along : (a b : Inputs) (xs ys : List Quantum) (hart : ℕ) → a ≡ b → xs ≡ ys → Halted a xs hart → Halted b ys hart
halted_along a b xs ys hart e f h = subst (λ (i : Inputs). Halted i ys hart) e (subst (λ (l : List Quantum). Halted a l hart) f h)

-- what the steps leave with the two seats
pub seat_entered : (book seat : Me Quantum View) (b : Book) (o : OwnList) (ns : List Note) (q : Quantum) → book ≡ (keeping b, []) → seat ≡ (working o ns, [])
    → without_book (with_quantum_entry q (together seat.0 book.0)) ≡ working (gains q b o) ns
seat_entered book seat b o ns q e f = ap (λ (m : Me Quantum View). without_book (with_quantum_entry q m.0)) (met book seat b o ns e f) ∙ ap (working (gains q b o)) (append-nil ns)

pub book_entered : (book seat : Me Quantum View) (b : Book) (o : OwnList) (ns : List Note) (q : Quantum) → book ≡ (keeping b, []) → seat ≡ (working o ns, [])
    → book_alone (with_quantum_entry q (together seat.0 book.0)) ≡ keeping (longer q b)
book_entered book seat b o ns q e f = ap (λ (m : Me Quantum View). book_alone (with_quantum_entry q m.0)) (met book seat b o ns e f)

pub seat_noted : (book seat : Me Quantum View) (b : Book) (o : OwnList) (ns : List Note) (q : Quantum) → book ≡ (keeping b, []) → seat ≡ (working o ns, [])
    → without_book (noting q (together seat.0 book.0)) ≡ working o (ns ++ note q.hart (length b.entries) ∷ [])
seat_noted book seat b o ns q e f = ap (λ (m : Me Quantum View). without_book (noting q m.0)) (met book seat b o ns e f) ∙ ap (λ l. working o (l ++ note q.hart (length b.entries) ∷ [])) (append-nil ns)

pub book_noted : (book seat : Me Quantum View) (b : Book) (o : OwnList) (ns : List Note) (q : Quantum) → book ≡ (keeping b, []) → seat ≡ (working o ns, [])
    → book_alone (noting q (together seat.0 book.0)) ≡ keeping b
book_noted book seat b o ns q e f = ap (λ (m : Me Quantum View). book_alone (noting q m.0)) (met book seat b o ns e f)

pub below_of : (book seat : Me Quantum View) (b : Book) (o : OwnList) (ns : List Note) → book ≡ (keeping b, []) → seat ≡ (working o ns, [])
    → AreBelowBook (together seat.0 book.0).book (together seat.0 book.0).lists → AllByRecursion (λ (r : Receipt). r.number < b.from + length b.entries) o.receipts
below_of book seat b o ns e f h = let t = subst (λ (m : Me Quantum View). AreBelowBook m.0.book m.0.lists) (met book seat b o ns e f) h in t.0

pub seat_grows : (w : ℕ) (rs rs' : List Receipt) (ns ns' : List Note) (r : Receipt) (s : SeatData) → ◌≡◌ {A = SeatData} (record { worker = w; receipts = rs; noted = halted_harts ns }) s → rs' ≡ rs ++ r ∷ [] → ns' ≡ ns
    → ◌≡◌ {A = SeatData} (record { worker = w; receipts = rs'; noted = halted_harts ns' }) (record { worker = s.worker; receipts = s.receipts ++ r ∷ []; noted = s.noted })
seat_grows w rs rs' ns ns' r s v e n =
    let first : ◌≡◌ {A = SeatData} (record { worker = w; receipts = rs'; noted = halted_harts ns' }) (record { worker = w; receipts = rs ++ r ∷ []; noted = halted_harts ns }) = λ i. record { worker = w; receipts = e i; noted = halted_harts (n i) } in
    let grow : SeatData → SeatData = λ (d : SeatData). record { worker = d.worker; receipts = d.receipts ++ r ∷ []; noted = d.noted } in
    first ∙ ap grow v

all_noted-last : (seats : List SeatData) (s : SeatData) → all_noted (seats ++ s ∷ []) ≡ all_noted seats ++ s.noted
all_noted-last [] s = append-nil s.noted
all_noted-last (x ∷ xs) s = ap (λ l. x.noted ++ l) (all_noted-last xs s) ∙ sym (append_assoc x.noted (all_noted xs) s.noted)

-- the book's seat takes in one more
pub gathered_more : (b : Book) (seats : List SeatData) (s : SeatData) (v : View) (w : View) (worker : ℕ) (receipts : List Receipt) → IsGathered b seats v → w ≡ working (own_list worker receipts) w.notes
    → ◌≡◌ {A = SeatData} (record { worker = worker; receipts = receipts; noted = halted_harts w.notes }) s → IsGathered b (seats ++ s ∷ []) (together v w)
gathered_more b seats s v w worker receipts g is shows = record {
  book_is = ap (λ (x : Option Book). either_book x w.book) g.book_is;
  lists_are =
      (λ i. g.lists_are i ++ (is i).lists)
      ∙ (λ i. lists_of seats ++ own_list (shows i).worker (shows i).receipts ∷ [])
      ∙ sym (map-append (λ (k : SeatData). own_list k.worker k.receipts) seats (s ∷ []));
  notes_are =
      map-append (λ (n : Note). n.hart) v.notes w.notes
      ∙ (λ i. g.notes_are i ++ (shows i).noted)
      ∙ sym (all_noted-last seats s);
}

each_of_map : {X Y : Type 0} (f : X → Y) (P : Y → Type 0) (xs : List X) → AllByRecursion P (map f xs) → AllByRecursion (λ x. P (f x)) xs
each_of_map f P [] h = tt
each_of_map f P (x ∷ xs) h = (h.0, each_of_map f P xs h.1)

to_map : {X Y : Type 0} (f : X → Y) (P : Y → Type 0) (xs : List X) → AllByRecursion (λ x. P (f x)) xs → AllByRecursion P (map f xs)
to_map f P [] h = tt
to_map f P (x ∷ xs) h = (h.0, to_map f P xs h.1)

each_front : {X : Type 0} (P : X → Type 0) (xs ys : List X) → AllByRecursion P (xs ++ ys) → AllByRecursion P xs
each_front P [] ys h = tt
each_front P (x ∷ xs) ys h = (h.0, each_front P xs ys h.1)

each_back : {X : Type 0} (P : X → Type 0) (xs ys : List X) → AllByRecursion P (xs ++ ys) → AllByRecursion P ys
each_back P [] ys h = h
each_back P (x ∷ xs) ys h = each_back P xs ys h.1

by_seat : (P : ℕ → Type 0) (seats : List SeatData) → AllByRecursion P (all_noted seats) → AllByRecursion (λ (x : SeatData). AllByRecursion P x.noted) seats
by_seat P [] h = tt
by_seat P (s ∷ seats) h = (each_front P s.noted (all_noted seats) h, by_seat P seats (each_back P s.noted (all_noted seats) h))

take_drop : {X : Type 0} (n : ℕ) (xs : List X) → take n xs ++ drop n xs ≡ xs
take_drop zero xs = refl
take_drop (suc n) [] = refl
take_drop (suc n) (x ∷ xs) = ap (λ l. x ∷ l) (take_drop n xs)

pub drop_first : {X : Type 0} (xs ys : List X) → drop (length xs) (xs ++ ys) ≡ ys
drop_first [] ys = refl
drop_first (x ∷ xs) ys = drop_first xs ys

-- what the rule says at the end, by seat
pub dealt_by : (inputs : Inputs) (first entries : List Quantum) (workers : ℕ) (seats : List SeatData) (v : View) → length seats ≡ workers → IsGathered (a_book (length first) entries workers) seats v → IsSettled inputs first (a_book (length first) entries workers) v
    → AreDealt (length first) entries seats
dealt_by inputs first entries workers seats v all g s = record {
  receipts =
      each_of_map (λ (x : SeatData). own_list x.worker x.receipts) (λ (o : OwnList). o.receipts ≡ receipts_of o.worker (length first) entries) seats
      (each_map (lists_of seats) (λ o h. h.1) (subst (λ l. AllByRecursion (λ (o : OwnList). (o.worker < workers) × (o.receipts ≡ receipts_of o.worker (length first) entries)) l) g.lists_are s.lists));
  workers = subst (λ n. AllByRecursion (λ (q : Quantum). q.worker < n) entries) (sym all) s.workers;
}

halted_later : (inputs : Inputs) (first entries : List Quantum) (n : Note) → IsHaltNote inputs first entries n → Halted inputs (first ++ entries) n.hart
halted_later inputs first entries n noted =
    let whole : (first ++ take n.at entries) ++ drop n.at entries ≡ first ++ entries = append_assoc first (take n.at entries) (drop n.at entries) ∙ ap (λ l. first ++ l) (take_drop n.at entries) in
    subst (λ l. Halted inputs l n.hart) whole (stays inputs (first ++ take n.at entries) (drop n.at entries) n.hart noted.1)

pub halted_by : (inputs : Inputs) (first entries : List Quantum) (workers : ℕ) (seats : List SeatData) (v : View) → IsGathered (a_book (length first) entries workers) seats v → IsSettled inputs first (a_book (length first) entries workers) v
    → AreHalted inputs (first ++ entries) seats
halted_by inputs first entries workers seats v g s =
    by_seat (Halted inputs (first ++ entries)) seats
    (subst (λ l. AllByRecursion (Halted inputs (first ++ entries)) l) g.notes_are
    (to_map (λ (n : Note). n.hart) (Halted inputs (first ++ entries)) v.notes (each_map {P = IsHaltNote inputs first entries} {Q = λ (n : Note). Halted inputs (first ++ entries) n.hart} v.notes (λ n h. halted_later inputs first entries n h) s.notes)))

-- from the rule and the seat's view
pub settled : (inputs : Inputs) (first : List Quantum) (s : State Quantum View) (id : ℕ) (v : View) (b : Book) → Seen (IsRuled inputs first) id v s → v.book ≡ Some b → IsSettled inputs first b v
settled inputs first s id v b seen is =
    let k = seen.0 in
    let f = k.fits id v seen.1 in
    let same = (f.keeps b is).1 in
    subst (λ (c : Book). IsSettled inputs first c v) (sym same) (record {
      from_is = k.from_is;
      lists = each_map v.lists (λ o h. (h.0, h.2)) f.lists;
      notes = f.notes;
      workers = k.workers;
    })

pub map_same : {X : Type 0} (xs : List X) → map (λ x. x) xs ≡ xs
map_same [] = refl
map_same (x ∷ xs) = ap (λ l. x ∷ l) (map_same xs)

pub lists_grow : {X Y : Type 0} (f : X → Y) (xs : List X) (x : X) → map f (xs ++ x ∷ []) ≡ map f xs ++ f x ∷ []
lists_grow f xs x = map-append f xs (x ∷ [])

settled_at : (a i : Inputs) (xs first : List Quantum) (b : Book) (v : View) → a ≡ i → xs ≡ first → IsSettled a xs b v → IsSettled i first b v
settled_at a i xs first b v e f h = subst (λ (j : Inputs). IsSettled j first b v) e (subst (λ (l : List Quantum). IsSettled a l b v) f h)

pub stands_by : (first entries : List Quantum) (seats : List SeatData) → AreDealt (length first) entries seats → AllByRecursion (λ (x : SeatData). AllByRecursion (λ (r : Receipt). slice_get (first ++ entries) r.number ≡ Some r.quantum) x.receipts) seats
stands_by first entries seats d =
    each_map {P = λ (x : SeatData). x.receipts ≡ receipts_of x.worker (length first) entries} {Q = λ (x : SeatData). AllByRecursion (λ (r : Receipt). slice_get (first ++ entries) r.number ≡ Some r.quantum) x.receipts} seats
    (λ c e. subst (λ (l : List Receipt). AllByRecursion (λ (r : Receipt). slice_get (first ++ entries) r.number ≡ Some r.quantum) l) (sym e) (stands c.worker first entries)) d.receipts

-- at the end: the book's seat has taken in all others, and the rule says this of it
pub ended : (at inputs : Inputs) (quanta first : List Quantum) (b : Book) (seats : List SeatData) (m : Me Quantum View) (views : List View) (v : View) → views ≡ keeping b ∷ [] → views ≡ m.0 ∷ [] → m.1 ≡ []
    → ((k : Book) → m ≡ (keeping k, []) → IsGathered k seats v) → at ≡ inputs → quanta ≡ first → ((k : Book) → v.book ≡ Some k → IsSettled at quanta k v) → IsGathered b seats v × IsSettled inputs first b v
ended at inputs quanta first b seats m views v is has none gathered i q settles =
    let g = gathered b (resting m views (keeping b) is has none) in
    (g, settled_at at inputs quanta first b v i q (settles b g.book_is))
