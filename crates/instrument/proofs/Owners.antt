-- Each mini block's instrument was admitted, whatever is done; and how many rooms the sites of a new instrument take.
use Rattle.std.proofs.Common.{◌≡◌, ℕ, ◌+◌, ◌<◌, List, [], ◌∷◌, ◌++◌, Option, Some, None, refl, sym, ap, ◌∙◌, subst, arith, ⊎_elim, inl, inr, length, map, filter, cond}
use Rattle.std.specs.Prelude.{Bool, true, false, find, Result, Ok, Err}
use Rattle.std.proofs.lemmas.Bool.{true≢false, eq-eqb}
use Rattle.pn_types.specs.declared.plan.Site.{Site}
use Rattle.pn_types.specs.declared.placed.PlacedSite.{PlacedSite}
use Rattle.rv_word.specs.Plain.{Words}
use Rattle.tramp_spec.specs.declared.block.Block.{Block}
use Rattle.machine.proofs.Lists.{in_map, in_filter}
use Rattle.instrument.specs.Admission.{with_site, with_sites, and_then}
use Rattle.instrument.specs.Books.{Book, is_mini_of, mini_leaves, base_leaves, rooms_left, without_site, with_hold, unlinked_at, rooms_behind, rooms_of, mini_room}
use Rattle.instrument.specs.Placements.{is_mini_room_of, sites_of, book_after, without_sites}
use Rattle.instrument.specs.Placers.{AreAdmitted}
use Rattle.instrument.specs.declared.entry.Entry.{Entry}
use Rattle.instrument.specs.declared.entry.Entry.TheVariants.{WriteBase, WriteMini, LinkMini, LinkPoint, UnlinkMini, UnlinkPoint, Free}
use Rattle.instrument.specs.declared.number.Refused.{Refused}
use Rattle.instrument.specs.declared.room.Hold.{Hold}
use Rattle.instrument.specs.declared.room.Room.{Room}
use Rattle.instrument.proofs.Folds.{in_append}
use Rattle.instrument.proofs.Grown.{site_blocks}
use Rattle.instrument.proofs.Hands.{mini_of}

pub admitted_hold : (h : Room → Hold) (n : ℕ) (rooms : List Room) → AreAdmitted n rooms → AreAdmitted n (map (with_hold h) rooms)
admitted_hold h n rooms k = λ x i. let o = in_map (with_hold h) rooms x i in subst (λ (u : Room). u.base ≡ false → u.owner < n) (sym o.2) (k o.0 o.1)

after_entry : (n : ℕ) (e : Entry) (rooms : List Room) → AreAdmitted n rooms → AreAdmitted n (rooms_behind e rooms)
after_entry n (UnlinkMini p m) rooms k = admitted_hold (unlinked_at m) n rooms k
after_entry n (UnlinkPoint p m) rooms k = admitted_hold (unlinked_at m) n rooms k
after_entry n (WriteBase b) rooms k = k
after_entry n (WriteMini b) rooms k = k
after_entry n (LinkMini p m) rooms k = k
after_entry n (LinkPoint p m) rooms k = k
after_entry n (Free p) rooms k = k

pub admitted_behind : (n : ℕ) (agenda : List Entry) (book : Book) → AreAdmitted n book.rooms → AreAdmitted n (book_after agenda book).rooms
admitted_behind n [] book k = k
admitted_behind n (e ∷ es) book k = after_entry n e book.rooms k

pub admitted_filter : (p : Room → Bool) (n : ℕ) (rooms : List Room) → AreAdmitted n rooms → AreAdmitted n (filter p rooms)
admitted_filter p n rooms k = λ x i. k x (in_filter p rooms x i).0

left_of : (o : Option Room) (p n : ℕ) (rooms : List Room) → AreAdmitted n rooms → AreAdmitted n (rooms_left o p rooms)
left_of (Some r) p n rooms k = k
left_of None p n rooms k = admitted_hold (base_leaves p) n rooms k

pub admitted_dropped : (n : ℕ) (xs : List Room) (book : Book) → AreAdmitted n book.rooms → AreAdmitted n (without_sites xs book).rooms
admitted_dropped n [] book k = k
admitted_dropped n (x ∷ xs) book k =
    admitted_dropped n xs (without_site x book) (left_of (find (is_mini_of x.point) (map (with_hold (mini_leaves x.at)) book.rooms)) x.point n _ (admitted_hold (mini_leaves x.at) n book.rooms k))

-- ---- the sites of an instrument that wasn't admitted

pub sites_none : (n : ℕ) (rooms : List Room) → AreAdmitted n rooms → sites_of n rooms ≡ []
sites_none n [] k = refl
sites_none n (x ∷ xs) k = by (is_mini_room_of n x) refl (sites_none n xs (λ y h. k y (inr h)))
  where
    site : Room → PlacedSite
    site y = record { at = y.point; mini = y.at }

    by : (b : Bool) → is_mini_room_of n x ≡ b → sites_of n xs ≡ [] → map site (cond b (x ∷ filter (is_mini_room_of n) xs) (filter (is_mini_room_of n) xs)) ≡ []
    by true e r = let m = mini_of n x e in let l = k x (inl refl) m.0 in let o = m.1 in absurd (omega (arith, l, o))
    by false e r = r

-- how many sites rooms have
count_append : (n : ℕ) (xs ys : List Room) → length (sites_of n (xs ++ ys)) ≡ length (sites_of n xs) + length (sites_of n ys)
count_append n [] ys = omega arith
count_append n (x ∷ xs) ys = by (is_mini_room_of n x) (count_append n xs ys)
  where
    site : Room → PlacedSite
    site y = record { at = y.point; mini = y.at }

    by : (b : Bool) → length (sites_of n (xs ++ ys)) ≡ length (sites_of n xs) + length (sites_of n ys)
        → length (map site (cond b (x ∷ filter (is_mini_room_of n) (xs ++ ys)) (filter (is_mini_room_of n) (xs ++ ys)))) ≡ length (map site (cond b (x ∷ filter (is_mini_room_of n) xs) (filter (is_mini_room_of n) xs))) + length (sites_of n ys)
    by true r = omega (arith, r)
    by false r = r

-- a site has one mini block
count_one : (n : ℕ) (m : Block) → length (sites_of n (mini_room n m ∷ [])) ≡ 1
count_one n m = ap (λ b. length (map (λ (y : Room). site_at y) (cond b (mini_room n m ∷ []) []))) (eq-eqb n n refl)
  where
    site_at : Room → PlacedSite
    site_at y = record { at = y.point; mini = y.at }

count_blocks : (base : Option Block) (n : ℕ) (m : Block) → length (sites_of n (rooms_of base n m)) ≡ 1
count_blocks None n m = count_one n m
count_blocks (Some b) n m = count_one n m

-- ---- sites are placed, one after another

blocks_admitted : (base : Option Block) (n : ℕ) (m : Block) → AreAdmitted (n + 1) (rooms_of base n m)
blocks_admitted None n m = λ x h b. ⊎_elim (λ e. let o = ap (λ (u : Room). u.owner) e in omega (arith, o)) (λ z. absurd z) h
blocks_admitted (Some base) n m = λ x h b.
    ⊎_elim (λ e. absurd (true≢false (sym (ap (λ (u : Room). u.base) e) ∙ b)))
    (λ h. ⊎_elim (λ e. let o = ap (λ (u : Room). u.owner) e in omega (arith, o)) (λ z. absurd z) h) h

of_ok : (b d : Book) (r : Result Book Refused) → r ≡ Ok b → r ≡ Ok d → b ≡ d
of_ok b d r e f = cc

-- what each site takes on with one more holds of all
pub all_placed : (t : Words) (n : ℕ) (slots : List ℕ) (P : ℕ → Book → Type 0) → ((c : ℕ) (s : Site) (b d : Book) → P c b → with_site t n slots s b ≡ Ok d → P (c + 1) d)
    → (c : ℕ) (sites : List Site) (book new : Book) → P c book → with_sites t n slots sites book ≡ Ok new → P (c + length sites) new
all_placed t n slots P step c [] book new k e = let m : c ≡ c + 0 = omega arith in subst (λ i. P i new) m (subst (λ (b : Book). P c b) (of_ok book new (with_sites t n slots [] book) refl e) k)
all_placed t n slots P step c (s ∷ sites) book new k e =
    by (with_site t n slots s book) refl e (λ (b : Book) q r. all_placed t n slots P step (c + 1) sites b new (step c s book b k q) r)
  where
    by : (o : Result Book Refused) → with_site t n slots s book ≡ o → and_then o (with_sites t n slots sites) ≡ Ok new
        → ((b : Book) → with_site t n slots s book ≡ Ok b → with_sites t n slots sites b ≡ Ok new → P (c + 1 + length sites) new)
        → P (c + length (s ∷ sites)) new
    by (Err x) q i ih = absurd cc
    by (Ok b) q i ih = subst (λ m. P m new) (omega arith) (ih b q i)

one_admitted : (t : Words) (n : ℕ) (slots : List ℕ) (s : Site) (book new : Book) → AreAdmitted (n + 1) book.rooms → with_site t n slots s book ≡ Ok new → AreAdmitted (n + 1) new.rooms
one_admitted t n slots s book new k e =
    let z = site_blocks t n slots s book new e in
    subst (λ (b : Book). AreAdmitted (n + 1) b.rooms) (sym z.is)
    (λ x i. ⊎_elim (λ a. k x a) (λ a. blocks_admitted z.k.base n z.k.mini x a) (in_append book.rooms (rooms_of z.k.base n z.k.mini) x i))

pub admitted_placed : (t : Words) (n : ℕ) (slots : List ℕ) (sites : List Site) (book new : Book) → AreAdmitted n book.rooms → with_sites t n slots sites book ≡ Ok new → AreAdmitted (n + 1) new.rooms
admitted_placed t n slots sites book new k e =
    all_placed t n slots (λ c b. AreAdmitted (n + 1) b.rooms) (λ c s b d. one_admitted t n slots s b d) 0 sites book new
    (λ x i b. let l = k x i b in omega (arith, l)) e

one_counted : (t : Words) (n c : ℕ) (slots : List ℕ) (s : Site) (book new : Book) → length (sites_of n book.rooms) ≡ c → with_site t n slots s book ≡ Ok new → length (sites_of n new.rooms) ≡ c + 1
one_counted t n c slots s book new k e =
    let z = site_blocks t n slots s book new e in
    let o = count_append n book.rooms (rooms_of z.k.base n z.k.mini) in
    let l = count_blocks z.k.base n z.k.mini in
    let h = ap (λ (b : Book). length (sites_of n b.rooms)) z.is in
    omega (arith, o, l, h, k)

-- they are as many as the plan's
pub sites_counted : (t : Words) (n : ℕ) (slots : List ℕ) (sites : List Site) (book new : Book) → sites_of n book.rooms ≡ [] → with_sites t n slots sites book ≡ Ok new → length (sites_of n new.rooms) ≡ length sites
sites_counted t n slots sites book new k e =
    let r = all_placed t n slots (λ c b. length (sites_of n b.rooms) ≡ c) (λ c s b d. one_counted t n c slots s b d) 0 sites book new (ap length k) e in
    omega (arith, r)

-- ---- a room is a site's: fewer sites stand before it than in all

count_site : (n : ℕ) (x : Room) (ys : List Room) → is_mini_room_of n x ≡ true → length (sites_of n (x ∷ ys)) ≡ length (sites_of n ys) + 1
count_site n x ys m = by (is_mini_room_of n x) m
  where
    site : Room → PlacedSite
    site y = record { at = y.point; mini = y.at }

    by : (b : Bool) → b ≡ true → length (map site (cond b (x ∷ filter (is_mini_room_of n) ys) (filter (is_mini_room_of n) ys))) ≡ length (sites_of n ys) + 1
    by true e = omega arith
    by false e = absurd cc
