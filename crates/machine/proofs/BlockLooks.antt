-- Looks at the blocks of a point, from place to place of its bucket.
use Rattle.std.proofs.Common.{◌≡◌, ℕ, zero, suc, ◌+◌, ◌<◌, List, [], ◌∷◌, length, get_or, map, Option, Some, None, refl, sym, ap, subst, ◌∙◌, arith, inl, inr}
use Rattle.std.specs.Prelude.{◌&&◌, ◌==◌, Bool, true, false, cond, find, not}
use Rattle.std.specs.Option.{option_map}
use Rattle.std.proofs.lemmas.Bool.{and_from, and_left, and_parts, and_right, eq-eqb, eqb-true, false_from_ne_true}
use Rattle.std.specs.Cmp.{both_ways}
use Rattle.std.proofs.lemmas.Option.{none-some}
use Rattle.tramp_spec.specs.Codes.{Code}
use Rattle.bucket_chains.specs.Entries.{bucket_at, bucket_of, IsFirst}
use Rattle.bucket_chains.specs.Left.{buckets_of, present_entries}
use Rattle.bucket_chains.proofs.Nexts.{Searches, buckets_len, entry_there, fewer_places, next_within, places_from, read_entry, search_begun, search_found, search_on}
use Rattle.machine.specs.Cores.{In, Row, is_current, is_live}
use Rattle.machine.specs.LinkedSites.{is_live_mini}
use Rattle.machine.specs.Events.{is_before, is_linked, row_at}
use Rattle.machine.specs.Views.{row_of}
use Rattle.machine.specs.declared.block_row.BlockRow.{BlockRow}
use Rattle.machine.proofs.BlockLists.{find_map}
use Rattle.machine.proofs.Lists.{find_finds, find_gives, map_in}

-- ---- tests of the blocks of a point

abbrev pub point_of : BlockRow → ℕ
point_of x = x.point

-- a base block of a point that isn't retired
abbrev pub is_base_of : ℕ → Row → Bool
is_base_of p r = r.base && ((r.point == p) && is_current r.status)

pub base_own : (p : ℕ) (r : Row) → is_base_of p r ≡ true → r.point ≡ p
base_own p r e = eqb-true r.point p (and_parts (r.point == p) (is_current r.status) (and_parts r.base ((r.point == p) && is_current r.status) e).1).0

-- of the point, and more
of_point : (p : ℕ) (r : Row) (b : Bool) → ((r.point == p) && b) ≡ true → r.point ≡ p
of_point p r b e = eqb-true r.point p (and_parts (r.point == p) b e).0

-- the block of a point that begins at an address
abbrev pub begins_at : ℕ → ℕ → Row → Bool
begins_at p a r = (r.point == p) && (r.at == a)

pub begins_own : (p a : ℕ) (r : Row) → begins_at p a r ≡ true → r.point ≡ p
begins_own p a r e = of_point p r (r.at == a) e

-- the linked block of a point that leads to an address
abbrev pub leads_at : Code → ℕ → ℕ → Row → Bool
leads_at code p a r = (r.point == p) && is_before code a r

pub leads_own : (code : Code) (p a : ℕ) (r : Row) → leads_at code p a r ≡ true → r.point ≡ p
leads_own code p a r e = of_point p r (is_before code a r) e

-- what is linked at a point
abbrev pub links_at : ℕ → Row → Bool
links_at p r = (r.point == p) && is_linked r

pub links_own : (p : ℕ) (r : Row) → links_at p r ≡ true → r.point ≡ p
links_own p r e = of_point p r (is_linked r) e

-- ---- tests that agree on the elements

pub finds_same : {A : Type 0} (q s : A → Bool) (xs : List A) → ((x : A) → In x xs → q x ≡ s x) → find q xs ≡ find s xs
finds_same q s [] h = refl
finds_same q s (x ∷ xs) h = ap (λ b. cond b (Some x) (find q xs)) (h x (inl refl)) ∙ ap (cond (s x) (Some x)) (finds_same q s xs (λ y i. h y (inr i)))

pub leads_same : (code : Code) (p a : ℕ) (rows : List Row) → ((r : Row) → In r rows → is_before code a r ≡ true → r.point ≡ p) → find (leads_at code p a) rows ≡ find (is_before code a) rows
leads_same code p a rows of =
    finds_same (leads_at code p a) (is_before code a) rows
    (λ r i. both_ways (leads_at code p a r) (is_before code a r) (λ e. (and_parts (r.point == p) (is_before code a r) e).1) (λ e. and_from (r.point == p) (is_before code a r) (eq-eqb r.point p (of r i e)) e))

pub begins_same : (p a : ℕ) (rows : List Row) → ((r : Row) → In r rows → r.at ≡ a → r.point ≡ p) → find (begins_at p a) rows ≡ row_at rows a
begins_same p a rows of =
    finds_same (begins_at p a) (λ r. r.at == a) rows
    (λ r i. both_ways (begins_at p a r) (r.at == a) (λ e. (and_parts (r.point == p) (r.at == a) e).1) (λ e. and_from (r.point == p) (r.at == a) (eq-eqb r.point p (of r i (eqb-true r.at a e))) e))

-- ---- live mini blocks

-- where no two blocks begin at one address, a block of the point that begins there is the one that begins there
pub live_same : (p a : ℕ) (rows : List Row) → ((r q : Row) → In r rows → In q rows → r.at ≡ q.at → r ≡ q) → is_live_mini p (find (begins_at p a) rows) ≡ is_live_mini p (row_at rows a)
live_same p a rows alone = by (row_at rows a) refl (find (begins_at p a) rows) refl
  where
    by : (o : Option Row) → row_at rows a ≡ o → (m : Option Row) → find (begins_at p a) rows ≡ m → is_live_mini p m ≡ is_live_mini p o
    by None e None f = refl
    by None e (Some q) f =
        let g = find_gives (begins_at p a) rows q f in
        let h = find_finds (λ (r : Row). r.at == a) rows q g.0 (and_parts (q.point == p) (q.at == a) g.1).1 in
        absurd (none-some h.0 (sym e ∙ h.1))
    by (Some r) e (Some q) f =
        let g = find_gives (begins_at p a) rows q f in
        let h = find_gives (λ (r : Row). r.at == a) rows r e in
        ap (λ (x : Row). is_live_mini p (Some x)) (alone q r g.0 h.0 (eqb-true q.at a (and_parts (q.point == p) (q.at == a) g.1).1 ∙ sym (eqb-true r.at a h.1)))
    by (Some r) e None f =
        let h = find_gives (λ (r : Row). r.at == a) rows r e in
        let other : (r.point == p) ≡ false = false_from_ne_true (r.point == p) (λ t. let k = find_finds (begins_at p a) rows r h.0 (and_from (r.point == p) (r.at == a) t h.1) in none-some k.0 (sym f ∙ k.1)) in
        sym (and_right (not r.base) ((r.point == p) && is_live r.status) (and_left (r.point == p) (is_live r.status) other))

-- ---- looks

-- a block that stands at a place
pub left_in : {A : Type 0} (es : List (Option A)) (place : ℕ) (x : A) → get_or es place None ≡ Some x → In x (present_entries es)
left_in [] place x e = absurd (none-some x e)
left_in (None ∷ es) zero x e = absurd (none-some x e)
left_in (Some y ∷ es) zero x e = let i : y ≡ x = cc in inl (sym i)
left_in (None ∷ es) (suc place) x e = left_in es place x e
left_in (Some y ∷ es) (suc place) x e = inr (left_in es place x e)

-- the first block that passes is among those from the next place on
abbrev pub Looks : ℕ → (Row → Bool) → List (Option BlockRow) → Option ℕ → Type 0
Looks p q es next = Searches point_of (bucket_of p) (λ x. q (row_of x)) es next

-- what comes next after a place
abbrev pub Follows : List (Option ℕ) → ℕ → Option ℕ → Type 0
Follows buckets place r = (b : ℕ) → bucket_at buckets place ≡ Some b → IsFirst b (place + 1) buckets r

module _ (p : ℕ) (q : Row → Bool) (own : (r : Row) → q r ≡ true → r.point ≡ p) (es : List (Option BlockRow)) (buckets : List (Option ℕ)) (fit : buckets ≡ buckets_of point_of es) where
  same_bucket : (x : BlockRow) → q (row_of x) ≡ true → bucket_of (point_of x) ≡ bucket_of p
  same_bucket x e = ap bucket_of (own (row_of x) e)

  pub look_begun : (r : Option ℕ) → IsFirst (bucket_of p) 0 buckets r → Looks p q es r
  look_begun r h = search_begun point_of (bucket_of p) (λ x. q (row_of x)) same_bucket es r (subst (λ bs. IsFirst (bucket_of p) 0 bs r) fit h)

  module _ (next : Option ℕ) (place : ℕ) (is : next ≡ Some place) (looks : Looks p q es next) where
    here : Looks p q es (Some place)
    here = subst (Looks p q es) is looks

    pub look_within : place < length es
    look_within = next_within point_of (bucket_of p) place es here.place

    pub look_placed : place < length buckets
    look_placed = omega (arith, look_within, ap length fit, buckets_len point_of es)

    pub look_fewer : (r : Option ℕ) → Follows buckets place r → places_from (length es) r < places_from (length es) next
    look_fewer r h =
        subst (λ n. places_from (length es) r < places_from (length es) n) (sym is)
        (fewer_places (bucket_of p) place (length es) (buckets_of point_of es) r look_within (buckets_len point_of es)
        (subst (λ bs. IsFirst (bucket_of p) (place + 1) bs r) fit (h (bucket_of p) (subst (λ bs. bucket_at bs place ≡ Some (bucket_of p)) (sym fit) here.place))))

    module _ (o : Option BlockRow) (read : o ≡ get_or es place o) where
      pub look_none : o ≡ None → ⊥
      look_none none = entry_there point_of (bucket_of p) place es here.place (read_entry es place o look_within read ∙ none)

      pub look_on : (x : BlockRow) (r : Option ℕ) → o ≡ Some x → q (row_of x) ≡ false → Follows buckets place r → Looks p q es r
      look_on x r e fails h =
          search_on point_of (bucket_of p) (λ x. q (row_of x)) same_bucket es place x r here (read_entry es place o look_within read ∙ e) fails
          (subst (λ bs. IsFirst (bucket_of p) (place + 1) bs r) fit (h (bucket_of p) (subst (λ bs. bucket_at bs place ≡ Some (bucket_of p)) (sym fit) here.place)))

      -- the block stands among the others
      pub row_there : (x : BlockRow) → o ≡ Some x → In (row_of x) (map row_of (present_entries es))
      row_there x e = map_in row_of (present_entries es) x (left_in es place x (read_entry es place o look_within read ∙ e))

      pub look_found : (x : BlockRow) → o ≡ Some x → q (row_of x) ≡ true → Some (row_of x) ≡ find q (map row_of (present_entries es))
      look_found x e passes =
          ap (option_map row_of) (search_found point_of (bucket_of p) (λ x. q (row_of x)) same_bucket es place x here (read_entry es place o look_within read ∙ e) passes)
          ∙ find_map row_of q (present_entries es)

  pub look_over : (next : Option ℕ) → next ≡ None → Looks p q es next → None ≡ find q (map row_of (present_entries es))
  look_over next is looks = ap (option_map row_of) (subst (Looks p q es) is looks).rest ∙ find_map row_of q (present_entries es)
