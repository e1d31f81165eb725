-- All rooms but a number of the first are given back, from the last one on.
use Rattle.std.proofs.Common.{◌≡◌, ℕ, zero, suc, add-one, ◌/◌, ◌<◌, ◌≤◌, Option, Some, None, List, [], ◌∷◌, ◌++◌, length, take, drop, set, get_or, refl, sym, ap, subst, ◌∙◌, arith}
use Rattle.std.proofs.lemmas.List.{append-nil, length-append, length-set, take-set, take_more, take_all}
use Rattle.bucket_chains.specs.Left.{present_entries}
use Rattle.rv_word.specs.Plain.{Words}
use Rattle.tool_space.specs.Rooms.{Rooms, IsTaken, after_give}
use Rattle.instrument.specs.RoomPlaces.{RoomPlaces}
use Rattle.instrument.specs.Spaces.{AreRoomsOf, words_of_room}
use Rattle.instrument.specs.declared.room.Room.{Room}
use Rattle.instrument.proofs.Grown.{behind_goes}
use Rattle.instrument.proofs.Holdings.{middle, may_give, taken}
use Rattle.bucket_chains.proofs.Nexts.{left_push}
use Rattle.instrument.proofs.RoomLists.{entry_within, left_out, left_parts, left_without}

left_more_none : (es : List (Option Room)) → present_entries (es ++ None ∷ []) ≡ present_entries es
left_more_none [] = refl
left_more_none (None ∷ es) = left_more_none es
left_more_none (Some x ∷ es) = ap (λ l. x ∷ l) (left_more_none es)

-- the places up to one more
up_to : (es : List (Option Room)) (i : ℕ) → i < length es → take (suc i) es ≡ take i es ++ get_or es i None ∷ []
up_to es i lt = ap (λ k. take k es) (sym (add-one i)) ∙ take_more es i None lt

take_same : {A : Type 0} (n m : ℕ) (xs ys : List A) → m ≤ n → take n xs ≡ take n ys → take m xs ≡ take m ys
take_same n zero xs ys le h = refl
take_same zero (suc m) xs ys le h = absurd (omega (arith, le))
take_same (suc n) (suc m) [] [] le h = refl
take_same (suc n) (suc m) [] (y ∷ ys) le h = absurd (omega (arith, ap length h))
take_same (suc n) (suc m) (x ∷ xs) [] le h = absurd (omega (arith, ap length h))
take_same (suc n) (suc m) (x ∷ xs) (y ∷ ys) le h =
    let head : x ≡ y = cc in
    let tail : take n xs ≡ take n ys = cc in
    ap (λ z. z ∷ take m xs) head ∙ ap (λ l. y ∷ l) (take_same n m xs ys (omega (arith, le)) tail)

take_at : {A : Type 0} (n i : ℕ) (d : A) (xs ys : List A) → i < n → take n xs ≡ take n ys → get_or xs i d ≡ get_or ys i d
take_at zero i d xs ys lt h = absurd (omega (arith, lt))
take_at (suc n) i d [] [] lt h = refl
take_at (suc n) i d [] (y ∷ ys) lt h = absurd (omega (arith, ap length h))
take_at (suc n) i d (x ∷ xs) [] lt h = absurd (omega (arith, ap length h))
take_at (suc n) zero d (x ∷ xs) (y ∷ ys) lt h = cc
take_at (suc n) (suc i) d (x ∷ xs) (y ∷ ys) lt h =
    let tail : take n xs ≡ take n ys = cc in
    take_at n i d xs ys (omega (arith, lt)) tail

same_tail : {A : Type 0} (xs ys zs : List A) → xs ++ ys ≡ xs ++ zs → ys ≡ zs
same_tail [] ys zs h = h
same_tail (x ∷ xs) ys zs h = same_tail xs ys zs cc

take_front : {A : Type 0} (xs ys : List A) (n : ℕ) → length xs ≡ n → take n (xs ++ ys) ≡ xs
take_front [] ys zero h = refl
take_front [] ys (suc n) h = absurd (omega (arith, h))
take_front (x ∷ xs) ys zero h = absurd (omega (arith, h))
take_front (x ∷ xs) ys (suc n) h = ap (λ l. x ∷ l) (take_front xs ys n (omega (arith, h)))

module _ (count : ℕ) (rooms₀ : RoomPlaces) (words₀ : Rooms) where
  -- the rooms from a place on were given back
  pub record IsGiving (rooms : RoomPlaces) (words : Rooms) (place : ℕ) : Type 0 where
    pub len : length rooms.places ≡ length rooms₀.places
    pub within : place ≤ length rooms₀.places
    pub same : take place rooms.places ≡ take place rooms₀.places
    pub left_is : present_entries rooms.places ≡ present_entries (take place rooms₀.places)
    pub enough : count ≤ length (present_entries rooms.places)
    pub spare : rooms.spare ≡ rooms₀.spare
    pub tied : (program : Words) → AreRoomsOf program words₀ (present_entries rooms₀.places) → AreRoomsOf program words (present_entries rooms.places)
    pub takes : words.takes ≡ words₀.takes

  pub giving_begun : count ≤ length (present_entries rooms₀.places) → IsGiving rooms₀ words₀ (length rooms₀.places)
  giving_begun enough = record {
    len = refl;
    within = omega arith;
    same = refl;
    left_is = ap present_entries (sym (take_all (length rooms₀.places) rooms₀.places (omega arith)));
    enough = enough;
    spare = refl;
    tied = λ program k. k;
    takes = refl;
  }

  module _ (rooms : RoomPlaces) (words : Rooms) (i : ℕ) (giving : IsGiving rooms words (suc i)) where
    inside : i < length rooms₀.places
    inside = omega (arith, giving.within)

    at_same : get_or rooms.places i None ≡ get_or rooms₀.places i None
    at_same = take_at (suc i) i None rooms.places rooms₀.places (omega arith) giving.same

    -- an empty place is passed
    pub giving_on : get_or rooms.places i None ≡ None → IsGiving rooms words i
    giving_on none = record {
      len = giving.len;
      within = omega (arith, giving.within);
      same = take_same (suc i) i rooms.places rooms₀.places (omega arith) giving.same;
      left_is = giving.left_is ∙ ap present_entries (up_to rooms₀.places i inside ∙ ap (λ o. take i rooms₀.places ++ o ∷ []) (sym at_same ∙ none)) ∙ left_more_none (take i rooms₀.places);
      enough = giving.enough;
      spare = giving.spare;
      tied = giving.tied;
      takes = giving.takes;
    }

    module _ (x : Room) (here : get_or rooms.places i None ≡ Some x) where
      abbrev before : List Room
      before = present_entries (take i rooms₀.places)

      last : present_entries rooms.places ≡ before ++ x ∷ []
      last = giving.left_is ∙ ap present_entries (up_to rooms₀.places i inside ∙ ap (λ o. take i rooms₀.places ++ o ∷ []) (sym at_same ∙ here)) ∙ left_push (take i rooms₀.places) x

      front : present_entries (take i rooms.places) ≡ before
      front = ap present_entries (take_same (suc i) i rooms.places rooms₀.places (omega arith) giving.same)

      none_behind : present_entries (drop (suc i) rooms.places) ≡ []
      none_behind =
          let tails = same_tail before (x ∷ present_entries (drop (suc i) rooms.places)) (x ∷ []) (ap (λ l. l ++ x ∷ present_entries (drop (suc i) rooms.places)) (sym front) ∙ sym (left_out rooms.places i x here) ∙ last) in
          cc

      pub rest : present_entries (set rooms.places i None) ≡ before
      rest = left_without rooms.places i (entry_within rooms.places i x here) ∙ ap (λ l. l ++ present_entries (drop (suc i) rooms.places)) front ∙ ap (λ l. before ++ l) none_behind ∙ append-nil before

      rooms_of : (program : Words) → AreRoomsOf program words₀ (present_entries rooms₀.places) → AreRoomsOf program words (before ++ x ∷ [])
      rooms_of program k = subst (AreRoomsOf program words) last (giving.tied program k)

      module _ (program : Words) (k : AreRoomsOf program words₀ (present_entries rooms₀.places)) where
        pub some_words : 0 < x.len
        some_words = ((rooms_of program k).whole x (middle before [] x)).0

        pub reserved : 0 < words.gives
        reserved = may_give words_of_room _ _ words before [] x (rooms_of program k).taken some_words

        pub was_taken : IsTaken words (x.at / 4) x.len
        was_taken = taken words_of_room _ _ words (before ++ x ∷ []) (rooms_of program k).taken x (middle before [] x)

      pub giving_more : (rooms' : RoomPlaces) (words' : Rooms) → rooms' ≡ record rooms { places = set rooms.places i None } → words' ≡ after_give words (x.at / 4) x.len → count < length (present_entries rooms.places) → IsGiving rooms' words' i
      giving_more rooms' words' e g more =
          let places : rooms'.places ≡ set rooms.places i None = ap (λ (z : RoomPlaces). z.places) e in
          let rest_is : present_entries rooms'.places ≡ before = ap present_entries places ∙ rest in
          record {
            len = ap length places ∙ length-set rooms.places i None ∙ giving.len;
            within = omega (arith, giving.within);
            same = ap (take i) places ∙ take-set rooms.places i None ∙ take_same (suc i) i rooms.places rooms₀.places (omega arith) giving.same;
            left_is = rest_is;
            enough = omega (arith, more, ap length last, length-append before (x ∷ []), ap length rest_is);
            spare = ap (λ (z : RoomPlaces). z.spare) e ∙ giving.spare;
            tied = λ program k.
                subst (AreRoomsOf program words') (sym rest_is)
                (subst (λ (w : Rooms). AreRoomsOf program w before) (sym g)
                (subst (AreRoomsOf program (after_give words (x.at / 4) x.len)) (append-nil before) (behind_goes program words before [] x (rooms_of program k))));
            takes = ap (λ (w : Rooms). w.takes) g ∙ giving.takes;
          }

  -- as many are left
  pub giving_over : (rooms : RoomPlaces) (words : Rooms) (place : ℕ) → IsGiving rooms words place → length (present_entries rooms.places) ≤ count → present_entries rooms.places ≡ take count (present_entries rooms₀.places)
  giving_over rooms words place giving few =
      giving.left_is
      ∙ sym (take_front (present_entries (take place rooms₀.places)) (present_entries (drop place rooms₀.places)) count (omega (arith, few, giving.enough, ap length giving.left_is)))
      ∙ ap (take count) (sym (left_parts rooms₀.places place))
