-- The retired blocks of a point are taken out, and their words are freed.
use Rattle.std.proofs.Common.{◌≡◌, ℕ, zero, suc, ◌+◌, ◌≤◌, List, [], ◌∷◌, length, get_or, map, Option, Some, None, refl, sym, ap, ◌∙◌, add-one, arith, drop}
use Rattle.std.specs.Prelude.{◌==◌, Bool, true, cond, filter, not}
use Rattle.std.specs.Option.{option_map}
use Rattle.std.proofs.lemmas.Bool.{and_left, cond-true, ne_eqb}
use Rattle.std.proofs.lemmas.List.{drop_all}
use Rattle.std.proofs.lemmas.Option.{none-some}
use Rattle.code_store.specs.Owners.{Owners, owners_without}
use Rattle.bucket_chains.specs.Entries.{HasNone, bucket_of, IsFirst}
use Rattle.bucket_chains.specs.Left.{buckets_of, present_entries}
use Rattle.bucket_chains.proofs.Nexts.{from_next}
use Rattle.bucket_chains.proofs.Walks.{IsChange, kept_if, left_filter}
use Rattle.machine.specs.Cores.{is_current}
use Rattle.machine.specs.Effects.{is_kept}
use Rattle.machine.specs.Links.{owners_left}
use Rattle.machine.specs.Views.{row_of, status_of}
use Rattle.machine.specs.declared.block_row.BlockRow.{BlockRow}
use Rattle.machine.proofs.Lists.{map_filter}
use Rattle.machine.proofs.BlockLooks.{point_of}

-- it is taken out
abbrev pub take_retired : ℕ → Option BlockRow → Option BlockRow
take_retired p = kept_if (λ x. is_kept p (row_of x))

kept_off : (p : ℕ) (x : BlockRow) → (bucket_of (point_of x) ≡ bucket_of p → ⊥) → is_kept p (row_of x) ≡ true
kept_off p x off = ap not (and_left (x.point == p) (not (is_current (status_of x.status))) (ne_eqb x.point p (λ e. off (ap bucket_of e))))

pub take_changes : (p : ℕ) → IsChange point_of (bucket_of p) (take_retired p)
take_changes p = record { none = refl; other = λ x off. cond-true (is_kept p (row_of x)) (Some x) None (kept_off p x off) }

pub all_taken : (p : ℕ) (old now : List (Option BlockRow)) → now ≡ map (take_retired p) old → map row_of (present_entries now) ≡ filter (is_kept p) (map row_of (present_entries old))
all_taken p old now e = ap (λ es. map row_of (present_entries es)) e ∙ (ap (map row_of) (left_filter (λ x. is_kept p (row_of x)) old) ∙ sym (map_filter row_of (is_kept p) (present_entries old)))

-- the words of the blocks from a place on are freed
abbrev pub frees : ℕ → List (Option BlockRow) → Owners → Owners
frees p es owners = owners_left p (map row_of (present_entries es)) owners

frees_one : (p : ℕ) (e : Option BlockRow) (es : List (Option BlockRow)) (owners : Owners) → (option_map (λ x. bucket_of (point_of x)) e ≡ Some (bucket_of p) → ⊥) → frees p (e ∷ es) owners ≡ frees p es owners
frees_one p None es owners off = refl
frees_one p (Some x) es owners off = ap (λ b. frees p es (cond b owners (owners_without x.at x.len owners))) (kept_off p x (λ e. off (ap Some e)))

frees_on : (p : ℕ) (es : List (Option BlockRow)) (from to : ℕ) (owners : Owners) → from ≤ to → HasNone (bucket_of p) from to (buckets_of point_of es) → frees p (drop from es) owners ≡ frees p (drop to es) owners
frees_on p es zero zero owners le none = refl
frees_on p es (suc from) zero owners le none = absurd (omega (arith, le))
frees_on p [] zero (suc to) owners le none = refl
frees_on p [] (suc from) (suc to) owners le none = refl
frees_on p (e ∷ es) zero (suc to) owners le none =
    frees_one p e es owners (λ at. none 0 (omega arith) (omega arith) at) ∙ frees_on p es zero to owners (omega arith) (λ i ge lt at. none (suc i) (omega arith) (omega (arith, lt)) at)
frees_on p (e ∷ es) (suc from) (suc to) owners le none = frees_on p es from to owners (omega (arith, le)) (λ i ge lt at. none (suc i) (omega (arith, ge)) (omega (arith, lt)) at)

-- from the next place on as many are freed
pub frees_from : (p : ℕ) (es : List (Option BlockRow)) (from : ℕ) (r : Option ℕ) (owners : Owners) → IsFirst (bucket_of p) from (buckets_of point_of es) r → frees p (from_next r es) owners ≡ frees p (drop from es) owners
frees_from p es from None owners h =
    ap (λ l. frees p l owners) (sym (drop_all (from + length es) es (omega arith))) ∙ sym (frees_on p es from (from + length es) owners (omega arith) (λ i ge lt at. h i ge at))
frees_from p es from (Some place) owners h = sym (frees_on p es from place owners h.0 h.2)

frees_at : (p : ℕ) (es : List (Option BlockRow)) (place : ℕ) (x : BlockRow) (owners : Owners) → get_or es place None ≡ Some x → frees p (drop place es) owners ≡ frees p (drop (suc place) es) (cond (is_kept p (row_of x)) owners (owners_without x.at x.len owners))
frees_at p [] place x owners h = absurd (none-some x h)
frees_at p (e ∷ es) zero x owners h = ap (λ o. frees p (o ∷ es) owners) h
frees_at p (e ∷ es) (suc place) x owners h = frees_at p es place x owners h

-- the block at a place stays, or its words are freed
pub frees_here : (p : ℕ) (es : List (Option BlockRow)) (place : ℕ) (x : BlockRow) (owners : Owners) (b : Bool) → get_or es place None ≡ Some x → is_kept p (row_of x) ≡ b
    → frees p (drop place es) owners ≡ frees p (drop (place + 1) es) (cond b owners (owners_without x.at x.len owners))
frees_here p es place x owners b h e =
    frees_at p es place x owners h
    ∙ (ap (λ c. frees p (drop (suc place) es) (cond c owners (owners_without x.at x.len owners))) e ∙ ap (λ k. frees p (drop k es) (cond b owners (owners_without x.at x.len owners))) (sym (add-one place)))
