-- The hole at a place of the list.
use Rattle.std.proofs.Common.{◌≡◌, ℕ, ◌+◌, ◌-◌, ◌<◌, ◌≤◌, List, [], ◌∷◌, zero, suc, refl, sym, ap, subst, arith, get_or, length}
use Rattle.std.specs.Prelude.{slice_set}
use Rattle.std.specs.List.{remove}
use Rattle.std.proofs.lemmas.Bool.Decides.{nat_tests}
use Rattle.tool_space.specs.Holes.{AreHoles, InOrder, cut_at, join_at, no_hole}
use Rattle.tool_space.specs.declared.hole.Hole.{Hole}

pub record Lies (low high : ℕ) (hole : Hole) : Type 0 where
  pub low_end : low ≤ hole.at
  pub some : 0 < hole.len
  pub high_end : hole.at + hole.len ≤ high

-- A hole of a list in order lies between its bounds.
pub lies_at : (holes : List Hole) (place low high : ℕ) (default : Hole) → InOrder low high holes → place < length holes → Lies low high (get_or holes place default)
lies_at [] place low high default order within = absurd (omega arith)
lies_at (hole ∷ holes) zero low high default order within = record { low_end = order.0; some = order.1; high_end = order.2 }
lies_at (hole ∷ holes) (suc place) low high default order within =
    let rest = lies_at holes place (hole.at + hole.len) high default order.3 (omega arith) in
    record { low_end = omega (arith, order.0, order.1, rest.low_end); some = rest.some; high_end = rest.high_end }

pub lies : (holes : List Hole) (place low high : ℕ) (hole : Hole) → hole ≡ get_or holes place hole → InOrder low high holes → place < length holes → Lies low high hole
lies holes place low high hole here order within =
    subst (λ (h : Hole). Lies low high h) (sym here) (lies_at holes place low high hole order within)

-- Holes that don't touch are in order.
pub in_order : (holes : List Hole) (low low' high high' : ℕ) → low ≤ low' → high' ≤ high → AreHoles low' high' holes → InOrder low high holes
in_order [] low low' high high' l h are = tt
in_order (hole ∷ holes) low low' high high' l h are =
    (omega (arith, are.0), are.1, omega (arith, are.2), in_order holes (hole.at + hole.len) (hole.at + hole.len + 1) high high' (omega arith) h are.3)

-- What is read at a place doesn't rest on what stands after the last hole.
pub same_hole : (holes : List Hole) (place : ℕ) (hole : Hole) → place < length holes → hole ≡ get_or holes place hole → get_or holes place no_hole ≡ hole
same_hole [] place hole within here = absurd (omega arith)
same_hole (first ∷ holes) zero hole within here = sym here
same_hole (first ∷ holes) (suc place) hole within here = same_hole holes place hole (omega arith) here

-- A hole of a list of holes lies between its bounds.
pub lies_apart : (holes : List Hole) (place low high : ℕ) → AreHoles low high holes → place < length holes → Lies low high (get_or holes place no_hole)
lies_apart holes place low high are within =
    lies_at holes place low high no_hole (in_order holes low low high high (omega arith) (omega arith) are) within

-- The hole at a place is cut as the code cuts it.
pub cut_whole : (holes : List Hole) (place len : ℕ) (hole : Hole) → place < length holes → hole ≡ get_or holes place hole → hole.len ≡ len → remove holes place ≡ cut_at len place holes
cut_whole [] place len hole within here same = absurd (omega arith)
cut_whole (first ∷ holes) zero len hole within here same = grind (arith, nat_tests)
cut_whole (first ∷ holes) (suc place) len hole within here same = ap (λ more. first ∷ more) (cut_whole holes place len hole (omega arith) here same)

pub cut_part : (holes : List Hole) (place len : ℕ) (hole : Hole) → place < length holes → hole ≡ get_or holes place hole → (hole.len ≡ len → ⊥) → slice_set holes place (record { at = hole.at + len; len = hole.len - len }) ≡ cut_at len place holes
cut_part [] place len hole within here other = absurd (omega arith)
cut_part (first ∷ holes) zero len hole within here other = grind (arith, nat_tests)
cut_part (first ∷ holes) (suc place) len hole within here other = ap (λ more. first ∷ more) (cut_part holes place len hole (omega arith) here other)

-- A hole and the next are joined as the code joins them.
pub joined : (holes : List Hole) (place : ℕ) (hole next : Hole) → suc place < length holes → hole ≡ get_or holes place hole → next ≡ get_or holes (suc place) next → hole.at + hole.len ≡ next.at
    → slice_set (remove holes (suc place)) place (record { at = hole.at; len = hole.len + next.len }) ≡ join_at place holes
joined [] place hole next within here there touch = absurd (omega arith)
joined (first ∷ []) place hole next within here there touch = absurd (omega arith)
joined (first ∷ second ∷ holes) zero hole next within here there touch = grind (arith, nat_tests)
joined (first ∷ second ∷ holes) (suc place) hole next within here there touch =
    ap (λ more. first ∷ more) (joined (second ∷ holes) place hole next (omega arith) here there touch)

-- The last hole has none to be joined with.
pub last_joined : (holes : List Hole) (place : ℕ) → length holes ≤ suc place → holes ≡ join_at place holes
last_joined [] zero end = refl
last_joined [] (suc place) end = refl
last_joined (first ∷ []) zero end = refl
last_joined (first ∷ second ∷ holes) zero end = absurd (omega arith)
last_joined (first ∷ holes) (suc place) end = ap (λ more. first ∷ more) (last_joined holes place (omega arith))

-- Holes that don't touch stay.
pub apart_joined : (holes : List Hole) (place : ℕ) (hole next : Hole) → suc place < length holes → hole ≡ get_or holes place hole → next ≡ get_or holes (suc place) next → (hole.at + hole.len ≡ next.at → ⊥)
    → holes ≡ join_at place holes
apart_joined [] place hole next within here there apart = absurd (omega arith)
apart_joined (first ∷ []) place hole next within here there apart = absurd (omega arith)
apart_joined (first ∷ second ∷ holes) zero hole next within here there apart = grind (arith, nat_tests)
apart_joined (first ∷ second ∷ holes) (suc place) hole next within here there apart =
    ap (λ more. first ∷ more) (apart_joined (second ∷ holes) place hole next (omega arith) here there apart)
