-- What a machine begins with.
use Rattle.std.proofs.Common.{◌≡◌, ℕ, zero, suc, ◌+◌, ◌-◌, ◌^◌, ◌<◌, ◌≤◌, List, [], ◌∷◌, ◌++◌, length, Option, None, refl, sym, ap, ◌∙◌, subst, arith, append_assoc}
use Rattle.std.specs.Prelude.{map}
use Rattle.std.specs.FinMap.{get-empty}
use Rattle.std.specs.Ordering.{nat_cmp}
use Rattle.std.proofs.lemmas.List.{length-map, length-replicate}
use Rattle.pn_types.specs.declared.limits.TheConstants.{MAX_HARTS}
use Rattle.pn_types.specs.declared.image.Image.{Image}
use Rattle.rv_exec.specs.Start.{start, start_hart, harts_from}
use Rattle.tramp_spec.specs.Harts.{Hart}
use Rattle.code_store.specs.Stores.{first_code}
use Rattle.machine.specs.Cores.{first_hart}
use Rattle.machine.specs.Laws.{IsProgram}
use Rattle.machine.specs.Views.{AreMachineParts}

-- the harts so far, one more, and those to come
pub hart_step : (xs new : List Hart) (x : Hart) (image : Image) (n h : ℕ) → h < n → new ≡ xs ++ x ∷ [] → x ≡ first_hart (start_hart image n h) → new ++ map first_hart (harts_from (n - (h + 1)) (h + 1) image n) ≡ xs ++ map first_hart (harts_from (n - h) h image n)
hart_step xs new x image n h l e is =
    let k : suc (n - (h + 1)) ≡ n - h = omega arith in
    ap (λ z. z ++ map first_hart (harts_from (n - (h + 1)) (h + 1) image n)) e
    ∙ (append_assoc xs (x ∷ []) (map first_hart (harts_from (n - (h + 1)) (h + 1) image n))
    ∙ (ap (λ z. xs ++ z ∷ map first_hart (harts_from (n - (h + 1)) (h + 1) image n)) is
    ∙ ap (λ j. xs ++ map first_hart (harts_from j h image n)) k))

length_harts : (more h n : ℕ) (image : Image) → length (harts_from more h image n) ≡ more
length_harts zero h n image = refl
length_harts (suc more) h n image = ap suc (length_harts more (h + 1) n image)

pub first_sound : (image : Image) (n budget : ℕ) → IsProgram image → n ≤ MAX_HARTS → budget < 2 ^ 64 → AreMachineParts (map first_hart (harts_from n 0 image n)) (start image n).prog (first_code image) [] budget
first_sound image n budget p few low =
    record {
      reached = record { image = image; many = n; events = []; program = p; legal = tt; is = refl };
      owners = λ a. get-empty nat_cmp a;
      reservations = length-replicate {A = Option ℕ} n None ∙ sym (length-map (harts_from n 0 image n) first_hart ∙ length_harts n 0 n image);
      few = subst (λ m. m ≤ MAX_HARTS) (sym (length-map (harts_from n 0 image n) first_hart ∙ length_harts n 0 n image)) few;
      countable = low;
    }
