-- The harts in a list, as the definitions have them.
use Rattle.std.proofs.Common.{◌≡◌, ℕ, zero, suc, ◌+◌, ◌-◌, ◌<◌, List, [], ◌∷◌, ◌++◌, length, get_or, set, Some, refl, ap, sym, ◌∙◌, arith}
use Rattle.std.specs.Prelude.{slice_get, slice_set}
use Rattle.pn_types.specs.declared.image.Image.{Image}
use Rattle.rv_word.specs.Plain.{PlainHart}
use Rattle.rv_exec.specs.Start.{start_hart, harts_from}
use Rattle.plain_run.specs.declared.hart.HartState.{HartState}
use Rattle.plain_run.specs.Views.{hart_of, plain_harts}

pub harts_of-set : (hs : List HartState) (h : ℕ) (y : HartState) → plain_harts (set hs h y) ≡ slice_set (plain_harts hs) h (hart_of y)
harts_of-set [] h y = refl
harts_of-set (x ∷ hs) zero y = refl
harts_of-set (x ∷ hs) (suc h) y = ap (λ z. hart_of x ∷ z) (harts_of-set hs h y)

pub harts_of-get : (hs : List HartState) (h : ℕ) (x : HartState) → x ≡ get_or hs h x → h < length hs → slice_get (plain_harts hs) h ≡ Some (hart_of x)
harts_of-get [] h x e l = absurd (omega arith)
harts_of-get (y ∷ hs) zero x e l = ap (λ z. Some (hart_of z)) (sym e)
harts_of-get (y ∷ hs) (suc h) x e l = harts_of-get hs h x e (omega arith)

pub length-harts_of : (hs : List HartState) → length (plain_harts hs) ≡ length hs
length-harts_of [] = refl
length-harts_of (x ∷ hs) = omega (arith, length-harts_of hs)

harts_of-push : (hs : List HartState) (y : HartState) (rest : List PlainHart) → plain_harts (hs ++ y ∷ []) ++ rest ≡ plain_harts hs ++ hart_of y ∷ rest
harts_of-push [] y rest = refl
harts_of-push (x ∷ hs) y rest = ap (λ z. hart_of x ∷ z) (harts_of-push hs y rest)

-- one hart more, before those that are to come
pub hart_step : (hs new : List HartState) (y : HartState) (image : Image) (n h : ℕ) → h < n → new ≡ hs ++ y ∷ [] → hart_of y ≡ start_hart image n h → plain_harts new ++ harts_from (n - (h + 1)) (h + 1) image n ≡ plain_harts hs ++ harts_from (n - h) h image n
hart_step hs new y image n h l e is =
    let k : suc (n - (h + 1)) ≡ n - h = omega arith in
    ap (λ z. plain_harts z ++ harts_from (n - (h + 1)) (h + 1) image n) e
    ∙ harts_of-push hs y (harts_from (n - (h + 1)) (h + 1) image n)
    ∙ ap (λ z. plain_harts hs ++ z ∷ harts_from (n - (h + 1)) (h + 1) image n) is
    ∙ ap (λ j. plain_harts hs ++ harts_from j h image n) k
