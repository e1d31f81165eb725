-- The metric of a name.
use Rattle.std.proofs.Common.{◌≡◌, ℕ, zero, suc, ◌<◌, Bool, true, cond, bytes_eq, get_or, drop, Some, List, [], ◌∷◌, length, refl, sym, ap, ◌∙◌, arith}
use Rattle.std.specs.Prelude.{slice_get}
use Rattle.std.specs.List.{find}
use Rattle.mdl_ast.specs.declared.metric.Metric.{Metric}
use Rattle.commands.specs.Plans.{metric_named}

pub some_at : {A : Type 0} (xs : List A) (k : ℕ) → k < length xs → (x : A) × (slice_get xs k ≡ Some x)
some_at [] k l = absurd (omega arith)
some_at (x ∷ xs) zero l = (x, refl)
some_at (x ∷ xs) (suc k) l = some_at xs k (omega arith)

-- the metric at a place has the name
here : (name : List ℕ) (metrics : List Metric) (k : ℕ) (m : Metric) → k < length metrics → m ≡ get_or metrics k m → bytes_eq name m.name ≡ true →
    (slice_get metrics k ≡ Some m) × (metric_named (drop k metrics) name ≡ Some m)
here name [] k m l e t = absurd (omega arith)
here name (x ∷ xs) zero m l e t =
    let test : bytes_eq name x.name ≡ true = ap (λ (y : Metric). bytes_eq name y.name) (sym e) ∙ t in
    (ap Some (sym e), ap (λ (b : Bool). cond b (Some x) (find (λ y. bytes_eq name y.name) xs)) test ∙ ap Some (sym e))
here name (x ∷ xs) (suc k) m l e t = here name xs k m (omega arith) e t

pub named_here : (name : List ℕ) (metrics : List Metric) (k : ℕ) (m : Metric) → k < length metrics → m ≡ get_or metrics k m → bytes_eq name m.name ≡ true →
    metric_named (drop k metrics) name ≡ metric_named metrics name → slice_get metrics k ≡ metric_named metrics name
named_here name metrics k m l e t same = let h = here name metrics k m l e t in h.0 ∙ sym h.1 ∙ same
