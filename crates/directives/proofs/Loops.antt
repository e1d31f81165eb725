-- A loop over directives: what is done, and what is still to come.
use Rattle.std.proofs.Common.{◌≡◌, ℕ, zero, suc, ◌+◌, ◌<◌, ◌≤◌, Some, None, List, [], ◌∷◌, length, drop, get_or, Result, Ok, Err, refl, sym, ap, ◌∙◌, arith}
use Rattle.std.proofs.Math.Seq.{drop-cons}
use Rattle.mdl_ast.specs.declared.items.Item.{Item}
use Rattle.directives.specs.declared.directive.Directive.{Directive}
use Rattle.directives.specs.declared.fault.DirectiveKind.{DirectiveKind}
use Rattle.directives.specs.declared.fault.DirectiveFault.{DirectiveFault}
use Rattle.directives.specs.Acts.{kind_of, items_after_act, go_on, directed}

abbrev Answer : Type 0
Answer = Result (List Item) DirectiveFault

directed_step : (whole : Answer) (ds : List Directive) (i : ℕ) (d : Directive) (items : List Item) → whole ≡ directed (drop i ds) items → i < length ds → d ≡ get_or ds i d →
    whole ≡ go_on (directed (drop (i + 1) ds)) d items (kind_of d.act items)
unfolding directed
directed_step whole ds i d items e h k =
    let next : suc i ≡ i + 1 = omega arith in
    let behind : drop i ds ≡ d ∷ drop (i + 1) ds = drop-cons ds i d h ∙ ap (λ (x : Directive). x ∷ drop (suc i) ds) (sym k) ∙ ap (λ (n : ℕ). d ∷ drop n ds) next in
    e ∙ ap (λ (l : List Directive). directed l items) behind

pub directed_faulty : (whole : Answer) (ds : List Directive) (i : ℕ) (d : Directive) (items : List Item) (kind : DirectiveKind) → whole ≡ directed (drop i ds) items → i < length ds → d ≡ get_or ds i d →
    kind_of d.act items ≡ Some kind → whole ≡ Err (record { line = d.line; col = 0; kind = kind })
directed_faulty whole ds i d items kind e h k n = directed_step whole ds i d items e h k ∙ ap (go_on (directed (drop (i + 1) ds)) d items) n

pub directed_more : (whole : Answer) (ds : List Directive) (i : ℕ) (d : Directive) (items next : List Item) → whole ≡ directed (drop i ds) items → i < length ds → d ≡ get_or ds i d →
    kind_of d.act items ≡ None → next ≡ items_after_act d.act items → whole ≡ directed (drop (i + 1) ds) next
directed_more whole ds i d items next e h k n m =
    directed_step whole ds i d items e h k ∙ ap (go_on (directed (drop (i + 1) ds)) d items) n ∙ ap (directed (drop (i + 1) ds)) (sym m)

none_left : (ds : List Directive) (i : ℕ) → length ds ≤ i → drop i ds ≡ []
none_left [] zero h = refl
none_left [] (suc i) h = refl
none_left (d ∷ ds) zero h = absurd (omega arith)
none_left (d ∷ ds) (suc i) h = none_left ds i (omega arith)

pub directed_all : (whole : Answer) (ds : List Directive) (i : ℕ) (items : List Item) → whole ≡ directed (drop i ds) items → length ds ≤ i → whole ≡ Ok items
unfolding directed
directed_all whole ds i items e h = e ∙ ap (λ (l : List Directive). directed l items) (none_left ds i h)
