use Rattle.std.proofs.Common.{◌≡◌, ◌++◌, drop, map}
use Rattle.visi_run.specs.Texts.{view_texts}
use Rattle.visi_run.proofs.text.add_views.Given as goal

-- what is written, and the views that are left, make all the views
abbrev pub invariant-loop-number : goal.invariant-loop-number
invariant-loop-number l = l.out.items ++ view_texts l.shown l.number (map (λ v. v.items) (drop l.number l.lists)) ≡ l.initial.out.items ++ view_texts l.shown 0 (map (λ v. v.items) l.lists)
