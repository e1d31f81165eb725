use Rattle.std.proofs.Common.{rules, ◌≡◌, codes, is_some, Bool, Option, Result, Ok, Err, List, ℕ, ap, ◌∙◌}
use Rattle.std.specs.Option.{option_map}
use Rattle.pn_types.specs.declared.focus.Axis.TheVariants.{Code, SyncObject}
use Rattle.pn_types.specs.declared.focus.Focus.{Focus}
use Rattle.mdl_ast.specs.declared.metric.Metric.{Metric}
use Rattle.mdl_ast.specs.declared.metric.Constraint.{Constraint}
use Rattle.mdl_plan.specs.Active.{active_of, both, constraint_for, is_below, wanted}
use Rattle.mdl_plan.specs.declared.fault.PlanFault.{PlanFault}
use Rattle.mdl_plan.proofs.active.active_at.Goals as goal

due : (cs : List Constraint) (m : Metric) (f : Focus) (names : List (List ℕ)) (below some : Bool) (of_code of_object : Option Constraint) (code object : Result (Option Constraint) PlanFault)
    → names ≡ m.constraints → below ≡ is_below f.code → some ≡ is_some f.object
    → of_code ≡ constraint_for cs (codes "/Code") names → of_object ≡ constraint_for cs (codes "/SyncObject") names
    → code ≡ wanted Code below of_code → object ≡ wanted SyncObject some of_object
    → both code object ≡ active_of cs m f
due cs m f names below some of_code of_object code object n b s oc oo c o =
    ap (λ (x : Result (Option Constraint) PlanFault). both x object) (c ∙ ap (λ (x : Bool). wanted Code x of_code) b ∙ ap (wanted Code (is_below f.code)) (oc ∙ ap (constraint_for cs (codes "/Code")) n))
    ∙ ap (both (wanted Code (is_below f.code) (constraint_for cs (codes "/Code") m.constraints))) (o ∙ ap (λ (x : Bool). wanted SyncObject x of_object) s ∙ ap (wanted SyncObject (is_some f.object)) (oo ∙ ap (constraint_for cs (codes "/SyncObject")) n))

pub returns-in_err-object : goal.returns-in_err-object
returns-in_err-object c =
    (let e : c.from_residual-in_err-object.result ≡ Err c.in_err-object.field-0.0 = search rules in e)
    ∙ due c.args.constraints.now c.args.metric.now c.args.focus.now c.as_slice-names.result.now c.is_below.result c.is_some.result
    (option_map (λ k. k.now) c.constraint_for-of_code.result) (option_map (λ k. k.now) c.constraint_for-of_object.result)
    (Ok (option_map (λ k. k.now) c.in_ok-code.code)) (Err c.in_err-object.field-0.0)
    c.as_slice-names.ensures c.is_below.ensures c.is_some.ensures c.constraint_for-of_code.ensures c.constraint_for-of_object.ensures c.in_ok-code.ensures c.in_err-object.ensures

pub returns : goal.returns
returns c =
    due c.args.constraints.now c.args.metric.now c.args.focus.now c.as_slice-names.result.now c.is_below.result c.is_some.result
    (option_map (λ k. k.now) c.constraint_for-of_code.result) (option_map (λ k. k.now) c.constraint_for-of_object.result)
    (Ok (option_map (λ k. k.now) c.in_ok-code.code)) (Ok (option_map (λ k. k.now) c.in_ok-object.object))
    c.as_slice-names.ensures c.is_below.ensures c.is_some.ensures c.constraint_for-of_code.ensures c.constraint_for-of_object.ensures c.in_ok-code.ensures c.in_ok-object.ensures
