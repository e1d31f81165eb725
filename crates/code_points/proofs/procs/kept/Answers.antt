use Rattle.std.proofs.Common.{◌≡◌, ◌+◌, ◌++◌, ◌∷◌, [], true, false, List, length, drop, map, sym, ap, subst, ◌∙◌, arith}
use Rattle.std.specs.List.Sorted.{IsPermutation}
use Rattle.std.proofs.lemmas.Bool.{not-true, not-false, MatchBool-at_true, MatchBool-at_false}
use Rattle.std.specs.List.{All}
use Rattle.std.proofs.lemmas.List.{length_push, at_drop_all}
use Rattle.pn_types.specs.GoodNames.{is_good_name}
use Rattle.pn_types.specs.declared.code.Proc.{Proc}
use Rattle.std.proofs.lemmas.Grind.{common_steps}
use Rattle.pn_types.specs.declared.image.Symbol.{Symbol}
use Rattle.code_points.specs.Procedures.{is_kept, proc_of, kept_of, procedures_of}
use Rattle.code_points.proofs.NamedProcs.{modules_good}
use Rattle.code_points.proofs.Kept.{Kept, Key, seen, kept_none, kept_skip, kept_push, cannot_be, overlapping, namesake, next_function}
use Rattle.code_points.proofs.procs.kept.Goals as goal
use Rattle.code_points.proofs.procs.kept.Goals.{then-can_be_procedure+then-end-symbol+in_ok-insert+then-branch+in_ok-proc_of+in_ok-push, else-can_be_procedure, else-can_be_procedure-via-then-can_be_procedure+then-end-symbol+in_ok-insert+else-branch, else-can_be_procedure-via-then-can_be_procedure+else-end-symbol, else-can_be_procedure-via-else-can_be_procedure}
use denote.Ref.{Bor}

pub loop-symbol-init : goal.loop-symbol-init
loop-symbol-init c = record {
  kept = kept_none c.args.image.now c.new-procs.result.items c.new-names.result.keys (map (λ (r : Bor Symbol). r.now) c.args.functions.now) c.new-procs.ensures.items c.new-names.ensures.empty c.requires.functions;
  few = grind (arith, common_steps);
}

pub loop-symbol-preserved : goal.loop-symbol-preserved
loop-symbol-preserved c =
    let i = c.loop-symbol.symbol-index in
    let s = c.symbol-item.result.now in
    let image = c.args.image.now in
    let old = c.loop-symbol in
    let new = c.if-can_be_procedure in
    let rest = map (λ (r : Bor Symbol). r.now) (drop i c.args.functions.now) in
    let ss = map (λ (r : Bor Symbol). r.now) (drop (i + 1) c.args.functions.now) in
    let next : rest ≡ s ∷ ss = next_function c.args.functions.now i c.symbol-item.result c.loop-symbol-test.true c.symbol-item.is in
    let h : Kept image old.procs.items old.end old.names.keys rest = old.invariant.kept in
    elim c.if-can_be_procedure.branch [
      | then-can_be_procedure+then-end-symbol+in_ok-insert+then-branch+in_ok-proc_of+in_ok-push w ↦
          let key : Key = (w.bytes.result, w.bytes-then-end-symbol.result) in
          let items : new.procs.items ≡ old.procs.items ++ proc_of s ∷ [] = ap (λ z. z.items) w.procs-is ∙ (w.in_ok-push.ensures.items ∙ ap (λ p. old.procs.items ++ p ∷ []) w.in_ok-proc_of.ensures) in
          let fresh = sym (seen s key old.names.keys w.bytes.ensures w.bytes-then-end-symbol.ensures) ∙ not-true _ (sym w.in_ok-insert.ensures.added ∙ w.if-branch.true) in
          let put = subst (λ z. IsPermutation (key ∷ old.names.keys) z.keys) (sym w.names-is) (MatchBool-at_true _ _ w.if-branch.true w.in_ok-insert.ensures.keys) in
          record {
            kept = kept_push image old.procs.items new.procs.items old.end new.end old.names.keys new.names.keys key rest s ss h next (sym c.can_be_procedure.ensures ∙ w.if-can_be_procedure.true) w.if-end-symbol.true fresh w.bytes.ensures w.bytes-then-end-symbol.ensures put items w.end-is;
            few = omega (arith, ap length items, length_push old.procs.items (proc_of s), old.invariant.few);
          }
      | else-can_be_procedure w ↦
          let items : new.procs.items ≡ old.procs.items = ap (λ z. z.items) w.procs-is in
          let out : (is_kept image old.procs.items s ≡ false) × (w.else-can_be_procedure.names.keys ≡ old.names.keys) =
          elim w.else-can_be_procedure.branch [
            | else-can_be_procedure-via-then-can_be_procedure+then-end-symbol+in_ok-insert+else-branch v ↦
                let key : Key = (v.bytes.result, v.bytes-then-end-symbol.result) in
                let there = sym (seen s key old.names.keys v.bytes.ensures v.bytes-then-end-symbol.ensures) ∙ not-false _ (sym v.in_ok-insert.ensures.added ∙ v.if-branch.false) in
                (namesake image old.procs.items old.end old.names.keys rest s ss h next (sym c.can_be_procedure.ensures ∙ v.if-can_be_procedure.true) there, ap (λ z. z.keys) v.names-is ∙ MatchBool-at_false _ _ v.if-branch.false v.in_ok-insert.ensures.keys)
            | else-can_be_procedure-via-then-can_be_procedure+else-end-symbol v ↦
                (overlapping image old.procs.items old.end old.names.keys rest s ss h next (sym c.can_be_procedure.ensures ∙ v.if-can_be_procedure.true) v.if-end-symbol.false, ap (λ z. z.keys) v.names-is)
            | else-can_be_procedure-via-else-can_be_procedure v ↦
                (cannot_be image old.procs.items s (sym c.can_be_procedure.ensures ∙ v.if-can_be_procedure.false), ap (λ z. z.keys) v.names-is)
          ] in
          record {
            kept = kept_skip image old.procs.items new.procs.items old.end new.end old.names.keys new.names.keys rest s ss h next out.0 items w.end-is (ap (λ z. z.keys) w.names-is ∙ out.1);
            few = omega (arith, ap length items, old.invariant.few);
          }
    ]

pub returns-clause-are_procs : goal.returns-clause-are_procs
returns-clause-are_procs c =
    let image = c.args.image.now in
    let procs = c.loop-symbol.procs.items in
    let kept = c.loop-symbol.invariant.kept in
    let all : procs ≡ procedures_of image =
    sym (at_drop_all (λ (rs : List (Bor Symbol)). kept_of image procs (map (λ (r : Bor Symbol). r.now) rs)) c.args.functions.now c.loop-symbol.symbol-index c.loop-symbol-test.false) ∙ kept.same in
    record {
      each = kept.each;
      ascend = kept.ascend;
      distinct = kept.distinct;
      few = omega (arith, c.loop-symbol.invariant.few, c.requires.few, c.loop-symbol.auto.symbol-index-end);
      modules = λ good. subst (λ ps. All (λ (p : Proc). is_good_name p.«module» ≡ true) ps) (sym all) (modules_good image good);
    }
