-- What holds of nodes that are made, that end with their phase, and that end with the search.
use Rattle.std.proofs.Common.{◌≡◌, ℕ, ◌<◌, ◌≤◌, true, false, Option, List, map, refl, sym, ap, subst, ◌∙◌, arith, inl, inr, ◌⊎◌}
use Rattle.std.specs.Prelude.{◌==◌, ◌&&◌}
use Rattle.std.proofs.lemmas.Bool.{true≢false, and_parts, cases_Bool, cond-false, cond-true}
use Rattle.pn_types.specs.declared.focus.Focus.{Focus}
use Rattle.pn_types.specs.declared.pick.BarCause.{BarCause}
use Rattle.w3_search.specs.declared.node.Node.{Node}
use Rattle.w3_search.specs.declared.node.NodeState.{NodeState}
use Rattle.w3_search.specs.declared.node.NodeState.TheVariants.{Waiting, Active, Confirmed, Rejected, Unfinished, Barred}
use Rattle.w3_search.specs.Nodes.{node_at_end, is_open, new_node, unfinished}
use Rattle.session_spec.specs.Inputs.{Inputs}
use Rattle.session_spec.specs.Searches.{rules_of}
use Rattle.session_spec.proofs.Grown.{Each, get_map}
use Rattle.session_spec.proofs.Seen.{IsNode, IsRuled, is_judged}

-- It has no verdict: it is barred, or its phase or the search ended before its window did.
abbrev pub IsUnjudged : Inputs → Node → Type 0
IsUnjudged i n = ((cause : BarCause) × (n.state ≡ Barred cause)) ⊎ ((n.state ≡ Unfinished n.seen) × (n.seen < (rules_of i).decl.window))

-- the number of samples that a node ended with
abbrev seen_of : NodeState → ℕ
seen_of (Unfinished k) = k
seen_of state = 0

module _ (i : Inputs) (owns : List ℕ) where
  pub new_is : 1 ≤ (rules_of i).decl.window → (q : ℕ) (parent : Option ℕ) (h : ℕ) (focus : Focus) → IsNode i owns (new_node q parent h focus)
  new_is some q parent h focus = record {
    judged = λ e. absurd (true≢false (sym e));
    blank = λ e. record { seen = refl; value = refl; ticks = refl };
    few = λ e. omega (arith, some);
    unfinished = λ k e. absurd cc;
  }

  -- one that was open ends unfinished
  ended_is : (n : Node) → IsNode i owns n → is_open n.state ≡ true → IsNode i owns (record n { state = Unfinished n.seen })
  ended_is n o open_now = record {
    judged = λ e. absurd (true≢false (sym e));
    blank = λ e. absurd (true≢false (sym e));
    few = λ e. absurd (true≢false (sym e));
    unfinished = λ k e. (sym (ap seen_of e), o.few open_now);
  }

  pub unfinished_is : (q : ℕ) (n : Node) → IsNode i owns n → IsNode i owns (unfinished q n)
  unfinished_is q n o = by (cases_Bool ((n.phase == q) && is_open n.state))
    where
      by : (((n.phase == q) && is_open n.state) ≡ true) ⊎ (((n.phase == q) && is_open n.state) ≡ false) → IsNode i owns (unfinished q n)
      by (inl t) =
          subst (λ (s : NodeState). IsNode i owns (record n { state = s })) (sym (cond-true ((n.phase == q) && is_open n.state) (Unfinished n.seen) n.state t))
          (ended_is n o (and_parts (n.phase == q) (is_open n.state) t).1)
      by (inr f) = subst (λ (s : NodeState). IsNode i owns (record n { state = s })) (sym (cond-false ((n.phase == q) && is_open n.state) (Unfinished n.seen) n.state f)) o

  -- ---- the end of the search

  same_end : (n : Node) → is_open n.state ≡ false → node_at_end n ≡ n
  same_end n e = ap (λ (s : NodeState). record n { state = s }) (cond-false (is_open n.state) (Unfinished n.seen) n.state e)

  open_end : (n : Node) → IsNode i owns n → is_open n.state ≡ true → IsUnjudged i (node_at_end n)
  open_end n o e = inr (cond-true (is_open n.state) (Unfinished n.seen) n.state e, o.few e)

  closed_is : (n : Node) → IsNode i owns n → (s : NodeState) → n.state ≡ s → IsRuled i owns (node_at_end n) ⊎ IsUnjudged i (node_at_end n)
  closed_is n o Waiting e = inr (open_end n o (ap is_open e))
  closed_is n o Active e = inr (open_end n o (ap is_open e))
  closed_is n o Confirmed e = inl (subst (IsRuled i owns) (sym (same_end n (ap is_open e))) (o.judged (ap is_judged e)))
  closed_is n o Rejected e = inl (subst (IsRuled i owns) (sym (same_end n (ap is_open e))) (o.judged (ap is_judged e)))
  closed_is n o (Barred cause) e = inr (inl (cause, ap (λ (z : Node). z.state) (same_end n (ap is_open e)) ∙ e))
  closed_is n o (Unfinished k) e =
      let u = o.unfinished k e in
      inr (inr (ap (λ (z : Node). z.state) (same_end n (ap is_open e)) ∙ (e ∙ ap (λ (j : ℕ). Unfinished j) u.0), u.1))

  pub told_ends : (ns : List Node) → Each (IsNode i owns) ns → Each (λ n. IsRuled i owns n ⊎ IsUnjudged i n) (map node_at_end ns)
  told_ends ns all k m e =
      let b = get_map node_at_end ns k m e in
      subst (λ n. IsRuled i owns n ⊎ IsUnjudged i n) b.2 (closed_is b.0 (all k b.0 b.1) b.0.state refl)
