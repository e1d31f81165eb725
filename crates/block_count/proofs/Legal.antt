-- A counter can be placed, and the next one after it.
use Rattle.std.proofs.Common.{◌≡◌, ℕ, ◌+◌, ◌*◌, ◌≤◌, [], ◌∷◌, ◌++◌, length, Some, refl, sym, ◌∙◌, subst, arith, inl, ⊎_elim}
use Rattle.std.specs.Prelude.{true, nat_le}
use Rattle.std.specs.FinMap.{get}
use Rattle.std.proofs.lemmas.Bool.{and_from, le-leb}
use Rattle.tramp_spec.specs.Blocks.{tail_of}
use Rattle.tramp_spec.specs.Codes.{put_words, tool_at}
use Rattle.tramp_spec.specs.Jumps.{jump_word, reaches}
use Rattle.tramp_spec.specs.Marks.{own, tool}
use Rattle.tramp_spec.specs.Statements.{body_of}
use Rattle.tramp_spec.proofs.Hops.{jump_hops}
use Rattle.machine.specs.Cores.{Row, Written, Core}
use Rattle.machine.specs.Effects.{with_block}
use Rattle.machine.specs.Events.{LinkPoint, Apart, MayWrite, MayLinkMini, MayLinkPoint, May, next_of}
use Rattle.machine.specs.Replays.{Legal}
use Rattle.machine.proofs.Lists.{get_append, get_other, in_snoc, put_words_other, put_words_stand, snoc_new, stands_at}
use Rattle.machine.proofs.Effects.{link_is}
use Rattle.machine.proofs.Texts.{text_low}
use Rattle.block_count.specs.Counters.{Counter, base_of, mini_at, mini_of, one_more}
use Rattle.block_count.specs.Course.{placing}
use Rattle.block_count.proofs.Bodies.{body_len, harmless, mini_len}
use Rattle.block_count.proofs.Placed.{Ready, Fits, base_first, mini_first, mini_row, both, chained, chains, code_written, code_chained, current}

near : (from to : ℕ) → from ≤ to + 1048576 → to ≤ from + 1048574 → reaches from to ≡ true
near from to l m = and_from (nat_le from (to + 1048576)) (nat_le to (from + 1048574)) (le-leb from (to + 1048576) l) (le-leb to (from + 1048574) m)

-- the last word of a mini block
abbrev last_at : Counter → ℕ
last_at k = mini_at k + 4 * length (body_of (k.slot ∷ []) one_more)

module _ (p at : ℕ) (c : Core) (k : Counter) (r : Ready p at c) (f : Fits p at c.program k) (low : tool_at c.program ≤ 0x60001000) where
  writes_base : MayWrite c (base_of k)
  writes_base =
      let here = f.here in
      let there = f.there in
      let high = f.high in
      record {
        shape = (record { aligned = f.aligned; word = f.word; here = f.is; moved = k.moved; movable = f.moved; reached = near (k.at + 4) (tail_of k.at) (omega arith) (omega arith); is = refl }, λ x h b e. let l = r.points x h in absurd (omega arith));
        low = f.low;
        high = omega arith;
        apart = λ x h. let l = r.ends x h in inl (omega arith);
      }

  writes_mini : MayWrite (with_block (base_of k) c) (mini_of k)
  writes_mini =
      let four = body_len k.slot in
      let five = mini_len k in
      let there = f.there in
      let aligned = f.aligned in
      let least = f.low in
      let high = f.high in
      record {
        shape = (tail_of k.at, record { aligned = omega arith; body = body_of (k.slot ∷ []) one_more; harmless = harmless k f.least f.most; reached = near (last_at k) (tail_of k.at) (omega arith) (omega arith); is = refl });
        low = omega arith;
        high = omega arith;
        apart = λ x h. ⊎_elim (λ old. let l = r.ends x old in inl (omega arith)) (λ (e : x ≡ base_first k). subst (λ (u : Row). Apart u.at u.len (mini_at k) (length (mini_of k).words)) (sym e) (inl (omega arith))) (in_snoc c.rows (base_first k) x h);
      }

  head_stands : get (code_written k c.code) (k.at + 4) ≡ Some (tool (jump_word (k.at + 4) (tail_of k.at)))
  head_stands =
      put_words_other (mini_at k) (mini_of k).words (put_words k.at (base_of k).words c.code) (k.at + 4) (inl (omega arith))
      ∙ (put_words_stand k.at (base_of k).words c.code).1.0

  last_stands : get (code_written k c.code) (last_at k) ≡ Some (tool (jump_word (last_at k) (tail_of k.at)))
  last_stands =
      let body = body_of (k.slot ∷ []) one_more in
      let last = tool (jump_word (last_at k) (tail_of k.at)) in
      stands_at (code_written k c.code) (mini_at k) (mini_of k).words (length body) last (put_words_stand (mini_at k) (mini_of k).words (put_words k.at (base_of k).words c.code)) (get_append body last)

  links_mini : MayLinkMini (both k c) k.point (mini_at k)
  links_mini =
      let four = body_len k.slot in
      let five = mini_len k in
      let aligned = f.aligned in
      let least = f.low in
      let high = f.high in
      let base : next_of (code_written k c.code) (base_first k) ≡ tail_of k.at = link_is (code_written k c.code) (base_first k) (k.at + 4) (tail_of k.at) (jump_word (k.at + 4) (tail_of k.at)) refl (jump_hops (k.at + 4) (tail_of k.at) (omega arith) (omega arith) (omega arith) (omega arith) (omega arith) (omega arith)) head_stands in
      let mini : next_of (code_written k c.code) (mini_first k) ≡ tail_of k.at = link_is (code_written k c.code) (mini_first k) (last_at k) (tail_of k.at) (jump_word (last_at k) (tail_of k.at)) (omega arith) (jump_hops (last_at k) (tail_of k.at) (omega arith) (omega arith) (omega arith) (omega arith) (omega arith) (omega arith)) last_stands in
      record {
        base = base_first k;
        current = current p at c k r f Written (mini_first k) refl;
        mini = record { row = mini_first k; listed = snoc_new (c.rows ++ base_first k ∷ []) (mini_first k); mini = refl; point = refl; at = refl; is = refl };
        next = mini ∙ sym base;
      }

  pub text_stays : (q w : ℕ) → q + 4 ≤ k.at → get c.code q ≡ Some (own w) → get (code_chained k c.code) q ≡ Some (own w)
  text_stays q w l e =
      get_other (code_written k c.code) (k.at + 4) q (tool (jump_word (k.at + 4) (mini_at k))) (λ i. omega arith)
      ∙ (put_words_other (mini_at k) (mini_of k).words (put_words k.at (base_of k).words c.code) q (inl (omega arith))
      ∙ (put_words_other k.at (base_of k).words c.code q (inl (omega arith)) ∙ e))

  links_point : MayLinkPoint (chained k c) k.point
  links_point =
      let l = text_low c.program k.point f.word f.is in
      let least = f.low in
      record {
        base = base_first k;
        current = current p at c k r f Written (mini_row k) refl;
        word = f.word;
        program = f.is;
        stands = text_stays k.point f.word (omega arith) (r.text k.point f.word f.here f.is);
      }

  pub legal : Legal (placing k) c
  unfolding placing
  legal = (writes_base, (writes_mini, (links_mini, (subst (λ d. May d (LinkPoint k.point)) (sym (chains p at c k r f)) links_point, tt))))
