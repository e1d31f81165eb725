-- How long walks are.
use Rattle.std.proofs.Common.{ℕ, zero, suc, ◌+◌, ◌≤◌, List, [], ◌∷◌, length, Option, Some, None, arith}
use Rattle.std.specs.Prelude.{Bool, true, false, if◌then◌else◌, nat_lt}
use Rattle.rv_word.specs.Memory.{Memory}
use Rattle.frame_walk.specs.declared.frame.Frame.{Frame}
use Rattle.frame_walk.specs.Frames.{call_before, frame_at, is_text, calls_of, calls}
use Rattle.frame_walk.specs.Walks.{walk_of, from_caller}
use Rattle.frame_walk.specs.Laws.{WalksEnd}

one_more : (o : Option Frame) (m : Memory) (fp n : ℕ) (others : ℕ → List ℕ) → ((q : ℕ) → length (others q) ≤ n) → length (calls_of o m fp others) ≤ n + 1
one_more None m fp n others h = omega arith
one_more (Some f) m fp n others h = on (is_text m (call_before f.return_address)) (nat_lt fp f.next)
  where
    on : (b d : Bool) → length (if b then call_before f.return_address ∷ (if d then others f.next else []) else []) ≤ n + 1
    on true true = let l = h f.next in omega arith
    on true false = omega arith
    on false d = omega arith

pub few_calls : (n : ℕ) (m : Memory) (fp : ℕ) → length (calls n m fp) ≤ n
unfolding calls
few_calls zero m fp = omega arith
few_calls (suc n) m fp = let l = one_more (frame_at m fp) m fp n (calls n m) (few_calls n m) in omega arith

pub with_caller : (o : Option ℕ) (rest : List ℕ) → length (from_caller o rest) ≤ length rest + 1
with_caller None rest = omega arith
with_caller (Some a) rest = omega arith

pub walks_end : WalksEnd
walks_end m None = omega arith
walks_end m (Some start) = let w = walk_of m start in let c = with_caller w.caller w.calls in let f = few_calls 64 m start.fp in omega arith
