-- Values stay far below the end of their range while the statements of Opens act.
use Rattle.std.proofs.Common.{◌≡◌, ℕ, zero, suc, ◌+◌, ◌-◌, ◌*◌, ◌^◌, ◌<◌, ◌≤◌, List, [], ◌∷◌, ◌++◌, length, Option, Some, None, refl, ◌∙◌, arith}
use Rattle.std.specs.Prelude.{Bool, true, false, not, nat_lt, if◌then◌else◌, find, slice_index, slice_set}
use Rattle.std.specs.List.{AllByRecursion}
use Rattle.std.proofs.lemmas.List.{length-set, length-map, length-append}
use Rattle.pn_types.specs.declared.plan.Act.{Act}
use Rattle.pn_types.specs.declared.plan.Act.TheVariants.{Up, Down, Put, Start, Stop}
use Rattle.pn_types.specs.declared.plan.Stmt.{Stmt}
use Rattle.pn_types.specs.declared.plan.Var.{Var}
use Rattle.rv_word.specs.Memory.{Memory}
use Rattle.tramp_spec.specs.Slots.{initials}
use Rattle.tramp_spec.specs.Values.{values_after_act, all_hold, values_behind, values_after}
use Rattle.pn_types.specs.declared.plan.Open.{Open}
use Rattle.frame_walk.specs.declared.walk_start.WalkStart.{WalkStart}
use Rattle.frame_walk.specs.Frames.{calls}
use Rattle.frame_walk.specs.Walks.{walk_of, walk_from}
use Rattle.frame_walk.specs.Openings.{holds, open_at, stmts_where, of_pc, of_caller, of_calls, entry_statements}
use Rattle.frame_walk.specs.Rooms.{IsNarrow, IsSmall, HasRoom}
use Rattle.frame_walk.specs.Laws.{OpensLow}
use Rattle.frame_walk.proofs.Lengths.{few_calls}

pub less_room : (a b : ℕ) (values : List ℕ) → a ≤ b → HasRoom b values → HasRoom a values
less_room a b [] l h = tt
less_room a b (v ∷ values) l h = let e = h.0 in (omega arith, less_room a b values l h.1)

pub room_at : (n : ℕ) (values : List ℕ) (i : ℕ) → n < 2 ^ 63 → HasRoom n values → slice_index values i + n < 2 ^ 63
room_at n [] i l h = omega arith
room_at n (v ∷ values) zero l h = h.0
room_at n (v ∷ values) (suc i) l h = room_at n values i l h.1

set_room : (values : List ℕ) (v x n : ℕ) → HasRoom n values → x + n < 2 ^ 63 → HasRoom n (slice_set values v x)
set_room [] v x n h l = tt
set_room (y ∷ values) zero x n h l = (l, h.1)
set_room (y ∷ values) (suc v) x n h l = (h.0, set_room values v x n h.1 l)

-- ---- statements

acted_length : (a : Act) (values : List ℕ) → length (values_after_act a values) ≡ length values
acted_length (Up v) values = length-set values v _
acted_length (Down v) values = length-set values v _
acted_length (Put v n) values = length-set values v _
acted_length (Start v) values = length-set values v _
acted_length (Stop v) values = length-set values v _

acted_room : (a : Act) (values : List ℕ) (n : ℕ) → IsNarrow a → n + 2 ^ 32 < 2 ^ 63 → HasRoom (n + 1) values → HasRoom n (values_after_act a values)
acted_room (Up v) values n s l h = let q = room_at (n + 1) values v (omega arith) h in set_room values v _ n (less_room n (n + 1) values (omega arith) h) (omega arith)
acted_room (Down v) values n s l h = let q = room_at (n + 1) values v (omega arith) h in set_room values v _ n (less_room n (n + 1) values (omega arith) h) (omega arith)
acted_room (Put v x) values n s l h = set_room values v _ n (less_room n (n + 1) values (omega arith) h) (omega arith)
acted_room (Start v) values n s l h = let q = room_at (n + 1) values v (omega arith) h in set_room values v _ n (less_room n (n + 1) values (omega arith) h) (omega arith)
acted_room (Stop v) values n s l h = let q = room_at (n + 1) values v (omega arith) h in set_room values v _ n (less_room n (n + 1) values (omega arith) h) (omega arith)

pub behind_length : (s : Stmt) (args values : List ℕ) → length (values_behind s args values) ≡ length values
behind_length s args values = by (all_hold s.conds args values)
  where
    by : (b : Bool) → length (if b then values_after_act s.act values else values) ≡ length values
    by true = acted_length s.act values
    by false = refl

pub behind_room : (s : Stmt) (args values : List ℕ) (n : ℕ) → IsNarrow s.act → n + 2 ^ 32 < 2 ^ 63 → HasRoom (n + 1) values → HasRoom n (values_behind s args values)
behind_room s args values n small l h = by (all_hold s.conds args values)
  where
    by : (b : Bool) → HasRoom n (if b then values_after_act s.act values else values)
    by true = acted_room s.act values n small l h
    by false = less_room n (n + 1) values (omega arith) h

pub after_length : (ss : List Stmt) (args values : List ℕ) → length (values_after ss args values) ≡ length values
after_length [] args values = refl
after_length (s ∷ ss) args values = after_length ss args (values_behind s args values) ∙ behind_length s args values

pub after_append : (a b : List Stmt) (args values : List ℕ) → values_after (a ++ b) args values ≡ values_after b args (values_after a args values)
after_append [] b args values = refl
after_append (s ∷ a) b args values = after_append a b args (values_behind s args values)

abbrev pub AreNarrow : List Stmt → Type 0
AreNarrow ss = AllByRecursion (λ (s : Stmt). IsNarrow s.act) ss

after_room : (ss : List Stmt) (args values : List ℕ) (n : ℕ) → AreNarrow ss → n + length ss + 2 ^ 32 < 2 ^ 63 → HasRoom (n + length ss) values → HasRoom n (values_after ss args values)
after_room [] args values n a l h = less_room n (n + 0) values (omega arith) h
after_room (s ∷ ss) args values n a l h =
    after_room ss args (values_behind s args values) n a.1 (omega arith)
    (behind_room s args values (n + length ss) a.0 (omega arith) (less_room (n + length ss + 1) (n + length (s ∷ ss)) values (omega arith) h))

-- ---- the statements of Opens

-- at most this many, and narrow
pub record Few (most : ℕ) (ss : List Stmt) : Type 0 where
  pub len : length ss ≤ most
  pub narrow : AreNarrow ss

pub few_room : (most n : ℕ) (ss : List Stmt) (values : List ℕ) → Few most ss → n + most + 2 ^ 32 < 2 ^ 63 → HasRoom (n + most) values → HasRoom n (values_after ss [] values)
few_room most n ss values f l h = let q = f.len in after_room ss [] values n f.narrow (omega arith) (less_room (n + length ss) (n + most) values (omega arith) h)

few_none : (most : ℕ) → Few most []
few_none most = record { len = omega arith; narrow = tt }

both_narrow : (a b : List Stmt) → AreNarrow a → AreNarrow b → AreNarrow (a ++ b)
both_narrow [] b f g = g
both_narrow (s ∷ a) b f g = (f.0, both_narrow a b f.1 g)

few_append : (n m : ℕ) (a b : List Stmt) → Few n a → Few m b → Few (n + m) (a ++ b)
few_append n m a b f g = record { len = let e = length-append a b in let p = f.len in let q = g.len in omega arith; narrow = both_narrow a b f.narrow g.narrow }

few_of : (o : Open) (b : Bool) → IsSmall o → Few 32 (if b then o.stmts else [])
few_of o true h = record { len = h.few; narrow = h.narrow }
few_of o false h = few_none 32

pub few_found : (p : Open → Bool) (opens : List Open) (test : Open → Bool) → AllByRecursion IsSmall opens → Few 32 (stmts_where test (find p opens))
few_found p [] test a = few_none 32
few_found p (o ∷ opens) test a = by (p o) (few_found p opens test a.1)
  where
    by : (b : Bool) → Few 32 (stmts_where test (find p opens)) → Few 32 (stmts_where test (if b then Some o else find p opens))
    by true f = few_of o (test o) a.0
    by false f = f

pub few_of_caller : (opens : List Open) (pc : ℕ) (o : Option ℕ) → AllByRecursion IsSmall opens → Few 32 (of_caller opens pc o)
few_of_caller opens pc None a = few_none 32
few_of_caller opens pc (Some x) a = few_found (holds x) opens (λ o. not (holds pc o)) a

few_of_calls : (opens : List Open) (places : List ℕ) → AllByRecursion IsSmall opens → Few (32 * length places) (of_calls opens places)
few_of_calls opens [] a = few_none 0
few_of_calls opens (x ∷ places) a =
    let r = few_append (32 * length places) 32 (of_calls opens places) (stmts_where (λ o. true) (open_at opens x)) (few_of_calls opens places a) (few_found (holds x) opens (λ o. true) a) in
    record { len = let l = r.len in omega arith; narrow = r.narrow }

pub few_called : (n : ℕ) (opens : List Open) (m : Memory) (fp : ℕ) → AllByRecursion IsSmall opens → Few (32 * n) (of_calls opens (calls n m fp))
few_called n opens m fp a =
    let f = few_of_calls opens (calls n m fp) a in
    record { len = let l = f.len in let s = few_calls n m fp in omega arith; narrow = f.narrow }

few_entered : (opens : List Open) (m : Memory) (start : Option WalkStart) → AllByRecursion IsSmall opens → Few (32 * 66) (entry_statements opens (walk_from m start))
few_entered opens m None a = few_none (32 * 66)
few_entered opens m (Some start) a =
    let w = walk_of m start in
    few_append (32 * 64) 64 (of_calls opens w.calls) (of_caller opens w.pc w.caller ++ of_pc opens w.pc) (few_called 64 opens m start.fp a)
    (few_append 32 32 (of_caller opens w.pc w.caller) (of_pc opens w.pc) (few_of_caller opens w.pc w.caller a) (few_found (holds w.pc) opens (λ o. nat_lt o.start w.pc) a))

-- ---- what variables are initially

initial_room : (vars : List Var) (n : ℕ) → n + 2 ^ 32 < 2 ^ 63 → AllByRecursion (λ v. v.initially < 2 ^ 32) vars → HasRoom n (initials vars)
initial_room [] n l a = tt
initial_room (v ∷ vars) n l a = let e = a.0 in (omega arith, initial_room vars n l a.1)

with_room : (values : List ℕ) → HasRoom (2 ^ 63 - 2 ^ 33) values → AllByRecursion (λ v. v < 2 ^ 33) values
with_room [] h = tt
with_room (v ∷ values) h = let e = h.0 in (omega arith, with_room values h.1)

spare_room : (n : ℕ) (values : List ℕ) → n < 2 ^ 63 → AllByRecursion (λ v. v < 2 ^ 33) values → AllByRecursion (λ v. v + n < 2 ^ 64) values
spare_room n [] l a = tt
spare_room n (v ∷ values) l a = let e = a.0 in (omega arith, spare_room n values l a.1)

room_below : (n : ℕ) (values : List ℕ) → n < 2 ^ 61 → AllByRecursion (λ v. v < 2 ^ 33) values → HasRoom n values
room_below n [] l a = tt
room_below n (v ∷ values) l a = let e = a.0 in (omega arith, room_below n values l a.1)

pub opens_low : OpensLow
opens_low opens m start vars small low =
    let ss = entry_statements opens (walk_from m start) in
    let f = few_entered opens m start small in
    let r : AllByRecursion (λ v. v < 2 ^ 33) (values_after ss [] (initials vars)) = with_room (values_after ss [] (initials vars))
    (few_room (32 * 66) (2 ^ 63 - 2 ^ 33) ss (initials vars) f (omega arith) (initial_room vars (2 ^ 63 - 2 ^ 33 + 32 * 66) (omega arith) low)) in
    record {
      many = after_length ss [] (initials vars) ∙ length-map vars (λ (v : Var). v.initially);
      low = r;
      room = λ n l. room_below n (values_after ss [] (initials vars)) l r;
      spare = λ n l. spare_room n (values_after ss [] (initials vars)) l r;
    }
