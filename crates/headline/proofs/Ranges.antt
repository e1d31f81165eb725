-- The settings of a request are in range, and so are the numbers of a stress run.
use Rattle.std.proofs.Common.{◌≡◌, ℕ, ◌≤◌, ◌<◌, ◌^◌, Bool, true, false, cond, Option, Some, None, List, [], ◌∷◌, refl, subst, arith}
use Rattle.std.specs.Prelude.{nat_le, option_map, codes}
use Rattle.std.specs.Option.{option_and_then, option_map_or}
use Rattle.std.proofs.lemmas.Bool.{leb-true}
use Rattle.pn_text.specs.Numbers.{small_number}
use Rattle.pn_types.specs.Settings.{AreInRange}
use Rattle.pn_types.specs.declared.limits.TheConstants.{MAX_BUDGET, MAX_HARTS}
use Rattle.pn_types.specs.declared.settings.Settings.{Settings}
use Rattle.command_words.proofs.Ranges.{number_is_at_most}
use Rattle.command_words.specs.Addresses.{also_given}
use Rattle.command_words.specs.Commands.{command_named, form_of}
use Rattle.command_words.specs.Grammar.{Given, Text, given_in, taken_of}
use Rattle.command_words.specs.Numbers.{NumberOption, bins_option, budget_option, harts_option, instruments_option, number_between, number_given, quantum_option, columns_option, top_option, views_option, width_option, workers_option}
use Rattle.command_words.specs.Requests.{BlocksRequest, ProfileSource, Request, SessionRequest, run, live, replay, plan, asm, points, relog, stress, blocks, visi, advise, direct, profile, annotate, show, diff, ask, each_given, format_given, interval_given, blocks_of, profile_source, shape_given, unit_given, order_of, place_in, request_from, request_of, session_of, settings_of, start_given}
use Rattle.command_words.specs.declared.commands.CommandName.{CommandName}
use Rattle.command_words.specs.declared.commands.CommandName.TheVariants.{Run, Live, Replay, Asm, Points, Plan, Stress, Relog, Blocks, Visi, Advise, Direct, Profile, Annotate, Show, Diff, Ask}

-- ---- options

record Found {A B : Type 0} (o : Option A) (f : A → Option B) (b : B) : Type 0 where
  a : A
  is : o ≡ Some a
  then : f a ≡ Some b

found : {A B : Type 0} (o : Option A) (f : A → Option B) (b : B) → option_and_then f o ≡ Some b → Found o f b
found None f b e = absurd (cc)
found (Some a) f b e = record { a = a; is = refl; then = e }

record Mapped {A B : Type 0} (o : Option A) (f : A → B) (b : B) : Type 0 where
  a : A
  is : o ≡ Some a
  to : f a ≡ b

mapped : {A B : Type 0} (o : Option A) (f : A → B) (b : B) → option_map f o ≡ Some b → Mapped o f b
mapped None f b e = absurd (cc)
mapped (Some a) f b e = record { a = a; is = refl; to = cc }

-- ---- numbers

some_of : (b : Bool) (m n : ℕ) → cond b (Some m) None ≡ Some n → (b ≡ true) × (m ≡ n)
some_of true m n e = let same : m ≡ n = cc in (refl, same)
some_of false m n e = absurd (cc)

between : (least most n : ℕ) (text : Text) → number_between least most text ≡ Some n → (least ≤ n) × (n ≤ most)
between least most n text e =
    let f = found (small_number text most) (λ k. cond (nat_le least k) (Some k) None) n e in
    let h = some_of (nat_le least f.a) f.a n f.then in
    let low = leb-true least f.a h.0 in
    let high = number_is_at_most text most f.a f.is in
    let same : f.a ≡ n = h.1 in
    (omega arith, omega arith)

given_between : (o : NumberOption) (given : Given) (n : ℕ) → o.least ≤ o.default → o.default ≤ o.most → number_given given o ≡ Some n → (o.least ≤ n) × (n ≤ o.most)
given_between o given n low high = by (given o.name)
  where
    by : (t : Option Text) → option_map_or (number_between o.least o.most) t (Some o.default) ≡ Some n → (o.least ≤ n) × (n ≤ o.most)
    by None e = let same : o.default ≡ n = cc in (omega arith, omega arith)
    by (Some text) e = between o.least o.most n text e

-- ---- settings

in_range : (given : Given) (s : Settings) → settings_of given ≡ Some s → AreInRange s
in_range given s e =
    let h = found (number_given given harts_option) _ s e in
    let t = found (number_given given budget_option) _ s h.then in
    let b = found (number_given given bins_option) _ s t.then in
    let w = found (number_given given width_option) _ s b.then in
    let i = found (number_given given instruments_option) _ s w.then in
    let m = mapped (start_given given) _ s i.then in
    subst AreInRange m.to
    (record {
      harts = given_between harts_option given h.a (omega arith) (omega arith) h.is;
      budget = given_between budget_option given t.a (omega arith) (omega arith) t.is;
      bins = given_between bins_option given b.a (omega arith) (omega arith) b.is;
      width = given_between width_option given w.a (omega arith) (omega arith) w.is;
      instruments = given_between instruments_option given i.a (omega arith) (omega arith) i.is;
    })

session_in_range : (given : Given) (s : SessionRequest) → session_of given ≡ Some s → AreInRange s.settings
session_in_range given s e =
    let m = mapped (settings_of given) _ s e in
    subst (λ (x : SessionRequest). AreInRange x.settings) m.to (in_range given m.a m.is)

-- ---- counted blocks

-- no more harts than a machine can have, and no more ticks than a hart can take
pub record IsPaced (r : BlocksRequest) : Type 0 where
  pub harts : r.harts ≤ MAX_HARTS
  pub budget : r.budget ≤ MAX_BUDGET

blocks_paced : (given : Given) (r : BlocksRequest) → blocks_of given ≡ Some r → IsPaced r
blocks_paced given r e =
    let h = found (number_given given harts_option) _ r e in
    let t = found (number_given given budget_option) _ r h.then in
    let m = mapped (order_of given) _ r t.then in
    let harts = given_between harts_option given h.a (omega arith) (omega arith) h.is in
    let budget = given_between budget_option given t.a (omega arith) (omega arith) t.is in
    subst IsPaced m.to (record { harts = harts.1; budget = budget.1 })

-- ---- requests

-- what is asked of the numbers of a request where a session is made for it, or a profile
abbrev pub IsRanged : Request → Type 0
IsRanged (run r) = AreInRange r.session.settings
IsRanged (live r) = AreInRange r.session.settings
IsRanged (replay r) = Unit {0}
IsRanged (plan r) = Unit {0}
IsRanged (asm text) = Unit {0}
IsRanged (points program) = Unit {0}
IsRanged (relog log) = Unit {0}
IsRanged (stress r) = r.procs < 2 ^ 32
IsRanged (blocks r) = Unit {0}
IsRanged (visi r) = AreInRange r.session.settings
IsRanged (advise report) = Unit {0}
IsRanged (direct r) = AreInRange r.session.settings
IsRanged (profile r) = IsPaced r.source.counted
IsRanged (annotate r) = Unit {0}
IsRanged (show r) = Unit {0}
IsRanged (diff r) = Unit {0}
IsRanged (ask r) = IsPaced r.counted

some_is : (q r : Request) → ◌≡◌ {A = Option Request} (Some q) (Some r) → q ≡ r
some_is q r e = cc

from_ranged : (name : CommandName) (given : Given) (q : Request) → request_from name given ≡ Some q → IsRanged q
from_ranged Run given q e =
    let s = found (session_of given) _ q e in
    let m = mapped (order_of given) _ q s.then in
    subst IsRanged m.to (session_in_range given s.a s.is)
from_ranged Live given q e =
    let s = found (session_of given) _ q e in
    let d = found (number_given given quantum_option) _ q s.then in
    let m = mapped (number_given given workers_option) _ q d.then in
    subst IsRanged m.to (session_in_range given s.a s.is)
from_ranged Replay given q e = subst IsRanged (some_is _ q e) tt
from_ranged Asm given q e = subst IsRanged (some_is _ q e) tt
from_ranged Points given q e = subst IsRanged (some_is _ q e) tt
from_ranged Plan given q e = let m = mapped (number_given given harts_option) _ q e in subst IsRanged m.to tt
from_ranged Stress given q e =
    let p = found (number_between 1 200 (place_in given (codes "procs"))) _ q e in
    let m = mapped (number_between 0 4294967295 (place_in given (codes "seed"))) _ q p.then in
    let few = between 1 200 p.a (place_in given (codes "procs")) p.is in
    subst IsRanged m.to (omega (arith, few.1))
from_ranged Relog given q e = subst IsRanged (some_is _ q e) tt
from_ranged Blocks given q e = let m = mapped (blocks_of given) _ q e in subst IsRanged m.to tt
from_ranged Visi given q e =
    let s = found (session_of given) _ q e in
    let d = found (order_of given) _ q s.then in
    let m = mapped (number_given given views_option) _ q d.then in
    subst IsRanged m.to (session_in_range given s.a s.is)
from_ranged Advise given q e = subst IsRanged (some_is _ q e) tt
from_ranged Direct given q e =
    let s = found (session_of given) _ q e in
    let m = mapped (order_of given) _ q s.then in
    subst IsRanged m.to (session_in_range given s.a s.is)
from_ranged Profile given q e =
    let s = found (profile_source given) _ q e in
    let d = found (shape_given given) _ q s.then in
    let m = mapped (number_given given top_option) _ q d.then in
    let b = found (blocks_of given) _ s.a s.is in
    let a = mapped (also_given given) _ s.a b.then in
    subst IsRanged m.to (subst (λ (x : ProfileSource). IsPaced x.counted) a.to (blocks_paced given b.a b.is))
from_ranged Annotate given q e =
    let s = found (profile_source given) _ q e in
    let m = mapped (unit_given given) _ q s.then in
    subst IsRanged m.to tt
from_ranged Show given q e =
    let s = found (number_given given columns_option) _ q e in
    let m = mapped (format_given given) _ q s.then in
    subst IsRanged m.to tt
from_ranged Diff given q e = subst IsRanged (some_is _ q e) tt
from_ranged Ask given q e =
    let c = found (blocks_of given) _ q e in
    let k = found (each_given given) _ q c.then in
    let i = found (interval_given given) _ q k.then in
    let m = mapped (number_given given instruments_option) _ q i.then in
    subst IsRanged m.to (blocks_paced given c.a c.is)

pub ranged : (words : List Text) (q : Request) → request_of words ≡ Some q → IsRanged q
ranged [] q e = absurd (cc)
ranged (word ∷ words) q e =
    let n = found (command_named word) _ q e in
    let t = found (taken_of (form_of n.a) words) _ q n.then in
    from_ranged n.a (given_in t.a) q t.then
