-- The bytes of a head, and the head that bytes are.
use Rattle.std.proofs.Common.{◌≡◌, ℕ, zero, suc, ◌+◌, ◌≤◌, Bool, true, false, cond, List, ◌∷◌, ◌++◌, length, take, drop, Some, None, refl, sym, ap, ◌∙◌, arith}
use Rattle.std.proofs.lemmas.List.{take-append-drop, length-take}
use Rattle.std.specs.Cmp.Lexicographic.{same_text}
use Rattle.byteorder.specs.Endian.{little_bytes}
use Rattle.byteorder.specs.Numbers.{little_number-reads_back}
use Rattle.pn_types.specs.declared.limits.TheConstants.{MAX_HARTS, MAX_QUANTA}
use Rattle.pn_types.specs.declared.settings.Settings.{Settings}
use Rattle.pn_types.specs.declared.settings.Start.{Start}
use Rattle.pn_types.specs.declared.settings.Start.TheVariants.{Cold, Warm}
use Rattle.pn_types.specs.Settings.{AreInRange}
use Rattle.quanta_log.specs.declared.version.Version.{Version}
use Rattle.quanta_log.specs.declared.version.Version.TheVariants.{One, Two}
use Rattle.quanta_log.specs.Fields.{magic, head_len, most_harts, head_fields, number}
use Rattle.quanta_log.specs.Meaning.{begins_as, version_of, log_harts, count_of, start_of, settings_of, head_fault}
use Rattle.quanta_log.specs.Spelling.{start_number, shared_head, head, IsPlain}
use Rattle.outside.specs.Outside.{IsBytes}
use Rattle.quanta_log.proofs.CheckLemmas.{all_lie, no_faults}
use Rattle.quanta_log.proofs.NumberLemmas.{number_step}

-- ---- from settings

-- the numbers that both versions have
pub record ReadsShared (b : List ℕ) (s : Settings) (n : ℕ) : Type 0 where
  pub harts : number 4 b 8 ≡ s.harts
  pub bins : number 4 b 12 ≡ s.bins
  pub budget : number 8 b 16 ≡ s.budget
  pub width : number 8 b 24 ≡ s.width
  pub count : number 8 b 32 ≡ n

shared_again : (a0 a1 a2 a3 a4 a5 a6 a7 : ℕ) (s : Settings) (n : ℕ) (rest : List ℕ) → AreInRange s → n ≤ MAX_QUANTA
    → ReadsShared (a0 ∷ a1 ∷ a2 ∷ a3 ∷ a4 ∷ a5 ∷ a6 ∷ a7 ∷ (shared_head s n ++ rest)) s n
unfolding number
shared_again a0 a1 a2 a3 a4 a5 a6 a7 s n rest is few =
    let h = is.harts in
    let b = is.bins in
    let t = is.budget in
    let w = is.width in
    record {
      harts = little_number-reads_back 4 s.harts (little_bytes 4 s.bins ++ (little_bytes 8 s.budget ++ (little_bytes 8 s.width ++ (little_bytes 8 n ++ rest)))) (omega arith);
      bins = little_number-reads_back 4 s.bins (little_bytes 8 s.budget ++ (little_bytes 8 s.width ++ (little_bytes 8 n ++ rest))) (omega arith);
      budget = little_number-reads_back 8 s.budget (little_bytes 8 s.width ++ (little_bytes 8 n ++ rest)) (omega arith);
      width = little_number-reads_back 8 s.width (little_bytes 8 n ++ rest) (omega arith);
      count = little_number-reads_back 8 n rest (omega arith);
    }

-- a head without a fault
pub record IsHead (v : Version) (b : List ℕ) (s : Settings) (n : ℕ) (rest : List ℕ) : Type 0 where
  pub version : version_of b ≡ Some v
  pub settings : settings_of v b ≡ s
  pub harts : log_harts b ≡ s.harts
  pub count : count_of b ≡ n
  pub fine : head_fault v b ≡ None
  pub behind : drop (head_len v) b ≡ rest
  pub len : length b ≡ head_len v + length rest

abbrev made : ℕ → ℕ → ℕ → ℕ → Start → ℕ → Settings
made h t b w x i = record { harts = h; budget = t; bins = b; width = w; start = x; instruments = i }

settings_are : (h t b w : ℕ) (x : Start) (i h' t' b' w' : ℕ) (x' : Start) (i' : ℕ) → h ≡ h' → t ≡ t' → b ≡ b' → w ≡ w' → x ≡ x' → i ≡ i' → made h t b w x i ≡ made h' t' b' w' x' i'
settings_are h t b w x i h' t' b' w' x' i' p q r u y z = cc

start_again : (x : Start) → start_of (start_number x) ≡ x
start_again Cold = refl
start_again Warm = refl

start_small : (x : Start) → start_number x ≤ 1
start_small Cold = omega arith
start_small Warm = omega arith

pub head_again : (v : Version) (s : Settings) (n : ℕ) (rest : List ℕ) → AreInRange s → s.harts ≤ most_harts v → IsPlain v s → n ≤ MAX_QUANTA → IsHead v (head v s n ++ rest) s n rest
unfolding head number head_fault
head_again One s n rest is harts plain few =
    let r = shared_again 80 68 89 78 76 79 71 49 s n rest is few in
    let h = is.harts in
    let b = is.bins in
    let t = is.budget in
    let w = is.width in
    record {
      version = refl;
      settings = settings_are _ _ _ _ _ _ _ _ _ _ _ _ r.harts r.budget r.bins r.width (sym plain.0) (sym plain.1);
      harts = r.harts;
      count = r.count;
      fine = no_faults (head One s n ++ rest) (head_fields One)
          ((omega arith, omega arith), ((omega arith, omega arith), ((omega arith, omega arith), ((omega arith, omega arith), ((omega arith, omega arith), tt)))));
      behind = refl;
      len = omega arith;
    }
head_again Two s n rest is harts plain few =
    let x = start_number s.start in
    let later = little_bytes 4 x ++ (little_bytes 4 s.instruments ++ rest) in
    let r = shared_again 80 68 89 78 76 79 71 50 s n later is few in
    let h = is.harts in
    let b = is.bins in
    let t = is.budget in
    let w = is.width in
    let i = is.instruments in
    let small = start_small s.start in
    let start : number 4 (head Two s n ++ rest) 40 ≡ x = little_number-reads_back 4 x (little_bytes 4 s.instruments ++ rest) (omega arith) in
    let instruments : number 4 (head Two s n ++ rest) 44 ≡ s.instruments = little_number-reads_back 4 s.instruments rest (omega arith) in
    record {
      version = refl;
      settings = settings_are _ _ _ _ _ _ _ _ _ _ _ _ r.harts r.budget r.bins r.width (ap start_of start ∙ start_again s.start) instruments;
      harts = r.harts;
      count = r.count;
      fine = no_faults (head Two s n ++ rest) (head_fields Two)
          ((omega arith, omega arith), ((omega arith, omega arith), ((omega arith, omega arith), ((omega arith, omega arith), ((omega arith, omega arith), ((omega arith, omega arith), ((omega arith, omega arith), tt)))))));
      behind = refl;
      len = omega arith;
    }

-- ---- from bytes

begins : (v : Version) (b : List ℕ) → version_of b ≡ Some v → begins_as v b ≡ true
begins v b = by (begins_as Two b) (begins_as One b) refl refl v
  where
    by : (two one : Bool) → begins_as Two b ≡ two → begins_as One b ≡ one → (w : Version) → cond two (Some Two) (cond one (Some One) None) ≡ Some w → begins_as w b ≡ true
    by true one p q Two e = p
    by true one p q One e = absurd cc
    by false true p q One e = q
    by false true p q Two e = absurd cc
    by false false p q w e = absurd cc

magic_len : (v : Version) → take 8 (magic v) ≡ magic v
magic_len One = refl
magic_len Two = refl

magic_front : (v : Version) (b : List ℕ) → 8 ≤ length b → version_of b ≡ Some v → take 8 b ≡ magic v
magic_front v b l e =
    let eight : length (take 8 b) ≡ 8 = omega (arith, length-take 8 b) in
    same_text (take 8 b) (take (length (take 8 b)) (magic v)) (sym (begins v b e))
    ∙ ap (λ k. take k (magic v)) eight
    ∙ magic_len v

start_back : (n : ℕ) → n ≤ 1 → start_number (start_of n) ≡ n
start_back zero h = refl
start_back (suc zero) h = refl
start_back (suc (suc n)) h = absurd (omega arith)

-- a head that is spelled so
pub record IsSpelledHead (v : Version) (b : List ℕ) : Type 0 where
  pub bytes : b ≡ head v (settings_of v b) (count_of b) ++ drop (head_len v) b
  pub settings : AreInRange (settings_of v b)
  pub harts : (1 ≤ log_harts b) × (log_harts b ≤ most_harts v)
  pub plain : IsPlain v (settings_of v b)
  pub few : count_of b ≤ MAX_QUANTA

-- the bytes after the magic up to the count
shared_spelled : (v : Version) (b : List ℕ) → IsBytes b → head_len v ≤ length b → 40 ≤ length b → version_of b ≡ Some v
    → b ≡ magic v ++ (little_bytes 4 (number 4 b 8) ++ (little_bytes 4 (number 4 b 12) ++ (little_bytes 8 (number 8 b 16) ++ (little_bytes 8 (number 8 b 24) ++ (little_bytes 8 (number 8 b 32) ++ drop 40 b)))))
shared_spelled v b bytes l long e =
    sym (take-append-drop 8 b)
    ∙ ap (λ x. x ++ drop 8 b) (magic_front v b (omega arith) e)
    ∙ ap (λ x. magic v ++ x) (number_step 4 b 8 12 bytes refl (omega arith)
    ∙ ap (λ x. little_bytes 4 (number 4 b 8) ++ x) (number_step 4 b 12 16 bytes refl (omega arith)
    ∙ ap (λ x. little_bytes 4 (number 4 b 12) ++ x) (number_step 8 b 16 24 bytes refl (omega arith)
    ∙ ap (λ x. little_bytes 8 (number 8 b 16) ++ x) (number_step 8 b 24 32 bytes refl (omega arith)
    ∙ ap (λ x. little_bytes 8 (number 8 b 24) ++ x) (number_step 8 b 32 40 bytes refl (omega arith))))))

pub head_spelled : (v : Version) (b : List ℕ) → IsBytes b → head_len v ≤ length b → version_of b ≡ Some v → head_fault v b ≡ None → IsSpelledHead v b
unfolding head head_fault
head_spelled One b bytes l e fine =
    let all = all_lie b (head_fields One) fine in
    let h = all.0 in
    let n = all.1.0 in
    let t = all.1.1.0 in
    let w = all.1.1.1.0 in
    let c = all.1.1.1.1.0 in
    record {
      bytes = shared_spelled One b bytes l (omega arith) e;
      settings = record { harts = (h.0, omega arith); budget = t; bins = n; width = w; instruments = (omega arith, omega arith) };
      harts = h;
      plain = (refl, refl);
      few = c.1;
    }
head_spelled Two b bytes l e fine =
    let all = all_lie b (head_fields Two) fine in
    let h = all.0 in
    let n = all.1.0 in
    let t = all.1.1.0 in
    let w = all.1.1.1.0 in
    let c = all.1.1.1.1.0 in
    let x = all.1.1.1.1.1.0 in
    let i = all.1.1.1.1.1.1.0 in
    let later : drop 40 b ≡ little_bytes 4 (number 4 b 40) ++ (little_bytes 4 (number 4 b 44) ++ drop 48 b) =
    number_step 4 b 40 44 bytes refl (omega arith) ∙ ap (λ y. little_bytes 4 (number 4 b 40) ++ y) (number_step 4 b 44 48 bytes refl (omega arith)) in
    let start : number 4 b 40 ≡ start_number (start_of (number 4 b 40)) = sym (start_back (number 4 b 40) x.1) in
    record {
      bytes = shared_spelled Two b bytes l (omega arith) e
          ∙ ap (λ y. magic Two ++ (shared_head (settings_of Two b) (count_of b) ++ y)) (later ∙ ap (λ k. little_bytes 4 k ++ (little_bytes 4 (number 4 b 44) ++ drop 48 b)) start);
      settings = record { harts = h; budget = t; bins = n; width = w; instruments = i };
      harts = h;
      plain = tt;
      few = c.1;
    }

-- ---- what the ranges of a head say

pub some_harts : (v : Version) (b : List ℕ) → head_fault v b ≡ None → 1 ≤ log_harts b
unfolding head_fault
some_harts v b fine = (all_lie b (head_fields v) fine).0.0

pub few_entries : (v : Version) (b : List ℕ) → head_fault v b ≡ None → count_of b ≤ MAX_QUANTA
unfolding head_fault
few_entries v b fine = (all_lie b (head_fields v) fine).1.1.1.1.0.1

pub few_harts : (v : Version) (b : List ℕ) → head_fault v b ≡ None → log_harts b ≤ MAX_HARTS
unfolding head_fault
few_harts One b fine = let few = (all_lie b (head_fields One) fine).0.1 in omega arith
few_harts Two b fine = (all_lie b (head_fields Two) fine).0.1
