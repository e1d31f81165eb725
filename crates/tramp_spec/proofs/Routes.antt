-- Runs of a body from one word to another, and how they are put together.
use Rattle.std.proofs.Common.{◌≡◌, ℕ, zero, suc, ◌+◌, ◌-◌, ◌*◌, ◌/◌, ◌≤◌, List, [], ◌∷◌, ◌++◌, length, Some, Ok, refl, sym, ap, ◌∙◌, subst, arith, inl, inr, length-append}
use Rattle.std.specs.Prelude.{slice_get}
use Rattle.std.proofs.lemmas.Option.{slice_get_past}
use Rattle.rv_word.specs.Registers.{arguments_of}
use Rattle.tramp_spec.specs.Banks.{bank_len}
use Rattle.tramp_spec.specs.Marks.{tool}
use Rattle.tramp_spec.specs.Steps.{Bench, stand, step_on}
use Rattle.tramp_spec.specs.Bodies.{AreTool, Keeps, Leap, Safe, Stands, Harmless, finish, bank_at_end, at_word, if_stood}
use Rattle.tramp_spec.specs.Routes.{Path, Route, Effect, BodyDoes}
use Rattle.tramp_spec.specs.declared.mark.MarkedWord.{MarkedWord}

pub keeps_all : (x : Bench) → Keeps x x
keeps_all x = record { regs = λ r n m. refl; saved = refl; size = refl; room = refl }

pub keeps_on : (x y z : Bench) → Keeps x y → Keeps y z → Keeps x z
keeps_on x y z a b = record { regs = λ r n m. b.regs r n m ∙ a.regs r n m; saved = b.saved ∙ a.saved; size = b.size ∙ a.size; room = b.room ∙ a.room }

pub arguments_kept : (x y : Bench) → Keeps x y → arguments_of y.regs ≡ arguments_of x.regs
arguments_kept x y k =
    let a = k.regs 10 (λ e. omega arith) (λ e. omega arith) in
    let b = k.regs 11 (λ e. omega arith) (λ e. omega arith) in
    let c = k.regs 12 (λ e. omega arith) (λ e. omega arith) in
    let d = k.regs 13 (λ e. omega arith) (λ e. omega arith) in
    let e = k.regs 14 (λ e. omega arith) (λ e. omega arith) in
    let f = k.regs 15 (λ e. omega arith) (λ e. omega arith) in
    let g = k.regs 16 (λ e. omega arith) (λ e. omega arith) in
    let h = k.regs 17 (λ e. omega arith) (λ e. omega arith) in cc

module _ (body : List MarkedWord) (at ticks : ℕ) where
  pub none : (i : ℕ) (x : Bench) → Route body at ticks i i x x
  none i x = (0, (refl, refl))

  pub leap : (i j : ℕ) (x y : Bench) → Leap body at ticks i x j y → Route body at ticks i j x y
  leap i j x y l = (1, (j, y, l, (refl, refl)))

  on_path : (n i e g : ℕ) (x y z : Bench) → Path body at ticks n i e x y → Route body at ticks e g y z → Route body at ticks i g x z
  on_path zero i e g x y z p r = subst (λ a. Route body at ticks a g x z) (sym p.0) (subst (λ b. Route body at ticks e g b z) (sym p.1) r)
  on_path (suc n) i e g x y z p r = let q = on_path n p.0 e g p.1 y z p.3 r in (suc q.0, (p.0, p.1, p.2, q.1))

  pub and_on : (i e g : ℕ) (x y z : Bench) → Route body at ticks i e x y → Route body at ticks e g y z → Route body at ticks i g x z
  and_on i e g x y z r s = on_path r.0 i e g x y z r.1 s

  path_keeps : (n i e : ℕ) (x y : Bench) → Path body at ticks n i e x y → Keeps x y
  path_keeps zero i e x y p = subst (Keeps x) p.1 (keeps_all x)
  path_keeps (suc n) i e x y p = keeps_on x p.1 y (p.2).keeps (path_keeps n p.0 e p.1 y p.3)

  pub keeps : (i e : ℕ) (x y : Bench) → Route body at ticks i e x y → Keeps x y
  keeps i e x y r = path_keeps r.0 i e x y r.1

  -- as many turns as words at most
  short : (n i e : ℕ) (x y : Bench) → Path body at ticks n i e x y → i + n ≤ e
  short zero i e x y p = let q = p.0 in omega arith
  short (suc n) i e x y p = let l = (p.2).on in let q = short n p.0 e p.1 y p.3 in omega arith

  safe : (f n i : ℕ) (x y : Bench) → n ≤ f → Path body at ticks n i (length body) x y → Safe f body at i x ticks
  safe zero zero i x y l p = p.0
  safe (suc f) zero i x y l p = inl p.0
  safe zero (suc n) i x y l p = absurd (omega arith)
  safe (suc f) (suc n) i x y l p = inr (p.0, p.1, p.2, safe f n p.0 p.1 y (omega arith) p.3)

  pub safe_of : (x y : Bench) → Route body at ticks 0 (length body) x y → Safe (length body) body at 0 x ticks
  safe_of x y r = let l = short r.0 0 (length body) x y r.1 in safe (length body) r.0 0 x y (omega arith) r.1

  finish_at : (f n i : ℕ) (x y : Bench) → n ≤ f → Path body at ticks n i (length body) x y → finish f body at i x ticks ≡ y.bank
  finish_at zero zero i x y l p = ap (λ (b : Bench). b.bank) p.1
  finish_at (suc f) zero i x y l p =
      let e = p.0 in
      ap (λ o. at_word o x.bank (λ w. if_stood (step_on bank_len w ticks (at + 4 * i) x) x.bank (λ t. finish f body at ((t.pc - at) / 4) t.bench ticks))) (slice_get_past body i (omega arith))
      ∙ ap (λ (b : Bench). b.bank) p.1
  finish_at zero (suc n) i x y l p = absurd (omega arith)
  finish_at (suc f) (suc n) i x y l p =
      let j = p.0 in
      let e : (at + 4 * j - at) / 4 ≡ j = omega arith in
      ap (λ o. at_word o x.bank (λ w. if_stood (step_on bank_len w ticks (at + 4 * i) x) x.bank (λ t. finish f body at ((t.pc - at) / 4) t.bench ticks))) (p.2).here
      ∙ (ap (λ o. if_stood o x.bank (λ t. finish f body at ((t.pc - at) / 4) t.bench ticks)) (p.2).step
      ∙ (ap (λ m. finish f body at m p.1 ticks) e ∙ finish_at f n p.0 p.1 y (omega arith) p.3))

  pub finish_of : (x y : Bench) → Route body at ticks 0 (length body) x y → finish (length body) body at 0 x ticks ≡ y.bank
  finish_of x y r = let l = short r.0 0 (length body) x y r.1 in finish_at (length body) r.0 0 x y (omega arith) r.1

get_left : (a b : List MarkedWord) (i : ℕ) (w : MarkedWord) → slice_get a i ≡ Some w → slice_get (a ++ b) i ≡ Some w
get_left [] b i w e = absurd cc
get_left (x ∷ a) b zero w e = e
get_left (x ∷ a) b (suc i) w e = get_left a b i w e

get_right : (a b : List MarkedWord) (i : ℕ) → slice_get (a ++ b) (length a + i) ≡ slice_get b i
get_right [] b i = let e : 0 + i ≡ i = omega arith in ap (slice_get b) e
get_right (x ∷ a) b i = let e : suc (length a) + i ≡ suc (length a + i) = omega arith in ap (slice_get (x ∷ (a ++ b))) e ∙ get_right a b i

-- the first of two bodies
left_path : (a b : List MarkedWord) (at ticks n i e : ℕ) (x y : Bench) → Path a at ticks n i e x y → Path (a ++ b) at ticks n i e x y
left_path a b at ticks zero i e x y p = p
left_path a b at ticks (suc n) i e x y p =
    let l = p.2 in let q = l.within in let m = length-append a b in
    (p.0, p.1, record { word = l.word; here = get_left a b i (tool l.word) l.here; on = l.on; within = omega arith; step = l.step; keeps = l.keeps }, left_path a b at ticks n p.0 e p.1 y p.3)

pub left : (a b : List MarkedWord) (at ticks i e : ℕ) (x y : Bench) → Route a at ticks i e x y → Route (a ++ b) at ticks i e x y
left a b at ticks i e x y r = (r.0, left_path a b at ticks r.0 i e x y r.1)

-- the second
right_path : (a b : List MarkedWord) (at ticks n i e : ℕ) (x y : Bench) → Path b (at + 4 * length a) ticks n i e x y → Path (a ++ b) at ticks n (length a + i) (length a + e) x y
right_path a b at ticks zero i e x y p = (ap (λ m. length a + m) p.0, p.1)
right_path a b at ticks (suc n) i e x y p =
    let l = p.2 in let q = l.within in let on = l.on in let m = length-append a b in let j = p.0 in
    let from : at + 4 * (length a + i) ≡ at + 4 * length a + 4 * i = omega arith in
    let to : at + 4 * length a + 4 * j ≡ at + 4 * (length a + j) = omega arith in (
      length a + j,
      p.1,
      record {
        word = l.word;
        here = get_right a b i ∙ l.here;
        on = omega arith;
        within = omega arith;
        step = ap (λ c. step_on bank_len l.word ticks c x) from ∙ (l.step ∙ ap (λ c. Ok (stand c p.1)) to);
        keeps = l.keeps;
      },
      right_path a b at ticks n p.0 e p.1 y p.3,
    )

pub right : (a b : List MarkedWord) (at ticks i e : ℕ) (x y : Bench) → Route b (at + 4 * length a) ticks i e x y → Route (a ++ b) at ticks (length a + i) (length a + e) x y
right a b at ticks i e x y r = (r.0, right_path a b at ticks r.0 i e x y r.1)

pub harmless : (body : List MarkedWord) (f : Effect) → AreTool body → BodyDoes body f → Harmless body
harmless body f t d = record { tools = t; safe = λ at ticks x s. let r = d at ticks x s in safe_of body at ticks x r.0 r.1 }

pub leaves : (body : List MarkedWord) (f : Effect) → BodyDoes body f → (at ticks : ℕ) (x : Bench) → Stands body at x → bank_at_end body at x ticks ≡ f ticks (arguments_of x.regs) x.bank
leaves body f d at ticks x s = let r = d at ticks x s in finish_of body at ticks x r.0 r.1 ∙ r.2

-- the second body, after a run of the first words
pub goes_on : (a b : List MarkedWord) (f : Effect) → BodyDoes b f → (at ticks : ℕ) (x z : Bench) → Stands (a ++ b) at x → Route (a ++ b) at ticks 0 (length a) x z
    → (y : Bench) × Route (a ++ b) at ticks 0 (length (a ++ b)) x y × (y.bank ≡ f ticks (arguments_of x.regs) z.bank)
goes_on a b f d at ticks x z s r =
    let k = keeps (a ++ b) at ticks 0 (length a) x z r in
    let n = length-append a b in
    let al = s.aligned in let fi = s.fits in
    let q = d (at + 4 * length a) ticks z (record { aligned = omega arith; fits = omega arith; file = k.size ∙ s.file; bank = k.room ∙ s.bank }) in
    let go = right a b at ticks 0 (length b) z q.0 q.1 in
    let go' : Route (a ++ b) at ticks (length a) (length (a ++ b)) z q.0 =
    subst (λ m. Route (a ++ b) at ticks (length a) m z q.0) (sym n) (let e : length a + 0 ≡ length a = omega arith in subst (λ m. Route (a ++ b) at ticks m (length a + length b) z q.0) e go) in
    (q.0, and_on (a ++ b) at ticks 0 (length a) (length (a ++ b)) x z q.0 r go', q.2 ∙ ap (λ l. f ticks l z.bank) (arguments_kept x z k))

pub does_both : (a b : List MarkedWord) (f g : Effect) → BodyDoes a f → BodyDoes b g → BodyDoes (a ++ b) (λ ticks args k. g ticks args (f ticks args k))
does_both a b f g da db at ticks x s =
    let n = length-append a b in
    let fi = s.fits in
    let r = da at ticks x (record { aligned = s.aligned; fits = omega arith; file = s.file; bank = s.bank }) in
    let q = goes_on a b g db at ticks x r.0 s (left a b at ticks 0 (length a) x r.0 r.1) in
    (q.0, q.1, q.2 ∙ ap (g ticks (arguments_of x.regs)) r.2)
