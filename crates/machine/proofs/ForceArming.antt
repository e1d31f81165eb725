-- An instrument is armed: from then on it is in force.
use Rattle.std.proofs.Common.{◌≡◌, ℕ, ◌+◌, ◌-◌, ◌^◌, ◌<◌, ◌≤◌, List, [], ◌∷◌, ◌++◌, length, Option, Some, None, refl, sym, ap, ◌∙◌, subst, arith, ⊎_elim, inl, inr}
use Rattle.std.specs.Prelude.{true, false, find, slice_get, unwrap_or, ◌⊎◌, ◌==◌}
use Rattle.std.specs.List.{AllByRecursion, IsDistinct}
use Rattle.std.proofs.lemmas.Bool.{true≢false, cases_Bool, cond-true, cond-false, eq-eqb, eqb-true}
use Rattle.pn_types.specs.declared.placed.Placed.{Placed}
use Rattle.pn_types.specs.declared.placed.PlacedSite.{PlacedSite}
use Rattle.pn_types.specs.declared.plan.Plan.{Plan}
use Rattle.pn_types.specs.declared.plan.Site.{Site}
use Rattle.rv_word.specs.Plain.{PlainHart, Plain}
use Rattle.tramp_spec.specs.Codes.{Code}
use Rattle.tramp_spec.specs.Harts.{Hart, is_tick}
use Rattle.tramp_spec.specs.Marks.{tool}
use Rattle.tramp_spec.specs.Slots.{places_of, set_places}
use Rattle.tramp_spec.specs.Statements.{body_of}
use Rattle.tramp_spec.specs.declared.mark.MarkedWord.{MarkedWord}
use Rattle.frame_walk.specs.Openings.{opening}
use Rattle.frame_walk.specs.Walks.{walk, walk_now}
use Rattle.prim_code.specs.Fitting.{AreStmtsOf, IsMeasurable}
use Rattle.prim_code.proofs.Listing.{length_places}
use Rattle.machine.specs.Cores.{In, Row, Live, Core, is_current}
use Rattle.machine.specs.Effects.{after_event, armed_hart}
use Rattle.machine.specs.Events.{Arm, MayArm, IsEntered}
use Rattle.machine.specs.Instruments.{words_at, body_in, HasBody, CarriesSites, Carries, Spares, IsSpared}
use Rattle.machine.specs.Measures.{site_at, opening_level}
use Rattle.machine.proofs.Arming.{arms, get_map}
use Rattle.machine.proofs.Force.{Fits, Mine, Ready, Reads}
use Rattle.machine.proofs.ForceEvents.{Known}
use Rattle.machine.proofs.Homes.{piece_of, row_in, one_block, mini_shape, base_shape}
use Rattle.machine.proofs.Invariant.{Piece, IsBase, Linked, BaseShape, MiniShape, Static, Door, Inv}
use Rattle.machine.proofs.Lists.{find_gives, find_finds, AreWordsAt}
use Rattle.machine.proofs.Opened.{arming_sets, AreWithin}
use Rattle.machine.proofs.Openings.{opens_far_below, same_opening}
use Rattle.machine.proofs.Told.{Stand, starts}

-- ---- bodies, in the code

words_stand : (code : Code) (at : ℕ) (body rest : List MarkedWord) → AreWordsAt code at (body ++ rest) → words_at (length body) code at ≡ body
words_stand code at [] rest h = refl
words_stand code at (w ∷ ws) rest h = let a = ap (λ o. unwrap_or o (tool 0)) h.0 in let b = words_stand code (at + 4) ws rest h.1 in cc

pub same_body : (code : Code) (row : Row) (body : List MarkedWord) (next : ℕ) → MiniShape code row body next → body_in code row ≡ body
same_body code row body next s =
    let len = s.len in
    let e : row.len - 1 ≡ length body = omega arith in
    ap (λ n. words_at n code row.at) e ∙ words_stand code row.at body (tool s.jump ∷ []) s.stands

-- ---- sites, pair by pair

all_in : {A : Type 0} (P : A → Type 0) (xs : List A) (x : A) → AllByRecursion P xs → In x xs → P x
all_in P [] x a h = absurd h
all_in P (y ∷ ys) x a (inl e) = subst P (sym e) a.0
all_in P (y ∷ ys) x a (inr h) = all_in P ys x a.1 h

-- no site after the first has its address
no_other : (q r : Site) (qs : List Site) → AllByRecursion (λ (z : Site). (q.at == z.at) ≡ false) qs → In r qs → r.at ≡ q.at → ⊥
no_other q r qs a h e = true≢false (sym (eq-eqb q.at r.at (sym e)) ∙ all_in (λ (z : Site). (q.at == z.at) ≡ false) qs r a h)

-- a site of the instrument with that of the plan
record Pair (c : Core) (slots : List ℕ) (qs : List Site) (s : PlacedSite) : Type 0 where
  site : Site
  listed : In site qs
  at : s.at ≡ site.at
  body : HasBody c s.at s.mini (body_of slots site.stmts)
  found : find (λ (q : Site). q.at == s.at) qs ≡ Some site

module _ (c : Core) (slots : List ℕ) where
  pairs : (ss : List PlacedSite) (qs : List Site) → CarriesSites c slots ss qs → IsDistinct (λ (a b : Site). a.at == b.at) qs → (s : PlacedSite) → In s ss → Pair c slots qs s
  unfolding IsDistinct
  pairs [] [] k d s h = absurd h
  pairs [] (q ∷ qs) k d s h = absurd k
  pairs (s ∷ ss) [] k d r h = absurd k
  pairs (s ∷ ss) (q ∷ qs) k d r (inl e) =
      let at : r.at ≡ q.at = ap (λ (z : PlacedSite). z.at) e ∙ k.0 in
      record {
        site = q;
        listed = inl refl;
        at = at;
        body = subst (λ (z : PlacedSite). HasBody c z.at z.mini (body_of slots q.stmts)) (sym e) k.1;
        found = cond-true (q.at == r.at) (Some q) (find (λ (q : Site). q.at == r.at) qs) (eq-eqb q.at r.at (sym at));
      }
  pairs (s ∷ ss) (q ∷ qs) k d r (inr h) =
      let p = pairs ss qs k.2 d.1 r h in
      record {
        site = p.site;
        listed = inr p.listed;
        at = p.at;
        body = p.body;
        found = ⊎_elim
            (λ (e : (q.at == r.at) ≡ true). absurd (no_other q p.site qs d.0 p.listed (sym p.at ∙ sym (eqb-true q.at r.at e))))
            (λ (e : (q.at == r.at) ≡ false). cond-false (q.at == r.at) (Some q) (find (λ (q : Site). q.at == r.at) qs) e ∙ p.found)
            (cases_Bool (q.at == r.at));
      }

  -- an address is that of a site of the instrument, or no site of the plan
  sites : (ss : List PlacedSite) (qs : List Site) → CarriesSites c slots ss qs → (p : ℕ) → (find (λ (q : Site). q.at == p) qs ≡ None) ⊎ ((s : PlacedSite) × In s ss × (s.at ≡ p))
  sites [] [] k p = inl refl
  sites [] (q ∷ qs) k p = absurd k
  sites (s ∷ ss) [] k p = absurd k
  sites (s ∷ ss) (q ∷ qs) k p = ⊎_elim
      (λ (e : (q.at == p) ≡ true). inr (s, inl refl, k.0 ∙ eqb-true q.at p e))
      (λ (e : (q.at == p) ≡ false). ⊎_elim
      (λ n. inl (cond-false (q.at == p) (Some q) (find (λ (q : Site). q.at == p) qs) e ∙ n))
      (λ (r : (s : PlacedSite) × In s ss × (s.at ≡ p)). inr (r.0, inr r.1, r.2))
      (sites ss qs k.2 p))
      (cases_Bool (q.at == p))

  -- sites at one address are one
  one_site : (ss : List PlacedSite) (qs : List Site) → CarriesSites c slots ss qs → IsDistinct (λ (a b : Site). a.at == b.at) qs → (s r : PlacedSite) → In s ss → In r ss → s.at ≡ r.at → s ≡ r
  unfolding IsDistinct
  one_site [] [] k d s r hs hr e = absurd hs
  one_site [] (q ∷ qs) k d s r hs hr e = absurd k
  one_site (z ∷ zs) [] k d s r hs hr e = absurd k
  one_site (z ∷ zs) (q ∷ qs) k d s r (inl a) (inl b) e = a ∙ sym b
  one_site (z ∷ zs) (q ∷ qs) k d s r (inl a) (inr b) e =
      let p = pairs zs qs k.2 d.1 r b in
      absurd (no_other q p.site qs d.0 p.listed (sym p.at ∙ (sym e ∙ (ap (λ (u : PlacedSite). u.at) a ∙ k.0))))
  one_site (z ∷ zs) (q ∷ qs) k d s r (inr a) (inl b) e =
      let p = pairs zs qs k.2 d.1 s a in
      absurd (no_other q p.site qs d.0 p.listed (sym p.at ∙ (e ∙ (ap (λ (u : PlacedSite). u.at) b ∙ k.0))))
  one_site (z ∷ zs) (q ∷ qs) k d s r (inr a) (inr b) e = one_site zs qs k.2 d.1 s r a b e

found_in : (plan : Plan) (p : ℕ) (q : Site) → site_at plan p ≡ Some q → In q plan.sites
found_in plan p q e = (find_gives (λ (z : Site). z.at == p) plan.sites q e).0

-- ---- the family and the age of the block at an address

abbrev block_at : List Piece → ℕ → Option Piece
block_at ps a = find (λ x. x.row.at == a) ps

abbrev family_in : Option Piece → ℕ
family_in None = 0
family_in (Some x) = x.family

abbrev age_in : Option Piece → ℕ
age_in None = 0
age_in (Some x) = x.age

abbrev pub families_in : List Piece → ℕ → ℕ
families_in ps a = family_in (block_at ps a)

abbrev pub ages_in : List Piece → ℕ → ℕ
ages_in ps a = age_in (block_at ps a)

module _ (c : Core) (s : Plain) (v : Inv c s) (i : Placed) (plan : Plan) (may : MayArm c i) (k : Carries c i plan) (spared : IsSpared c i) (m : IsMeasurable plan) where
  st : Static c.program c.code c.rows v.ps v.clock
  st = v.static

  block : (x : Piece) → In x v.ps → block_at v.ps x.row.at ≡ Some x
  block x h =
      let f = find_finds (λ (z : Piece). z.row.at == x.row.at) v.ps x h (eq-eqb x.row.at x.row.at refl) in
      let g = find_gives (λ (z : Piece). z.row.at == x.row.at) v.ps f.0 f.1 in
      f.1 ∙ ap (λ z. Some z) (one_block c.program c.code c.rows v.ps v.clock v.static f.0 x g.0 h (eqb-true (f.0).row.at x.row.at g.1))

  pair : (z : PlacedSite) → In z i.sites → Pair c i.slots plan.sites z
  pair = pairs c i.slots i.sites plan.sites k.sites m.apart

  fits : Fits i plan
  fits = record {
    many = k.many;
    places = k.places;
    few = λ p q e. all_in (λ (z : Site). length z.stmts ≤ 32) plan.sites q m.few (found_in plan p q e);
    stmts = λ p q e. subst (λ vars. AreStmtsOf vars q.stmts) (sym k.vars) (all_in (λ (z : Site). AreStmtsOf plan.vars z.stmts) plan.sites q m.fitting (found_in plan p q e));
    sites = sites c i.slots i.sites plan.sites k.sites;
    one = one_site c i.slots i.sites plan.sites k.sites m.apart;
  }

  -- the jump to a base block stands at the point, which is therefore live
  entered : (b : Piece) → In b v.ps → IsBase b → is_current b.row.status ≡ true → IsEntered c b.row.point → b.row.status ≡ Live
  entered b hb bs cur e =
      let w = base_shape c.program c.code c.rows v.ps v.clock v.static b hb bs in
      ⊎_elim
      (λ o. absurd (true≢false (sym (ap is_tick o) ∙ ap is_tick e.stands)))
      (λ (r : (d : Piece) × In d v.ps × IsBase d × (d.row.point ≡ b.row.point) × (d.row.status ≡ Live) × Door c.code d).
      ap (λ (u : Piece). u.row.status) (st.single b r.0 hb r.1 bs r.2 (sym r.3) cur (ap is_current r.4)) ∙ r.4)
      (st.words b.row.point w.word w.here)

  mine : (z : PlacedSite) → In z i.sites → Mine i plan (families_in v.ps) (ages_in v.ps) v.ps z
  mine z h =
      let p = pair z h in
      let l = may.linked z h in
      let o = l.0 in
      let q = piece_of c.program c.code c.rows v.ps v.clock v.static o.row o.listed in
      let x = q.0 in
      let mini : x.row.base ≡ false = sym (ap (λ (u : Row). u.base) q.2) ∙ o.mini in
      let point : x.row.point ≡ z.at = sym (ap (λ (u : Row). u.point) q.2) ∙ o.point in
      let at : x.row.at ≡ z.mini = sym (ap (λ (u : Row). u.at) q.2) ∙ o.at in
      let live : x.row.status ≡ Live = sym (ap (λ (u : Row). u.status) q.2) ∙ o.is in
      let linked : Linked x = record { mini = mini; was = λ w. absurd cc } in
      let b = st.families x q.1 linked in
      let r = p.body in
      let y = piece_of c.program c.code c.rows v.ps v.clock v.static r.row r.listed in
      let same : y.0 ≡ x = one_block c.program c.code c.rows v.ps v.clock v.static y.0 x y.1 q.1 (sym (ap (λ (u : Row). u.at) y.2) ∙ (r.at ∙ sym at)) in
      let row : r.row ≡ x.row = y.2 ∙ ap (λ (u : Piece). u.row) same in
      let here : block_at v.ps z.mini ≡ Some x = ap (block_at v.ps) (sym at) ∙ block x q.1 in
      record {
        x = x;
        is_in = q.1;
        at = at;
        point = point;
        linked = linked;
        live = live;
        family = sym (ap family_in here);
        age = sym (ap age_in here);
        site = p.site;
        found = p.found;
        body = sym (same_body c.code x.row x.body x.next (mini_shape c.program c.code c.rows v.ps v.clock v.static x q.1 linked)) ∙ (ap (body_in c.code) (sym row) ∙ r.is);
        b = b.0;
        base = b.1;
        entered = entered b.0 (b.1).is_in (b.1).base (st.used x b.0 q.1 linked b.1 live) (subst (IsEntered c) (sym ((b.1).point ∙ point)) l.1);
      }

  ready : Ready i plan (families_in v.ps) (ages_in v.ps) v.ps
  ready = record {
    fits = fits;
    mines = mine;
    spares = λ y h e. ⊎_elim
        (λ o. inl o)
        (λ (o : Spares i (body_in c.code y.row)). ⊎_elim
        (λ (r : BaseShape c.program c.code y.row y.next). absurd (true≢false (sym r.base ∙ e)))
        (λ (r : MiniShape c.code y.row y.body y.next). inr (subst (Spares i) (same_body c.code y.row y.body y.next r) o))
        (st.shapes y h))
        (spared y.row (row_in c.program c.code c.rows v.ps v.clock v.static y h) e);
  }

  -- ---- the slots

  stands : (cap : c.budget < 2 ^ 58) (h : ℕ) (x : Hart) (y : PlainHart) → slice_get c.harts h ≡ Some x → slice_get s.harts h ≡ Some y → y.ticks ≤ c.budget
      → Stand i c.budget (opening_level plan s h) (set_places (places_of i) (opening i.opens (walk_now c.prog x) i.vars) x.ticks x.bank) x.ticks
  stands cap h x y ex ey low =
      let d = v.harts h x y ex ey in
      let t = d.ticks in
      let spare = starts (c.budget - x.ticks) in
      let values = opening plan.opens (walk s h) plan.vars in
      let below = opens_far_below plan m s h in
      let long : length (opening plan.opens (walk s h) plan.vars) ≡ length i.vars = below.many ∙ ap length (sym k.vars) in
      let r = arming_sets (places_of i) values x.bank spare x.ticks k.places (long ∙ sym (length_places i.slots i.vars k.many)) d.bank (omega arith) (below.spare spare (omega arith)) in
      subst (λ n. Stand i c.budget (opening_level plan s h) (set_places (places_of i) n x.ticks x.bank) x.ticks) (sym (same_opening c s v i plan k h x y ex ey (may.quiet h x ex)))
      (record { size = long; slots = r.stand; runs = λ p e z. r.timers 0 p e z })

  pub arms_known : c.budget < 2 ^ 58 → AreWithin c.budget s → Known i plan (families_in v.ps) (ages_in v.ps) (after_event c (Arm i)) s (λ h. opening_level plan s h)
  unfolding arms
  arms_known cap low =
      record {
        inv = arms c s i may.quiet v;
        ready = ready;
        reads = λ h x y ex ey.
            let o = get_map (armed_hart c i) c.harts h x ex in
            subst (λ (u : Hart). Reads i plan (families_in v.ps) (ages_in v.ps) c.program c.budget v.ps u y (opening_level plan s h)) (sym o.2)
            (inl (may.quiet h o.0 o.1, stands cap h o.0 y o.1 ey (low h y ey)));
      }
