-- When the sites of an instrument are linked.
use Rattle.std.proofs.Common.{◌≡◌, ℕ, List, [], ◌∷◌, Option, Some, None, refl, sym, ap, ◌∙◌, subst, inl, inr}
use Rattle.std.specs.Prelude.{Bool, true, false, cond, not, ◌&&◌, ◌==◌, ◌⊎◌}
use Rattle.std.specs.FinMap.{get}
use Rattle.std.specs.List.{list_all}
use Rattle.std.proofs.lemmas.Bool.{true≢false, and_from, and_parts, cond-true, eq-eqb, eqb-true, not-true}
use Rattle.pn_types.specs.declared.placed.PlacedSite.{PlacedSite}
use Rattle.rv_word.specs.Plain.{Plain, program_word}
use Rattle.tramp_spec.specs.Codes.{fetched_at, is_text_word}
use Rattle.tramp_spec.specs.Marks.{enter}
use Rattle.tramp_spec.specs.declared.mark.Mark.{Mark}
use Rattle.tramp_spec.specs.declared.mark.Mark.TheVariants.{Own, Enter, Tool, Leave}
use Rattle.tramp_spec.specs.declared.mark.MarkedWord.{MarkedWord}
use Rattle.machine.specs.Cores.{Row, Written, Live, Core, is_live}
use Rattle.machine.specs.Events.{AreLinked, HasMini, IsEntered, IsLinked, row_at}
use Rattle.machine.specs.LinkedSites.{enters, is_enter, is_live_mini, is_site_linked}
use Rattle.machine.specs.Reached.{IsReached}
use Rattle.machine.proofs.Homes.{base_shape, one_block, piece_of}
use Rattle.machine.proofs.Invariant.{the_row, Linked, Inv}
use Rattle.machine.proofs.Lists.{find_finds, find_gives}
use Rattle.machine.proofs.Points.{live_true}
use Rattle.machine.proofs.Reaching.{good}
use Rattle.machine.proofs.Texts.{text_cases}

enter_is : (m : Mark) → is_enter m ≡ true → m ≡ Enter
enter_is Enter e = refl
enter_is Own e = absurd (true≢false (sym e))
enter_is Tool e = absurd (true≢false (sym e))
enter_is Leave e = absurd (true≢false (sym e))

-- ---- from the tests

mini_by : (c : Core) (p m : ℕ) (o : Option Row) → row_at c.rows m ≡ o → is_live_mini p o ≡ true → HasMini c p m Live
mini_by c p m None e t = absurd (true≢false (sym t))
mini_by c p m (Some r) e t =
    let g = find_gives (λ (z : Row). z.at == m) c.rows r e in
    let a = and_parts (not r.base) ((r.point == p) && is_live r.status) t in
    let b = and_parts (r.point == p) (is_live r.status) a.1 in
    record { row = r; listed = g.0; mini = not-true r.base a.0; point = eqb-true r.point p b.0; at = eqb-true r.at m g.1; is = live_true r.status b.1 }

fetched_word : (b : Bool) (o : Option MarkedWord) → enters (cond b o None) ≡ true → (w : ℕ) × (o ≡ Some (enter w))
fetched_word false o e = absurd (true≢false (sym e))
fetched_word true None e = absurd (true≢false (sym e))
fetched_word true (Some w) e = (w.word, ap (λ m. Some (record { word = w.word; mark = m })) (enter_is w.mark e))

entered_by : (c : Core) (p : ℕ) → enters (fetched_at c.program c.code p false) ≡ true → IsEntered c p
entered_by c p e = let w = fetched_word (is_text_word c.program p) (get c.code p) e in record { jump = w.0; stands = w.1 }

site_linked : (c : Core) (s : PlacedSite) → is_site_linked c s ≡ true → IsLinked c s
site_linked c s e =
    let t = and_parts (is_live_mini s.at (row_at c.rows s.mini)) (enters (fetched_at c.program c.code s.at false)) e in
    (mini_by c s.at s.mini (row_at c.rows s.mini) refl t.0, entered_by c s.at t.1)

-- ---- and back

module _ (c : Core) (s : Plain) (v : Inv c s) where
  -- a block is found at its address
  found : (p m : ℕ) (h : HasMini c p m Live) → row_at c.rows m ≡ Some h.row
  found p m h =
      let f = find_finds (λ (z : Row). z.at == m) c.rows h.row h.listed (eq-eqb h.row.at m h.at) in
      let g = find_gives (λ (z : Row). z.at == m) c.rows f.0 f.1 in
      let a = piece_of c.program c.code c.rows v.ps v.clock v.static f.0 g.0 in
      let b = piece_of c.program c.code c.rows v.ps v.clock v.static h.row h.listed in
      let same = one_block c.program c.code c.rows v.ps v.clock v.static a.0 b.0 a.1 b.1 (sym (ap (λ (z : Row). z.at) a.2) ∙ (eqb-true f.0.at m g.1 ∙ (sym h.at ∙ ap (λ (z : Row). z.at) b.2))) in
      f.1 ∙ ap (λ (z : Row). Some z) (a.2 ∙ (ap the_row same ∙ sym b.2))

  -- a live mini block's point is in the text
  in_text : (p m : ℕ) → HasMini c p m Live → is_text_word c.program p ≡ true
  in_text p m h =
      let q = piece_of c.program c.code c.rows v.ps v.clock v.static h.row h.listed in
      let linked : Linked q.0 = record { mini = sym (ap (λ (z : Row). z.base) q.2) ∙ h.mini; was = λ (e : (q.0).row.status ≡ Written). absurd (let no : Live ≡ Written = sym h.is ∙ (ap (λ (z : Row). z.status) q.2 ∙ e) in cc) } in
      let b = v.static.families q.0 q.1 linked in
      let shape = base_shape c.program c.code c.rows v.ps v.clock v.static b.0 (b.1).is_in (b.1).base in
      let there : (b.0).row.point ≡ p = (b.1).point ∙ (sym (ap (λ (z : Row). z.point) q.2) ∙ h.point) in
      by shape.word (text_cases c.program p) (subst (λ a. program_word c.program a ≡ Some shape.word) there shape.here)
    where
      by : (word : ℕ) → ((w : ℕ) × (program_word c.program p ≡ Some w) × (is_text_word c.program p ≡ true)) ⊎ ((program_word c.program p ≡ None) × (is_text_word c.program p ≡ false)) → program_word c.program p ≡ Some word → is_text_word c.program p ≡ true
      by word (inl k) e = k.2
      by word (inr k) e = absurd (let no = sym k.0 ∙ e in cc)

  linked_site : (z : PlacedSite) → IsLinked c z → is_site_linked c z ≡ true
  linked_site z k =
      let h = k.0 in
      let live : is_live_mini z.at (row_at c.rows z.mini) ≡ true = ap (is_live_mini z.at) (found z.at z.mini h) ∙ and_from _ _ (ap not h.mini) (and_from _ _ (eq-eqb h.row.point z.at h.point) (ap is_live h.is)) in
      let text : fetched_at c.program c.code z.at false ≡ Some (enter (k.1).jump) = cond-true (is_text_word c.program z.at) (get c.code z.at) None (in_text z.at z.mini h) ∙ (k.1).stands in
      and_from _ _ live (ap enters text)

-- ---- all sites

all_from : (c : Core) (sites : List PlacedSite) → list_all (is_site_linked c) sites ≡ true → AreLinked c sites
all_from c [] e s h = absurd h
all_from c (z ∷ zs) e s (inl h) = subst (IsLinked c) (sym h) (site_linked c z (and_parts (is_site_linked c z) (list_all (is_site_linked c) zs) e).0)
all_from c (z ∷ zs) e s (inr h) = all_from c zs (and_parts (is_site_linked c z) (list_all (is_site_linked c) zs) e).1 s h

all_to : (c : Core) (s : Plain) (v : Inv c s) (sites : List PlacedSite) → AreLinked c sites → list_all (is_site_linked c) sites ≡ true
all_to c s v [] k = refl
all_to c s v (z ∷ zs) k = and_from _ _ (linked_site c s v z (k z (inl refl))) (all_to c s v zs (λ u h. k u (inr h)))

pub sites_linked : (c : Core) → IsReached c → (sites : List PlacedSite) → (list_all (is_site_linked c) sites ≡ true → AreLinked c sites) × (AreLinked c sites → list_all (is_site_linked c) sites ≡ true)
sites_linked c r sites = let g = good c r in (all_from c sites, all_to c g.0 g.1 sites)
