-- The placing of a plan's sites, as a list of steps.
use Rattle.std.proofs.Common.{◌≡◌, ℕ, List, [], ◌∷◌, ◌++◌, Some, Ok, Err, refl, sym, ap, ◌∙◌, subst, inl, inr}
use Rattle.std.specs.Prelude.{map, Result}
use Rattle.pn_types.specs.declared.plan.Site.{Site}
use Rattle.rv_word.specs.Plain.{program_word}
use Rattle.tramp_spec.specs.Bodies.{Harmless}
use Rattle.tramp_spec.specs.Statements.{body_of}
use Rattle.machine.specs.Cores.{In}
use Rattle.machine.specs.Instruments.{body_of_block}
use Rattle.instrument.specs.Admission.{with_site, with_sites, and_then}
use Rattle.instrument.specs.Books.{Book, Blocks, with_blocks, rooms_of}
use Rattle.instrument.specs.declared.number.Refused.{Refused}
use Rattle.instrument.specs.declared.room.Room.{Room}
use Rattle.instrument.proofs.Folds.{append_assoc, append_nil}
use Rattle.instrument.proofs.Steps.{State, Step, Admitted, AllCan, all_events, all_steps}
use Rattle.instrument.proofs.Neats.{Neat, neat_new}
use Rattle.instrument.proofs.Siting.{Sited, sited}

abbrev pub admissions : ℕ → List Blocks → List Step
admissions owner ks = map (Admitted owner) ks

abbrev pub new_rooms : ℕ → List Blocks → List Room
new_rooms owner [] = []
new_rooms owner (k ∷ ks) = rooms_of k.base owner k.mini ++ new_rooms owner ks

-- each site has its blocks
abbrev pub AreSited : List ℕ → List Site → List Blocks → Type 0
AreSited slots [] [] = Unit {0}
AreSited slots (s ∷ sites) (k ∷ ks) = (k.mini.point ≡ s.at) × (body_of_block k.mini ≡ body_of slots s.stmts) × AreSited slots sites ks
AreSited slots [] (k ∷ ks) = ⊥
AreSited slots (s ∷ sites) [] = ⊥

pub record Places (owner : ℕ) (slots : List ℕ) (sites : List Site) (st : State) (after : Book) : Type 0 where
  pub ks : List Blocks
  pub can : AllCan (admissions owner ks) st
  pub state : all_steps (admissions owner ks) st ≡ record { core = st.core; book = after }
  pub none : all_events (admissions owner ks) st ≡ []
  pub blocks : AreSited slots sites ks
  pub rooms : after.rooms ≡ st.book.rooms ++ new_rooms owner ks

abbrev pub AreGood : State → List ℕ → List Site → Type 0
AreGood st slots sites = (s : Site) → In s sites → Harmless (body_of slots s.stmts) × (word : ℕ) × (program_word st.core.program s.at ≡ Some word)

pub places : (owner : ℕ) (slots : List ℕ) (sites : List Site) (st : State) (after : Book) → Neat st.book.rooms → AreGood st slots sites → with_sites st.core.program owner slots sites st.book ≡ Ok after → Places owner slots sites st after
places owner slots [] st after n g e =
    let i : st.book ≡ after = cc in
    record { ks = []; can = tt; state = ap (λ (b : Book). record { core = st.core; book = b }) i; none = refl; blocks = tt; rooms = sym (ap (λ (b : Book). b.rooms) i) ∙ sym (append_nil st.book.rooms) }
places owner slots (s ∷ sites) st after n g e =
    by (with_site st.core.program owner slots s st.book) refl e
    (λ book neat q. places owner slots sites (record { core = st.core; book = book }) after neat (λ z h. g z (inr h)) q)
  where
    by : (o : Result Book Refused) → with_site st.core.program owner slots s st.book ≡ o → and_then o (with_sites st.core.program owner slots sites) ≡ Ok after
        → ((book : Book) → Neat book.rooms → with_sites st.core.program owner slots sites book ≡ Ok after → Places owner slots sites (record { core = st.core; book = book }) after)
        → Places owner slots (s ∷ sites) st after
    by (Err r) q i ih = absurd cc
    by (Ok book) q i ih =
        let w = g s (inl refl) in
        let z : Sited st.core.program owner s.at (body_of slots s.stmts) st.book book = sited st.core.program owner s.at (body_of slots s.stmts) st.book n w.0 (w.1, w.2) book q in
        let neat : Neat (st.book.rooms ++ rooms_of z.k.base owner z.k.mini) = neat_new owner st.core.program st.book.rooms z.k.mini z.good z.free z.k.base z.fits n in
        let p : Places owner slots sites (record { core = st.core; book = with_blocks owner z.k st.book }) after =
        ih (with_blocks owner z.k st.book) neat (subst (λ (b : Book). with_sites st.core.program owner slots sites b ≡ Ok after) z.is i) in
        record {
          ks = z.k ∷ p.ks;
          can = (record { good = z.good; free = z.free; fits = z.fits }, p.can);
          state = p.state;
          none = p.none;
          blocks = (z.point, z.body, p.blocks);
          rooms = p.rooms ∙ append_assoc st.book.rooms (rooms_of z.k.base owner z.k.mini) (new_rooms owner p.ks);
        }
