-- What a step lets an instrument be.
use Rattle.std.proofs.Common.{◌≡◌, ℕ, ◌+◌, ◌-◌, ◌*◌, List, [], ◌∷◌, ◌++◌, length, refl, sym, subst, arith, inl, inr}
use Rattle.std.specs.Prelude.{true, ◌⊎◌}
use Rattle.std.proofs.lemmas.List.{take_at}
use Rattle.pn_types.specs.declared.placed.Placed.{Placed}
use Rattle.pn_types.specs.declared.placed.PlacedSite.{PlacedSite}
use Rattle.tramp_spec.specs.Blocks.{mini_words}
use Rattle.tramp_spec.specs.Jumps.{jump_word}
use Rattle.tramp_spec.specs.Marks.{tool}
use Rattle.tramp_spec.specs.Slots.{places_of, ShareNone}
use Rattle.tramp_spec.specs.declared.block.Block.{Block}
use Rattle.machine.specs.Cores.{In, Core}
use Rattle.machine.specs.Events as events
use Rattle.machine.specs.Events.{Event, current_base}
use Rattle.machine.specs.Instruments.{Spares, body_of_block, Lets, AllLet}
use Rattle.machine.proofs.Effects.{fixed}
use Rattle.instrument.specs.Handing.{head_of, leading, event_of}
use Rattle.instrument.specs.declared.entry.Entry.{Entry}
use Rattle.instrument.specs.declared.entry.Entry.TheVariants.{WriteBase, WriteMini, LinkMini, LinkPoint, UnlinkMini, UnlinkPoint, Free}
use Rattle.instrument.proofs.Stages.{Good}
use Rattle.instrument.proofs.Steps.{State, Out, Step, Happened, Admitted, Dropped, Handed, Swept, does, Can}
use Rattle.instrument.proofs.Keeping.{Kept}
use Rattle.instrument.proofs.Going.{handed, swept}
use Rattle.instrument.proofs.Force.{Spared, AllSpared}
use Rattle.instrument.proofs.Siting.{mini_words_len}

-- all that an event is to let, but for what it unlinks
abbrev pub LetsBut : Placed → Event → Type 0
LetsBut i (events.Write b) = (b.base ≡ true) ⊎ Spares i (body_of_block b)
LetsBut i (events.Arm j) = ShareNone (places_of i) (places_of j)
LetsBut i (events.UnlinkMini p m) = Unit {0}
LetsBut i (events.UnlinkPoint p) = Unit {0}
LetsBut i (events.Turn h) = Unit {0}
LetsBut i (events.LinkMini p m) = Unit {0}
LetsBut i (events.LinkPoint p) = Unit {0}
LetsBut i (events.Free p) = Unit {0}
LetsBut i (events.Sample j) = Unit {0}

abbrev pub AllLetBut : Placed → List Event → Type 0
AllLetBut i [] = Unit {0}
AllLetBut i (e ∷ es) = LetsBut i e × AllLetBut i es

lets_all : (i : Placed) (e : Event) → LetsBut i e → ((s : PlacedSite) → In s i.sites → Spared s.at s.mini e) → Lets i e
lets_all i (events.Write b) l f = l
lets_all i (events.Arm j) l f = l
lets_all i (events.UnlinkMini p m) l f = λ k. f k.0 k.1 (sym k.2)
lets_all i (events.UnlinkPoint p) l f = λ k. f k.0 k.1 (sym k.2)
lets_all i (events.Turn h) l f = tt
lets_all i (events.LinkMini p m) l f = tt
lets_all i (events.LinkPoint p) l f = tt
lets_all i (events.Free p) l f = tt
lets_all i (events.Sample j) l f = tt

pub all_lets : (i : Placed) (es : List Event) → AllLetBut i es → ((s : PlacedSite) → In s i.sites → AllSpared s.at s.mini es) → AllLet i es
all_lets i [] l f = tt
all_lets i (e ∷ es) l f = (lets_all i e l.0 (λ s h. (f s h).0), all_lets i es l.1 (λ s h. (f s h).1))

pub all_let_append : (i : Placed) (xs ys : List Event) → AllLet i xs → AllLet i ys → AllLet i (xs ++ ys)
all_let_append i [] ys a b = b
all_let_append i (x ∷ xs) ys a b = (a.0, all_let_append i xs ys a.1 b)

but_append : (i : Placed) (xs ys : List Event) → AllLetBut i xs → AllLetBut i ys → AllLetBut i (xs ++ ys)
but_append i [] ys a b = b
but_append i (x ∷ xs) ys a b = (a.0, but_append i xs ys a.1 b)

-- the body of a mini block that leads on is its own
leading_body : (b : Block) (next : ℕ) → body_of_block (leading b next) ≡ body_of_block b
leading_body b next =
    let l = mini_words_len b.at (body_of_block b) next in
    let n : length (body_of_block b) ≡ length (mini_words b.at (body_of_block b) next) - 1 = omega (arith, l) in
    take_at (body_of_block b) (tool (jump_word (b.at + 4 * length (body_of_block b)) next) ∷ []) (length (mini_words b.at (body_of_block b) next) - 1) n

-- no mini block that is to be written names a slot of the instrument
abbrev pub NoneNames : Placed → List Entry → Type 0
NoneNames i agenda = (b : Block) → In (WriteMini b) agenda → Spares i (body_of_block b)

entry_lets : (i : Placed) (c : Core) (e : Entry) (agenda : List Entry) → Good c.program e → In e agenda → NoneNames i agenda → LetsBut i (event_of c e)
entry_lets i c (WriteBase b) agenda g h f = inl g.base
entry_lets i c (WriteMini b) agenda g h f = inr (subst (Spares i) (sym (leading_body b (head_of c.code (current_base c.rows b.point)))) (f b h))
entry_lets i c (LinkMini p m) agenda g h f = tt
entry_lets i c (LinkPoint p m) agenda g h f = tt
entry_lets i c (UnlinkMini p m) agenda g h f = tt
entry_lets i c (UnlinkPoint p m) agenda g h f = tt
entry_lets i c (Free p) agenda g h f = tt

-- an event of the machine itself lets it be
abbrev pub StepLets : Placed → Step → Type 0
StepLets i (Happened e) = LetsBut i e
StepLets i (Admitted owner k) = Unit {0}
StepLets i (Dropped x) = Unit {0}
StepLets i Handed = Unit {0}
StepLets i Swept = Unit {0}

abbrev LetsOut : Placed → Out → Type 0
LetsOut i o = AllLetBut i o.events

pub step_lets : (i : Placed) (a : Step) (st : State) → Kept st → Can a st → NoneNames i st.book.agenda → StepLets i a → AllLetBut i (does a st).events
step_lets i (Happened e) st k c f l = (l, tt)
step_lets i (Admitted owner b) st k c f l = tt
step_lets i (Dropped x) st k c f l = tt
step_lets i Handed st k c f l = handed (LetsOut i) st k tt (λ p es w sub. tt) (λ w e es b g sub. (entry_lets i st.core e st.book.agenda b.sound.0 (sub e (inl refl)) f, tt))
step_lets i Swept st k c f l = swept (LetsOut i) st k c tt (λ w e es b g sub. (entry_lets i st.core e st.book.agenda b.sound.0 (sub e (inl refl)) f, tt))

-- ---- the program stays

abbrev SameProgram : State → Out → Type 0
SameProgram st o = o.state.core.program ≡ st.core.program

pub step_program : (a : Step) (st : State) → Kept st → Can a st → (does a st).state.core.program ≡ st.core.program
step_program (Happened e) st k c = (fixed st.core e).0
step_program (Admitted owner b) st k c = refl
step_program (Dropped x) st k c = refl
step_program Handed st k c = handed (SameProgram st) st k refl (λ p es w sub. refl) (λ w e es b g sub. (fixed st.core (event_of st.core e)).0)
step_program Swept st k c = swept (SameProgram st) st k c refl (λ w e es b g sub. (fixed st.core (event_of st.core e)).0)
