-- The calls that patch keep the parts of a machine fit.
use Rattle.std.proofs.Common.{◌≡◌, ℕ, List, [], ◌∷◌, ◌++◌, length, Some, sym, ap, ◌∙◌, subst}
use Rattle.std.specs.Prelude.{Bool, true, filter, find, map}
use Rattle.std.specs.FinMap.{get}
use Rattle.rv_word.specs.Exec.{Prog}
use Rattle.tramp_spec.specs.Codes.{Code, put_words}
use Rattle.tramp_spec.specs.Harts.{Hart}
use Rattle.tramp_spec.specs.declared.block.Block.{Block}
use Rattle.code_store.specs.Owners.{owners_with}
use Rattle.code_store.specs.Stores.{IsInToolText, StoredCode}
use Rattle.machine.specs.Cores.{In, Row, Status, Live, Core}
use Rattle.machine.specs.Effects.{after_event, is_kept, with_status}
use Rattle.machine.specs.Effects as effects
use Rattle.machine.specs.Events.{Event, Free, HasMini, May, MayWrite, Write, current_base, is_before}
use Rattle.machine.specs.Links.{HasLink, owners_left}
use Rattle.machine.specs.Reached.{AreOwners, IsReached, owner_by}
use Rattle.machine.specs.Views.{BlockList, AreMachineParts, core_of}
use Rattle.machine.proofs.BlockLooks.{base_own, is_base_of}
use Rattle.machine.proofs.Lists.{find_gives}
use Rattle.machine.proofs.Owning.{has_word, owners_freed, owners_more, owners_same, word_holds}
use Rattle.machine.proofs.Unlink.{before_of}
use Rattle.machine.proofs.Reaching.{good, links, one_at, one_row, reaches_more, within}

module _ (harts : List Hart) (prog : Prog) (store : StoredCode) (blocks : BlockList) (budget : ℕ) (k : AreMachineParts harts prog store blocks.rows budget) where
  abbrev core : Core
  core = core_of harts prog store blocks.rows budget

  -- the block that was found stands in tool text
  pub found_links : (p : Row → Bool) (r : Row) → find p blocks.rows ≡ Some r → HasLink store.program r
  found_links p r e = links core k.reached r (find_gives p blocks.rows r e).0

  pub all_link : (r : Row) → In r blocks.rows → HasLink store.program r
  all_link r h = links core k.reached r h

  -- what leads to a live mini block is of its point
  pub before_own : (p m : ℕ) → HasMini core p m Live → (r : Row) → In r blocks.rows → is_before store.code m r ≡ true → r.point ≡ p
  before_own p m h r hr e = let v = good core k.reached in before_of core v.0 v.1 m h.row h.listed h.mini h.at h.is r hr e ∙ h.point

  -- blocks that begin at one address are one
  pub all_apart : (x y : Row) → In x blocks.rows → In y blocks.rows → x.at ≡ y.at → x ≡ y
  all_apart x y hx hy e = one_at core k.reached x y hx hy e

  -- what begins where a mini block does is of its point
  pub own_mini : (p m : ℕ) (status : Status) → HasMini core p m status → (r : Row) → In r blocks.rows → r.at ≡ m → r.point ≡ p
  own_mini p m status h r hr e = ap (λ (x : Row). x.point) (all_apart r h.row hr h.listed (e ∙ sym h.at)) ∙ h.point

  -- so is what begins where a base block does
  pub own_base : (p : ℕ) (base : Row) → current_base blocks.rows p ≡ Some base → (r : Row) → In r blocks.rows → r.at ≡ base.at → r.point ≡ p
  own_base p base h r hr e = let g = find_gives (is_base_of p) blocks.rows base h in ap (λ (x : Row). x.point) (all_apart r base hr g.0 e) ∙ base_own p base g.1

  pub all_within : (r : Row) → In r blocks.rows → IsInToolText store.program r.at r.len
  all_within r h = within core k.reached r h

  -- blocks that share a word are one
  one_owner : (x y : Row) (a : ℕ) → In x blocks.rows → In y blocks.rows → has_word a x ≡ true → has_word a y ≡ true → x ≡ y
  one_owner x y a hx hy ex ey = let v = good core k.reached in one_row core v.0 v.1 x y a hx hy (word_holds a x ex) (word_holds a y ey)

  kept : (e : Event) (store' : StoredCode) (rows' : List Row) → May core e → core_of harts prog store' rows' budget ≡ after_event core e → AreOwners store'.owners rows' → AreMachineParts harts prog store' rows' budget
  kept e store' rows' may same owners = record { reached = subst IsReached (sym same) (reaches_more core e k.reached may); owners = owners; reservations = k.reservations; few = k.few; countable = k.countable }

  -- words are put in the places of others, and blocks get other statuses
  pub relinked : (e : Event) (code : Code) (f : Row → Status) (store' : StoredCode) (blocks' : BlockList) → May core e → record core { code = code; rows = map (with_status f) blocks.rows } ≡ after_event core e
      → store' ≡ record store { code = code } → blocks' ≡ record blocks { rows = map (with_status f) blocks.rows } → AreMachineParts harts prog store' blocks'.rows budget
  relinked e code f store' blocks' may same s b =
      kept e store' blocks'.rows may
      (ap (λ (z : StoredCode). core_of harts prog z blocks'.rows budget) s ∙ (ap (λ (z : BlockList). core_of harts prog (record store { code = code }) z.rows budget) b ∙ same))
      (λ a. ap (λ (z : StoredCode). get z.owners a) s ∙ (owners_same store.owners blocks.rows f k.owners a ∙ sym (ap (λ (z : BlockList). owner_by z.rows a) b)))

  -- a block is written
  pub put : (b : Block) (store' : StoredCode) (blocks' : BlockList) (room : ℕ) → MayWrite core b → store' ≡ record store { code = put_words b.at b.words store.code; owners = owners_with b.at (length b.words) b.point store.owners }
      → blocks' ≡ record { rows = blocks.rows ++ effects.row_of b ∷ []; room = room } → AreMachineParts harts prog store' blocks'.rows budget
  put b store' blocks' room may s e =
      kept (Write b) store' blocks'.rows may
      (ap (λ (z : StoredCode). core_of harts prog z blocks'.rows budget) s
      ∙ ap (λ (z : BlockList). core_of harts prog (record store { code = put_words b.at b.words store.code; owners = owners_with b.at (length b.words) b.point store.owners }) z.rows budget) e)
      (λ a. ap (λ (z : StoredCode). get z.owners a) s ∙ (owners_more store.owners blocks.rows (effects.row_of b) k.owners may.apart a ∙ sym (ap (λ (z : BlockList). owner_by z.rows a) e)))

  -- the retired blocks of a point are freed
  pub freed : (p : ℕ) (store' : StoredCode) (blocks' : BlockList) → May core (Free p) → store' ≡ record store { owners = owners_left p blocks.rows store.owners } → blocks' ≡ record blocks { rows = filter (is_kept p) blocks.rows }
      → AreMachineParts harts prog store' blocks'.rows budget
  freed p store' blocks' may s e =
      kept (Free p) store' blocks'.rows may
      (ap (λ (z : StoredCode). core_of harts prog z blocks'.rows budget) s ∙ ap (λ (z : BlockList). core_of harts prog (record store { owners = owners_left p blocks.rows store.owners }) z.rows budget) e)
      (λ a. ap (λ (z : StoredCode). get z.owners a) s ∙ (owners_freed store.owners blocks.rows p k.owners one_owner a ∙ sym (ap (λ (z : BlockList). owner_by z.rows a) e)))
