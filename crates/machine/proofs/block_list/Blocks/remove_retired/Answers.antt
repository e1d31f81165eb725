use Rattle.std.proofs.Common.{◌≡◌, ◌+◌, ◌∙◌, None, Some, set, true, false, refl, ap, sym, subst, arith, rules}
use Rattle.std.specs.Prelude.{filter, map}
use Rattle.std.proofs.lemmas.Bool.{cond-true, cond-false}
use Rattle.rv_word.specs.Plain.{Words}
use Rattle.code_store.specs.Owners.{owners_without}
use Rattle.code_store.specs.Stores.{StoredCode}
use Rattle.bucket_chains.specs.Entries.{Entries, IsFirst, bucket_of}
use Rattle.bucket_chains.specs.Left.{present_entries}
use Rattle.bucket_chains.proofs.Nexts.{from_next, next_left, rest_left}
use Rattle.machine.specs.Cores.{In}
use Rattle.machine.specs.Effects.{is_kept}
use Rattle.machine.specs.Links.{IsInText, owners_left}
use Rattle.machine.specs.Views.{BlockList, row_of}
use Rattle.machine.specs.declared.block_list.Blocks.TheInside.{Inside}
use Rattle.machine.proofs.Lists.{map_in}
use Rattle.machine.proofs.BlockWalks.{Walks, walk_entry, walk_fewer, walk_first, walk_fits, walk_here, walk_none, walk_old, walk_on, walk_over, walk_placed, walk_stays, walk_takes, walk_within}
use Rattle.machine.proofs.BlockFrees.{all_taken, frees, frees_from, frees_here, take_changes, take_retired}
use Rattle.machine.proofs.block_list.Blocks.remove_retired.Goals as goal
use Rattle.machine.proofs.block_list.Blocks.remove_retired.Goals.{in_default-via-in-None-1, in_default-via-in-Some-index+else-not-is_kept}

pub loop-next-init : goal.loop-next-init
loop-next-init c =
    let s = c.self.inside in
    record {
      walks = walk_first c.args.point (take_retired c.args.point) (take_changes c.args.point) c.self.inside c.first-next.result c.self.invariant c.first-next.ensures;
      program = refl;
      code = refl;
      owners = frees_from c.args.point s.rows.items 0 c.first-next.result c.args.store.now.owners (subst (λ bs. IsFirst (bucket_of c.args.point) 0 bs c.first-next.result) c.self.invariant.0 c.first-next.ensures)
          ∙ ap (λ (b : BlockList). owners_left c.args.point b.rows c.args.store.now.owners) c.self.view_is;
    }

pub next-next-requires : goal.next-next-requires
next-next-requires c = walk_placed c.args.point (take_retired c.args.point) c.self.inside c.loop-next.self-inside c.loop-next.next c.in-Some.place c.in-Some.is c.loop-next.invariant.walks

pub index-requires : goal.index-requires
index-requires c = omega (arith, walk_within c.args.point (take_retired c.args.point) c.self.inside c.loop-next.self-inside c.loop-next.next c.in-Some.place c.in-Some.is c.loop-next.invariant.walks)

pub drop_block-requires : goal.drop_block-requires
drop_block-requires c =
    let x = c.in-Some-index.row in
    subst (λ (t : Words). IsInText t (row_of x)) (sym c.loop-next.invariant.program)
    (c.requires (row_of x)
    (subst (λ (b : BlockList). In (row_of x) b.rows) c.self.view_is
    (map_in row_of (present_entries c.self.inside.rows.items) x (walk_old c.args.point (take_retired c.args.point) c.self.inside c.loop-next.self-inside c.loop-next.next c.in-Some.place c.in-Some.is c.loop-next.invariant.walks c.index.result.now c.index.ensures x c.in-Some-index.is))))

pub index_mut-requires : goal.index_mut-requires
index_mut-requires c = omega (arith, walk_within c.args.point (take_retired c.args.point) c.self.inside c.loop-next.self-inside c.loop-next.next c.in-Some.place c.in-Some.is c.loop-next.invariant.walks)

pub remove-requires : goal.remove-requires
remove-requires c = walk_placed c.args.point (take_retired c.args.point) c.self.inside c.loop-next.self-inside c.loop-next.next c.in-Some.place c.in-Some.is c.loop-next.invariant.walks

pub loop-next-smaller-in-Some : goal.loop-next-smaller-in-Some
loop-next-smaller-in-Some c = walk_fewer c.args.point (take_retired c.args.point) c.self.inside c.loop-next.self-inside c.loop-next.next c.in-Some.place c.in-Some.is c.loop-next.invariant.walks c.next-next.result c.loop-next.self-inside.places.buckets refl (c.next-next.ensures (bucket_of c.args.point) (walk_here c.args.point (take_retired c.args.point) c.self.inside c.loop-next.self-inside c.loop-next.next c.in-Some.place c.in-Some.is c.loop-next.invariant.walks))

pub loop-next-preserved-in-Some : goal.loop-next-preserved-in-Some
loop-next-preserved-in-Some c =
    let now = c.loop-next.self-inside in
    let es = now.rows.items in
    let place = c.in-Some.place in
    let x = c.in-Some-index.row in
    let r = c.next-next.result in
    let freed = owners_without x.at x.len c.loop-next.store.owners in
    let gone : is_kept c.args.point (row_of x) ≡ false = sym c.is_kept.ensures ∙ c.if-not-is_kept.true in
    let next : IsFirst (bucket_of c.args.point) (place + 1) now.places.buckets r = c.next-next.ensures (bucket_of c.args.point) (walk_here c.args.point (take_retired c.args.point) c.self.inside c.loop-next.self-inside c.loop-next.next c.in-Some.place c.in-Some.is c.loop-next.invariant.walks) in
    let next' = subst (λ bs. IsFirst (bucket_of c.args.point) (place + 1) bs r) c.loop-next.invariant.walks.fits.places next in
    record {
      walks = walk_on c.args.point (take_retired c.args.point) (take_changes c.args.point) c.self.inside _ place r
          (walk_takes c.args.point (take_retired c.args.point) c.self.inside c.loop-next.self-inside c.loop-next.next c.in-Some.place c.in-Some.is c.loop-next.invariant.walks c.index.result.now c.index.ensures x c.remove.new.self c.saturating_add-self-inside.result c.in-Some-index.is (cond-false (is_kept c.args.point (row_of x)) (Some x) None gone) c.remove.ensures)
          (subst (λ (p : Entries). IsFirst (bucket_of c.args.point) (place + 1) p.buckets r) (sym c.remove.ensures) (next_left (bucket_of c.args.point) place now.places.buckets r next));
      program = ap (λ (s : StoredCode). s.program) c.drop_block.ensures ∙ c.loop-next.invariant.program;
      code = ap (λ (s : StoredCode). s.code) c.drop_block.ensures ∙ c.loop-next.invariant.code;
      owners = ap (λ (s : StoredCode). frees c.args.point (from_next r (set es place None)) s.owners) c.drop_block.ensures
          ∙ (ap (λ l. frees c.args.point l freed) (rest_left (bucket_of c.args.point) place now.places.buckets es r next)
          ∙ (frees_from c.args.point es (place + 1) r freed next'
          ∙ (sym (frees_here c.args.point es place x c.loop-next.store.owners false (walk_entry c.args.point (take_retired c.args.point) c.self.inside c.loop-next.self-inside c.loop-next.next c.in-Some.place c.in-Some.is c.loop-next.invariant.walks c.index.result.now c.index.ensures ∙ c.in-Some-index.is) gone)
          ∙ (sym (ap (λ n. frees c.args.point (from_next n es) c.loop-next.store.owners) c.in-Some.is) ∙ c.loop-next.invariant.owners))));
    }

pub loop-next-smaller : goal.loop-next-smaller
loop-next-smaller c = walk_fewer c.args.point (take_retired c.args.point) c.self.inside c.loop-next.self-inside c.loop-next.next c.in-Some.place c.in-Some.is c.loop-next.invariant.walks c.next-next.result c.loop-next.self-inside.places.buckets refl (c.next-next.ensures (bucket_of c.args.point) (walk_here c.args.point (take_retired c.args.point) c.self.inside c.loop-next.self-inside c.loop-next.next c.in-Some.place c.in-Some.is c.loop-next.invariant.walks))

pub loop-next-preserved : goal.loop-next-preserved
loop-next-preserved c =
    let now = c.loop-next.self-inside in
    let es = now.rows.items in
    let place = c.in-Some.place in
    let r = c.next-next.result in
    let next : IsFirst (bucket_of c.args.point) (place + 1) now.places.buckets r = c.next-next.ensures (bucket_of c.args.point) (walk_here c.args.point (take_retired c.args.point) c.self.inside c.loop-next.self-inside c.loop-next.next c.in-Some.place c.in-Some.is c.loop-next.invariant.walks) in
    let next' = subst (λ bs. IsFirst (bucket_of c.args.point) (place + 1) bs r) c.loop-next.invariant.walks.fits.places next in
    elim c.in_default.branch [
      | in_default-via-in-None-1 w ↦
          let none : c.index.result.now ≡ None = search rules in
          absurd (walk_none c.args.point (take_retired c.args.point) c.self.inside c.loop-next.self-inside c.loop-next.next c.in-Some.place c.in-Some.is c.loop-next.invariant.walks c.index.result.now c.index.ensures none)
      | in_default-via-in-Some-index+else-not-is_kept w ↦
          let x = w.in-Some-index.row in
          let stays : is_kept c.args.point (row_of x) ≡ true = sym w.is_kept.ensures ∙ w.if-not-is_kept.false in
          record {
            walks = subst (λ (s : Inside). Walks c.args.point (take_retired c.args.point) c.self.inside s r) (sym w.self-inside-is)
                (walk_on c.args.point (take_retired c.args.point) (take_changes c.args.point) c.self.inside now place r
                (walk_stays c.args.point (take_retired c.args.point) c.self.inside c.loop-next.self-inside c.loop-next.next c.in-Some.place c.in-Some.is c.loop-next.invariant.walks c.index.result.now c.index.ensures (ap (take_retired c.args.point) w.in-Some-index.is ∙ (cond-true (is_kept c.args.point (row_of x)) (Some x) None stays ∙ sym w.in-Some-index.is)))
                next);
            program = c.loop-next.invariant.program;
            code = c.loop-next.invariant.code;
            owners = ap (λ (s : Inside). frees c.args.point (from_next r s.rows.items) c.loop-next.store.owners) w.self-inside-is
                ∙ (frees_from c.args.point es (place + 1) r c.loop-next.store.owners next'
                ∙ (sym (frees_here c.args.point es place x c.loop-next.store.owners true (walk_entry c.args.point (take_retired c.args.point) c.self.inside c.loop-next.self-inside c.loop-next.next c.in-Some.place c.in-Some.is c.loop-next.invariant.walks c.index.result.now c.index.ensures ∙ w.in-Some-index.is) stays)
                ∙ (sym (ap (λ n. frees c.args.point (from_next n es) c.loop-next.store.owners) c.in-Some.is) ∙ c.loop-next.invariant.owners)));
          }
    ]

pub invariant_of-self : goal.invariant_of-self
invariant_of-self c = walk_fits c.args.point (take_retired c.args.point) c.self.inside c.loop-next.self-inside c.loop-next.next c.in_default.is c.loop-next.invariant.walks

pub returns-clause-rows : goal.returns-clause-rows
returns-clause-rows c =
    let old = c.self.inside.rows.items in
    let walks = c.loop-next.invariant.walks in
    ap (λ rows. record { rows = rows; room = c.loop-next.self-inside.room })
    (all_taken c.args.point old c.loop-next.self-inside.rows.items (walk_over c.args.point (take_retired c.args.point) c.self.inside c.loop-next.self-inside c.loop-next.next c.in_default.is walks))
    ∙ (ap (λ n. record { rows = filter (is_kept c.args.point) (map row_of (present_entries old)); room = n }) walks.fits.room
    ∙ ap (λ (b : BlockList). record b { rows = filter (is_kept c.args.point) b.rows }) c.self.view_is)

pub returns-clause-store : goal.returns-clause-store
returns-clause-store c =
    let k = c.loop-next.invariant in
    let owners = sym (ap (λ n. frees c.args.point (from_next n c.loop-next.self-inside.rows.items) c.loop-next.store.owners) c.in_default.is) ∙ k.owners in
    ap (λ p. record c.loop-next.store { program = p }) k.program
    ∙ (ap (λ d. record { program = c.args.store.now.program; code = d; owners = c.loop-next.store.owners }) k.code
    ∙ ap (λ o. record { program = c.args.store.now.program; code = c.args.store.now.code; owners = o }) owners)
