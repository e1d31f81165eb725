use Rattle.std.proofs.Common.{◌≡◌, ◌++◌, ◌∷◌, [], find, map, not, sym, ap, ◌∙◌}
use Rattle.std.proofs.lemmas.List.{append_assoc}
use Rattle.bucket_chains.specs.Left.{present_entries}
use Rattle.bucket_chains.proofs.Walks.{left_map}
use Rattle.instrument.specs.Agendas.{AgendaData}
use Rattle.instrument.specs.Books.{is_base_of, is_mini_of, mini_leaves, removing, with_hold}
use Rattle.instrument.specs.RoomPlaces.{RoomPlaces}
use Rattle.instrument.specs.declared.entry.Entry.TheVariants.{Free, UnlinkMini, UnlinkPoint}
use Rattle.instrument.proofs.Dropped.{point_bare, point_leaves, point_stays}
use Rattle.instrument.proofs.dropping.drop_site.Goals as goal
use Rattle.instrument.proofs.dropping.drop_site.Goals.{then-is_none, in-Some, in_default, else-is_none}

pub returns-clause-agenda : goal.returns-clause-agenda
returns-clause-agenda c =
    let p = c.args.room.point in
    let m = c.args.room.at in
    let f = with_hold (mini_leaves m) in
    let rooms = map f (present_entries c.args.rooms.now.places) in
    let entries = c.args.agenda.now.entries in
    let left_is = ap (λ (r : RoomPlaces). present_entries r.places) c.leave_mini.ensures ∙ left_map f c.args.rooms.now.places in
    let mini : find (is_mini_of p) rooms ≡ c.find_mini.result = sym (c.find_mini.ensures ∙ ap (find (is_mini_of p)) left_is) in
    let first = ap (λ (a : AgendaData). a.entries) c.push.ensures in
    let last = ap (λ (a : AgendaData). a.entries) c.push-2.ensures in
    elim c.if-is_none.branch [
      | then-is_none w ↦
          let none = c.is_none.ensures ∙ ap not w.if-is_none.true in
          let base : find (is_base_of p) rooms ≡ w.find_base.result = sym (w.find_base.ensures ∙ ap (find (is_base_of p)) left_is) in
          elim w.match-find_base.branch [
            | in-Some v ↦
                last
                ∙ ap (λ (a : AgendaData). a.entries ++ Free p ∷ []) (w.agenda-is ∙ v.agenda-is)
                ∙ ap (λ (a : AgendaData). a.entries ++ Free p ∷ []) v.push-in-Some.ensures
                ∙ ap (λ l. (l ++ UnlinkPoint p v.in-Some.base.at ∷ []) ++ Free p ∷ []) first
                ∙ ap (λ l. l ++ Free p ∷ []) (append_assoc entries (UnlinkMini p m ∷ []) (UnlinkPoint p v.in-Some.base.at ∷ []))
                ∙ append_assoc entries (UnlinkMini p m ∷ UnlinkPoint p v.in-Some.base.at ∷ []) (Free p ∷ [])
                ∙ ap (λ l. entries ++ l) (sym (ap (λ o. removing o (find (is_base_of p) rooms) p m) mini ∙ ap (λ o. removing c.find_mini.result o p m) (base ∙ v.in-Some.is) ∙ point_leaves c.find_mini.result v.in-Some.base p m none))
            | in_default v ↦
                last
                ∙ ap (λ (a : AgendaData). a.entries ++ Free p ∷ []) (w.agenda-is ∙ v.agenda-is)
                ∙ ap (λ l. l ++ Free p ∷ []) first
                ∙ append_assoc entries (UnlinkMini p m ∷ []) (Free p ∷ [])
                ∙ ap (λ l. entries ++ l) (sym (ap (λ o. removing o (find (is_base_of p) rooms) p m) mini ∙ ap (λ o. removing c.find_mini.result o p m) (base ∙ v.in_default.is) ∙ point_bare c.find_mini.result p m none))
          ]
      | else-is_none w ↦
          let some = c.is_none.ensures ∙ ap not w.if-is_none.false in
          last
          ∙ ap (λ (a : AgendaData). a.entries ++ Free p ∷ []) w.agenda-is
          ∙ ap (λ l. l ++ Free p ∷ []) first
          ∙ append_assoc entries (UnlinkMini p m ∷ []) (Free p ∷ [])
          ∙ ap (λ l. entries ++ l) (sym (ap (λ o. removing o (find (is_base_of p) rooms) p m) mini ∙ point_stays c.find_mini.result (find (is_base_of p) rooms) p m some))
    ]
