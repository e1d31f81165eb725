-- The machines that rows name have one hart: no event makes another.
use Rattle.std.proofs.Common.{◌≡◌, ℕ, List, [], ◌∷◌, ◌++◌, length, Option, Some, None, refl, ap, ◌∙◌}
use Rattle.std.proofs.lemmas.List.{length-map}
use Rattle.machine.specs.Cores.{Core, Row, start_core}
use Rattle.machine.specs.Effects.{after_event, armed_hart, mini_linked, mini_unlinked, point_linked, point_unlinked}
use Rattle.machine.specs.Events.{Event, Turn, Write, LinkMini, UnlinkMini, LinkPoint, UnlinkPoint, Free, Arm, Sample, current_base, row_at, before}
use Rattle.machine.specs.Replays.{replay}
use Rattle.machine.specs.States.{Machine}
use Rattle.machine.proofs.Settled.{turn_len}
use Rattle.rv_word.specs.Plain.{program_word}
use Rattle.test_examples.specs.FirstTurns.{first_linking, turns}
use Rattle.test_examples.specs.HartInside.{three_image, first_linked}
use Rattle.test_examples.specs.LoopCounted.{loop_core, linking}
use Rattle.test_examples.specs.ThreeCounters.{adding, arming, counted, at_second, passing_by, passed_by, gone_on, renewing, renewed}

mini_linked_len : (base : Option Row) (m : ℕ) (c : Core) → length (mini_linked base m c).harts ≡ length c.harts
mini_linked_len None m c = refl
mini_linked_len (Some base) m c = refl

mini_unlinked_len : (holder mini : Option Row) (m : ℕ) (c : Core) → length (mini_unlinked holder mini m c).harts ≡ length c.harts
mini_unlinked_len None mini m c = refl
mini_unlinked_len (Some holder) None m c = refl
mini_unlinked_len (Some holder) (Some mini) m c = refl

point_linked_len : (base : Option Row) (p : ℕ) (c : Core) → length (point_linked base p c).harts ≡ length c.harts
point_linked_len None p c = refl
point_linked_len (Some base) p c = refl

point_unlinked_len : (word : Option ℕ) (p : ℕ) (c : Core) → length (point_unlinked word p c).harts ≡ length c.harts
point_unlinked_len None p c = refl
point_unlinked_len (Some word) p c = refl

pub after_len : (c : Core) (e : Event) → length (after_event c e).harts ≡ length c.harts
after_len c (Turn h) = turn_len c h
after_len c (Write block) = refl
after_len c (LinkMini p m) = mini_linked_len (current_base c.rows p) m c
after_len c (UnlinkMini p m) = mini_unlinked_len (before c m) (row_at c.rows m) m c
after_len c (LinkPoint p) = point_linked_len (current_base c.rows p) p c
after_len c (UnlinkPoint p) = point_unlinked_len (program_word c.program p) p c
after_len c (Free p) = refl
after_len c (Arm i) = length-map c.harts (armed_hart c i)
after_len c (Sample i) = refl

pub replay_len : (es : List Event) (c : Core) → length (replay es c).harts ≡ length c.harts
replay_len [] c = refl
replay_len (e ∷ es) c = replay_len es (after_event c e) ∙ after_len c e

-- ---- the machines

words_one : length first_linked.harts ≡ 1
words_one = replay_len first_linking (start_core three_image 1 1000)

loop_one : length counted.harts ≡ 1
loop_one = replay_len (linking ++ adding ++ arming) (loop_core 1000)

passed_one : length passed_by.harts ≡ 1
passed_one = replay_len passing_by at_second ∙ replay_len (turns 8) counted ∙ loop_one

renewed_one : length renewed.harts ≡ 1
renewed_one = replay_len renewing gone_on ∙ replay_len (turns 12) passed_by ∙ passed_one

has_one : (m : Machine) (c : Core) (room : ℕ) → m ≡ record { core = c; room = room } → length c.harts ≡ 1 → length m.core.harts ≡ 1
has_one m c room e one = ap (λ (k : Machine). length k.core.harts) e ∙ one

pub words_have_one : (m : Machine) → m ≡ record { core = first_linked; room = 0 } → length m.core.harts ≡ 1
words_have_one m e = has_one m first_linked 0 e words_one

pub loop_has_one : (m : Machine) → m ≡ record { core = counted; room = 1 } → length m.core.harts ≡ 1
loop_has_one m e = has_one m counted 1 e loop_one

pub passed_has_one : (m : Machine) → m ≡ record { core = passed_by; room = 1 } → length m.core.harts ≡ 1
passed_has_one m e = has_one m passed_by 1 e passed_one

pub renewed_has_one : (m : Machine) → m ≡ record { core = renewed; room = 0 } → length m.core.harts ≡ 1
renewed_has_one m e = has_one m renewed 0 e renewed_one
