-- What is seen of an entry of the agenda when it is handed out.
use Rattle.std.specs.Prelude.{ℕ}
use Rattle.instrument.specs.declared.entry.Entry.{Entry}
use Rattle.instrument.specs.declared.event.Event.{Event}
use Rattle.instrument.specs.declared.event.Event.TheVariants as events
use Rattle.instrument.specs.declared.entry.Entry.TheVariants.{WriteBase, WriteMini, LinkMini, LinkPoint, UnlinkMini, UnlinkPoint, Free}

abbrev pub shown : Entry → Event
shown (WriteBase b) = events.WriteBase b
shown (WriteMini b) = events.WriteMini b
shown (LinkMini p m) = events.LinkMini p m
shown (LinkPoint p m) = events.LinkPoint p
shown (UnlinkMini p m) = events.UnlinkMini p m
shown (UnlinkPoint p m) = events.UnlinkPoint p
shown (Free p) = events.Free p

-- the point at which an event is done
abbrev pub point_of : Event → ℕ
point_of (events.WriteBase b) = b.point
point_of (events.WriteMini b) = b.point
point_of (events.LinkMini p m) = p
point_of (events.LinkPoint p) = p
point_of (events.UnlinkMini p m) = p
point_of (events.UnlinkPoint p) = p
point_of (events.Free p) = p
