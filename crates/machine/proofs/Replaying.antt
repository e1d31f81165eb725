-- Lists of events in two parts.
use Rattle.std.proofs.Common.{◌≡◌, List, [], ◌∷◌, ◌++◌, refl, sym, ap, ◌∙◌, append_assoc}
use Rattle.machine.specs.Cores.{Core}
use Rattle.machine.specs.Events.{Event}
use Rattle.machine.specs.Effects.{after_event, owned}
use Rattle.machine.specs.Replays.{replay, Legal, owns}
use Rattle.machine.specs.Laws.{ReplaysGoOn}

pub replay-append : (es others : List Event) (c : Core) → replay (es ++ others) c ≡ replay others (replay es c)
replay-append [] others c = refl
replay-append (e ∷ es) others c = replay-append es others (after_event c e)

pub owns-append : (es others : List Event) (c : Core) → owns (es ++ others) c ≡ owns es c ++ owns others (replay es c)
owns-append [] others c = refl
owns-append (e ∷ es) others c = ap (λ z. owned c e ++ z) (owns-append es others (after_event c e)) ∙ sym (append_assoc (owned c e) (owns es (after_event c e)) (owns others (replay es (after_event c e))))

pub legal-append : (es others : List Event) (c : Core) → Legal es c → Legal others (replay es c) → Legal (es ++ others) c
legal-append [] others c l m = m
legal-append (e ∷ es) others c l m = (l.0, legal-append es others (after_event c e) l.1 m)

pub legal-parts : (es others : List Event) (c : Core) → Legal (es ++ others) c → Legal es c × Legal others (replay es c)
legal-parts [] others c l = (tt, l)
legal-parts (e ∷ es) others c l = let p = legal-parts es others (after_event c e) l.1 in ((l.0, p.0), p.1)

pub replays_go_on : ReplaysGoOn
replays_go_on es others c =
    record {
      state = replay-append es others c;
      owned = owns-append es others c;
      legal = legal-append es others c;
      parts = legal-parts es others c;
    }
