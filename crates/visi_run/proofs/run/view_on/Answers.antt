use Rattle.std.proofs.Common.{◌≡◌, ◌∙◌, ◌-◌, ◌<◌, ◌^◌, length, map, sym, ap, subst, arith}
use Rattle.std.proofs.lemmas.List.{length-map}
use Rattle.std.proofs.lemmas.Result.{IfOk-weaker}
use Rattle.std.specs.Prelude.{min, replicate}
use Rattle.report.specs.declared.parts.ReportParts.{ReportParts}
use Rattle.session_spec.specs.Inputs.{Inputs}
use Rattle.session_spec.specs.Work.{final_state, after_quanta}
use Rattle.session_spec.specs.Bins.{AreRecorded}
use Rattle.session_spec.specs.Feed.{IsFeed}
use Rattle.session.specs.Parts.{parts_of}
use Rattle.session.specs.Sessions.{state_of}
use Rattle.visi_run.specs.Feed.{feed_of}
use Rattle.visi_run.specs.Texts.{first_count, visi_text}
use Rattle.visi_run.specs.Viewed.{shown_of}
use Rattle.visi_run.specs.declared.dial.Reading.{Reading}
use Rattle.visi_run.proofs.Feeds.{closed_state, last_count}
use Rattle.visi_run.proofs.Lines.{lines_all}
use Rattle.visi_run.proofs.SeatLists.{all_same, first_is}
use Rattle.visi_run.proofs.run.view_on.Goals as goal

pub unreachable-requires : goal.unreachable-requires
unreachable-requires g c =
    let e = c.in_ok-streamed.ensures in
    let feed = feed_of c.args.session.inputs c.in_ok-streamed.streamed.session.quanta in
    let lists = map (λ v. v.items) c.in_ok-streamed.streamed.lists.items in
    let some = c.requires.views.0 in
    let many = e.count in
    let first : first_count lists ≡ length feed = first_is feed lists e.feed (omega (arith, length-map c.in_ok-streamed.streamed.lists.items (λ v. v.items))) in
    let given : c.count_first.result ≡ length feed = c.count_first.ensures ∙ (ap (λ l. first_count (map (λ v. v.items) l)) c.deref.ensures.value ∙ first) in
    let told = ap (λ (r : Reading). r.published) e.last ∙ last_count c.args.session.inputs c.in_ok-streamed.streamed.session.quanta in
    let few : length feed < 2 ^ 64 = subst (λ n. n < 2 ^ 64) given c.count_first.type_inv in
    let whole : min (length feed) (2 ^ 64 - 1) ≡ length feed = grind arith in
    c.if-streamed-count_first.true (told ∙ (whole ∙ sym given))

pub returns : goal.returns
returns g c =
    let s = c.in_ok-streamed.streamed.session in
    let e = c.in_ok-streamed.ensures in
    let i = c.args.session.inputs in
    let lists = map (λ v. v.items) c.in_ok-streamed.streamed.lists.items in
    let feed = feed_of i s.quanta in
    let shown : c.as_slice.result.now ≡ shown_of i s.quanta =
    c.as_slice.ensures ∙ (ap (λ (p : ReportParts). p.shown) (c.in_ok-parts.ensures.parts ∙ ap (parts_of s.inputs) (closed_state s e.inputs.1)) ∙ ap (λ (j : Inputs). shown_of j s.quanta) e.inputs.0) in
    let given : lists ≡ replicate c.args.course.views feed =
    all_same feed lists e.feed ∙ ap (λ n. replicate n feed) (length-map c.in_ok-streamed.streamed.lists.items (λ v. v.items) ∙ e.count) in
    let state : state_of s ≡ final_state i (after_quanta i s.quanta) = closed_state s e.inputs.1 ∙ ap (λ (j : Inputs). final_state j (after_quanta j s.quanta)) e.inputs.0 in
    let recorded : AreRecorded i (final_state i (after_quanta i s.quanta)) = subst (AreRecorded i) state (subst (λ (j : Inputs). AreRecorded j (state_of s)) e.inputs.0 c.laws.ensures.bins) in
    IfOk-weaker c.visi_text.result _ _
    (λ text are. record {
      quanta = s.quanta;
      seeded = e.seeded;
      lines = lines_all i s.quanta (subst IsFeed state c.laws.ensures.feed) recorded;
      text = are ∙ (ap (λ l. visi_text c.as_slice.result.now (map (λ v. v.items) l)) c.deref-2.ensures.value ∙ (λ k. visi_text (shown k) (given k)));
    })
    c.visi_text.ensures
