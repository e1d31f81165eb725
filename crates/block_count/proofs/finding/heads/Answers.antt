use Rattle.std.proofs.Common.{◌≡◌, length, ◌∙◌, sym, ap}
use Rattle.std.proofs.lemmas.Result.{IfOk-weaker}
use Rattle.block_count.specs.Heads.{begins, heads_in, heads_of}
use Rattle.block_count.specs.Marked.{marked_in}
use Rattle.block_count.proofs.Agreeing.{same_heads, marks_agree}
use Rattle.block_count.proofs.finding.heads.Goals as goal

pub returns-clause-heads : goal.returns-clause-heads
returns-clause-heads c =
    let image = c.args.image.now in
    let begin = begins image c.args.procs.now in
    let words = c.deref.result.now in
    let marks = c.in_ok-marks.marks.items in
    let at = image.text_at in
    let same = same_heads (marked_in at marks) begin words at (marks_agree marks begin (length words) at c.in_ok-marks.ensures.marks) in
    IfOk-weaker c.marked_heads.result (λ heads. heads.items ≡ heads_in (marked_in at c.deref-3.result.now) c.deref-2.result.now at) (λ heads. heads.items ≡ heads_of image c.args.procs.now) (λ heads is.
    is ∙ ap (λ ms. heads_in (marked_in at ms) c.deref-2.result.now at) c.deref-3.ensures.value ∙ ap (λ ws. heads_in (marked_in at marks) ws at) (c.deref-2.ensures.value ∙ sym c.deref.ensures.value) ∙ same
    ∙ ap (λ ws. heads_in begin ws at) (c.deref.ensures.value ∙ c.in_ok-words.ensures.words)) c.marked_heads.ensures.heads
