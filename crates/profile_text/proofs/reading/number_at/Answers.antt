use Rattle.std.proofs.Common.{◌-◌, ◌/◌, ap, ◌∙◌, arith}
use Rattle.profile_text.specs.declared.numbered_word.NumberedWord.{NumberedWord}
use Rattle.profile_text.proofs.Prepared.{many, number_is}
use Rattle.profile_text.proofs.reading.number_at.Goals as goal

pub index-requires : goal.index-requires
index-requires c =
    let m = many c.args.text.now c.requires.text in
    omega arith

pub returns : goal.returns
returns c =
    let t = c.args.text.now in
    let m = many t c.requires.text in
    ap (λ (x : NumberedWord). x.number) c.index.ensures
    ∙ number_is t c.requires.text ((c.args.at - t.image.now.text_at) / 4) c.index.result.now (omega arith)
