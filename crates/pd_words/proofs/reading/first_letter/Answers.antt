use Rattle.pd_words.proofs.Letters.{letter_split}
use Rattle.pd_words.proofs.reading.first_letter.Goals as goal

pub returns : goal.returns
returns c =
    letter_split c.args.text.now c.split_at_checked.result c.utf8.text c.split_at_checked.ensures.variant.1
    c.split_at_checked.ensures.front c.split_at_checked.ensures.back c.split_at_checked.ensures.front_len
