use Rattle.lgm_c.proofs.ShortWords.{word_short}
use Rattle.lgm_c.proofs.words.lgm_word.Goals as goal

pub copy_in_front-requires : goal.copy_in_front-requires
copy_in_front-requires c = rw (c.as_bytes-bytes.ensures.value, c.word_at.ensures) (word_short c.args.number)
