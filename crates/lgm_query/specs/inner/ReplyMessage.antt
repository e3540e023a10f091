-- A message of a reply.
use Rattle.std.specs.Prelude.{ℕ, List}
use Rattle.lgm_query.specs.declared.reply.MessageBytes.{MessageBytes}
use Rattle.lgm_query.specs.declared.reply.MessageBytes.TheVariants.{Borrowed, Owned}

-- the bytes, wherever they are stored
abbrev pub bytes_in : MessageBytes → List ℕ
bytes_in (Borrowed message) = message.now
bytes_in (Owned message) = message
