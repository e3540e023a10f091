-- Messages to be written.
use Rattle.std.specs.Prelude.{ℕ, List}
use Rattle.std.specs.Slice.Iter.{iter_rest}
use Rattle.lgm_c.specs.declared.messages.MessageSource.{MessageSource}
use Rattle.lgm_c.specs.declared.messages.MessageSource.TheVariants as sources

-- those still to come
abbrev pub messages_left : MessageSource → List (List ℕ)
messages_left (sources.Replies replies) = iter_rest replies
messages_left (sources.Backlog backlog) = backlog
messages_left (sources.News news) = news
