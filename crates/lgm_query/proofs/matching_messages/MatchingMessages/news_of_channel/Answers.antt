use Rattle.std.specs.Option.{option_copied}
use Rattle.lgm_query.proofs.SentLaws.{news_by_message}
use Rattle.lgm_query.proofs.matching_messages.MatchingMessages.news_of_channel.Goals as goal

pub returns : goal.returns
returns c =
    let pair = c.args.pair.now in
    rw (
      c.unless_passed.ensures,
      c.unless_passed-2.ensures,
      c.unless_passed-3.ensures,
      c.announcement_before-announcement.ensures,
      c.passing_update-first.ensures,
      c.passing_update-second.ensures,
    ) (
    news_by_message c.args.filter.now (option_copied pair.before) pair.after.now pair.announcement pair.first pair.second
    pair.of_announcement pair.of_first pair.of_second
    )
