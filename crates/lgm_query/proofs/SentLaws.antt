-- The messages that passed before.
use Rattle.std.proofs.Common.{◌≡◌, ℕ, Bool, true, false, not, cond, ◌&&◌, ◌||◌, List, [], ◌∷◌, ◌++◌, Option, Some, None, refl, sym, ap, ◌∙◌, arith}
use Rattle.std.specs.Prelude.{nat_eq}
use Rattle.std.specs.Cmp.Lexicographic.{pointwise}
use Rattle.std.specs.Bool.{then_some}
use Rattle.std.specs.Option.{option_map_or, option_to_list, is_some}
use Rattle.std.proofs.lemmas.List.Elements.{filter-append}
use Rattle.lgm_check.specs.declared.row.ChannelRow.{ChannelRow}
use Rattle.lgm_check.specs.declared.row.UpdateRow.{UpdateRow}
use Rattle.lgm_store.specs.declared.channel_info.ChannelInfo.{ChannelInfo}
use Rattle.lgm_query.specs.declared.filter.Filter.{Filter}
use Rattle.lgm_query.specs.declared.sent_with.SentWith.{SentWith}
use Rattle.lgm_query.specs.Backlog.{passes, passing_update, behind_announcement, passing_channel, is_among}
use Rattle.lgm_query.specs.KeyNews.{not_among}
use Rattle.lgm_query.specs.inner.SentWith.{is_sent_with, sent_with, update_message, passes_update, passed_with, unless_passed}

first_alone : (a b : Bool) → (((a || (b || false)) && true) || false) ≡ (a || (b || false))
first_alone a b = grind arith

both_updates : (a b c : Bool) → (((a || (b || false)) && true) || ((a || (c || false)) && true)) ≡ (a || (b || (c || false)))
both_updates a b c = grind arith

not_first : (x y : Bool) → ((x && false) || (y && true)) ≡ y
not_first x y = grind arith

not_second : (x y : Bool) → ((x && true) || (y && false)) ≡ x
not_second x y = grind arith

neither : (x y : Bool) → ((x && false) || (y && false)) ≡ false
neither x y = grind arith

-- a message passed with an update if and only if it is among those that passed
passed_with-is_among : (f : Filter) (stored : ChannelInfo) (message : List ℕ)
    → passed_with f stored (sent_with (Some stored) (Some message)) ≡ is_among (passing_channel f stored) message
passed_with-is_among f stored message = by stored.first stored.second
  where
    is : List ℕ → Bool
    is other = pointwise nat_eq message other

    by : (first second : Option UpdateRow)
        → ((is_sent_with stored.channel first message && passes_update f first) || (is_sent_with stored.channel second message && passes_update f second))
        ≡ is_among (behind_announcement stored.channel (option_to_list (passing_update f first) ++ option_to_list (passing_update f second))) message
    by None None = refl
    by (Some u) None = one (passes f u.message.timestamp)
      where
        one : (p : Bool) → ((is_among (stored.channel.raw ∷ u.raw ∷ []) message && p) || false)
            ≡ is_among (behind_announcement stored.channel (option_to_list (cond p (Some u.raw) None) ++ [])) message
        one true = first_alone (pointwise nat_eq message stored.channel.raw) (pointwise nat_eq message u.raw)
        one false = neither (is_among (stored.channel.raw ∷ u.raw ∷ []) message) false
    by None (Some v) = one (passes f v.message.timestamp)
      where
        one : (q : Bool) → (is_among (stored.channel.raw ∷ v.raw ∷ []) message && q)
            ≡ is_among (behind_announcement stored.channel (option_to_list (cond q (Some v.raw) None))) message
        one true = not_first false (is_among (stored.channel.raw ∷ v.raw ∷ []) message)
        one false = neither false (is_among (stored.channel.raw ∷ v.raw ∷ []) message)
    by (Some u) (Some v) = two (passes f u.message.timestamp) (passes f v.message.timestamp)
      where
        two : (p q : Bool) → ((is_among (stored.channel.raw ∷ u.raw ∷ []) message && p) || (is_among (stored.channel.raw ∷ v.raw ∷ []) message && q))
            ≡ is_among (behind_announcement stored.channel
            (option_to_list (cond p (Some u.raw) None) ++ option_to_list (cond q (Some v.raw) None))) message
        two true true = both_updates (pointwise nat_eq message stored.channel.raw) (pointwise nat_eq message u.raw) (pointwise nat_eq message v.raw)
        two true false = not_second (is_among (stored.channel.raw ∷ u.raw ∷ []) message) (is_among (stored.channel.raw ∷ v.raw ∷ []) message)
        two false true = not_first (is_among (stored.channel.raw ∷ u.raw ∷ []) message) (is_among (stored.channel.raw ∷ v.raw ∷ []) message)
        two false false = neither (is_among (stored.channel.raw ∷ u.raw ∷ []) message) (is_among (stored.channel.raw ∷ v.raw ∷ []) message)

-- what passed of an earlier channel, if there was one
abbrev passed_before : Filter → Option ChannelInfo → List (List ℕ)
passed_before f before = option_map_or (passing_channel f) before []

-- of a message, if there is one, it is known with which updates it was sent
abbrev Tells : Option ChannelInfo → SentWith → Option (List ℕ) → Type 0
Tells before sent None = Unit {0}
Tells before sent (Some message) = sent ≡ sent_with before (Some message)

unless_passed-message : (f : Filter) (before : Option ChannelInfo) (message : List ℕ)
    → option_to_list (unless_passed f before (sent_with before (Some message)) (Some message)) ≡ not_among (passed_before f before) (message ∷ [])
unless_passed-message f None message = refl
unless_passed-message f (Some stored) message = rw (passed_with-is_among f stored message) (by (is_among (passing_channel f stored) message))
  where
    by : (b : Bool) → option_to_list (cond b None (Some message)) ≡ cond (not b) (message ∷ []) []
    by true = refl
    by false = refl

unless_passed-told : (f : Filter) (before : Option ChannelInfo) (sent : SentWith) (message : Option (List ℕ)) → Tells before sent message
    → option_to_list (unless_passed f before sent message) ≡ not_among (passed_before f before) (option_to_list message)
unless_passed-told f None sent None told = refl
unless_passed-told f (Some stored) sent None told = refl
unless_passed-told f before sent (Some message) told = rw told (unless_passed-message f before message)

tells_update : (f : Filter) (before : Option ChannelInfo) (update : Option UpdateRow)
    → Tells before (sent_with before (update_message update)) (passing_update f update)
tells_update f before None = tt
tells_update f before (Some row) = by (passes f row.message.timestamp)
  where
    by : (b : Bool) → Tells before (sent_with before (Some row.raw)) (cond b (Some row.raw) None)
    by true = refl
    by false = tt

tells_announcement : (before : Option ChannelInfo) (message : List ℕ) (b : Bool) → Tells before (sent_with before (Some message)) (then_some b message)
tells_announcement before message true = refl
tells_announcement before message false = tt

behind_announcement-parts : (row : ChannelRow) (first second : Option (List ℕ))
    → behind_announcement row (option_to_list first ++ option_to_list second)
    ≡ option_to_list (then_some (is_some first || is_some second) row.raw) ++ option_to_list first ++ option_to_list second
behind_announcement-parts row None None = refl
behind_announcement-parts row (Some u) None = refl
behind_announcement-parts row None (Some v) = refl
behind_announcement-parts row (Some u) (Some v) = refl

-- the news of a channel, message by message
pub news_by_message : (f : Filter) (before : Option ChannelInfo) (after : ChannelInfo) (announcement first second : SentWith)
    → announcement ≡ sent_with before (Some after.channel.raw)
    → first ≡ sent_with before (update_message after.first)
    → second ≡ sent_with before (update_message after.second)
    → option_to_list (unless_passed f before announcement (then_some
    (is_some (passing_update f after.first) || is_some (passing_update f after.second)) after.channel.raw))
    ++ option_to_list (unless_passed f before first (passing_update f after.first))
    ++ option_to_list (unless_passed f before second (passing_update f after.second))
    ≡ not_among (passed_before f before) (passing_channel f after)
news_by_message f before after announcement first second of_announcement of_first of_second =
    let is_any = is_some (passing_update f after.first) || is_some (passing_update f after.second) in
    let row = then_some is_any after.channel.raw in
    let one = passing_update f after.first in
    let two = passing_update f after.second in
    rw (of_announcement, of_first, of_second) (
    rw (
      unless_passed-told f before (sent_with before (Some after.channel.raw)) row (tells_announcement before after.channel.raw is_any),
      unless_passed-told f before (sent_with before (update_message after.first)) one (tells_update f before after.first),
      unless_passed-told f before (sent_with before (update_message after.second)) two (tells_update f before after.second),
    ) (sym (
    ap (not_among (passed_before f before)) (behind_announcement-parts after.channel one two)
    ∙ filter-append _ (option_to_list row ++ option_to_list one) (option_to_list two)
    ∙ ap (λ (messages : List (List ℕ)). messages ++ not_among (passed_before f before)
    (option_to_list two)) (filter-append _ (option_to_list row) (option_to_list one))
    ))
    )
