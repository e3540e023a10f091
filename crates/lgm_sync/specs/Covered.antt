-- Which blocks the replies to a query cover.
use Rattle.std.specs.Prelude.{◌≡◌, ℕ, ◌+◌, ◌<◌, ◌≤◌, ◌&&◌, nat_eq, nat_le, nat_lt, if◌then◌else◌, List, [], ◌∷◌}
use Rattle.std.specs.Cmp.Lexicographic.{pointwise}
use Rattle.std.specs.List.{Contains}
use Rattle.lgm_wire.specs.declared.chain_hash.ChainHash.{ChainHash}
use Rattle.lgm_gossip.specs.RangeReply.{ReplyFields}

-- the end of a reply, exclusive
abbrev pub reply_end : ReplyFields → ℕ
reply_end reply = reply.first_blocknum + reply.number_of_blocks

-- up to which block a range is covered with one reply more: to its end, if it is of the chain, leaves no gap and goes further
abbrev pub covered_by : ChainHash → ℕ → ReplyFields → ℕ
covered_by chain next reply =
    if (pointwise nat_eq reply.chain_hash.0 chain.0 && nat_le reply.first_blocknum next) && nat_lt next (reply_end reply)
    then reply_end reply else next

-- the same with all of these, in order
abbrev pub covered_by_all : ChainHash → ℕ → List ReplyFields → ℕ
covered_by_all chain next [] = next
covered_by_all chain next (reply ∷ replies) = covered_by_all chain (covered_by chain next reply) replies

-- some reply of the chain has the block
pub record IsReplied (chain : ChainHash) (replies : List ReplyFields) (block : ℕ) : Type 0 where
  pub reply : ReplyFields
  pub given : Contains replies reply
  pub own : reply.chain_hash ≡ chain
  pub from : reply.first_blocknum ≤ block
  pub to : block < reply_end reply

-- the replies leave no gap, in their order: each begins at or before the end of those before it, and is of the chain
abbrev pub LeaveNoGap : ChainHash → ℕ → List ReplyFields → Type 0
LeaveNoGap chain next [] = Unit {0}
LeaveNoGap chain next (reply ∷ replies) =
    (reply.chain_hash ≡ chain) × (reply.first_blocknum ≤ next) × LeaveNoGap chain (covered_by chain next reply) replies
