-- What replies cover.
use Rattle.std.proofs.Common.{◌≡◌, ℕ, zero, suc, ◌<◌, ◌≤◌, Bool, true, false, List, [], ◌∷◌, length, get_or, refl, sym, ap, ◌∙◌, arith, inl, inr}
use Rattle.std.specs.Prelude.{nat_eq, nat_le, nat_lt}
use Rattle.std.specs.Cmp.Lexicographic.{pointwise, bytes_decides}
use Rattle.std.specs.List.{Contains}
use Rattle.std.proofs.lemmas.Bool.{cases_lt, ltb-true, ltb-false, leb-true, le-leb}
use Rattle.lgm_wire.specs.declared.chain_hash.ChainHash.{ChainHash}
use Rattle.lgm_gossip.specs.RangeReply.{ReplyFields}
use Rattle.lgm_sync.specs.Covered.{reply_end, covered_by, covered_by_all, IsReplied, LeaveNoGap}

-- what one reply does
record Step (chain : ChainHash) (next : ℕ) (reply : ReplyFields) : Type 0 where
  on : next ≤ covered_by chain next reply
  covers : (block : ℕ) → next ≤ block → block < covered_by chain next reply
      → (reply.chain_hash ≡ chain) × (reply.first_blocknum ≤ block) × (block < reply_end reply)
  whole : reply.chain_hash ≡ chain → reply.first_blocknum ≤ next → reply_end reply ≤ covered_by chain next reply

step : (chain : ChainHash) (next : ℕ) (reply : ReplyFields) → Step chain next reply
step chain next reply = by (pointwise nat_eq reply.chain_hash.0 chain.0) refl (nat_le reply.first_blocknum next) refl (nat_lt next (reply_end reply)) refl
  where
    same : pointwise nat_eq reply.chain_hash.0 chain.0 ≡ true → reply.chain_hash ≡ chain
    same e = ap (λ (hash : List ℕ). let c : ChainHash = record { 0 = hash } in c) ((bytes_decides reply.chain_hash.0 chain.0).0 e)

    own_chain : reply.chain_hash ≡ chain → pointwise nat_eq reply.chain_hash.0 chain.0 ≡ true
    own_chain own = (bytes_decides reply.chain_hash.0 chain.0).1 (ap (λ (c : ChainHash). c.0) own)

    by : (a : Bool) → pointwise nat_eq reply.chain_hash.0 chain.0 ≡ a → (b : Bool) → nat_le reply.first_blocknum next ≡ b
        → (c : Bool) → nat_lt next (reply_end reply) ≡ c → Step chain next reply
    by true ea true eb true ec =
        let is : covered_by chain next reply ≡ reply_end reply = rw (ea, eb, ec) refl in
        let lt = ltb-true next (reply_end reply) ec in
        let le = leb-true reply.first_blocknum next eb in
        record {
          on = omega arith;
          covers = λ block from below. (same ea, omega arith, omega arith);
          whole = λ own at. omega arith;
        }
    by true ea true eb false ec =
        let is : covered_by chain next reply ≡ next = rw (ea, eb, ec) refl in
        let ge = ltb-false next (reply_end reply) ec in
        record { on = omega arith; covers = λ block from below. absurd (omega arith); whole = λ own at. omega arith }
    by true ea false eb c ec =
        let is : covered_by chain next reply ≡ next = rw (ea, eb) refl in
        record {
          on = omega arith;
          covers = λ block from below. absurd (omega arith);
          whole = λ own at. absurd (let bad : false ≡ true = sym eb ∙ le-leb reply.first_blocknum next at in cc);
        }
    by false ea b eb c ec =
        let is : covered_by chain next reply ≡ next = rw ea refl in
        record {
          on = omega arith;
          covers = λ block from below. absurd (omega arith);
          whole = λ own at. absurd (let bad : false ≡ true = sym ea ∙ own_chain own in cc);
        }

-- ---- replies one after the other

later : (xs : List ReplyFields) (y x : ReplyFields) → Contains xs x → Contains (y ∷ xs) x
later xs y x at = (suc at.0, omega (arith, at.1), at.2)

pub replied : (chain : ChainHash) (first block : ℕ) (replies : List ReplyFields) → first ≤ block
    → block < covered_by_all chain first replies → IsReplied chain replies block
replied chain first block [] from below = absurd (omega arith)
replied chain first block (reply ∷ replies) from below =
    elim (cases_lt block (covered_by chain first reply)) [
      | inl lt ↦
          let c = (step chain first reply).covers block from lt in
          record { reply = reply; given = (zero, omega arith, refl); own = c.0; from = c.1; to = c.2 }
      | inr le ↦
          let r = replied chain (covered_by chain first reply) block replies le below in
          record { reply = r.reply; given = later replies reply r.reply r.given; own = r.own; from = r.from; to = r.to }
    ]

goes_on : (chain : ChainHash) (next : ℕ) (replies : List ReplyFields) → next ≤ covered_by_all chain next replies
goes_on chain next [] = omega arith
goes_on chain next (reply ∷ replies) =
    let one = (step chain next reply).on in
    let all = goes_on chain (covered_by chain next reply) replies in
    omega arith

reaches_at : (chain : ChainHash) (first : ℕ) (replies : List ReplyFields) (reply : ReplyFields) → LeaveNoGap chain first replies
    → (k : ℕ) → k < length replies → get_or replies k reply ≡ reply → reply_end reply ≤ covered_by_all chain first replies
reaches_at chain first [] reply gapless k lt at = absurd (omega arith)
reaches_at chain first (r ∷ rs) reply gapless zero lt at =
    let all = goes_on chain (covered_by chain first r) rs in
    let one = (step chain first r).whole gapless.0 gapless.1 in
    omega (arith, ap reply_end at)
reaches_at chain first (r ∷ rs) reply gapless (suc k) lt at =
    reaches_at chain (covered_by chain first r) rs reply gapless.2 k (omega arith) at

pub reaches : (chain : ChainHash) (first : ℕ) (replies : List ReplyFields) (reply : ReplyFields) → LeaveNoGap chain first replies
    → Contains replies reply → reply_end reply ≤ covered_by_all chain first replies
reaches chain first replies reply gapless at = reaches_at chain first replies reply gapless at.0 at.1 at.2
