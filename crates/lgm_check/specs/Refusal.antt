-- The numbers and the words of refusals.
use Rattle.std.specs.Prelude.{ℕ, List, [], Option, Some, None, codes}
use Rattle.lgm_gossip.specs.declared.fault.DecodeFault.{DecodeFault}
use Rattle.lgm_gossip.specs.declared.fault.DecodeFault.TheVariants as faults
use Rattle.lgm_check.specs.declared.refusal.Refusal.{Refusal}
use Rattle.lgm_check.specs.declared.refusal.Refusal.TheVariants as refusals

-- the number, counted from 1
abbrev pub number_of : Refusal → Option ℕ
number_of refusals.Malformed = Some 1
number_of refusals.UnknownEven = Some 2
number_of refusals.Ignored = Some 3
number_of refusals.NotGossip = Some 4
number_of refusals.Chain = Some 5
number_of refusals.Point = Some 6
number_of refusals.NodeOrder = Some 7
number_of refusals.Private = Some 8
number_of refusals.Funding = Some 9
number_of refusals.Signature = Some 10
number_of refusals.UnknownChannel = Some 11
number_of refusals.Known = Some 12
number_of refusals.Conflict = Some 13
number_of refusals.UnknownNode = Some 14
number_of refusals.NotNewer = Some 15
number_of refusals.Banned = Some 16
number_of refusals.NoMemory = None

-- the word
abbrev pub word_of : Refusal → List ℕ
word_of refusals.Malformed = codes "malformed"
word_of refusals.UnknownEven = codes "unknown-even"
word_of refusals.Ignored = codes "ignored"
word_of refusals.NotGossip = codes "not-gossip"
word_of refusals.Chain = codes "chain"
word_of refusals.Point = codes "point"
word_of refusals.NodeOrder = codes "node-order"
word_of refusals.Private = codes "private"
word_of refusals.Funding = codes "funding"
word_of refusals.Signature = codes "signature"
word_of refusals.UnknownChannel = codes "unknown-channel"
word_of refusals.Known = codes "known"
word_of refusals.Conflict = codes "conflict"
word_of refusals.UnknownNode = codes "unknown-node"
word_of refusals.NotNewer = codes "not-newer"
word_of refusals.Banned = codes "banned"
word_of refusals.NoMemory = []

-- the refusal of bytes that aren't a message: unknown-even or ignored for a type outside the table, malformed for any
-- other fault
abbrev pub refusal_of : DecodeFault → Refusal
refusal_of (faults.UnknownEven kind) = refusals.UnknownEven
refusal_of (faults.UnknownOdd kind) = refusals.Ignored
refusal_of faults.NoMemory = refusals.NoMemory
refusal_of _ = refusals.Malformed
