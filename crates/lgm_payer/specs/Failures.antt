-- The failure codes of BOLT 4: what they speak of, and who sends them.
use Rattle.std.specs.Prelude.{ℕ, Bool, true, false, not, ◌==◌, ◌||◌, if◌then◌else◌}
use Rattle.lgm_payer.specs.declared.failure.FailureKind.{FailureKind}
use Rattle.lgm_payer.specs.declared.failure.FailureKind.TheVariants.{Balance, Node, Terms, Expiry, Channel}

-- ---- what they speak of

-- of the node that returned it: temporary_node_failure, permanent_node_failure, required_node_feature_missing,
-- invalid_onion_payload
abbrev pub is_node_failure : ℕ → Bool
is_node_failure code = code == 0x2002 || code == 0x6002 || code == 0x6003 || code == 0x4016

-- of the terms of the next hop: fee_insufficient, incorrect_cltv_expiry, amount_below_minimum, expiry_too_soon
abbrev pub is_terms_failure : ℕ → Bool
is_terms_failure code = code == 0x100c || code == 0x100d || code == 0x100b || code == 0x100e

-- what a code speaks of: temporary_channel_failure of a balance, expiry_too_far of the expiry, and all that isn't named of a
-- channel that can't be used. So do the onion failures, which the node at its other end returned
abbrev pub kind_of : ℕ → FailureKind
kind_of code =
    if code == 0x1007 then Balance else if is_node_failure code then Node else if is_terms_failure code then Terms
    else if code == 21 then Expiry else Channel

-- a failure speaks of a balance
abbrev pub is_balance : FailureKind → Bool
is_balance Balance = true
is_balance Node = false
is_balance Terms = false
is_balance Expiry = false
is_balance Channel = false

-- the expiry was too far for a node before the payee
abbrev pub is_far : FailureKind → Bool
is_far Balance = false
is_far Node = false
is_far Terms = false
is_far Expiry = true
is_far Channel = false

-- ---- who sends them

-- a node that forwards mustn't send it: incorrect_or_unknown_payment_details, incorrect_payment_amount,
-- final_expiry_too_soon, final_incorrect_cltv_expiry, final_incorrect_htlc_amount, mpp_timeout
abbrev pub is_final_failure : ℕ → Bool
is_final_failure code = code == 0x400f || code == 0x4010 || code == 17 || code == 18 || code == 19 || code == 23

-- of the channel to the next node: temporary_channel_failure, permanent_channel_failure, required_channel_feature_missing,
-- unknown_next_peer, channel_disabled
abbrev pub is_channel_failure : ℕ → Bool
is_channel_failure code = code == 0x1007 || code == 0x4008 || code == 0x4009 || code == 0x400a || code == 0x1014

-- the next node couldn't read the onion: invalid_onion_version, invalid_onion_hmac, invalid_onion_key
abbrev pub is_onion_failure : ℕ → Bool
is_onion_failure code = code == 0xc004 || code == 0xc005 || code == 0xc006

-- the payee mustn't send it: of a next channel, its terms, the expiry of what is forwarded, or a next node
abbrev pub is_forwarding_failure : ℕ → Bool
is_forwarding_failure code = is_channel_failure code || is_terms_failure code || code == 21 || is_onion_failure code

-- whether the payee, or a node before it, may send a code. One that BOLT 4 doesn't name may come from any node
abbrev pub may_send : Bool → ℕ → Bool
may_send true code = not (is_forwarding_failure code)
may_send false code = not (is_final_failure code)
