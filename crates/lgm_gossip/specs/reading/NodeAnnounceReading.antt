-- node_announcement: its fields at their offsets; features and addresses shift what follows.
use Rattle.std.specs.Prelude.{ℕ, ◌+◌, List, drop, Result}
use Rattle.std.specs.Int.{w16, w32}
use Rattle.lgm_gossip.specs.declared.fault.DecodeFault.{DecodeFault}
use Rattle.lgm_gossip.specs.declared.node_announce.NodeAnnounce.{NodeAnnounce}
use Rattle.lgm_gossip.specs.Places.{part, number_in}
use Rattle.lgm_gossip.specs.reading.FieldReading.{laid_out}

-- the length of the features, and that of the addresses after n bytes of features
abbrev pub features_len : List ℕ → ℕ
features_len raw = number_in w16 66 raw

abbrev pub addresses_len : ℕ → List ℕ → ℕ
addresses_len n raw = number_in w16 (140 + n) raw

-- the length of the message without trailing bytes
abbrev pub node_len : List ℕ → ℕ
node_len raw = 142 + features_len raw + addresses_len (features_len raw) raw

-- the message with n bytes of features and k of addresses
abbrev pub node_with : ℕ → ℕ → List ℕ → NodeAnnounce
node_with n k raw = record {
  signature = part 2 64 raw;
  features = part 68 n raw;
  timestamp = number_in w32 (68 + n) raw;
  node_id = record { 0 = part (72 + n) 33 raw };
  rgb_color = part (105 + n) 3 raw;
  alias = part (108 + n) 32 raw;
  addresses = part (142 + n) k raw;
  rest = drop (142 + n + k) raw;
}

abbrev pub node_in : List ℕ → NodeAnnounce
node_in raw = node_with (features_len raw) (addresses_len (features_len raw) raw) raw

unfoldable pub node_announce_at : List ℕ → Result NodeAnnounce DecodeFault
node_announce_at raw = laid_out (node_len raw) (node_in raw) raw
