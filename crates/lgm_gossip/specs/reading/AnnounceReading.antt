-- channel_announcement: its fields at their offsets, of which those after the features are shifted by their length.
use Rattle.std.specs.Prelude.{ℕ, ◌+◌, List, drop, Result}
use Rattle.std.specs.Int.{w16, w64}
use Rattle.lgm_gossip.specs.declared.fault.DecodeFault.{DecodeFault}
use Rattle.lgm_gossip.specs.declared.announce.Announce.{Announce}
use Rattle.lgm_gossip.specs.Places.{part, number_in}
use Rattle.lgm_gossip.specs.reading.FieldReading.{laid_out}

-- the length of the features
abbrev pub features_len : List ℕ → ℕ
features_len raw = number_in w16 258 raw

-- the length of the message without trailing bytes
abbrev pub announce_len : List ℕ → ℕ
announce_len raw = 432 + features_len raw

-- the message with n bytes of features
abbrev pub announce_with : ℕ → List ℕ → Announce
announce_with n raw = record {
  node_signature_1 = part 2 64 raw;
  node_signature_2 = part 66 64 raw;
  bitcoin_signature_1 = part 130 64 raw;
  bitcoin_signature_2 = part 194 64 raw;
  features = part 260 n raw;
  chain_hash = record { 0 = part (260 + n) 32 raw };
  short_channel_id = number_in w64 (292 + n) raw;
  node_id_1 = record { 0 = part (300 + n) 33 raw };
  node_id_2 = record { 0 = part (333 + n) 33 raw };
  bitcoin_key_1 = record { 0 = part (366 + n) 33 raw };
  bitcoin_key_2 = record { 0 = part (399 + n) 33 raw };
  rest = drop (432 + n) raw;
}

abbrev pub announce_in : List ℕ → Announce
announce_in raw = announce_with (features_len raw) raw

unfoldable pub announce_at : List ℕ → Result Announce DecodeFault
announce_at raw = laid_out (announce_len raw) (announce_in raw) raw
