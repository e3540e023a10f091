-- No verdicts mend the refusal of a message that isn't wanted.
use Rattle.std.proofs.Common.{◌≡◌, ℕ, Bool, true, false, List, Option, Some, None, Result, Ok, Err, refl, subst, sym}
use Rattle.std.specs.Prelude.{not, nat_eq, if◌then◌else◌}
use Rattle.std.specs.Cmp.Lexicographic.{pointwise}
use Rattle.lgm_wire.specs.Point.{is_lawful}
use Rattle.lgm_wire.specs.reading.Reading.{◌>>=◌}
use Rattle.lgm_wire.specs.declared.chain_hash.ChainHash.{ChainHash}
use Rattle.lgm_wire.specs.declared.point.Point.{Point}
use Rattle.lgm_gossip.specs.declared.announce.Announce.{Announce}
use Rattle.lgm_gossip.specs.declared.channel_update.ChannelUpdate.{ChannelUpdate}
use Rattle.lgm_gossip.specs.declared.node_announce.NodeAnnounce.{NodeAnnounce}
use Rattle.lgm_gossip.specs.declared.fault.DecodeFault.{DecodeFault}
use Rattle.lgm_gossip.specs.declared.message.Message.{Message}
use Rattle.lgm_gossip.specs.declared.message.Message.TheVariants as messages
use Rattle.lgm_gossip.specs.reading.MessageReading.{message_at}
use Rattle.lgm_check.specs.Precheck.{require, capacity_of, is_all_four, signer_of, is_private, has_lawful_points, are_in_order}
use Rattle.lgm_check.specs.Precheck.{announced_channel as channel_row, signed_update as update_row, announced_node as node_row, checked_of, checked_read}
use Rattle.lgm_check.specs.Precheck.{checked_announce, checked_update, checked_node}
use Rattle.lgm_check.specs.declared.evidence.Evidence.{Evidence}
use Rattle.lgm_check.specs.declared.refusal.Refusal.{Refusal}
use Rattle.lgm_check.specs.declared.refusal.Refusal.TheVariants as refusals
use Rattle.lgm_check.specs.declared.row.ChannelRow.{ChannelRow}
use Rattle.lgm_check.specs.declared.row.UpdateRow.{UpdateRow}
use Rattle.lgm_store.specs.declared.op.Op.{Op}
use Rattle.lgm_store.specs.declared.op.Op.TheVariants as ops
use Rattle.lgm_store.specs.Rows.{Rows, is_point, ends_banned, channel_of, update_of, is_second}
use Rattle.lgm_store.specs.Admission.{admitted, announced, have_same_nodes, ban_of, update_admission, update_is_newer, node_by}
use Rattle.lgm_store.proofs.Points.{is_point-self}
use Rattle.lgm_c.specs.Offering.{offered_to}
use Rattle.lgm_c.specs.Wanting.{wanted, right_of, right_on, all_right, signed_by, setter_in, IsRefused, IsRefusedAlways, NoneMends}
use Rattle.lgm_c.specs.MapState.{MapState}

-- ---- channel announcements: how many satoshi an output has decides nothing

same_announced : (stored : Option ChannelRow) (row other : ChannelRow) → row.message ≡ other.message
    → IsRefused (announced stored row) → IsRefused (announced stored other)
same_announced None row other same declined = absurd declined
same_announced (Some stored) row other same declined =
    at (have_same_nodes stored row) (have_same_nodes stored other) (rw same refl) declined
  where
    at : (b c : Bool) → b ≡ c → IsRefused (if b then Err refusals.Known else Ok (ops.Ban (ban_of stored row)))
        → IsRefused (if c then Err refusals.Known else Ok (ops.Ban (ban_of stored other)))
    at true true same declined = tt
    at true false same declined = absurd cc
    at false c same declined = absurd declined

channel_refused : (banned : Bool) (stored : Option ChannelRow) (row other : ChannelRow) → row.message ≡ other.message
    → IsRefused (require (not banned) refusals.Banned >>= λ _. announced stored row)
    → IsRefused (require (not banned) refusals.Banned >>= λ _. announced stored other)
channel_refused true stored row other same declined = tt
channel_refused false stored row other same declined = same_announced stored row other same declined

module _ (rows : Rows) (bytes : List ℕ) where
  announce : (m : Announce) (chain points order : Bool) (capacity : Result ℕ Refusal) (signed : Bool)
      → IsRefused ((require chain refusals.Chain >>= λ _. require points refusals.Point >>= λ _.
      require order refusals.NodeOrder >>= λ _. (Ok 0 >>= λ sat. require true refusals.Signature >>= λ _. Ok (channel_row m sat bytes)))
      >>= admitted rows)
      → IsRefused ((require chain refusals.Chain >>= λ _. require points refusals.Point >>= λ _.
      require order refusals.NodeOrder >>= λ _. (capacity >>= λ sat. require signed refusals.Signature >>= λ _. Ok (channel_row m sat bytes)))
      >>= admitted rows)
  announce m false points order capacity signed declined = tt
  announce m true false order capacity signed declined = tt
  announce m true true false capacity signed declined = tt
  announce m true true true (Err refusal) signed declined = tt
  announce m true true true (Ok sat) false declined = tt
  announce m true true true (Ok sat) true declined =
      let row : ChannelRow = record { message = m; sat = 0; raw = bytes } in
      let other : ChannelRow = record { message = m; sat = sat; raw = bytes } in
      channel_refused (ends_banned rows.banned row) (channel_of rows.channels m.short_channel_id) row other refl declined

  -- ---- updates: the key that is named is the one that is asked for

  signed_update : (channel : ChannelRow) (row : UpdateRow) (signer : Point) (newer asked other : Bool) → asked ≡ true
      → IsRefused (require asked refusals.Signature >>= λ _. require newer refusals.NotNewer >>= λ _. Ok (ops.Update row))
      → IsRefused (require other refusals.Signature >>= λ _. require newer refusals.NotNewer >>= λ _. Ok (ops.Update row))
  signed_update channel row signer newer true false is declined = tt
  signed_update channel row signer false true true is declined = tt
  signed_update channel row signer true true true is declined = absurd declined
  signed_update channel row signer newer false other is declined = absurd cc

  update_refused : (channel : Option ChannelRow) (stored : Option UpdateRow) (row : UpdateRow) (key signer : Point)
      → IsRefused (update_admission channel stored row (setter_in channel (is_second row) key))
      → IsRefused (update_admission channel stored row signer)
  update_refused None stored row key signer declined = tt
  update_refused (Some channel) stored row key signer declined =
      signed_update channel row signer (update_is_newer stored row) (is_point (node_by channel row) (node_by channel row))
      (is_point signer (node_by channel row)) (is_point-self (node_by channel row)) declined

  update : (m : ChannelUpdate) (chain public : Bool) (signer : Result Point Refusal) (key : Point)
      → IsRefused ((require chain refusals.Chain >>= λ _. require public refusals.Private >>= λ _.
      (Ok (setter_in (channel_of rows.channels m.short_channel_id) (is_second (record { message = m; raw = bytes })) key) >>= λ signer.
      Ok (update_row m signer bytes))) >>= admitted rows)
      → IsRefused ((require chain refusals.Chain >>= λ _. require public refusals.Private >>= λ _.
      (signer >>= λ signer. Ok (update_row m signer bytes))) >>= admitted rows)
  update m false public signer key declined = tt
  update m true false signer key declined = tt
  update m true true (Err refusal) key declined = tt
  update m true true (Ok signer) key declined =
      let row : UpdateRow = record { message = m; raw = bytes } in
      update_refused (channel_of rows.channels m.short_channel_id)
      (update_of rows.updates m.short_channel_id (is_second row)) row key signer declined

  -- ---- node announcements

  node : (m : NodeAnnounce) (point self : Bool) (signer : Result Point Refusal) (signed : Point → Bool) → self ≡ true
      → IsRefused ((require point refusals.Point >>= λ _. (Ok m.node_id >>= λ signer. require self refusals.Signature >>= λ _.
      Ok (node_row m bytes))) >>= admitted rows)
      → IsRefused ((require point refusals.Point >>= λ _. (signer >>= λ signer. require (signed signer) refusals.Signature >>= λ _.
      Ok (node_row m bytes))) >>= admitted rows)
  node m false self signer signed is declined = tt
  node m true self (Err refusal) signed is declined = tt
  node m true true (Ok signer) signed is declined = by (signed signer)
    where
      by : (b : Bool) → IsRefused ((require b refusals.Signature >>= λ _. Ok (node_row m bytes)) >>= admitted rows)
      by true = declined
      by false = tt
  node m true false (Ok signer) signed is declined = absurd cc

  -- ---- any message

  announce_refused : (chain : ChainHash) (evidence : Evidence) (m : Announce)
      → IsRefused (checked_announce chain m bytes all_right >>= admitted rows)
      → IsRefused (checked_announce chain m bytes evidence >>= admitted rows)
  unfolding checked_announce
  announce_refused chain evidence m declined =
      announce m (pointwise nat_eq m.chain_hash.0 chain.0) (has_lawful_points m) (are_in_order m)
      (capacity_of evidence.funding) (is_all_four evidence.sig) declined

  update_read : (chain : ChainHash) (key : Point) (evidence : Evidence) (m : ChannelUpdate)
      → IsRefused (checked_update chain m bytes (right_on rows (messages.ChannelUpdate m) key) >>= admitted rows)
      → IsRefused (checked_update chain m bytes evidence >>= admitted rows)
  unfolding checked_update
  update_read chain key evidence m declined =
      update m (pointwise nat_eq m.chain_hash.0 chain.0) (not (is_private m)) (signer_of evidence.sig) key declined

  node_refused : (evidence : Evidence) (m : NodeAnnounce)
      → IsRefused (checked_node m bytes (signed_by m.node_id) >>= admitted rows)
      → IsRefused (checked_node m bytes evidence >>= admitted rows)
  unfolding checked_node
  node_refused evidence m declined =
      node m (is_lawful m.node_id) (is_point m.node_id m.node_id) (signer_of evidence.sig)
      (λ signer. is_point signer m.node_id) (is_point-self m.node_id) declined

  read_refused : (chain : ChainHash) (key : Point) (evidence : Evidence) (read : Result Message DecodeFault)
      → IsRefused (checked_read chain read bytes (right_of rows read key) >>= admitted rows)
      → IsRefused (checked_read chain read bytes evidence >>= admitted rows)
  read_refused chain key evidence (Err fault) declined = tt
  read_refused chain key evidence (Ok (messages.Announce m)) declined = announce_refused chain evidence m declined
  read_refused chain key evidence (Ok (messages.ChannelUpdate m)) declined = update_read chain key evidence m declined
  read_refused chain key evidence (Ok (messages.NodeAnnounce m)) declined = node_refused evidence m declined
  read_refused chain key evidence (Ok (messages.IdsQuery m)) declined = tt
  read_refused chain key evidence (Ok (messages.IdsEnd m)) declined = tt
  read_refused chain key evidence (Ok (messages.RangeQuery m)) declined = tt
  read_refused chain key evidence (Ok (messages.RangeReply m)) declined = tt
  read_refused chain key evidence (Ok (messages.FilterMsg m)) declined = tt

pub refused : (chain : ChainHash) (rows : Rows) (bytes : List ℕ) (key : Point) (evidence : Evidence)
    → IsRefused (wanted chain rows bytes key) → IsRefused (offered_to chain rows bytes evidence)
unfolding checked_of
refused chain rows bytes key evidence declined = read_refused rows bytes chain key evidence (message_at bytes) declined

pub refused_always : (chain : ChainHash) (rows : Rows) (bytes : List ℕ) (key : Point)
    → IsRefusedAlways chain rows bytes (wanted chain rows bytes key)
refused_always chain rows bytes key = by (wanted chain rows bytes key) refl
  where
    by : (outcome : Result Op Refusal) → wanted chain rows bytes key ≡ outcome → IsRefusedAlways chain rows bytes outcome
    by (Ok op) is = tt
    by (Err refusal) is = λ evidence. refused chain rows bytes key evidence
        (subst IsRefused (sym is) tt)

pub none_mends : (bytes old : List ℕ) (state : Option MapState) → NoneMends bytes old state
none_mends bytes old None = tt
none_mends bytes old (Some state) = refused_always state.chain state.rows bytes (record { 0 = old })
