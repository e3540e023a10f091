-- An update that is judged by its fields.
use Rattle.std.proofs.Common.{◌≡◌, ℕ, List, Result, subst}
use Rattle.lgm_wire.specs.declared.chain_hash.ChainHash.{ChainHash}
use Rattle.lgm_wire.specs.declared.point.Point.{Point}
use Rattle.lgm_wire.specs.reading.Reading.{Sees}
use Rattle.lgm_gossip.specs.declared.channel_update.ChannelUpdate.{ChannelUpdate}
use Rattle.lgm_gossip.specs.declared.layout.Layout.TheVariants as layouts
use Rattle.lgm_gossip.specs.Layout.{IsLaidOut}
use Rattle.lgm_gossip.specs.reading.ChannelUpdateReading.{update_in}
use Rattle.lgm_check.specs.declared.evidence.Evidence.{Evidence}
use Rattle.lgm_check.specs.declared.refusal.Refusal.{Refusal}
use Rattle.lgm_check.specs.Precheck.{signed_update, checked_update, checked_of}

pub update_sees : {X : Type 0} (chain : ChainHash) (bytes : List ℕ) (evidence : Evidence) (m : ChannelUpdate) (view : X → Point) (r : Result X Refusal)
    → IsLaidOut layouts.Update bytes → m ≡ update_in bytes
    → Sees (λ x. signed_update m (view x) bytes) r (checked_update chain m bytes evidence)
    → Sees (λ x. signed_update (update_in bytes) (view x) bytes) r (checked_of chain bytes evidence)
unfolding checked_of
update_sees {X} chain bytes evidence m view r laid same sees =
    rw laid.1 (subst (λ n. Sees (λ x. signed_update n (view x) bytes) r (checked_update chain n bytes evidence)) same sees)
