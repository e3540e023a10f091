-- Messages that aren't wanted.
use Rattle.std.proofs.Common.{◌≡◌, ◌⊎◌, ℕ, List, Result, Ok, Err, inl, inr, refl, ap, ◌∙◌}
use Rattle.std.specs.Result.{IsErrAnd}
use Rattle.lgm_wire.specs.declared.point.Point.{Point}
use Rattle.lgm_gossip.specs.Layout.{AnnouncesNothing}
use Rattle.lgm_gossip.specs.declared.fault.DecodeFault.{DecodeFault}
use Rattle.lgm_gossip.specs.declared.message.Message.{Message}
use Rattle.lgm_gossip.specs.declared.message.Message.TheVariants as messages
use Rattle.lgm_check.specs.declared.refusal.Refusal.{Refusal}
use Rattle.lgm_store.specs.declared.op.Op.{Op}
use Rattle.lgm_store.specs.Rows.{Rows}
use Rattle.lgm_c.specs.declared.fault.Fault.{Fault}
use Rattle.lgm_c.specs.Status.{number_of, no_memory, refused, status_of}
use Rattle.lgm_c.specs.Wanting.{signed_by, right_of, Tells}
use Rattle.lgm_c.specs.inner.Following.{Fails}

-- bytes that announce nothing are signed by whoever is asked
pub other_signs : (rows : Rows) (read : Result Message DecodeFault) (other : Point) → AnnouncesNothing read → signed_by other ≡ right_of rows read other
other_signs rows (Ok (messages.Announce m)) other nothing = absurd nothing
other_signs rows (Ok (messages.NodeAnnounce m)) other nothing = absurd nothing
other_signs rows (Ok (messages.ChannelUpdate m)) other nothing = absurd nothing
other_signs rows (Ok (messages.IdsQuery m)) other nothing = refl
other_signs rows (Ok (messages.IdsEnd m)) other nothing = refl
other_signs rows (Ok (messages.RangeQuery m)) other nothing = refl
other_signs rows (Ok (messages.RangeReply m)) other nothing = refl
other_signs rows (Ok (messages.FilterMsg m)) other nothing = refl
other_signs rows (Err fault) other nothing = refl

-- what a call returns then
pub told : (takes : Type 0) (outcome : Result Op Refusal) (key : Point) (refusal : Refusal) (result : Result (Unit {0}) Fault) (old : List ℕ)
    → Fails takes outcome refusal → IsErrAnd result (λ fault. fault ≡ refused refusal)
    → Tells outcome key (status_of result) old old ⊎ (takes × (status_of result ≡ no_memory) × (old ≡ old))
told takes outcome key refusal (Ok _) old fails err = absurd err
told takes outcome key refusal (Err fault) old (inl none) err = inr (none.0, ap number_of err ∙ ap (λ r. number_of (refused r)) none.1, refl)
told takes outcome key refusal (Err fault) old (inr is) err = inl (rw is (ap number_of err, refl))
