use Rattle.std.proofs.Common.{sym, subst}
use Rattle.lgm_gossip.specs.declared.message.Message.{Message}
use Rattle.lgm_gossip.specs.Spelling.{MessageEncodes}
use Rattle.lgm_gossip.proofs.encoder.bytes.Goals as goal

pub returns-in-Announce : goal.returns-in-Announce
returns-in-Announce c = subst (λ (m : Message). MessageEncodes m c.encode.result) (sym c.in-Announce.is) c.encode.ensures

pub returns-in-NodeAnnounce : goal.returns-in-NodeAnnounce
returns-in-NodeAnnounce c =
    subst (λ (m : Message). MessageEncodes m c.encode-in-NodeAnnounce.result) (sym c.in-NodeAnnounce.is)
    c.encode-in-NodeAnnounce.ensures

pub returns-in-ChannelUpdate : goal.returns-in-ChannelUpdate
returns-in-ChannelUpdate c =
    subst (λ (m : Message). MessageEncodes m c.encode-in-ChannelUpdate.result) (sym c.in-ChannelUpdate.is)
    c.encode-in-ChannelUpdate.ensures

pub returns-in-IdsQuery : goal.returns-in-IdsQuery
returns-in-IdsQuery c = subst (λ (m : Message). MessageEncodes m c.encode-in-IdsQuery.result) (sym c.in-IdsQuery.is) c.encode-in-IdsQuery.ensures

pub returns-in-IdsEnd : goal.returns-in-IdsEnd
returns-in-IdsEnd c = subst (λ (m : Message). MessageEncodes m c.encode-in-IdsEnd.result) (sym c.in-IdsEnd.is) c.encode-in-IdsEnd.ensures

pub returns-in-RangeQuery : goal.returns-in-RangeQuery
returns-in-RangeQuery c =
    subst (λ (m : Message). MessageEncodes m c.encode-in-RangeQuery.result) (sym c.in-RangeQuery.is)
    c.encode-in-RangeQuery.ensures

pub returns-in-RangeReply : goal.returns-in-RangeReply
returns-in-RangeReply c =
    subst (λ (m : Message). MessageEncodes m c.encode-in-RangeReply.result) (sym c.in-RangeReply.is)
    c.encode-in-RangeReply.ensures

pub returns-in-FilterMsg : goal.returns-in-FilterMsg
returns-in-FilterMsg c = subst (λ (m : Message). MessageEncodes m c.encode-in-FilterMsg.result) (sym c.in-FilterMsg.is) c.encode-in-FilterMsg.ensures
