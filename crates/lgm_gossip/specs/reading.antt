-- Parsers, as functions from bytes to a value or the first fault.
pub mod FieldReading
pub mod InOrder
pub mod OptionalReading
pub mod EncodedIdsReading
pub mod QueryFlagsReading
pub mod TimestampListReading
pub mod AnnounceReading
pub mod NodeAnnounceReading
pub mod ChannelUpdateReading
pub mod IdsQueryReading
pub mod IdsEndReading
pub mod RangeQueryReading
pub mod RangeReplyReading
pub mod FilterMsgReading
pub mod MessageReading
