-- The first fault of a message, by its number.
use Rattle.std.specs.Prelude.{◌≡◌, ◌⊎◌, ℕ, ◌==◌, if◌then◌else◌, List, codes, Result, Ok, Err}
use Rattle.lgm_wire.specs.declared.fault.WireFault.TheVariants as wire
use Rattle.lgm_gossip.specs.Memory.{TakesMemory}
use Rattle.lgm_gossip.specs.declared.fault.DecodeFault.{DecodeFault}
use Rattle.lgm_gossip.specs.declared.fault.DecodeFault.TheVariants as faults
use Rattle.lgm_gossip.specs.declared.message.Message.{Message}
use Rattle.lgm_gossip.specs.reading.MessageReading.{message_at}
use Rattle.lgm_c.specs.PaymentFaults.{payment_word}
use Rattle.lgm_c.specs.Status.{no_memory}

abbrev pub decode_number : DecodeFault → ℕ
decode_number (faults.UnknownEven kind) = 2
decode_number (faults.UnknownOdd kind) = 3
decode_number faults.Long = 51
decode_number faults.Short = 52
decode_number faults.Cut = 53
decode_number (faults.Encoding byte) = 54
decode_number faults.Ids = 55
decode_number (faults.Tlv wire.Cut) = 56
decode_number (faults.Tlv wire.NotMinimal) = 57
decode_number (faults.Tlv wire.TooLong) = 58
decode_number (faults.Tlv wire.Order) = 59
decode_number (faults.Tlv wire.NoMemory) = no_memory
decode_number (faults.TlvKind kind) = 60
decode_number faults.Flags = 61
decode_number faults.NoMemory = no_memory

-- 0 of a message that is read, and the number of the fault of any other
abbrev pub reading_number : Result Message DecodeFault → ℕ
reading_number (Ok message) = 0
reading_number (Err fault) = decode_number fault

-- that of these bytes, or out of memory if reading them allocates
abbrev pub TellsFault : List ℕ → ℕ → Type 0
TellsFault bytes status =
    (status ≡ reading_number (message_at bytes)) ⊎ (TakesMemory bytes × (status ≡ no_memory))

-- the words of these numbers, and of those of payments and arguments
abbrev pub decode_word : ℕ → List ℕ
decode_word number =
    if number == 51 then codes "long"
    else if number == 52 then codes "short"
    else if number == 53 then codes "cut"
    else if number == 54 then codes "encoding"
    else if number == 55 then codes "ids"
    else if number == 56 then codes "tlv-cut"
    else if number == 57 then codes "tlv-not-minimal"
    else if number == 58 then codes "tlv-too-long"
    else if number == 59 then codes "tlv-order"
    else if number == 60 then codes "tlv-kind"
    else if number == 61 then codes "flags"
    else payment_word number
