-- Why a call about a payment failed.
use Rattle.std.specs.Prelude.{ℕ, ◌==◌, if◌then◌else◌, List, codes}
use Rattle.lgm_c.specs.declared.payment_fault.PaymentFault.{PaymentFault}
use Rattle.lgm_c.specs.declared.payment_fault.PaymentFault.TheVariants as payments
use Rattle.lgm_c.specs.Arguments.{argument_word}

abbrev pub payment_number : PaymentFault → ℕ
payment_number payments.TooDear = 71
payment_number payments.ChannelsShort = 72
payment_number payments.PayeeShort = 73
payment_number payments.TriesUsedUp = 74
payment_number payments.PayeeRefused = 75
payment_number payments.Abandoned = 76
payment_number payments.PathsShort = 77
payment_number payments.UnknownPayment = 81
payment_number payments.UnknownPart = 82
payment_number payments.NotUnderWay = 83
payment_number payments.BeyondRoute = 84
payment_number payments.ForeignCode = 85
payment_number payments.NothingUnderWay = 86
payment_number payments.AlreadyPaid = 87
payment_number payments.UnderWay = 88
payment_number payments.ForeignChannel = 89
payment_number payments.ReckonedAhead = 90
payment_number payments.ReckonedBefore = 91
payment_number payments.NoParts = 92
payment_number payments.NumbersUsedUp = 93

-- the words of these numbers, and of those of arguments
abbrev pub payment_word : ℕ → List ℕ
payment_word number =
    if number == 71 then codes "too-dear"
    else if number == 72 then codes "channels-short"
    else if number == 73 then codes "payee-short"
    else if number == 74 then codes "tries-used-up"
    else if number == 75 then codes "payee-refused"
    else if number == 76 then codes "abandoned"
    else if number == 77 then codes "paths-short"
    else if number == 81 then codes "unknown-payment"
    else if number == 82 then codes "unknown-part"
    else if number == 83 then codes "not-under-way"
    else if number == 84 then codes "beyond-route"
    else if number == 85 then codes "foreign-code"
    else if number == 86 then codes "nothing-under-way"
    else if number == 87 then codes "already-paid"
    else if number == 88 then codes "under-way"
    else if number == 89 then codes "foreign-channel"
    else if number == 90 then codes "reckoned-ahead"
    else if number == 91 then codes "reckoned-before"
    else if number == 92 then codes "no-parts"
    else if number == 93 then codes "numbers-used-up"
    else argument_word number
