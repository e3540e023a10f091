-- Which argument of a call is wrong.
use Rattle.std.specs.Prelude.{ℕ, ◌==◌, if◌then◌else◌, List, [], codes}
use Rattle.lgm_c.specs.declared.argument_fault.ArgumentFault.{ArgumentFault}
use Rattle.lgm_c.specs.declared.argument_fault.ArgumentFault.TheVariants as wrong

abbrev pub argument_number : ArgumentFault → ℕ
argument_number wrong.Sig = 110
argument_number wrong.Funding = 111
argument_number wrong.Edges = 112
argument_number wrong.Limits = 113
argument_number wrong.Maximum = 114
argument_number wrong.Published = 115
argument_number wrong.Hops = 116
argument_number wrong.RecordType = 117
argument_number wrong.RecordOrder = 118
argument_number wrong.Payloads = 119
argument_number wrong.Which = 120

-- the words of these numbers: the name of the argument, and what it may be
abbrev pub argument_word : ℕ → List ℕ
argument_word number =
    if number == 110 then codes "sig: 0 to 3"
    else if number == 111 then codes "funding: 0 to 3"
    else if number == 112 then codes "edges: at most 100,000"
    else if number == 113 then codes "limits: at most 300,000"
    else if number == 114 then codes "edge: a maximum of 0"
    else if number == 115 then codes "published: not one"
    else if number == 116 then codes "hops: no route"
    else if number == 117 then codes "record: type < 65,536"
    else if number == 118 then codes "records: not ascending"
    else if number == 119 then codes "payloads: too long"
    else if number == 120 then codes "which: 0, 1 or 2"
    else []
