use Rattle.std.proofs.Common.{◌≡◌, Err, ap, ◌∙◌, arith, rules, inr}
use Rattle.std.proofs.lemmas.List.{map_push}
use Rattle.std.proofs.lemmas.Result.{err_from_is_err_and}
use Rattle.lgm_wire.specs.TlvView.{record_of, records_of}
use Rattle.lgm_wire.proofs.TlvLaws.{goes_on, shrinks, whole_stream, first_fault, whole_read, broken_read, is_only, no_fault, has_two_bytes}
use Rattle.lgm_wire.proofs.tlv.read_tlvs.Goals as goal

pub loop-rest-smaller : goal.loop-rest-smaller
loop-rest-smaller c =
    shrinks c.args.bytes.now (records_of c.loop-rest.items.items) c.loop-rest.rest.now c.loop-rest.last
    (record_of c.in_ok-tlv.tlv) c.in_ok-tlv.after.now (λ i. omega (arith, c.type_inv.bytes i))
    c.loop-rest.invariant c.in_ok-tlv.ensures

pub loop-rest-preserved : goal.loop-rest-preserved
loop-rest-preserved c =
    let more = map_push record_of c.loop-rest.items.items c.in_ok-tlv.tlv in
    rw (c.push.ensures.items, c.in-Ok.is, more) (goes_on c.args.bytes.now (records_of c.loop-rest.items.items)
    c.loop-rest.rest.now c.loop-rest.last (record_of c.in_ok-tlv.tlv) c.in_ok-tlv.after.now
    (λ i. omega (arith, c.type_inv.bytes i)) c.loop-rest.invariant c.in_ok-tlv.ensures)

pub returns : goal.returns
returns c =
    let front = records_of c.loop-rest.items.items in
    let whole = whole_stream c.args.bytes.now front c.loop-rest.rest.now c.loop-rest.last c.loop-rest.invariant (search rules) in
    record {
      found = whole;
      only = λ l other. is_only front l c.args.bytes.now whole other;
      fault = tt;
      memory = λ few. whole_read front c.args.bytes.now whole;
      exact = whole_read front c.args.bytes.now whole;
    }

pub returns-in_err-tlv : goal.returns-in_err-tlv
returns-in_err-tlv c =
    let p = err_from_is_err_and c.from_residual.result c.from_residual.ensures.1 in
    let fault = c.in_err-tlv.field-0.0 in
    let first =
    first_fault c.args.bytes.now (records_of c.loop-rest.items.items) c.loop-rest.rest.now c.loop-rest.last
    fault c.loop-rest.invariant (search rules) c.in_err-tlv.ensures in
    let same : c.from_residual.result ≡ Err fault = p.1 ∙ ap (λ e. Err e) p.2 in
    rw same (record {
      found = tt;
      only = λ l other. absurd (no_fault c.args.bytes.now fault l first other);
      fault = inr first;
      memory = λ few. broken_read c.args.bytes.now fault first;
      exact = inr (broken_read c.args.bytes.now fault first);
    })

pub returns-in_default-clause-memory : goal.returns-in_default-clause-memory
returns-in_default-clause-memory c few =
    let some =
    has_two_bytes c.args.bytes.now (records_of c.loop-rest.items.items) c.loop-rest.rest.now c.loop-rest.last
    (record_of c.in_ok-tlv.tlv) c.in_ok-tlv.after.now (λ i. omega (arith, c.type_inv.bytes i))
    c.loop-rest.invariant c.in_ok-tlv.ensures in
    absurd (omega (arith, some, few))
