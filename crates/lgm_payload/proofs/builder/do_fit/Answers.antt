use Rattle.std.proofs.Common.{◌<◌, ◌+◌, ◌≡◌, length, take, get_or, ap, arith}
use Rattle.lgm_payload.specs.Building.{onion_len}
use Rattle.lgm_payload.proofs.OnionLaws.{onion_more, too_long}
use Rattle.lgm_payload.proofs.builder.do_fit.Goals as goal
use Rattle.lgm_payload.proofs.builder.do_fit.Goals.{then-room-lt-HMAC_LEN-via-then-room-lt-HMAC_LEN, then-room-lt-HMAC_LEN-via-else-room-lt-HMAC_LEN+then-room-len}

pub returns-then-room-lt-HMAC_LEN : goal.returns-then-room-lt-HMAC_LEN
returns-then-room-lt-HMAC_LEN c =
    let payloads = c.args.payloads.now in
    let i = c.loop-payload.payload-index in
    let d = c.payload-item.result in
    elim c.then-room-lt-HMAC_LEN.branch [
      | then-room-lt-HMAC_LEN-via-then-room-lt-HMAC_LEN w ↦
          let short : c.loop-payload.room < length (get_or payloads i d) + 32 = omega (arith, w.if-room-lt-HMAC_LEN.true) in
          too_long payloads i d c.loop-payload.room c.loop-payload-test.true c.loop-payload.invariant short
      | then-room-lt-HMAC_LEN-via-else-room-lt-HMAC_LEN+then-room-len w ↦
          let same = ap length c.payload-item.is in
          let short : c.loop-payload.room < length (get_or payloads i d) + 32 =
          omega (arith, w.if-room-lt-HMAC_LEN.false, w.len.ensures, w.if-room-len.true, same) in
          too_long payloads i d c.loop-payload.room c.loop-payload-test.true c.loop-payload.invariant short
    ]

pub loop-payload-preserved : goal.loop-payload-preserved
loop-payload-preserved c =
    let payloads = c.args.payloads.now in
    let i = c.loop-payload.payload-index in
    let d = c.payload-item.result in
    let same = ap length c.payload-item.is in
    let more = onion_more payloads i d c.loop-payload-test.true in
    let so_far : onion_len (take i payloads) + c.loop-payload.room ≡ 1300 = c.loop-payload.invariant in
    omega (arith, more, so_far, same, c.if-room-lt-HMAC_LEN.false, c.if-room-len.false, c.len.ensures, c.len-in-loop-payload.ensures)
