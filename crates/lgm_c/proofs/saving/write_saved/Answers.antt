use Rattle.std.proofs.Common.{◌≡◌, ◌∙◌, List, length, inl, inr, refl, ap, arith, rules}
use Rattle.lgm_save.specs.declared.record.Record.{Record}
use Rattle.lgm_save.specs.Saved.{saved, saved_as}
use Rattle.lgm_c.specs.Writing.{in_front}
use Rattle.lgm_c.proofs.saving.write_saved.Goals as goal

pub returns-then-room-needed : goal.returns-then-room-needed
returns-then-room-needed c =
    let chain = c.args.chain in
    let whole : length chain.0 ≡ 32 = search rules in
    let len : c.length.result ≡ length (saved chain c.args.map.now) =
    c.length.ensures chain whole ∙ ap (λ (rs : List Record). length (saved_as chain rs)) c.in_ok-saving.ensures in
    inl (
      record { same = c.saved_is_loaded.ensures.same chain; taken = c.saved_is_loaded.ensures.taken chain },
      (len, inr (refl, omega (arith, len, c.if-room-needed.true), refl)),
    )

pub write-requires : goal.write-requires
write-requires c =
    let chain = c.args.chain in
    let whole : length chain.0 ≡ 32 = search rules in
    omega (arith, c.length.ensures chain whole, c.if-room-needed.false)

pub returns : goal.returns
returns c =
    let chain = c.args.chain in
    let whole : length chain.0 ≡ 32 = search rules in
    inl (
      record { same = c.saved_is_loaded.ensures.same chain; taken = c.saved_is_loaded.ensures.taken chain },
      (
        c.length.ensures chain whole ∙ ap (λ (rs : List Record). length (saved_as chain rs)) c.in_ok-saving.ensures,
        inl (refl, c.write.ensures ∙ ap (λ (rs : List Record). in_front (saved_as chain rs) c.args.room.now) c.in_ok-saving.ensures),
      ),
    )
