use Rattle.std.proofs.Common.{rules, refl, arith, ◌<◌, ◌+◌, ap, ◌∙◌, sym, List, ℕ, ◌≡◌, length, true, false}
use Rattle.lgm_save.specs.Checksum.{sums_of, in_bytes}
use Rattle.lgm_save.proofs.SavedLaws.{sealed_parts, sealed_found, length-sealed}
use Rattle.lgm_save.proofs.sealing.unsealed.Goals as goal

pub returns-in_err-checked_sub-clause-none : goal.returns-in_err-checked_sub-clause-none
returns-in_err-checked_sub-clause-none c none whole e =
    let few : length c.args.bytes.now < 16 = search rules in
    absurd (omega (arith, ap length e, length-sealed whole))

pub returns-then-not-are_in-clause-none : goal.returns-then-not-are_in-clause-none
returns-then-not-are_in-clause-none c none whole e =
    let len : length c.in_ok-content.content.now + 16 ≡ length c.args.bytes.now = search rules in
    let both = sealed_parts c.args.bytes.now c.in_ok-content.content.now c.in_ok-content.sums.now whole c.in_ok-content.ensures.some.0 len e in
    let result : c.are_in.result ≡ true =
    c.are_in.ensures.1 (both.1 ∙ ap (λ (s : List ℕ). in_bytes (sums_of s)) (sym both.0) ∙ ap in_bytes (sym c.of.ensures)) in
    let no : c.are_in.result ≡ false = search rules in
    let wrong : true ≡ false = sym result ∙ no in
    absurd cc

pub returns-clause-some : goal.returns-clause-some
returns-clause-some c =
    let sums : c.in_ok-content.sums.now ≡ in_bytes (sums_of c.in_ok-content.content.now) =
    c.are_in.ensures.0 (search rules) ∙ ap in_bytes c.of.ensures in
    sealed_found c.args.bytes.now c.in_ok-content.content.now c.in_ok-content.sums.now c.in_ok-content.content.now
    c.in_ok-content.ensures.some.0 sums refl
