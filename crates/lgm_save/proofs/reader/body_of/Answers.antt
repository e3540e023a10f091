use Rattle.std.proofs.Common.{rules, arith, ◌<◌, ◌+◌, ◌^◌, ap, ◌∙◌, sym, List, ℕ, ◌≡◌, length, true, false}
use Rattle.lgm_save.specs.Saved.{headed}
use Rattle.lgm_save.specs.Checksum.{sums_of, in_bytes}
use Rattle.lgm_save.proofs.SavedLaws.{sealed_parts, sealed_found, length-sealed, length-headed}
use Rattle.lgm_save.proofs.LoadLaws.{if_some_to}
use Rattle.lgm_save.proofs.reader.body_of.Goals as goal

pub returns-in_err-checked_sub-clause-none : goal.returns-in_err-checked_sub-clause-none
returns-in_err-checked_sub-clause-none c none body e =
    let few : length c.args.bytes.now < 16 = search rules in
    absurd (omega (arith, ap length e, length-sealed (headed c.args.chain.now body)))

pub returns-then-not-are_in-clause-none : goal.returns-then-not-are_in-clause-none
returns-then-not-are_in-clause-none c none body e =
    let len : length c.in_ok-content.content.now + 16 ≡ length c.args.bytes.now = search rules in
    let both = sealed_parts c.args.bytes.now c.in_ok-content.content.now c.in_ok-content.sums.now (headed c.args.chain.now body) c.in_ok-content.ensures.some.0 len e in
    let bad = c.are_in.ensures.1 (both.1 ∙ ap (λ (s : List ℕ). in_bytes (sums_of s)) (sym both.0) ∙ ap in_bytes (sym c.of.ensures)) in
    let result : c.are_in.result ≡ true = bad in
    let no : c.are_in.result ≡ false = search rules in
    let wrong : true ≡ false = sym result ∙ no in
    absurd cc

pub returns-clause-some : goal.returns-clause-some
returns-clause-some c =
    let sums : c.in_ok-content.sums.now ≡ in_bytes (sums_of c.in_ok-content.content.now) =
    c.are_in.ensures.0 (search rules) ∙ ap in_bytes c.of.ensures in
    if_some_to c.behind_head.result (λ body is. sealed_found c.args.bytes.now c.in_ok-content.content.now c.in_ok-content.sums.now
    (headed c.args.chain.now body.now) c.in_ok-content.ensures.some.0 sums is) c.behind_head.ensures.some

pub returns-clause-none : goal.returns-clause-none
returns-clause-none c none body e =
    let len : length c.in_ok-content.content.now + 16 ≡ length c.args.bytes.now = search rules in
    let both = sealed_parts c.args.bytes.now c.in_ok-content.content.now c.in_ok-content.sums.now (headed c.args.chain.now body) c.in_ok-content.ensures.some.0 len e in
    let bound : length c.args.bytes.now < 2 ^ 64 = search rules in
    let small : length body < 2 ^ 64 = omega (arith, ap length e, length-sealed (headed c.args.chain.now body), length-headed c.args.chain.now body) in
    c.behind_head.ensures.none none body small both.0
