use Rattle.std.proofs.Common.{◌≡◌, ◌∙◌, length, inl, inr, refl, sym, arith}
use Rattle.lgm_c.specs.Routing.{c_hops, all_payloads}
use Rattle.lgm_c.proofs.Filling.{hops_length, onion_fits, same_lengths}
use Rattle.lgm_c.proofs.routes.write_hops.Goals.{then-hops-needed-via-then-hops-needed, then-hops-needed-via-else-hops-needed+then-payloads-needed}
use Rattle.lgm_c.proofs.routes.write_hops.Goals as goal

pub payloads_len-requires : goal.payloads_len-requires
payloads_len-requires c = omega (arith, onion_fits c.args.built.now, c.requires)

pub returns-then-hops-needed : goal.returns-then-hops-needed
returns-then-hops-needed c = λ number.
    let hops : c.min.result ≡ length (c_hops c.args.route.now c.args.built.now) =
    c.min.ensures ∙ sym (hops_length c.args.route.now c.args.built.now) in
    let payloads : c.payloads_len.result ≡ length (all_payloads c.args.built.now) = c.payloads_len.ensures in (
      same_lengths _ _ _ _ hops payloads,
      inr (
        refl,
        elim c.then-hops-needed.branch [
          | then-hops-needed-via-then-hops-needed w ↦ inl (omega (arith, hops, w.if-hops-needed.true))
          | then-hops-needed-via-else-hops-needed+then-payloads-needed w ↦ inr (omega (arith, payloads, w.if-payloads-needed.true))
        ],
        refl,
        refl,
      ),
    )

pub fill_hops-requires : goal.fill_hops-requires
fill_hops-requires c =
    omega (arith, c.min.ensures, hops_length c.args.route.now c.args.built.now, c.if-hops-needed.false)

pub returns : goal.returns
returns c = λ number.
    let hops : c.min.result ≡ length (c_hops c.args.route.now c.args.built.now) =
    c.min.ensures ∙ sym (hops_length c.args.route.now c.args.built.now) in
    (same_lengths _ _ _ _ hops c.payloads_len.ensures, inl (refl, c.fill_hops.ensures.filled, c.fill_payloads.ensures.filled))
