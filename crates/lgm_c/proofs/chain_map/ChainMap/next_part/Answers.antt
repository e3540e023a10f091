use Rattle.std.proofs.Common.{◌≡◌, ◌∙◌, rules}
use Rattle.std.specs.Prelude.{IsSome, map}
use Rattle.lgm_c.specs.Attempts.{extra_given}
use Rattle.lgm_c.proofs.Told.{sends_in}
use Rattle.lgm_c.proofs.chain_map.ChainMap.next_part.Goals as goal

pub returns-in-Changing-clause-next : goal.returns-in-Changing-clause-next
returns-in-Changing-clause-next c =
    let network = c.network.result.now in
    let known : network.known ≡ c.args.self.now.known = search rules in
    let rows : network.rows ≡ c.args.self.now.rows = search rules in
    let there : IsSome network.graph = search rules in
    let made : c.in_ok-own.own.items ≡ map extra_given c.args.sight.now.channels.now = search rules in
    let own : c.deref.result.now ≡ map extra_given c.args.sight.now.channels.now = c.deref.ensures.value ∙ made in
    sends_in c.args.sight.now c.deref.result.now network c.args.self.now c.args.payment c.args.payer.now c.next_over.new.held
    c.next_over.result there c.next_over.ensures.next own known rows

pub returns-clause-next : goal.returns-clause-next
returns-clause-next c =
    let network = c.network-in-Published.result.now in
    let known : network.known ≡ c.args.self.now.known = search rules in
    let rows : network.rows ≡ c.args.self.now.rows = search rules in
    let there : IsSome network.graph = search rules in
    let made : c.in_ok-own.own.items ≡ map extra_given c.args.sight.now.channels.now = search rules in
    let own : c.deref-in-Published-2.result.now ≡ map extra_given c.args.sight.now.channels.now =
    c.deref-in-Published-2.ensures.value ∙ made in
    sends_in c.args.sight.now c.deref-in-Published-2.result.now network c.args.self.now c.args.payment c.args.payer.now
    c.next_over-in-Published.new.held c.next_over-in-Published.result there c.next_over-in-Published.ensures.next own known rows
