use Rattle.std.proofs.Common.{◌≡◌, rules}
use Rattle.lgm_graph.specs.Overlay.{overlaid_edges}
use Rattle.lgm_c.specs.Attempts.{edges_for}
use Rattle.lgm_c.proofs.Searches.{found_as}
use Rattle.lgm_c.proofs.search.found.Goals as goal

pub returns : goal.returns
returns c =
    let attempt = c.args.attempt.now in
    let network = c.args.network.now in
    let edges = overlaid_edges c.in-Some.view.now.known c.map.result.now c.in_ok-overlay.overlay in
    let same : edges ≡ edges_for attempt network.known network.rows = search rules in
    let seen = c.search.ensures in
    found_as attempt network.known network.rows c.search.result.now seen.preferences seen.known seen.limits seen.budget
    edges c.request.result.now c.find_over.result same c.request.ensures
    c.find_over.ensures.answer c.find_over.ensures.used_up c.find_over.ensures.beyond
