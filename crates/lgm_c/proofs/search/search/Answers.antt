use Rattle.lgm_c.proofs.Searches.{gives_found, gives_fault}
use Rattle.lgm_c.proofs.search.search.Goals as goal

pub returns : goal.returns
returns c =
    let network = c.args.network.now in
    gives_found c.args.attempt.now network.known network.rows c.requires.searched
    c.found.result c.in_ok-found.field-0 c.in_ok-found.was c.found.ensures

pub returns-in_err-found : goal.returns-in_err-found
returns-in_err-found c =
    let network = c.args.network.now in
    gives_fault c.args.attempt.now network.known network.rows c.requires.searched
    c.found.result c.in_err-found.field-0.0 c.from_residual.result c.in_err-found.was c.found.ensures c.from_residual.ensures.1
