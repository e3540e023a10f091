use Rattle.std.proofs.Common.{◌∙◌, ap, subst, sym}
use Rattle.std.specs.Int.{div_ceil}
use Rattle.lgm_payer.specs.Payments.{IsShare}
use Rattle.lgm_payer.proofs.PieceLaws.{piece_share}
use Rattle.lgm_payer.proofs.payment.Payment.piece.Goals as goal

pub returns-clause-share : goal.returns-clause-share
returns-clause-share c =
    subst (λ n. IsShare c.args.self.now n) (sym (c.div_ceil.ensures ∙ ap (λ n. div_ceil n c.args.pieces) c.left.ensures.exact))
    (piece_share c.args.self.now c.args.pieces c.requires.some c.requires.left c.requires.few c.requires.enough
    c.keeps_bounds.ensures.kept)
