use Rattle.std.proofs.Common.{sym, ◌∙◌, arith}
use Rattle.lgm_gossip.proofs.LayoutLaws.{announce_laid, update_laid, node_laid, few, many, nothing, is_long, is_short}
use Rattle.lgm_gossip.proofs.layout.layout_of.Goals as goal
use Rattle.lgm_gossip.proofs.layout.layout_of.Goals.{then-bytes-lt2-via-then-bytes-lt2, then-bytes-lt2-via-else-bytes-lt2+then-bytes-gt-MAX_LEN}

pub returns-then-bytes-lt2 : goal.returns-then-bytes-lt2
returns-then-bytes-lt2 c = elim c.then-bytes-lt2.branch [
  | then-bytes-lt2-via-then-bytes-lt2 w ↦ few c.args.bytes.now (omega (arith, w.if-bytes-lt2))
  | then-bytes-lt2-via-else-bytes-lt2+then-bytes-gt-MAX_LEN w ↦ many c.args.bytes.now (omega (arith, w.if-bytes-gt-MAX_LEN))
]

pub returns-in-256 : goal.returns-in-256
returns-in-256 c =
    announce_laid c.args.bytes.now (record {
      fits = λ i. omega (arith, c.type_inv.bytes i);
      two = omega (arith, c.if-bytes-lt2.false);
      short = omega (arith, c.if-bytes-gt-MAX_LEN.false);
    }) (sym c.number16.ensures ∙ c.in-256.is) (is_long _ _ c.if-is_long_enough.ensures)

pub returns-in-257 : goal.returns-in-257
returns-in-257 c =
    node_laid c.args.bytes.now (record {
      fits = λ i. omega (arith, c.type_inv.bytes i);
      two = omega (arith, c.if-bytes-lt2.false);
      short = omega (arith, c.if-bytes-gt-MAX_LEN.false);
    }) (sym c.number16.ensures ∙ c.in-257.is) (is_long _ _ c.if-is_long_enough-2.ensures)

pub returns-in-258 : goal.returns-in-258
returns-in-258 c =
    update_laid c.args.bytes.now (record {
      fits = λ i. omega (arith, c.type_inv.bytes i);
      two = omega (arith, c.if-bytes-lt2.false);
      short = omega (arith, c.if-bytes-gt-MAX_LEN.false);
    }) (sym c.number16.ensures ∙ c.in-258.is) (is_long _ _ c.if-is_long_enough-3.ensures)

pub returns-in_default : goal.returns-in_default
returns-in_default c =
    nothing c.args.bytes.now (λ i. omega (arith, c.type_inv.bytes i))
    (λ kind. is_short _ _ c.if-is_long_enough.ensures)
    (λ kind long. omega (arith, c.number16.ensures, c.in-256.is, kind))
    (λ kind long. omega (arith, c.number16.ensures, c.in-256.is, kind))

pub returns-in_default-2 : goal.returns-in_default-2
returns-in_default-2 c =
    nothing c.args.bytes.now (λ i. omega (arith, c.type_inv.bytes i))
    (λ kind long. omega (arith, c.number16.ensures, c.in-257.is, kind))
    (λ kind long. omega (arith, c.number16.ensures, c.in-257.is, kind))
    (λ kind. is_short _ _ c.if-is_long_enough-2.ensures)

pub returns-in_default-3 : goal.returns-in_default-3
returns-in_default-3 c =
    nothing c.args.bytes.now (λ i. omega (arith, c.type_inv.bytes i))
    (λ kind long. omega (arith, c.number16.ensures, c.in-258.is, kind))
    (λ kind. is_short _ _ c.if-is_long_enough-3.ensures)
    (λ kind long. omega (arith, c.number16.ensures, c.in-258.is, kind))

pub returns-in_default-4 : goal.returns-in_default-4
returns-in_default-4 c =
    nothing c.args.bytes.now (λ i. omega (arith, c.type_inv.bytes i))
    (λ kind long. omega (arith, c.number16.ensures, c.in_default, kind))
    (λ kind long. omega (arith, c.number16.ensures, c.in_default, kind))
    (λ kind long. omega (arith, c.number16.ensures, c.in_default, kind))
