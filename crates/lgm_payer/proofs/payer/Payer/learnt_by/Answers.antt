use Rattle.std.proofs.Common.{◌≡◌, ◌∙◌, ◌<◌, List, Some, ap, subst, sym, length}
use Rattle.std.specs.Prelude.{slice_get}
use Rattle.lgm_payer.specs.Payments.{PaymentState}
use Rattle.lgm_payer.specs.UnderWay.{all_under_way}
use Rattle.lgm_payer.specs.Payers.{PayerState}
use Rattle.lgm_payer.proofs.ProspectLaws.{read_there}
use Rattle.lgm_payer.proofs.PayerLaws.{taught_beside}
use Rattle.lgm_payer.proofs.payer.Payer.learnt_by.Goals as goal

pub returns : goal.returns
returns c =
    let payer = c.args.self.now in
    let before = c.index.result.now in
    let payments = c.self.inside.payments.items in
    let fits : c.args.place < length payments =
    subst (λ (p : PayerState). c.args.place < length p.payments) (sym c.self.view_is) c.requires in
    let there : slice_get payer.payments c.args.place ≡ Some before =
    subst (λ (p : PayerState). slice_get p.payments c.args.place ≡ Some before) c.self.view_is
    (read_there payments c.args.place before fits c.index.ensures) in
    let slice : c.deref.result.now ≡ payer.payments = c.deref.ensures.value ∙ ap (λ (p : PayerState). p.payments) c.self.view_is in
    let busy = c.deref-2.ensures.value ∙ c.in_ok-busy.ensures ∙ ap (λ (list : List PaymentState). all_under_way list) slice in
    taught_beside payer c.args.place c.args.at c.args.ending before c.deref-2.result.now c.in_ok-learnt.learnt c.teach.new.estimates
    there busy (c.in_ok-learnt.ensures ∙ ap (λ (p : PayerState). p.learnt) c.self.view_is) c.in_ok-teach.ensures
