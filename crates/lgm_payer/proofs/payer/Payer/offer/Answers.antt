use Rattle.std.proofs.Common.{◌≡◌, ◌∙◌, ◌<◌, List, Some, ap, subst, sym, length}
use Rattle.std.specs.Prelude.{slice_get}
use Rattle.lgm_graph.specs.Estimates.{estimate_of}
use Rattle.lgm_payer.specs.Payments.{PaymentState}
use Rattle.lgm_payer.specs.UnderWay.{all_under_way, all_since}
use Rattle.lgm_payer.specs.Payers.{PayerState}
use Rattle.lgm_payer.specs.Looking.{seen, IsReady}
use Rattle.lgm_payer.proofs.ProspectLaws.{read_there, offered_beside, unfound_beside, beliefs_are, few_seen}
use Rattle.lgm_payer.proofs.payer.Payer.offer.Goals as goal

pub returns-clause-offered : goal.returns-clause-offered
returns-clause-offered c =
    let payer = c.args.self.now in
    let before = c.index.result.now in
    let payments = c.self.inside.payments.items in
    let fits : c.args.place < length payments =
    subst (λ (p : PayerState). c.args.place < length p.payments) (sym c.self.view_is) c.requires.there in
    let there : slice_get payer.payments c.args.place ≡ Some before =
    subst (λ (p : PayerState). slice_get p.payments c.args.place ≡ Some before) c.self.view_is
    (read_there payments c.args.place before fits c.index.ensures) in
    let same = ap (λ (p : PayerState). p.payments) c.self.view_is in
    let first : c.deref.result.now ≡ payer.payments = c.deref.ensures.value ∙ same in
    let second : c.deref-2.result.now ≡ payer.payments = c.deref-2.ensures.value ∙ same in
    let all = c.in_ok-busy.ensures ∙ ap (λ (list : List PaymentState). all_under_way list) first in
    let later = c.in_ok-since.ensures ∙ ap (λ (list : List PaymentState). all_since c.args.sight.now.reckoned list) second in
    let learnt = ap (λ (p : PayerState). p.learnt) c.self.view_is in
    let believes = beliefs_are c.or_learnt-estimates.result.now c.self.inside.learnt payer.learnt c.in_ok-beside.beside
    c.deref-3.result.now (all_under_way payer.payments) c.or_learnt-estimates.ensures c.in_ok-beside.ensures learnt
    (c.deref-3.ensures.value ∙ all) in
    offered_beside (seen c.args.sight.now) payer c.args.place before (estimate_of c.or_learnt-estimates.result.now)
    c.deref-4.result.now c.deref-5.result.now there believes (c.deref-4.ensures.value ∙ later) (c.deref-5.ensures.value ∙ all)
    c.choose.result c.choose.ensures.offered

pub returns-clause-why : goal.returns-clause-why
returns-clause-why c =
    let payer = c.args.self.now in
    let before = c.index.result.now in
    let payments = c.self.inside.payments.items in
    let fits : c.args.place < length payments =
    subst (λ (p : PayerState). c.args.place < length p.payments) (sym c.self.view_is) c.requires.there in
    let there : slice_get payer.payments c.args.place ≡ Some before =
    subst (λ (p : PayerState). slice_get p.payments c.args.place ≡ Some before) c.self.view_is
    (read_there payments c.args.place before fits c.index.ensures) in
    let same = ap (λ (p : PayerState). p.payments) c.self.view_is in
    let first : c.deref.result.now ≡ payer.payments = c.deref.ensures.value ∙ same in
    let second : c.deref-2.result.now ≡ payer.payments = c.deref-2.ensures.value ∙ same in
    let all = c.in_ok-busy.ensures ∙ ap (λ (list : List PaymentState). all_under_way list) first in
    let later = c.in_ok-since.ensures ∙ ap (λ (list : List PaymentState). all_since c.args.sight.now.reckoned list) second in
    let learnt = ap (λ (p : PayerState). p.learnt) c.self.view_is in
    let believes = beliefs_are c.or_learnt-estimates.result.now c.self.inside.learnt payer.learnt c.in_ok-beside.beside
    c.deref-3.result.now (all_under_way payer.payments) c.or_learnt-estimates.ensures c.in_ok-beside.ensures learnt
    (c.deref-3.ensures.value ∙ all) in
    unfound_beside (seen c.args.sight.now) payer c.args.place before (estimate_of c.or_learnt-estimates.result.now)
    c.deref-4.result.now c.deref-5.result.now there believes (c.deref-4.ensures.value ∙ later) (c.deref-5.ensures.value ∙ all)
    c.choose.result c.choose.ensures.why

pub choose-requires-clause-left : goal.choose-requires-clause-left
choose-requires-clause-left c =
    let payer = c.args.self.now in
    let before = c.index.result.now in
    let payments = c.self.inside.payments.items in
    let fits : c.args.place < length payments =
    subst (λ (p : PayerState). c.args.place < length p.payments) (sym c.self.view_is) c.requires.there in
    let there : slice_get payer.payments c.args.place ≡ Some before =
    subst (λ (p : PayerState). slice_get p.payments c.args.place ≡ Some before) c.self.view_is
    (read_there payments c.args.place before fits c.index.ensures) in
    let ready : IsReady (seen c.args.sight.now) payer before = rw there at c.requires.ready in
    ready.some

pub choose-requires-clause-few : goal.choose-requires-clause-few
choose-requires-clause-few c =
    let payer = c.args.self.now in
    let before = c.index.result.now in
    let payments = c.self.inside.payments.items in
    let fits : c.args.place < length payments =
    subst (λ (p : PayerState). c.args.place < length p.payments) (sym c.self.view_is) c.requires.there in
    let there : slice_get payer.payments c.args.place ≡ Some before =
    subst (λ (p : PayerState). slice_get p.payments c.args.place ≡ Some before) c.self.view_is
    (read_there payments c.args.place before fits c.index.ensures) in
    let ready : IsReady (seen c.args.sight.now) payer before = rw there at c.requires.ready in
    few_seen (seen c.args.sight.now) payer before ready.seen_well
