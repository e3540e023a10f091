use Rattle.lgm_script.proofs.FirstWords.{word_asks}
use Rattle.lgm_script.proofs.grammar.line_form.LineForm.kind.Goals as goal

pub returns : goal.returns
returns c =
    let asks = word_asks c.self.inside.word c.self.inside.text.now in
    rw (c.kind.ensures, ← c.self.view_is) asks.0
