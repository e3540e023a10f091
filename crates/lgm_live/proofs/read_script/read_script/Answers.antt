use Rattle.std.proofs.Common.{[], ◌∷◌, ◌++◌, ap, ◌∙◌}
use Rattle.lgm_live.specs.inner.Gathered.{Gathered}
use Rattle.lgm_live.specs.inner.Reading.{with_lines}
use Rattle.lgm_live.proofs.RequestedLinesLaws.{agenda_is}
use Rattle.lgm_live.proofs.read_script.read_script.Goals as goal

pub returns : goal.returns
returns g c =
    let read = c.in_ok-read_lines.ensures in
    let added = read.ok in
    let all = added.added ∙ ap (λ (parsed : Gathered). with_lines parsed added.asked) c.in_ok-parsed.ensures in
    record {
      writer = read.writer;
      ok = record {
        asked = added.asked;
        few = added.few;
        is_parsed =
            agenda_is c.args.workers added.asked c.end_batch.new.self
            (c.in_ok-end_batch.ensures ∙ ap (λ (parsed : Gathered).
            record parsed { batches = parsed.batches ++ parsed.batch ∷ []; batch = [] }) all);
        whole = added.whole;
      };
      too_many = λ is. absurd cc;
      too_long = λ is. absurd cc;
      silent = read.silent;
      buffered = read.buffered;
      read = λ is. absurd cc;
      write = λ is. absurd cc;
      well = λ _. read.well (λ e. absurd cc);
    }
