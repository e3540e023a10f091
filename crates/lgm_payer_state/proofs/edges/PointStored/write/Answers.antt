use Rattle.lgm_payer_state.specs.Edges.{point_bytes}
use Rattle.lgm_payer_state.specs.reading.EdgesReading.{point_at}
use Rattle.lgm_payer_state.proofs.edges.PointStored.write.Goals as goal

pub returns : goal.returns
unfolding point_bytes point_at
returns c =
    let point = c.in_ok-write_fixed.ensures in
    record {
      written = point.written;
      back = λ rest. simp point.back;
    }
