use Rattle.std.proofs.Common.{◌≡◌, ◌+◌, ◌≤◌, ◌++◌, List, ℕ, length, take, drop, ap, ◌∙◌, arith}
use Rattle.lgm_script.specs.Lines.{ahead}
use Rattle.lgm_script.proofs.Ahead.{read_behind, ahead_behind, front_stays}
use Rattle.lgm_script.proofs.input.line_reader.LineReader.read_more.Goals as goal
use Rattle.lgm_script.proofs.input.line_reader.LineReader.read_more.Goals.{After-self-6-1}

-- what was read ahead is unchanged, and the new bytes come after it
behind : (g : _) (c : After-self-6-1 g) (rest : List ℕ)
    → drop c.make_room-start.result.0 (take (c.make_room-start.result.1 + c.in_ok-count.count)
    (take c.make_room-start.new.buffer.len ((c.split_at_mut-room.result.0.now ++ c.read.new.buffer) ++ rest)))
    ≡ c.args.self.now ++ take c.in_ok-count.count c.read.new.buffer
behind g c rest =
    let whole = c.deref_mut.result.now in
    let start = c.make_room-start.result.0 in
    let end = c.make_room-start.result.1 in
    let n = c.in_ok-count.count in
    let sub = c.read.new.buffer in
    let len = c.make_room-start.new.buffer.len in
    let front = c.split_at_mut-room.result.0.now in
    let within : end ≤ length whole = omega (arith, c.make_room-start.ensures.room, c.make_room-start.ensures.size, c.deref_mut.ensures.len) in
    let few : n ≤ length sub = omega (arith, c.in_ok-count.ensures.bound, c.read.auto.buffer) in
    let fits : length front + length sub ≤ len =
    omega (
      arith,
      c.split_at_mut-room.ensures.front_len,
      c.split_at_mut-room.ensures.back_len,
      c.read.auto.buffer,
      c.deref_mut.ensures.len,
    ) in
    read_behind front sub whole rest start end n len c.split_at_mut-room.ensures.front c.make_room-start.ensures.order within few fits
    ∙ ap (λ (s : List ℕ). drop start (take end s) ++ take n sub) c.deref_mut.ensures.value
    ∙ ap (λ (s : List ℕ). s ++ take n sub) (c.make_room-start.ensures.same ∙ c.self.view_is)

pub returns-clause-kept : goal.returns-clause-kept
returns-clause-kept g c =
    ap (λ (s : List ℕ). ahead s (g.R.Source.seen c.read.new.self).left) (behind g c _)
    ∙ ahead_behind (g.R.Source.seen c.args.source.now).left (g.R.Source.seen c.read.new.self).left c.args.self.now
    c.read.new.buffer c.in_ok-count.count c.in_ok-count.ensures.bytes.0 c.in_ok-count.ensures.bytes.1

pub returns-clause-front : goal.returns-clause-front
returns-clause-front g c = front_stays c.args.self.now _ c.read.new.buffer c.in_ok-count.count (behind g c _)
