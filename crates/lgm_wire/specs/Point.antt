-- Points of the curve.
use Rattle.std.specs.Prelude.{Bool, ◌==◌, ◌||◌, slice_index}
use Rattle.lgm_wire.specs.declared.point.Point.{Point}

-- the first byte is 2 or 3
abbrev pub is_lawful : Point → Bool
is_lawful p = (slice_index p.0 0 == 2) || (slice_index p.0 0 == 3)
