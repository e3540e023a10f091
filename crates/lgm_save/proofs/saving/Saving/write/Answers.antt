use Rattle.std.proofs.Common.{ap, ◌≡◌, ◌∙◌, ◌++◌}
use Rattle.std.specs.List.{flat_map}
use Rattle.lgm_save.specs.Records.{bytes_of}
use Rattle.lgm_save.specs.Saved.{headed}
use Rattle.lgm_save.specs.Checksum.{sums_of}
use Rattle.lgm_save.proofs.SavedLaws.{sealed_written, front_filled}
use Rattle.lgm_save.proofs.saving.Saving.write.Goals as goal

pub returns : goal.returns
returns c =
    let room = c.args.room.now in
    let content = headed c.args.chain.now (flat_map bytes_of c.args.self.now) in
    let filled = c.write_content-end.ensures in
    let first = c.put-behind.ensures.filled room content filled in
    let both = c.put.ensures.filled room (content ++ c.in_eight.result) first in
    let sums : c.of-sums.result ≡ sums_of content =
    c.of-sums.ensures ∙ ap sums_of (front_filled room content c.write_content-end.new.room c.write_content-end.result filled) in
    sealed_written room content c.in_eight.result c.in_eight-2.result c.put.new.room c.put.result c.of-sums.result both
    c.in_eight.ensures c.in_eight-2.ensures sums
