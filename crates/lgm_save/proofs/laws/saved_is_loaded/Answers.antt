use Rattle.std.proofs.Common.{refl, subst}
use Rattle.std.specs.List.{AllByRecursion}
use Rattle.lgm_save.specs.Records.{IsRecord, records_of}
use Rattle.lgm_save.proofs.ChangeLaws.{same_rows}
use Rattle.lgm_save.proofs.laws.saved_is_loaded.Goals as goal

pub returns : goal.returns
returns c =
    let all : AllByRecursion IsRecord (records_of c.args.network.now) =
    subst (AllByRecursion IsRecord) c.requires c.records_are_lawful.ensures in
    record {
      same = λ chain rows loaded. same_rows c.args.network.now chain rows c.rows_are_lawful.ensures c.bytes_encode_rows.ensures all loaded;
      taken = λ chain refused. refused (records_of c.args.network.now) all refl;
    }
