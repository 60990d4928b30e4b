use Rattle.std.proofs.Common.{refl, []}
use Rattle.cdb_check.proofs.KeptLaws.{agrees_after}
use Rattle.cdb_check.proofs.RecordsOf.{of_records, counted}
use Rattle.cdb_check.proofs.laws.whole_stores_agree.Goals as goal

pub returns : goal.returns
returns c = record {
  agrees = λ m list records stands are. agrees_after m list stands [] list refl records [] (of_records records list are)
      tt;
  counted = λ list records are. counted 0 [] records list (of_records records list are);
}
