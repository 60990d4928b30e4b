use Rattle.cdb_memfiles.proofs.RecordLaws.{tied-empty, short-empty}
use Rattle.cdb_memfiles.proofs.record.Record.new.Goals as goal

pub invariant_of-result-clause-tied : goal.invariant_of-result-clause-tied
invariant_of-result-clause-tied c =
    tied-empty c.new-2.result c.new.result.items c.new-2.ensures.empty c.new.ensures.items

pub invariant_of-result-clause-short : goal.invariant_of-result-clause-short
invariant_of-result-clause-short c = short-empty c.new-2.result c.new-2.ensures.empty
