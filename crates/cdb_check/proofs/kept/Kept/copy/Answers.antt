use Rattle.std.proofs.Common.{◌∙◌}
use Rattle.cdb_check.proofs.KeptTiles.{kept_at}
use Rattle.cdb_check.proofs.kept.Kept.copy.Goals as goal

pub returns-then-values-frame : goal.returns-then-values-frame
returns-then-values-frame c found ss kept =
    kept_at ss c.args.entries.now c.loop-entry.entry-index c.entry-item.result c.args.tile.now
    c.copy_from_slice.new.self kept c.loop-entry-test.true c.entry-item.is (c.if-is_same.ensures found)
    (c.copy_from_slice.ensures.after ∙ c.as_slice-values.ensures.value)
