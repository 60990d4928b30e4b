use Rattle.std.proofs.Common.{◌≡◌, ◌*◌, take}
use Rattle.cdb_source.specs.Texts.{posts_text}
use Rattle.cdb_cut.specs.Window.{rows_of}
use Rattle.cdb_publish.proofs.source_file.gather_rows.Given as goal

abbrev pub invariant-rows : goal.invariant-rows
invariant-rows l = take (l.k * l.size) l.to ≡ posts_text (rows_of l.source l.first l.k)
