use Rattle.std.proofs.Common.{append_assoc}
use Rattle.cdb_tiff_write.proofs.tile_head.put_long_entry.Goals as goal

pub returns-clause-bytes : goal.returns-clause-bytes
returns-clause-bytes c = rw (c.put_long.ensures.bytes, c.put_kind.ensures.bytes) (simp append_assoc)
