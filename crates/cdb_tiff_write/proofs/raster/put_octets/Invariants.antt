use Rattle.std.proofs.Common.{◌≡◌, ℕ, ◌<◌, pos, get_or}
use Rattle.cdb_tiff_write.specs.Rasters.{octet_of}
use Rattle.cdb_tiff_write.proofs.raster.put_octets.Given as goal

abbrev pub invariant-loop-k : goal.invariant-loop-k
invariant-loop-k l = (i : ℕ) → i < l.k → get_or l.to i 0 ≡ octet_of (get_or l.posts i (pos 0))
