-- How often the steps of a publication read at most.
use Rattle.std.specs.Prelude.{ℕ, ◌+◌, ◌-◌, ◌*◌, List, length, filter, drop, Option, Some, None}
use Rattle.std.specs.List.{sum_by}
use Rattle.cdb_grid.specs.declared.family.Family.{Family}
use Rattle.cdb_grid.specs.declared.family.Family.TheVariants.{Elev, Low, High, Mat}
use Rattle.cdb_grid.specs.declared.tile.Tile.{Tile}
use Rattle.cdb_source.specs.declared.head.SourceHead.{SourceHead}
use Rattle.cdb_publish.specs.Windows.{takes_rows}
use Rattle.cdb_publish.specs.declared.work.Work.{Work}

-- How many of these sources are of a tile's kind and of exactly its level, and reach it.
abbrev pub rows_taken : List SourceHead → Tile → ℕ
rows_taken heads t = length (filter (λ head. takes_rows head t) heads)

-- The sources that a tile is painted from: those of a tile of elevations or of materials.
abbrev pub painted_from : Family → List SourceHead → Tile → ℕ
painted_from Elev heads t = rows_taken heads t
painted_from Low heads t = 0
painted_from High heads t = 0
painted_from Mat heads t = rows_taken heads t

-- Each of these tiles with each source that it is painted from.
abbrev pub pair_count : List SourceHead → List Tile → ℕ
pair_count heads tiles = sum_by (λ (t : Tile). painted_from t.family heads t) tiles

-- Six for each tile, and one for each pair.
abbrev pub most_reads : List SourceHead → List Tile → ℕ
most_reads heads tiles = 6 * length tiles + pair_count heads tiles

-- What the steps that aren't made read at most.
abbrev pub reads_left_in : Option Work → ℕ
reads_left_in None = 0
reads_left_in (Some w) = most_reads w.plan.record.heads (drop (w.done - length w.plan.record.heads) w.plan.record.tiles)
