-- A publication that is going, on a disk and beside a chain of records.
use Rattle.std.specs.Prelude.{◌≡◌, ℕ, ◌<◌, List, length, Some}
use Rattle.cdb_grid.specs.declared.tile.Tile.{Tile}
use Rattle.cdb_source.specs.Reached.{IsTouched}
use Rattle.cdb_source.specs.declared.head.SourceHead.{SourceHead}
use Rattle.cdb_source.specs.declared.source.Source.{Source}
use Rattle.cdb_files.specs.Disk.{State}
use Rattle.cdb_crash.specs.Plan.{IsMidAfter}
use Rattle.cdb_manifest.specs.declared.record_.Record.{Record}
use Rattle.cdb_publish.specs.Bounds.{most_reads, reads_left_in}
use Rattle.cdb_chain.specs.Publications.{AreRecords}
use Rattle.cdb_publish.specs.Fitting.{Fits, left_in}
use Rattle.cdb_publish.specs.declared.errors.Progress.{Progress}
use Rattle.cdb_publish.specs.declared.errors.Progress.TheVariants.{Going, Published}
use Rattle.cdb_publish.specs.declared.publication.Publication.{Publication}
use Rattle.cdb_publish.specs.declared.work.Work.{Work}

-- How many steps are left.
abbrev pub left_of : Publication → ℕ
left_of q = left_in q.work

-- How often its steps that aren't made read at most.
abbrev pub reads_left_of : Publication → ℕ
reads_left_of q = reads_left_in q.work

-- The publication of sources with these heads begins: it has their touched tiles, all steps are left, and they read
-- at most
-- six times for each tile, and once for each pair of a tile of elevations or of materials with a source that it is
-- painted from.
pub record IsBegun (q : Publication) (heads : List SourceHead) : Type 0 where
  pub tiles : List Tile
  pub touched : IsTouched heads tiles
  pub files : q.files ≡ length tiles
  pub some : 0 < left_of q
  pub reads : reads_left_of q ≡ most_reads heads tiles

-- The publication x after P is going, so many of its steps are made, and the disk is where these steps lead.
pub record Underway (q : Publication) (P : List (List Source)) (x : List Source) (number : ℕ) (kept : List Record)
    (s : State) : Type 0 where
  pub work : Work
  pub is : q.work ≡ Some work
  pub fits : Fits work P x number
  pub records : AreRecords kept P
  pub mid : IsMidAfter P x work.plan.record.tiles number s

-- A step says that the version is published exactly where one was left.
abbrev pub TellsProgress : ℕ → ℕ → Progress → Type 0
TellsProgress left version Going = 1 < left
TellsProgress left version (Published told) = (left ≡ 1) × (told ≡ version)
