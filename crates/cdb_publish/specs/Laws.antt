-- Laws of publications.
use Rattle.std.specs.Prelude.{◌≡◌, ℕ, ◌+◌, List, true}
use Rattle.cdb_grid.specs.declared.tile.Tile.{Tile}
use Rattle.cdb_source.specs.Reached.{Reaches}
use Rattle.cdb_source.specs.declared.head.SourceHead.{SourceHead}
use Rattle.cdb_source.specs.declared.source.Source.{Source}
use Rattle.cdb_model.specs.Publications.{step_count}
use Rattle.cdb_files.specs.Disk.{State}
use Rattle.cdb_manifest.specs.declared.record_.Record.{Record}
use Rattle.cdb_publish.specs.Going.{left_of, Underway}
use Rattle.cdb_publish.specs.Windows.{takes_rows}
use Rattle.cdb_publish.specs.declared.publication.Publication.{Publication}

-- The steps that are made and those that are left are all steps of the publication.
abbrev pub StepsAreCounted : Type 0
StepsAreCounted = (q : Publication) (P : List (List Source)) (x : List Source) (number : ℕ) (kept : List Record)
    (s : State) → (u : Underway q P x number kept s)
    → number + left_of q ≡ step_count P x u.work.plan.record.tiles

-- A source of which a tile takes rows is of exactly its level, and reaches it.
abbrev pub RowsReach : Type 0
RowsReach = (head : SourceHead) (t : Tile) → takes_rows head t ≡ true
    → (head.level.number ≡ t.level.number) × Reaches head t
