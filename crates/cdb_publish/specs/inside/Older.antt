-- Inside the crate: finer tiles that the publication doesn't touch, whose parts stay as the tile before has them.
use Rattle.std.specs.Prelude.{◌≡◌, ℕ, Bool, false, not, ◌&&◌, if◌then◌else◌, ℤ, List, [], Option, Some, All}
use Rattle.cdb_grid.specs.declared.tile.Tile.{Tile}
use Rattle.cdb_source.specs.declared.head.SourceHead.{SourceHead}
use Rattle.cdb_source.specs.declared.source.Source.{Source}
use Rattle.cdb_manifest.specs.declared.record_.Record.{Record}
use Rattle.cdb_cut.specs.Laws.{IsOwn, IsExtreme}
use Rattle.cdb_cut.specs.OneTile.{IsIdleOver, IsWholeOver}
use Rattle.cdb_chain.specs.LookUps.{is_listed}
use Rattle.cdb_publish.specs.LookUps.{look, needs_of}
use Rattle.cdb_publish.specs.Needs.{Need}
use Rattle.cdb_publish.specs.declared.plan.Plan.{Plan}

-- What is read of a finer tile: its file, but nothing where its part is taken from the tile before.
abbrev pub folded_needs : Bool → Plan → List Record → Tile → List Need
folded_needs from_older p kept c =
    if from_older && not (is_listed p.record.tiles c) then [] else needs_of c (look p kept c)

-- A finer tile that the publication doesn't touch has a file.
abbrev pub IsKept : Plan → List Record → Tile → Type 0
IsKept p kept c = (is_listed p.record.tiles c ≡ false) × ((version : ℕ) × (look p kept c ≡ Some version))

-- None of these sources has exactly a tile's level.
abbrev pub NoneAtLevel : List SourceHead → Tile → Type 0
NoneAtLevel heads t = All (λ (head : SourceHead). head.level.number ≡ t.level.number → ⊥) heads

-- Over a finer tile nothing is to be folded into elevations or materials, and for least or greatest elevations another
-- frame has what the fold would give.
pub record StaysOver (ss : List Source) (t : Tile) (start : ℕ → ℕ → Option ℤ) (older : List ℤ) (c : Tile) : Type 0 where
  pub own : IsOwn t.family → IsIdleOver ss t start c
  pub extreme : IsExtreme t.family → IsWholeOver ss t start c older
