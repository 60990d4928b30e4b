-- The rows of new sources that a tile takes.
use Rattle.std.specs.Prelude.{◌≡◌, ℕ, ◌+◌, ◌*◌, ◌≤◌, Bool, ◌&&◌, if◌then◌else◌, List, [], ◌∷◌, ◌++◌, slice_get, Some}
use Rattle.std.specs.Ordering.{int_eq}
use Rattle.cdb_grid.specs.declared.tile.Tile.{Tile}
use Rattle.cdb_source.specs.declared.head.SourceHead.{SourceHead}
use Rattle.cdb_source.specs.declared.limits.TheConstants.{SOURCE_FRONT_BYTES}
use Rattle.cdb_model.specs.Names.{source_path}
use Rattle.cdb_cut.specs.Window.{IsWindow, has_window}
use Rattle.cdb_publish.specs.Needs.{Need}

-- A tile takes rows of a source of its kind and of exactly its level, where some place of it lies in the source's box.
abbrev pub takes_rows : SourceHead → Tile → Bool
takes_rows head t = int_eq head.level.number t.level.number && has_window head t

-- The length of a source's file.
abbrev pub source_size : SourceHead → ℕ
source_size head = SOURCE_FRONT_BYTES + 2 * (head.rows * head.cols)

-- What is to be read of a version's source of this number.
abbrev pub window_need : ℕ → ℕ → SourceHead → Tile → List Need
window_need version number head t = if takes_rows head t then record {
  path = source_path version number;
  size =
      source_size head;
} ∷ [] else []

-- And of all its sources, whose first has this number, the newest first.
abbrev pub window_needs : ℕ → ℕ → List SourceHead → Tile → List Need
window_needs version number [] t = []
window_needs version number (head ∷ heads) t = window_needs version
    (number + 1) heads t ++ window_need version number head t

-- So many posts are room for the rows that a tile takes.
abbrev pub HasRoomFor : SourceHead → Tile → ℕ → Type 0
HasRoomFor head t room = head.level.number ≡ t.level.number → (first count : ℕ) → IsWindow head t first count
    → count * head.cols ≤ room

-- And those of any of these sources.
abbrev pub HasRoom : List SourceHead → Tile → ℕ → Type 0
HasRoom heads t room = (k : ℕ) (head : SourceHead) → slice_get heads k ≡ Some head → HasRoomFor head t room
