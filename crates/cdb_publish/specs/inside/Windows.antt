-- Inside the crate: the rows of new sources that a tile takes.
use Rattle.std.specs.Prelude.{◌≡◌, ℕ, ◌+◌, List, slice_get, Some}
use Rattle.cdb_source.specs.Texts.{source_text}
use Rattle.cdb_source.specs.declared.source.Source.{Source}
use Rattle.cdb_model.specs.Maps.{FileMap}
use Rattle.cdb_model.specs.Names.{source_path}

-- The sources of a version stand in their files.
abbrev pub HasSources : FileMap → ℕ → List Source → Type 0
HasSources m version x = (k : ℕ) (s : Source) → slice_get x k ≡ Some s
    → m (source_path version (k + 1)) ≡ Some (source_text s)
