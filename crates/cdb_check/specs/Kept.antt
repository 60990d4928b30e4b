-- Tiles that are kept, with their values.
use Rattle.std.specs.Prelude.{List, All}
use Rattle.cdb_source.specs.declared.source.Source.{Source}
use Rattle.cdb_cut.specs.OneTile.{IsFrameOf}
use Rattle.cdb_check.specs.declared.kept.Kept.{Kept}

-- each kept frame has the numbers of its tile over these sources
unfoldable pub AreKeptFrames : List Source → List Kept → Type 0
AreKeptFrames ss entries = All (λ (k : Kept). IsFrameOf ss k.tile k.frame.items) entries
