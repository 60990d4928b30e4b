-- The tiles of sources that are drawn, and what is handed to an engine.
use Rattle.std.proofs.Common.{◌≡◌, ℕ, ◌≤◌, List, length, subst, arith}
use Rattle.cdb_grid.specs.declared.tile.Tile.{Tile}
use Rattle.cdb_source.specs.Reached.{Reached, ListsOnce, IsTouched, IsLoad}
use Rattle.cdb_source.specs.declared.head.SourceHead.{SourceHead}
use Rattle.cdb_source.specs.declared.source.Source.{Source}
use Rattle.cdb_source.proofs.LoadLaws.{within_load}
use Rattle.cdb_model.specs.Publications.{heads_of}
use Rattle.cdb_touch.specs.Touched.{IsAscending}
use Rattle.cdb_generate.specs.Generator.{PublicationDrawn}
use Rattle.cdb_generate.proofs.LoadLaws.{drawn_fits}

pub touched_by : (heads given : List SourceHead) (tiles : List Tile) → heads ≡ given
    → ListsOnce (Reached heads) tiles → IsAscending tiles
    → IsTouched given tiles
touched_by heads given tiles e listed ordered =
    subst (λ (hs : List SourceHead). IsTouched hs tiles) e (record { exact = listed.exact; ordered = ordered })

pub few_touched : (x load : ℕ) (sources : List Source) (heads : List SourceHead) (tiles : List Tile)
    → PublicationDrawn x sources
    → heads ≡ heads_of sources → IsLoad heads load → IsTouched (heads_of sources) tiles → length tiles ≤ 16384
few_touched x load sources heads tiles drawn e is touched =
    let loaded : IsLoad (heads_of sources) load = subst (λ (hs : List SourceHead). IsLoad hs load) e is in
    let few : load ≤ 3600 = drawn_fits.load x sources load drawn loaded in
    let within : length tiles ≤ load = within_load (heads_of sources) load tiles loaded touched in
    omega arith
