-- Laws of the generator.
use Rattle.std.specs.Prelude.{◌≡◌, ℕ, ◌+◌, ◌<◌, ◌≤◌, ℤ, pos, ◌+ℤ◌, List, [], ◌∷◌, ◌++◌, length, take, get_or}
use Rattle.cdb_grid.specs.declared.tile.Tile.{Tile}
use Rattle.cdb_source.specs.Reached.{IsLoad}
use Rattle.cdb_source.specs.declared.source.Source.{Source}
use Rattle.cdb_model.specs.Text.{Text}
use Rattle.cdb_model.specs.Publications.{Publication, sources_in, sources_of, heads_of, Touches}
use Rattle.cdb_generate.specs.Generator.{drawn, count_drawn, PublicationDrawn, AreDrawn, state_next}
use Rattle.cdb_generate.specs.Sums.{tile_sum, tiles_sum}
use Rattle.cdb_generate.specs.Generated.{GeneratedSoFar, TellsLines}

-- from the start 1 the first draw is this number, so that the first publication has two sources
pub record FromOne : Type 0 where
  pub first : drawn 1 1 ≡ 1817669548
  pub sources : count_drawn 1 ≡ 2

-- what is drawn may be published: it has one to three sources, and their load is at most 3,600, where 16,384 is allowed
pub record DrawnFits : Type 0 where
  pub some : (x : ℕ) (sources : List Source) → PublicationDrawn x sources → 1 ≤ length sources
  pub few : (x : ℕ) (sources : List Source) → PublicationDrawn x sources → length sources ≤ 3
  pub load : (x : ℕ) (sources : List Source) (load : ℕ)
      → PublicationDrawn x sources → IsLoad (heads_of sources) load → load ≤ 3600

-- the first of publications that are drawn are drawn, and one more may be drawn from the state after them
pub record DrawnInOrder : Type 0 where
  pub first : (start : ℕ) (first later : List Publication) → AreDrawn start (first ++ later) → AreDrawn start first
  pub begins : (from : List Publication) (start : ℕ) → GeneratedSoFar from start start 0 0 (pos 0) from
  pub more : (from : List Publication) (start state done files : ℕ) (sum : ℤ) (list : List Publication)
      (p : Publication) (tiles : List Tile)
      → GeneratedSoFar from start state done files sum list → PublicationDrawn state (sources_in p) → Touches p tiles
      → GeneratedSoFar from start (state_next state) (done + 1) (files + length tiles)
      (sum +ℤ tiles_sum (sources_of (list ++ p ∷ [])) tiles) (list ++ p ∷ [])

-- the sum of tiles, tile by tile
pub record SumsInOrder : Type 0 where
  pub begins : (ss : List Source) (tiles : List Tile) → tiles_sum ss (take 0 tiles) ≡ pos 0
  pub more : (ss : List Source) (tiles : List Tile) (i : ℕ) (t : Tile) → i < length tiles
      → tiles_sum ss (take (i + 1) tiles) ≡ tiles_sum ss (take i tiles) +ℤ tile_sum ss (get_or tiles i t)

-- a start and a number of publications draw one list of them, and what is told of them in one store is one text
pub record OneSummary : Type 0 where
  pub list : (start : ℕ) (a b : List Publication) → length a ≡ length b → AreDrawn start a → AreDrawn start b → a ≡ b
  pub text : (from : List Publication) (start count : ℕ) (a b : List Publication) (wrote wrote' : Text)
      → length a ≡ count → length b ≡ count → AreDrawn start a → AreDrawn start b
      → TellsLines from a count wrote → TellsLines from b count wrote' → wrote ≡ wrote'
