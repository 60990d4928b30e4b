-- What is known of a store: all of its publications, or nothing but what its records tell. The machine is one table
-- over both.
use Rattle.std.specs.Prelude.{◌≡◌, ℕ, ◌+◌, ◌<◌, List, [], ◌∷◌, ◌++◌, length}
use Rattle.cdb_grid.specs.declared.tile.Tile.{Tile}
use Rattle.cdb_source.specs.Reached.{Reached}
use Rattle.cdb_source.specs.declared.source.Source.{Source}
use Rattle.cdb_model.specs.Publications.{Publication, publication_of, heads_of, sources_up_to, IsEntryCount, step_count}
use Rattle.cdb_model.specs.TileFile.{tile_bytes}

-- what is known of the publications of a store, of the one that is going, and of one that was given up
pub record Kind : Type 1 where
  pub Listed : Type 0
  pub Planned : Type 0
  pub Dropped : Type 0
  pub drop : Planned → Dropped
  -- how many publications there are, and how many tiles their records have together
  pub versions : Listed → ℕ
  pub HasEntries : Listed → ℕ → Type 0
  -- these pending sources, which touch these tiles, are going, with so many steps left
  pub Starts : Listed → List Source → List Tile → Planned → ℕ → Type 0
  -- the one that was going is the newest
  pub add : Listed → Planned → Listed
  -- the bytes of a tile's file up to a version, and that there is none
  pub Serves : Listed → ℕ → Tile → List ℕ → Type 0
  pub Misses : Listed → ℕ → Tile → Type 0
  -- what a damaged file may do
  pub Maybe : Type 0 → Type 0

-- ---- a store of which all publications are known

-- A tile's file has the bytes that the sources up to the version give it, where one of them reaches the tile, and is
-- missing where none does. No file is damaged.
abbrev pub known_store : Kind
known_store = record {
  Listed = List Publication;
  Planned = Publication;
  Dropped = Publication;
  drop = λ x. x;
  versions = length;
  HasEntries = IsEntryCount;
  Starts = λ list pending tiles x left. (x ≡ publication_of pending) × (left ≡ step_count list x tiles);
  add = λ list x. list ++ x ∷ [];
  Serves = λ list version t bytes.
      Reached (heads_of (sources_up_to version list)) t × (bytes ≡ tile_bytes (sources_up_to version list) t);
  Misses = λ list version t. Reached (heads_of (sources_up_to version list)) t → ⊥;
  Maybe = λ X. ⊥;
}

-- ---- a store of which nothing is known but how many publications and tiles its records have

pub record Counted : Type 0 where
  pub versions : ℕ
  pub entries : ℕ

-- Of the publication that is going it is known how many files it makes. What a tile's file has, whether there is one,
-- whether one is damaged, and how many steps a publication has stays open.
abbrev pub any_store : Kind
any_store = record {
  Listed = Counted;
  Planned = ℕ;
  Dropped = Unit {0};
  drop = λ files. tt;
  versions = λ c. c.versions;
  HasEntries = λ c n. n ≡ c.entries;
  Starts = λ c pending tiles files left. (files ≡ length tiles) × (0 < left);
  add = λ c files. record { versions = c.versions + 1; entries = c.entries + files };
  Serves = λ c version t bytes. Unit {0};
  Misses = λ c version t. Unit {0};
  Maybe = λ X. X;
}

-- ---- one or the other

pub data Which : Type 0 where
  known : Which
  any : Which

abbrev pub store_kind : Which → Kind
store_kind known = known_store
store_kind any = any_store
