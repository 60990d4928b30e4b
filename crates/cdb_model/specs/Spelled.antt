-- The source that the words of a line spell, by themselves or together with a file.
use Rattle.std.specs.Prelude.{◌≡◌, ℕ, ◌*◌, ℤ, List, length, map, take, drop}
use Rattle.std.specs.List.{range_with_len}
use Rattle.cdb_grid.specs.Units.{IsFraction}
use Rattle.cdb_grid.specs.declared.fraction.Fraction.{Fraction}
use Rattle.cdb_source.specs.Posts.{none_of, post_of}
use Rattle.cdb_source.specs.declared.head.SourceHead.{SourceHead}
use Rattle.cdb_source.specs.declared.source.Source.{Source}
use Rattle.cdb_tiff_base.specs.Numbers.{Bytes}
use Rattle.cdb_tiff_base.specs.Pixels.{pixel}
use Rattle.cdb_tiff_base.specs.Strips.{image_width, image_length}
use Rattle.cdb_model.specs.Grammar.{Head, InlineSource, FileSource}
use Rattle.cdb_model.specs.Text.{last_first}

-- a fraction of degrees is so many arc units
abbrev pub IsUnits : Fraction → ℤ → Type 0
IsUnits f units = IsFraction f.n f.d units

-- words give the head of a source, of so many rows and columns
pub record SpellsHead (w : Head) (rows cols : ℕ) (head : SourceHead) : Type 0 where
  pub kind : head.kind ≡ w.kind
  pub level : head.level.number ≡ w.level
  pub lat : IsUnits w.lat head.lat.units
  pub lon : IsUnits w.lon head.lon.units
  pub dlat : IsUnits w.dlat head.dlat.units
  pub dlon : IsUnits w.dlon head.dlon.units
  pub rows_are : head.rows ≡ rows
  pub cols_are : head.cols ≡ cols

-- a row of posts that stand one after another, rows of so many each
abbrev pub spelled_row : ℕ → List ℤ → ℕ → List ℤ
spelled_row cols posts r = take cols (drop (r * cols) posts)

-- a row of a TIFF file's samples, from the top
abbrev pub row_of_pixels : Bytes → ℕ → List ℤ
row_of_pixels bytes r = map (λ c. pixel bytes r c) (range_with_len 0 (image_width bytes))

-- words with their posts, the north row first, spell a source, whose posts stand south row first
pub record SpellsSource (w : InlineSource) (s : Source) : Type 0 where
  pub head : SpellsHead w.head w.rows w.cols s.head
  pub count : length w.posts ≡ w.rows * w.cols
  pub posts : s.posts ≡ map (post_of w.head.kind (none_of w.head.kind)) (last_first w.rows (spelled_row w.cols w.posts))

-- words spell a source whose posts are the samples of a TIFF file; a sample that is the words' number stands for none
pub record SpellsLoaded (w : FileSource) (bytes : Bytes) (s : Source) : Type 0 where
  pub head : SpellsHead w.head (image_length bytes) (image_width bytes) s.head
  pub posts : s.posts ≡ map (post_of w.head.kind w.novalue) (last_first (image_length bytes) (row_of_pixels bytes))
