-- The lines of the script: what each says, and the words that it is written in.
use Rattle.std.specs.Prelude.{◌≡◌, ℕ, ◌+◌, ℤ, pos, Bool, not, ◌&&◌, ◌||◌, List, [], ◌∷◌, length, take, drop, codes, Option, Some, None, is_some, option_map, option_and_then, nat_lt, nat_le, ◌==◌, if◌then◌else◌}
use Rattle.std.specs.Char.{is_ascii_alphanumeric, is_ascii_graphic}
use Rattle.std.specs.List.{list_all, slice_split, position_or_len}
use Rattle.std.specs.Str.{bytes_eq}
use Rattle.cdb_grid.specs.declared.fraction.Fraction.{Fraction}
use Rattle.cdb_source.specs.declared.kind.Kind.{Kind}
use Rattle.cdb_source.specs.declared.kind.Kind.TheVariants.{Elevation, Material}
use Rattle.cdb_model.specs.declared.line.InlineWords.{InlineWords}
use Rattle.cdb_model.specs.declared.line.LoadWords.{LoadWords}
use Rattle.cdb_model.specs.declared.line.Line.{Line}
use Rattle.cdb_model.specs.declared.line.Line.TheVariants as line
use Rattle.cdb_model.specs.declared.line_error.LineError.{LineError}
use Rattle.cdb_model.specs.declared.line_error.LineError.TheVariants.{Syntax, Name}
use Rattle.cdb_model.specs.Names.{name, name_fields, FirstWrong}
use Rattle.cdb_model.specs.Text.{Text}
use Rattle.cdb_model.specs.Words.{◌>>=◌, words, first_word, first_field, only_word, digits, signed}

-- what a source's posts are, its level, its south-west corner and its steps
pub record Head : Type 0 where
  pub kind : Kind
  pub level : ℤ
  pub lat : Fraction
  pub lon : Fraction
  pub dlat : Fraction
  pub dlon : Fraction

-- a source whose posts stand in the line
pub record InlineSource : Type 0 where
  pub head : Head
  pub rows : ℕ
  pub cols : ℕ
  pub posts : List ℤ

-- a source whose posts a file holds
pub record FileSource : Type 0 where
  pub head : Head
  pub novalue : ℤ
  pub path : Text

-- what a line says; a tile is asked for by the number of a session and a file name
pub data Sentence : Type 0 where
  inline : InlineSource → Sentence
  source : FileSource → Sentence
  publish : Sentence
  step : ℕ → Sentence
  step_all : Sentence
  open_session : Sentence
  tile : ℕ → Text → Sentence
  close : ℕ → Sentence
  versions : Sentence
  quit : Sentence
  blank : Sentence

abbrev pub kind_word : Text → Option Kind
kind_word w =
    if bytes_eq w (codes "elev") then Some Elevation else
    if bytes_eq w (codes "mat") then Some Material else None

abbrev pub is_slash : ℕ → Bool
is_slash c = c == 47

-- a fraction by what stands before the first slash, and after it where there is one; without a slash it is a whole
-- number
abbrev pub fraction_of : Text → Option Text → Option Fraction
fraction_of top None = option_map (λ n. record { n = n; d = pos 1 }) (signed 18 top)
fraction_of top (Some bottom) = do
  n ← signed 18 top
  d ← digits 18 bottom
  Some (record { n = n; d = pos d })

-- what stands after the first slash, where there is one
abbrev pub after_slash : Text → Option Text
after_slash w =
    if nat_lt (position_or_len is_slash w) (length w) then Some (drop (position_or_len is_slash w + 1) w) else None

-- the fraction that a word spells: an optional minus and 1 to 18 digits, then optionally a slash and 1 to 18 digits
unfoldable pub fraction : Text → Option Fraction
fraction w = fraction_of (take (position_or_len is_slash w) w) (after_slash w)

-- letters, digits, `_`, `-` and `.`
abbrev pub is_path_byte : ℕ → Bool
is_path_byte c = is_ascii_alphanumeric c || (c == 95) || (c == 45) || (c == 46)

abbrev pub is_part : Text → Bool
is_part p = nat_lt 0 (length p) && list_all is_path_byte p && not (bytes_eq p (codes "."))
    && not (bytes_eq p (codes ".."))

-- 1 to 128 bytes: parts joined by slashes
unfoldable pub path_word : Text → Option Text
path_word w = if nat_le (length w) 128 && list_all is_part (slice_split is_slash w) then Some w else None

-- 1 to 128 visible bytes
unfoldable pub file_name : Text → Option Text
file_name w = if nat_lt 0 (length w) && nat_le (length w) 128 && list_all is_ascii_graphic w then Some w else None

-- a reading of each word of a list, where it reads them all
abbrev pub each : {X : Type 0} → (Text → Option X) → List Text → Option (List X)
each read [] = Some []
each read (w ∷ ws) = do
  x ← read w
  option_map (λ xs. x ∷ xs) (each read ws)

-- 1 to 64 posts of at most 6 digits
unfoldable pub posts : List Text → Option (List ℤ)
posts ws = if nat_lt 0 (length ws) && nat_le (length ws) 64 then each (signed 6) ws else None

unfoldable pub head : List Text → Option (Head × List Text)
head ws = do
  kind ← first_field kind_word ws
  level ← first_field (signed 9) kind.1
  lat ← first_field fraction level.1
  lon ← first_field fraction lat.1
  dlat ← first_field fraction lon.1
  dlon ← first_field fraction dlat.1
  Some (record { kind = kind.0; level = level.0; lat = lat.0; lon = lon.0; dlat = dlat.0; dlon = dlon.0 }, dlon.1)

-- the words after `inline`
unfoldable pub inline_source : List Text → Option InlineSource
inline_source ws = do
  h ← head ws
  rows ← first_field (digits 9) h.1
  cols ← first_field (digits 9) rows.1
  option_map (λ ps. record { head = h.0; rows = rows.0; cols = cols.0; posts = ps }) (posts cols.1)

-- the words after `source`
unfoldable pub file_source : List Text → Option FileSource
file_source ws = do
  h ← head ws
  novalue ← first_field (signed 9) h.1
  option_map (λ p. record { head = h.0; novalue = novalue.0; path = p }) (only_word path_word novalue.1)

-- the word after `step`
abbrev pub step_word : Text → Option Sentence
step_word w = if bytes_eq w (codes "all") then Some step_all else option_map step (digits 9 w)

-- the words after `tile`
unfoldable pub tile_request : List Text → Option Sentence
tile_request ws = do
  id ← first_field (digits 9) ws
  option_map (λ name. tile id.0 name) (only_word file_name id.1)

-- a line of this one word
unfoldable pub one_word : Text → Option Sentence
one_word w =
    if bytes_eq w (codes "publish") then Some publish else
    if bytes_eq w (codes "open") then Some open_session else
    if bytes_eq w (codes "versions") then Some versions else
    if bytes_eq w (codes "quit") then Some quit else None

-- a line by its first word and the words after it
unfoldable pub sentence : Text → List Text → Option Sentence
sentence first ws =
    if bytes_eq first (codes "inline") then option_map inline (inline_source ws) else
    if bytes_eq first (codes "source") then option_map source (file_source ws) else
    if bytes_eq first (codes "step") then only_word step_word ws else
    if bytes_eq first (codes "tile") then tile_request ws else
    if bytes_eq first (codes "close") then option_map close (only_word (digits 9) ws) else
    if is_some (first_word ws) then None else one_word first

-- what a line says, where it is of the grammar
unfoldable pub line_of : Text → Option Sentence
line_of line =
    if bytes_eq line [] then Some blank else
    option_and_then (λ p. sentence p.0 p.1) (first_word (words line))

-- what the words of a source say
abbrev pub inline_in : InlineWords → InlineSource
inline_in w = record {
  head = record { kind = w.kind; level = w.level; lat = w.lat; lon = w.lon; dlat = w.dlat; dlon = w.dlon };
  rows = w.rows;
  cols = w.cols;
  posts = w.posts.items;
}

abbrev pub file_in : LoadWords → FileSource
file_in w = record {
  head = record { kind = w.kind; level = w.level; lat = w.lat; lon = w.lon; dlat = w.dlat; dlon = w.dlon };
  novalue = w.novalue;
  path = w.path.bytes;
}

-- what a line says that was read; a tile is asked for by its file name
abbrev pub sentence_in : Line → Sentence
sentence_in (line.Inline w) = inline (inline_in w)
sentence_in (line.Source w) = source (file_in w)
sentence_in line.Publish = publish
sentence_in (line.Step n) = step n
sentence_in line.StepAll = step_all
sentence_in line.Open = open_session
sentence_in (line.Tile id t) = tile id (name t)
sentence_in (line.Close id) = close id
sentence_in line.Versions = versions
sentence_in line.Quit = quit
sentence_in line.Blank = blank

-- a request for a tile by a file name that isn't one: its first wrong field begins at this place
pub record IsMisnamed (line : Text) (place : ℕ) : Type 0 where
  pub id : ℕ
  pub file : Text
  pub says : line_of line ≡ Some (tile id file)
  pub wrong : FirstWrong name_fields file place

-- why a line says nothing: it isn't of the grammar, or it misnames a tile
abbrev pub IsRefused : LineError → Text → Type 0
IsRefused Syntax line = line_of line ≡ None
IsRefused (Name place) line = IsMisnamed line place
