-- What reading a name gives, by tiles.
use Rattle.std.proofs.Common.{◌≡◌, ℕ, ◌+◌, ◌-◌, ◌≤◌, List, [], ◌∷◌, length, take, None, Result, Ok, Err, refl, ap, sym, ◌∙◌, arith, length-append}
use Rattle.std.specs.Prelude.{codes, IfOk, IfErr}
use Rattle.cdb_grid.specs.declared.tile.Tile.{Tile}
use Rattle.cdb_model.specs.declared.name_error.NameError.{NameError}
use Rattle.cdb_model.specs.Names.{Text, lat_text, lon_text, dataset_text, level_text, up_text, right_text, name_fields, name, spell, FirstWrong}
use Rattle.cdb_names.specs.Reading.{name_at, Spelled, spelled_tile, IsReadAs}
use Rattle.cdb_names.proofs.FolderLaws.{InFolder}
use Rattle.cdb_names.specs.Places.{OneWrongPlaceOfNames, NamesHaveNoWrongPlace}
use Rattle.cdb_names.proofs.Settled.{AreFields, Settles, one_rest, never_stops}
use Rattle.cdb_names.proofs.NameLaws.{fields_in, name_says, name_again}
use Rattle.cdb_names.proofs.SameTile.{same_tile}

-- the name of the numbers
abbrev name_of : Spelled → Text
name_of s =
    spell (lat_text s.lat ∷ lon_text s.lon ∷ dataset_text s.family ∷ level_text s.level ∷ up_text s.up
    ∷ right_text s.right ∷ codes ".tif" ∷ []) []

pub same_name : (a b : Tile) → spelled_tile a ≡ spelled_tile b → name a ≡ name b
same_name a b e = ap name_of e

-- fields in front make a text no shorter
pub spell_longer : (fs : List Text) (rest : Text) → length rest ≤ length (spell fs rest)
spell_longer [] rest = omega arith
spell_longer (f ∷ fs) rest = omega (arith, spell_longer fs rest, length-append f (spell fs rest))

-- where the rest begins
pub begins_at : (text rest : Text) (fs : List Text) → text ≡ spell fs rest
    → (length text - length rest) + length rest ≡ length text
begins_at text rest fs e = omega (arith, spell_longer fs rest, ap length e)

-- every tile stands in no folder
unfoldable pub anywhere : Tile → InFolder None
anywhere t = record { tile = t; lat = refl; lon = refl; dataset = refl; level = refl; up = refl }

pub name_found : (text : Text) (r : Result Tile NameError) → IsReadAs spelled_tile r (name_at None text text)
    → IfOk r (λ t. text ≡ name t)
name_found text (Ok t) e = let s = name_says None tt text text (Ok (spelled_tile t)) e in s.2 ∙ same_name s.0.tile t s.1
name_found text (Err e) h = tt

pub name_only : (text : Text) (r : Result Tile NameError) → IsReadAs spelled_tile r (name_at None text text)
    → (t : Tile) → text ≡ name t → r ≡ Ok t
unfolding anywhere
name_only text (Ok found) e t is =
    let again : name_at None text text ≡ Ok (spelled_tile t) = ap (λ (x : Text). name_at None text x) is
    ∙ name_again None tt text (anywhere t) in
    let k : ◌≡◌ {A = Result Spelled NameError} (Ok (spelled_tile found)) (Ok (spelled_tile t)) = sym e ∙ again in
    let s : spelled_tile found ≡ spelled_tile t = ok_is (spelled_tile found) (spelled_tile t) k in
    ap Ok (same_tile found t s)
  where
    ok_is : (a b : Spelled) → ◌≡◌ {A = Result Spelled NameError} (Ok a) (Ok b) → a ≡ b
    ok_is a b h = cc
name_only text (Err wrong) e t is =
    let again : name_at None text text ≡ Ok (spelled_tile t) = ap (λ (x : Text). name_at None text x) is
    ∙ name_again None tt text (anywhere t) in
    let k : ◌≡◌ {A = Result Spelled NameError} (Err wrong) (Ok (spelled_tile t)) = sym e ∙ again in
    absurd cc

-- where a text stops among the tiles in no folder, it stops among all
anywhere_settles : (text rest : Text) → Settles (fields_in {folder = None}) text rest → Settles name_fields text rest
unfolding anywhere
anywhere_settles text rest s = record {
  stops = record {
    value = s.stops.value.tile;
    count = s.stops.count;
    begins = s.stops.begins;
    no_more = λ other after b. s.stops.no_more (anywhere other) after b;
  };
  one = λ x after b. s.one (anywhere x) after b;
}

pub name_wrong : (text : Text) (r : Result Tile NameError) → IsReadAs spelled_tile r (name_at None text text)
    → IfErr r (λ e. FirstWrong name_fields text e.place)
name_wrong text (Ok t) e = tt
name_wrong text (Err wrong) e =
    let s = name_says None tt text text (Err wrong) e in
    let stops = (anywhere_settles text s.0 s.1).stops in
    let place : length text - length s.0 ≡ wrong.place = ap (λ (x : NameError). x.place) s.2 in
    record {
      rest = s.0;
      stops = stops;
      place_is = ap (λ (k : ℕ). k + length s.0) (sym place)
          ∙ begins_at text s.0 (take stops.count (name_fields stops.value)) stops.begins.parts;
    }

-- ---- the first wrong field is one, and of a name none is wrong

pub are_name_fields : (t : Tile) → AreFields (name_fields t)
are_name_fields t = (
  (λ rest. refl),
  ((λ rest. refl), ((λ rest. refl), ((λ rest. refl), ((λ rest. refl), ((λ rest. refl), ((λ rest. refl), tt)))))),
)

pub one_wrong_in_name : OneWrongPlaceOfNames
one_wrong_in_name text p q a b = by (name_at None text text) refl
  where
    by : (r : Result Spelled NameError) → name_at None text text ≡ r → p ≡ q
    by (Ok s) e =
        let says = name_says None tt text text (Ok s) e in
        absurd (never_stops name_fields are_name_fields text a.rest says.0.tile says.2 a.stops)
    by (Err wrong) e =
        let says = name_says None tt text text (Err wrong) e in
        let s = anywhere_settles text says.0 says.1 in
        let first = ap length (one_rest name_fields are_name_fields text says.0 a.rest s a.stops) in
        let second = ap length (one_rest name_fields are_name_fields text says.0 b.rest s b.stops) in
        omega (arith, first, second, a.place_is, b.place_is)

pub none_in_name : NamesHaveNoWrongPlace
none_in_name t place a = never_stops name_fields are_name_fields (name t) a.rest t refl a.stops

-- tiles of one name are one
pub one_tile : (t u : Tile) → name t ≡ name u → t ≡ u
unfolding anywhere
one_tile t u is = tile_is (name_only (name t) (Ok t) (name_again None tt (name t) (anywhere t)) u is)
  where
    tile_is : ◌≡◌ {A = Result Tile NameError} (Ok t) (Ok u) → t ≡ u
    tile_is e = cc
