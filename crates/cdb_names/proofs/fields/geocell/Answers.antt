use Rattle.std.proofs.Common.{◌≡◌, ◌%◌, Bool, true, false, cond, Option, Some, None, refl, ap, sym, subst, ◌∙◌, ℤ, pos, negsuc, ◌≤ℤ◌, rules, FitsSigned, w8, w16, to_z-of_z}
use Rattle.std.specs.Prelude.{option_map, MatchOption, IfSome}
use Rattle.std.proofs.lemmas.Bool.{eqb-true, eq-eqb}
use Rattle.cdb_grid.specs.Units.{width_at, row_of, column_of, IsGeocell}
use Rattle.cdb_grid.specs.declared.geocell.Geocell.{Geocell}
use Rattle.cdb_names.specs.Fields.{is_on_grid}
use Rattle.cdb_names.proofs.fields.geocell.Goals as goal

lon_where_on_grid : (lat lon : ℤ) (cell : Option Geocell) → negsuc 89 ≤ℤ lat → lat ≤ℤ pos 89 → negsuc 179 ≤ℤ lon
    → lon ≤ℤ pos 179
    → MatchOption cell (IsGeocell lat lon → ⊥) (λ cell. (cell.lat ≡ lat) × (cell.lon ≡ lon))
    → option_map (λ (cell : Geocell). cell.lon) cell ≡ cond (is_on_grid lat lon) (Some lon) None
lon_where_on_grid lat lon None south north west east none = by (is_on_grid lat lon) refl
  where
    by : (b : Bool) → is_on_grid lat lon ≡ b → None ≡ cond b (Some lon) None
    by true e =
        absurd (none
        (record {
          south = south;
          north = north;
          west = west;
          east = east;
          on_grid = eqb-true (column_of lon % width_at (row_of lat)) 0 e;
        }))
    by false e = refl
lon_where_on_grid lat lon (Some cell) south north west east same =
    let here : column_of lon % width_at (row_of lat) ≡ 0 = subst (λ (y : ℤ). column_of lon % width_at (row_of y) ≡ 0)
    same.0 (subst (λ (x : ℤ). column_of x % width_at (row_of cell.lat) ≡ 0) same.1 cell.on_grid) in
    let yes : is_on_grid lat lon ≡ true = eq-eqb (column_of lon % width_at (row_of lat)) 0 here in
    ap Some same.1 ∙ sym (ap (λ (b : Bool). cond b (Some lon) None) yes)

on_grid : (lat lon : ℤ) (cell : Option Geocell)
    → MatchOption cell (IsGeocell lat lon → ⊥) (λ cell. (cell.lat ≡ lat) × (cell.lon ≡ lon))
    → IfSome cell (λ _. is_on_grid lat lon ≡ true)
on_grid lat lon None none = tt
on_grid lat lon (Some cell) same = eq-eqb (column_of lon % width_at (row_of lat)) 0
    (subst (λ (y : ℤ). column_of lon % width_at (row_of y) ≡ 0)
    same.0 (subst (λ (x : ℤ). column_of x % width_at (row_of cell.lat) ≡ 0) same.1 cell.on_grid))

pub returns-clause-value : goal.returns-clause-value
returns-clause-value c =
    let fits_lat : FitsSigned w8 c.args.lat = search rules in
    let fits_lon : FitsSigned w16 c.args.lon = search rules in
    lon_where_on_grid c.args.lat c.args.lon c.new.result c.requires.south c.requires.north c.requires.west
    c.requires.east (rw (to_z-of_z fits_lat, to_z-of_z fits_lon) at c.new.ensures)

pub returns-clause-grid : goal.returns-clause-grid
returns-clause-grid c =
    let fits_lat : FitsSigned w8 c.args.lat = search rules in
    let fits_lon : FitsSigned w16 c.args.lon = search rules in
    on_grid c.args.lat c.args.lon c.new.result (rw (to_z-of_z fits_lat, to_z-of_z fits_lon) at c.new.ensures)
