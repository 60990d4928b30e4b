use Rattle.std.proofs.Common.{rules, ◌≡◌, ℤ, get_or, take, drop, sym, subst}
use Rattle.std.specs.Int.{w8, w16, from_be_bytes, cast_signed}
use Rattle.cdb_manifest.proofs.EntryLaws.{other_up, other_right}
use Rattle.cdb_grid.specs.Units.{IsGeocell}
use Rattle.cdb_grid.specs.declared.geocell.Geocell.{Geocell}
use Rattle.cdb_manifest.proofs.entry.tile_of.Goals as goal

-- the corner of a geocell, by other names of its degrees
corner_of : (cell : Geocell) (lat lon : ℤ) → lat ≡ cell.lat → lon ≡ cell.lon → IsGeocell lat lon
corner_of cell lat lon p q =
    let own : IsGeocell cell.lat cell.lon =
    record { south = cell.south; north = cell.north; west = cell.west; east = cell.east; on_grid = cell.on_grid } in
    subst (λ (y : ℤ). IsGeocell y lon) (sym p) (subst (λ (x : ℤ). IsGeocell cell.lat x) (sym q) own)

pub returns-in_err-cell : goal.returns-in_err-cell
returns-in_err-cell c = rw c.from_residual-in_err-cell.ensures (λ tile h.
    let lat = h.lat in
    let lon = h.lon in
    c.in_err-cell.ensures (corner_of tile.cell _ _ (search rules) (search rules)))

pub returns-then-up-across : goal.returns-then-up-across
returns-then-up-across c =
    let level : cast_signed w8 (get_or c.args.entry.now 1 0) ≡ c.in_ok-level.level.number = search rules in
    other_up c.args.entry.now c.in_ok-level.level c.number_in-up.result c.tiles_across-across.result level
    c.number_in-up.ensures c.tiles_across-across.ensures.value c.if-up-across.true

pub returns-then-right-across : goal.returns-then-right-across
returns-then-right-across c =
    let level : cast_signed w8 (get_or c.args.entry.now 1 0) ≡ c.in_ok-level.level.number = search rules in
    other_right c.args.entry.now c.in_ok-level.level c.number_in-right.result c.tiles_across-across.result level
    c.number_in-right.ensures c.tiles_across-across.ensures.value c.if-right-across.true

pub returns : goal.returns
returns c =
    let cell = c.in_ok-cell.ensures in
    let lat : cast_signed w8 (get_or c.args.entry.now 2 0) ≡ c.in_ok-cell.cell.lat = search rules in
    let lon : cast_signed w16 (from_be_bytes w16 (take 2 (drop 4 c.args.entry.now))) ≡ c.in_ok-cell.cell.lon =
    search rules in
    record {
      family = search rules;
      level = search rules;
      lat = lat;
      zero_3 = search rules;
      lon = lon;
      zero_6 = search rules;
      zero_7 = search rules;
      up = search rules;
      right = search rules;
    }
