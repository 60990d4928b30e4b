use Rattle.std.proofs.Common.{◌≡◌, ℕ, ◌+◌, ◌-◌, ◌*◌, ◌<◌, ◌≤◌, sym, subst, arith, rules}
use Rattle.cdb_grid.specs.Tiles.{tile_side}
use Rattle.cdb_source.specs.Sample.{row_step, corner_of}
use Rattle.cdb_source.specs.Reached.{kind_of}
use Rattle.cdb_cut.specs.Window.{LooksAt}
use Rattle.cdb_cut.specs.inside.Parts.{HasRuns}
use Rattle.cdb_cut.proofs.WindowLaws.{looked_at, looked_from}
use Rattle.cdb_cut.proofs.source_rows.window.Goals as goal

pub returns : goal.returns
returns c =
    let head = c.args.head.now in let t = c.args.tile.now in
    let p = c.places_of-places.result in
    let rows = c.rows_in_box-rows.result in let cols = c.columns_in_box-cols.result in
    let side : c.side.result ≡ tile_side t = c.side.ensures.value in
    let side_2 : c.side-2.result ≡ tile_side t = c.side-2.ensures.value in
    let runs : HasRuns head t p.north p.east p.up p.right rows.first rows.end cols.first cols.end = record {
      places = c.places_of-places.ensures.each;
      rows = λ k lt. c.rows_in_box-rows.ensures.each k (omega arith);
      cols = λ k lt. c.columns_in_box-cols.ensures.each k (omega arith);
      row_within = let w = c.rows_in_box-rows.ensures.end in omega arith;
      col_within = let w = c.columns_in_box-cols.ensures.end in omega arith;
    } in
    let kind : head.kind ≡ kind_of t.family = search rules in
    let south : c.south-south.result ≡ (corner_of head).north = c.south-south.ensures.value in
    let step : c.row_step.result ≡ row_step head = c.row_step.ensures.value in
    let r = c.rows_between.result in
    let some : rows.first < rows.end = omega arith in
    let wide : cols.first < cols.end = omega arith in
    let far_of : ℕ → ℕ → ℕ = λ k s. p.north + k * p.up - s in
    let near_looks : LooksAt head.kind (row_step head) (far_of rows.first (corner_of head).north) r.first =
    subst (λ s. LooksAt head.kind (row_step head) (far_of rows.first s) r.first) south
    (subst (λ m. LooksAt head.kind m (far_of rows.first c.south-south.result) r.first)
    step c.rows_between.ensures.first_looked) in
    let far_looks : LooksAt head.kind (row_step head) (far_of (rows.end - 1) (corner_of head).north)
    (r.first + r.count - 1) =
    subst (λ s. LooksAt head.kind (row_step head) (far_of (rows.end - 1) s) (r.first + r.count - 1)) south
    (subst (λ m. LooksAt head.kind m (far_of (rows.end - 1) c.south-south.result) (r.first + r.count - 1))
    step c.rows_between.ensures.last_looked) in
    record {
      kind = kind;
      some = c.rows_between.ensures.some;
      first_looked = looked_at head t p.north p.east p.up p.right rows.first rows.end cols.first cols.end runs
          rows.first cols.first r.first (omega arith) some (omega arith) wide near_looks;
      last_looked = looked_at head t p.north p.east p.up p.right rows.first rows.end cols.first cols.end runs
          (rows.end - 1) cols.first (r.first + r.count - 1) (omega arith) (omega arith) (omega arith) wide far_looks;
      all = λ row l. looked_from head t p.north p.east p.up p.right rows.first rows.end cols.first cols.end runs row l
          r.first r.count
          (λ far n low high looks. c.rows_between.ensures.all far n
          (subst (λ s. far_of rows.first s ≤ far) (sym south) low)
          (subst (λ s. far ≤ far_of (rows.end - 1) s) (sym south) high)
          (subst (λ m. LooksAt head.kind m far n) (sym step) looks));
      within = c.rows_between.ensures.within;
    }
