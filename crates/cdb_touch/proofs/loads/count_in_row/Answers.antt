use Rattle.std.proofs.Common.{◌≡◌, ℕ, ◌+◌, ◌-◌, ◌*◌, ◌/◌, ◌<◌, ◌≤◌, sym, ◌∙◌, ap, arith, rules}
use Rattle.cdb_grid.specs.Units.{tiles_of, width_at}
use Rattle.cdb_grid.proofs.UnitLaws.{height-least}
use Rattle.cdb_source.specs.Reached.{source_height}
use Rattle.cdb_touch.proofs.CountLaws.{HasCount-iff, HasCount-same}
use Rattle.cdb_touch.proofs.TileNumbers.{count_rectangle}
use Rattle.cdb_touch.proofs.LoadLaws.{rectangle_most, square_most}
use Rattle.cdb_touch.proofs.loads.count_in_row.Goals as goal

long : (a b c : ℕ) → a ≡ b - c → (n y : ℕ) → y * n ≤ c → b ≤ y * n + n → a ≤ n
long a b c e n y low high = omega arith

pub returns-clause-most : goal.returns-clause-most
returns-clause-most c =
    let n : ℕ = tiles_of c.args.height in
    let r = c.reached_in_row-rectangle.result in
    let x : c.len.result ≤ n = long c.len.result r.rows.end r.rows.first c.len.ensures n c.args.row
    c.reached_in_row-rectangle.ensures.south c.reached_in_row-rectangle.ensures.north in
    let e : c.len-2.result ≡ r.columns.end - r.columns.first = c.len-2.ensures in
    let q : r.columns.end ≤ 360 / width_at c.args.row * n = c.reached_in_row-rectangle.ensures.east in
    rectangle_most n (width_at c.args.row) c.len.result c.len-2.result x (omega arith)

pub overflow_mul-result : goal.overflow_mul-result
overflow_mul-result c =
    let n : ℕ = tiles_of c.args.height in
    let r = c.reached_in_row-rectangle.result in
    let x : c.len.result ≤ n = long c.len.result r.rows.end r.rows.first c.len.ensures n c.args.row
    c.reached_in_row-rectangle.ensures.south c.reached_in_row-rectangle.ensures.north in
    let e : c.len-2.result ≡ r.columns.end - r.columns.first = c.len-2.ensures in
    let q : r.columns.end ≤ 360 / width_at c.args.row * n = c.reached_in_row-rectangle.ensures.east in
    let m : c.len.result * c.len-2.result ≤ 360 * (n * n) =
    rectangle_most n (width_at c.args.row) c.len.result c.len-2.result x (omega arith) in
    let k : 1 ≤ source_height c.args.head.now =
    height-least c.args.head.now.level.number c.args.head.now.level.finest in
    let f = c.requires.finer in
    let s : n * n ≤ 70368744177664 = square_most c.args.height (omega arith) in
    let below : c.len.result * c.len-2.result < 18446744073709551616 = omega arith in search (rules, below)

pub returns-clause-each : goal.returns-clause-each
returns-clause-each c f ek =
    let r = c.reached_in_row-rectangle.result in
    let k : 1 ≤ source_height c.args.head.now =
    height-least c.args.head.now.level.number c.args.head.now.level.finest in
    let g = c.requires.finer in
    HasCount-same ((r.rows.end - r.rows.first) * (r.columns.end - r.columns.first)) (c.len.result * c.len-2.result)
    (ap (λ m. m * (r.columns.end - r.columns.first)) (sym c.len.ensures)
    ∙ ap (λ m. c.len.result * m) (sym c.len-2.ensures))
    (HasCount-iff ((r.rows.end - r.rows.first) * (r.columns.end - r.columns.first))
    (λ t. c.reached_in_row-rectangle.ensures.each f t ek)
    (count_rectangle f c.args.height c.args.row r.rows r.columns (omega arith) c.requires.most c.requires.row
    c.reached_in_row-rectangle.ensures.south c.reached_in_row-rectangle.ensures.north
    c.reached_in_row-rectangle.ensures.east))
