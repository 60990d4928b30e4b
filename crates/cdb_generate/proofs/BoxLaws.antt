-- The head that is drawn is a source's: its box lies on the globe.
use Rattle.std.proofs.Common.{pow-add, rules, ◌≡◌, ℕ, ◌+◌, ◌-◌, ◌*◌, ◌^◌, ◌<◌, ◌≤◌, ℤ, pos, negsuc, ◌+ℤ◌, arith}
use Rattle.std.proofs.lemmas.Int.{ints}
use Rattle.std.proofs.Math.Nat.{mul-le-mul_left}
use Rattle.cdb_grid.specs.Units.{degree, height_of, step}
use Rattle.cdb_grid.proofs.UnitLaws.{power_pos, power_most}
use Rattle.cdb_source.specs.Head.{magnitude, span, IsStep, IsHead}
use Rattle.cdb_source.specs.declared.kind.Kind.{Kind}
use Rattle.cdb_source.specs.declared.kind.Kind.TheVariants.{Elevation, Material}

-- the levels drawn have heights up to 30
pub height_low : (level : ℤ) (n : ℕ) → n < 8 → level +ℤ pos 6 ≡ pos n → height_of level ≤ 30
height_low (pos l) n small e = omega arith
height_low (negsuc l) n small e = omega (arith, ints, e)

-- a step there is at most a sixteenth of a degree
step_low : (h : ℕ) → h ≤ 30 → step h ≤ 2174327193600
step_low h low =
    let more : 2 ^ (h + 4) ≤ 17179869184 = power_most (h + 4) (omega (arith, low)) in
    let split : 2 ^ (h + 4) ≡ 2 ^ h * 16 = pow-add 2 h 4 in
    omega (arith, more, split)

product : (r s : ℕ) → r ≤ 64 → s ≤ 2174327193600 → r * s ≤ 139156940390400
product r s few small = omega (arith, mul-le-mul_left r small, few)

span_low : (kind : Kind) (r s : ℕ) → r < 64 → s ≤ 2174327193600
    → span kind (1 + r) (magnitude (pos s)) ≤ 139156940390400
span_low Elevation r s few small = let p = product (1 + r - 1) (s + 0) (omega (arith, few)) (omega (arith, small)) in p
span_low Material r s few small = let p = product (1 + r) (s + 0) (omega (arith, few)) (omega (arith, small)) in p

pub head_fits : (kind : Kind) (a b h r c : ℕ) → a ≤ 51 → b ≤ 19 → h ≤ 30 → r < 64 → c < 64
    → IsHead kind (pos (a * degree)) (pos (b * degree)) (pos (step h)) (pos (step h)) (1 + r) (1 + c)
head_fits kind a b h r c al bl hl rl cl =
    let low = step_low h hl in
    let some : 1 ≤ 2 ^ h = power_pos h in
    let is_step : IsStep (pos (step h)) = record { least = omega (arith, some); greatest = omega (arith, low) } in
    let rows = span_low kind r (step h) rl low in
    let cols = span_low kind c (step h) cl low in
    let posts : (1 + r) * (1 + c) ≤ (1 + r) * 64 = mul-le-mul_left (1 + r) (omega (arith, cl)) in
    record {
      row_step = is_step;
      column_step = is_step;
      raster = record {
        rows_least = omega arith;
        rows_most = omega (arith, rl);
        cols_least =
            omega arith;
        cols_most = omega (arith, cl);
        posts_most = omega (arith, posts, rl);
      };
      latitude = record { south = search rules; north = omega (arith, rows, al) };
      longitude = record { west = search rules; east = omega (arith, cols, bl) };
    }
