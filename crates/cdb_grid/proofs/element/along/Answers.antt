-- The cell at an index ends within the degree.
use Rattle.std.proofs.Common.{◌≡◌, ℕ, ◌+◌, ◌*◌, ◌<◌, ◌≤◌, ℤ, negsuc, ◌≤ℤ◌, arith}
use Rattle.cdb_grid.specs.Units.{degree, height_of, step, side_of, tiles_of}
use Rattle.cdb_grid.proofs.UnitLaws.{along_inside, height-most}
use Rattle.cdb_grid.proofs.element.along.Goals as goal

bound : (l : ℤ) (tile index side s : ℕ) → negsuc 9 ≤ℤ l → side ≡ side_of (height_of l) → s ≡ step (height_of l)
    → tile < tiles_of (height_of l) → index < side_of (height_of l)
    → (tile * side + index) * s + step (height_of l) ≤ degree
bound l tile index side s low ea es tb ib =
    rw (ea, es) (along_inside (height_of l) tile index (height-most l low) tb ib)

pub overflow_mul-result-2 : goal.overflow_mul-result-2
overflow_mul-result-2 c =
    let ends = bound _ _ _ _ _ c.args.level.coarsest c.side.ensures.value c.step_of.ensures.value c.requires.tile
    c.requires.index in
    omega arith

pub returns-clause-most : goal.returns-clause-most
returns-clause-most c =
    bound _ _ _ _ _ c.args.level.coarsest c.side.ensures.value c.step_of.ensures.value c.requires.tile c.requires.index
