use Rattle.std.proofs.Common.{◌+◌, ◌*◌, ◌%◌, ℤ, pos, sym, subst, arith}
use Rattle.cdb_grid.specs.Units.{degree, height_of, step}
use Rattle.cdb_source.specs.Head.{IsHead}
use Rattle.cdb_generate.proofs.BoxLaws.{height_low, head_fits}
use Rattle.cdb_generate.proofs.heads.draw_head.Goals as goal

pub invariant_of-result : goal.invariant_of-result
invariant_of-result c =
    let kind = c.kind_of-kind.result in
    let rows = c.draw-5.result % 64 in let cols = c.draw-6.result % 64 in
    let h = height_of c.level_of-level.result.number in
    let low = height_low c.level_of-level.result.number (c.draw-2.result % 8) (omega arith) c.level_of-level.ensures in
    let fits = head_fits kind (40 + c.draw-3.result % 12) (c.draw-4.result % 20) h rows cols (omega arith)
    (omega arith) low (omega arith) (omega arith) in
    let one = subst (λ (z : ℤ). IsHead kind z (pos (c.draw-4.result % 20 * degree)) (pos (step h)) (pos (step h))
    (1 + rows) (1 + cols)) (sym c.degrees-lat.ensures) fits in
    let two = subst (λ (z : ℤ). IsHead kind c.degrees-lat.result.units z (pos (step h)) (pos (step h)) (1 + rows)
    (1 + cols)) (sym c.degrees-lon.ensures) one in
    record {
      in_range = subst (λ (z : ℤ). IsHead kind c.degrees-lat.result.units c.degrees-lon.result.units z z
          (1 + rows) (1 + cols)) (sym c.step_of-step.ensures) two;
    }
