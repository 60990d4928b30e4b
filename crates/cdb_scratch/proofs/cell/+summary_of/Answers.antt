use Rattle.std.proofs.Common.{◌≡◌, ℕ, suc, ◌-◌, ◌<◌, map, sym, subst, arith}
use Rattle.cdb_grid.specs.Grid.{Place}
use Rattle.cdb_source.specs.Values.{sampled}
use Rattle.cdb_scratch.specs.inside.Cells.{CellReached}
use Rattle.cdb_scratch.specs.inside.Summaries.{summary_kind}
use Rattle.cdb_scratch.proofs.ReachedLaws.{none_reaches}
use Rattle.cdb_scratch.proofs.CellLaws.{one_less, south_west_at, south_east_at, north_west_at, north_east_at, child_is_corner, assembled, summary_none, summary_zero}
use Rattle.cdb_scratch.proofs.cell.+summary_of.Goals as goal

pub returns-then-height-eq0 : goal.returns-then-height-eq0
returns-then-height-eq0 t c = summary_zero c.args.which (map sampled c.args.sources.now)
    c.args.height (record { north = c.args.north; east = c.args.east }) c.if-height-eq0.true

pub returns-then-not-is_cell_reached : goal.returns-then-not-is_cell_reached
returns-then-not-is_cell_reached t c =
    let p : Place = record { north = c.args.north; east = c.args.east } in
    let kinds : c.kind.result ≡ summary_kind c.args.which = c.kind.ensures in
    let none : CellReached (summary_kind c.args.which) c.args.height p c.args.sources.now → ⊥ = λ r.
    let yes = c.is_cell_reached.ensures.1 (subst (λ k. CellReached k c.args.height p c.args.sources.now) (sym kinds) r)
    in let f = c.if-not-is_cell_reached.true in cc in
    sym (summary_none c.args.which c.args.height p c.args.sources.now c.requires.most c.requires.corner
    (none_reaches (summary_kind c.args.which) c.args.height p c.args.sources.now none))

pub summary_of-south_west-requires : goal.summary_of-south_west-requires
summary_of-south_west-requires t c =
    let h : ℕ = c.args.height in
    let some : h ≡ suc (h - 1) = one_less h c.if-height-eq0.false in
    let none : 0 < 2 = omega arith in (
      omega arith,
      (
        omega arith,
        child_is_corner h (h - 1) 0 0 (record { north = c.args.north; east = c.args.east }) _ some c.requires.most none
            none c.requires.corner
            (south_west_at (h - 1) c.args.north c.args.east),
      ),
    )

pub summary_of-south_east-requires : goal.summary_of-south_east-requires
summary_of-south_east-requires t c =
    let h : ℕ = c.args.height in
    let some : h ≡ suc (h - 1) = one_less h c.if-height-eq0.false in
    let none : 0 < 2 = omega arith in let one : 1 < 2 = omega arith in (
      omega arith,
      (
        omega arith,
        child_is_corner h (h - 1) 0 1 (record { north = c.args.north; east = c.args.east }) _ some c.requires.most none
            one c.requires.corner
            (south_east_at (h - 1) c.args.north c.args.east c.width.result c.step-2.result c.width.ensures.value
            c.step-2.ensures.value),
      ),
    )

pub summary_of-north_west-requires : goal.summary_of-north_west-requires
summary_of-north_west-requires t c =
    let h : ℕ = c.args.height in
    let some : h ≡ suc (h - 1) = one_less h c.if-height-eq0.false in
    let none : 0 < 2 = omega arith in let one : 1 < 2 = omega arith in (
      omega arith,
      (
        omega arith,
        child_is_corner h (h - 1) 1 0 (record { north = c.args.north; east = c.args.east }) _ some c.requires.most one
            none c.requires.corner
            (north_west_at (h - 1) c.args.north c.args.east c.step.result c.step.ensures.value),
      ),
    )

pub summary_of-north_east-requires : goal.summary_of-north_east-requires
summary_of-north_east-requires t c =
    let h : ℕ = c.args.height in
    let some : h ≡ suc (h - 1) = one_less h c.if-height-eq0.false in
    let one : 1 < 2 = omega arith in (
      omega arith,
      (
        omega arith,
        child_is_corner h (h - 1) 1 1 (record { north = c.args.north; east = c.args.east }) _ some c.requires.most one
            one c.requires.corner
            (north_east_at (h - 1) c.args.north c.args.east c.step.result c.width.result c.step-2.result
            c.step.ensures.value c.width.ensures.value c.step-2.ensures.value),
      ),
    )

pub returns : goal.returns
returns t c =
    let h : ℕ = c.args.height in
    let some : h ≡ suc (h - 1) = one_less h c.if-height-eq0.false in
    assembled c.args.which (map sampled c.args.sources.now) h (h - 1)
    (record { north = c.args.north; east = c.args.east }) _ _ _ _ _ _ _ _ _ _ some
    (south_west_at (h - 1) c.args.north c.args.east)
    (south_east_at (h - 1) c.args.north c.args.east c.width.result c.step-2.result c.width.ensures.value
    c.step-2.ensures.value)
    (north_west_at (h - 1) c.args.north c.args.east c.step.result c.step.ensures.value)
    (north_east_at (h - 1) c.args.north c.args.east c.step.result c.width.result c.step-2.result c.step.ensures.value
    c.width.ensures.value c.step-2.ensures.value)
    c.summary_of-south_west.ensures c.summary_of-south_east.ensures c.summary_of-north_west.ensures
    c.summary_of-north_east.ensures c.own-own.ensures c.combine.ensures
