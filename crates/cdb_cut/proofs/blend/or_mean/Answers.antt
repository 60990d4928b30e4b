use Rattle.std.proofs.Common.{◌∙◌, arith, rules}
use Rattle.std.proofs.lemmas.Int.{ints, to_z-of_z}
use mir.Syntax.{w16}
use mir.Val.{SFits}
use Rattle.cdb_cut.proofs.OrMean.{Four, south_west_lost, south_east_lost, north_west_lost, north_east_lost, all_there}
use Rattle.cdb_cut.proofs.blend.or_mean.Goals as goal

pub returns-then-sw-eq-NONE : goal.returns-then-sw-eq-NONE
returns-then-sw-eq-NONE g c =
    let at = c.args.at.now in
    let four : Four at.dlat at.dlon at.above c.args.beyond c.args.sw c.args.se c.args.nw c.args.ne = record {
      above = at.above_below;
      beyond = c.requires.beyond;
      east = c.requires.east;
      north = c.requires.north;
      sw16 = (omega (arith, ints), omega (arith, ints));
      se16 = (omega (arith, ints), omega (arith, ints));
      nw16 = (omega (arith, ints), omega (arith, ints));
      ne16 = (omega (arith, ints), omega (arith, ints));
    } in
    south_west_lost at.dlat at.dlon at.above c.args.beyond c.args.sw c.args.se c.args.nw c.args.ne four c.args.old
    (omega (arith, ints, c.if-old-ne-NONE.false)) (omega (arith, ints, c.if-sw-eq-NONE.true))

pub returns-then-se-eq-NONE : goal.returns-then-se-eq-NONE
returns-then-se-eq-NONE g c =
    let at = c.args.at.now in
    let four : Four at.dlat at.dlon at.above c.args.beyond c.args.sw c.args.se c.args.nw c.args.ne = record {
      above = at.above_below;
      beyond = c.requires.beyond;
      east = c.requires.east;
      north = c.requires.north;
      sw16 = (omega (arith, ints), omega (arith, ints));
      se16 = (omega (arith, ints), omega (arith, ints));
      nw16 = (omega (arith, ints), omega (arith, ints));
      ne16 = (omega (arith, ints), omega (arith, ints));
    } in
    south_east_lost at.dlat at.dlon at.above c.args.beyond c.args.sw c.args.se c.args.nw c.args.ne four c.args.old
    (omega (arith, ints, c.if-old-ne-NONE.false)) (λ e. omega (arith, ints, c.if-sw-eq-NONE.false, e))
    (omega (arith, ints, c.if-se-eq-NONE.true))

pub returns-then-nw-eq-NONE : goal.returns-then-nw-eq-NONE
returns-then-nw-eq-NONE g c =
    let at = c.args.at.now in
    let four : Four at.dlat at.dlon at.above c.args.beyond c.args.sw c.args.se c.args.nw c.args.ne = record {
      above = at.above_below;
      beyond = c.requires.beyond;
      east = c.requires.east;
      north = c.requires.north;
      sw16 = (omega (arith, ints), omega (arith, ints));
      se16 = (omega (arith, ints), omega (arith, ints));
      nw16 = (omega (arith, ints), omega (arith, ints));
      ne16 = (omega (arith, ints), omega (arith, ints));
    } in
    north_west_lost at.dlat at.dlon at.above c.args.beyond c.args.sw c.args.se c.args.nw c.args.ne four c.args.old
    (omega (arith, ints, c.if-old-ne-NONE.false)) (λ e. omega (arith, ints, c.if-sw-eq-NONE.false, e))
    (omega (arith, ints, c.if-nw-eq-NONE.true))

pub returns-then-ne-eq-NONE : goal.returns-then-ne-eq-NONE
returns-then-ne-eq-NONE g c =
    let at = c.args.at.now in
    let four : Four at.dlat at.dlon at.above c.args.beyond c.args.sw c.args.se c.args.nw c.args.ne = record {
      above = at.above_below;
      beyond = c.requires.beyond;
      east = c.requires.east;
      north = c.requires.north;
      sw16 = (omega (arith, ints), omega (arith, ints));
      se16 = (omega (arith, ints), omega (arith, ints));
      nw16 = (omega (arith, ints), omega (arith, ints));
      ne16 = (omega (arith, ints), omega (arith, ints));
    } in
    north_east_lost at.dlat at.dlon at.above c.args.beyond c.args.sw c.args.se c.args.nw c.args.ne four c.args.old
    (omega (arith, ints, c.if-old-ne-NONE.false)) (λ e. omega (arith, ints, c.if-se-eq-NONE.false, e))
    (λ e. omega (arith, ints, c.if-nw-eq-NONE.false, e)) (omega (arith, ints, c.if-ne-eq-NONE.true))

pub returns : goal.returns
returns g c =
    let at = c.args.at.now in
    let four : Four at.dlat at.dlon at.above c.args.beyond c.args.sw c.args.se c.args.nw c.args.ne = record {
      above = at.above_below;
      beyond = c.requires.beyond;
      east = c.requires.east;
      north = c.requires.north;
      sw16 = (omega (arith, ints), omega (arith, ints));
      se16 = (omega (arith, ints), omega (arith, ints));
      nw16 = (omega (arith, ints), omega (arith, ints));
      ne16 = (omega (arith, ints), omega (arith, ints));
    } in
    let fits : SFits w16 c.mean.result = search rules in
    let sw : SFits w16 c.args.sw = search rules in
    let se : SFits w16 c.args.se = search rules in
    let nw : SFits w16 c.args.nw = search rules in
    let ne : SFits w16 c.args.ne = search rules in
    let is =
    rw (
      to_z-of_z w16 c.args.sw sw,
      to_z-of_z w16 c.args.se se,
      to_z-of_z w16 c.args.nw nw,
      to_z-of_z w16 c.args.ne ne,
    ) at c.mean.ensures in
    to_z-of_z w16 c.mean.result fits
    ∙ all_there at.dlat at.dlon at.above c.args.beyond c.args.sw c.args.se c.args.nw c.args.ne four
    c.args.old c.mean.result
    (omega (arith, ints, c.if-old-ne-NONE.false)) (λ e. omega (arith, ints, c.if-sw-eq-NONE.false, e))
    (λ e. omega (arith, ints, c.if-se-eq-NONE.false, e))
    (λ e. omega (arith, ints, c.if-nw-eq-NONE.false, e)) (λ e. omega (arith, ints, c.if-ne-eq-NONE.false, e)) is
