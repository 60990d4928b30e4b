use Rattle.std.proofs.Common.{ℤ, List, sym, subst}
use Rattle.cdb_cut.specs.OneTile.{IsFrameOf}
use Rattle.cdb_check.proofs.kept.Kept.keep.Goals as goal

pub returns : goal.returns
returns c ss kept of =
    c.add.ensures ss (c.make_room.ensures ss kept)
    (subst (λ (xs : List ℤ). IsFrameOf ss c.args.tile.now xs) (sym c.in-Ok.ensures) of)
