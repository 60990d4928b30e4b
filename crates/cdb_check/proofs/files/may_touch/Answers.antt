use Rattle.std.proofs.Common.{List, sym, ◌∙◌, subst, arith}
use Rattle.cdb_grid.specs.declared.tile.Tile.{Tile}
use Rattle.cdb_source.specs.Reached.{IsTouched}
use Rattle.cdb_model.proofs.OneLists.{one_touched}
use Rattle.cdb_check.proofs.files.may_touch.Goals as goal

pub returns-in-Ok-clause-may : goal.returns-in-Ok-clause-may
returns-in-Ok-clause-may c =
    let heads = c.args.heads.now in
    let listed : IsTouched heads c.in-Ok.listed.items =
    record { exact = c.in-Ok.ensures.listed.exact; ordered = c.in-Ok.ensures.order } in (
      (λ yes. record {
        load = c.load.result;
        load_is = c.load.ensures.load;
        fits = omega (arith, c.if-load-gt-MOST_LOAD.false);
        touched = subst (λ (tiles : List Tile). IsTouched heads tiles)
            (sym c.as_slice.ensures.value ∙ c.same_tiles.ensures.0 yes) listed;
      }),
      (λ may. c.same_tiles.ensures.1 (c.as_slice.ensures.value
          ∙ one_touched heads c.in-Ok.listed.items c.args.tiles.now listed may.touched)),
    )
