use Rattle.std.proofs.Common.{◌≤◌, ◌∙◌, List, subst, arith}
use Rattle.cdb_source.specs.Reached.{IsLoad}
use Rattle.cdb_source.specs.declared.head.SourceHead.{SourceHead}
use Rattle.cdb_model.specs.Publications.{heads_of}
use Rattle.cdb_generate.proofs.LoadLaws.{drawn_fits}
use Rattle.cdb_engine.proofs.ListLaws.{touched_by, few_touched}
use Rattle.cdb_engine.proofs.drawn_sources.touched_tiles.Goals as goal

pub prove-unreachable-requires : goal.prove-unreachable-requires
prove-unreachable-requires c =
    let e = c.as_slice.ensures.value ∙ c.in_ok-heads.ensures in
    let few : c.load-load.result ≤ 3600 =
    drawn_fits.load c.requires.drawn.0 c.args.sources.now c.load-load.result c.requires.drawn.1
    (subst (λ (hs : List SourceHead). IsLoad hs c.load-load.result) e c.load-load.ensures.load) in
    omega (arith, few, c.if-prove.true)

pub returns-in-Ok-clause-touched : goal.returns-in-Ok-clause-touched
returns-in-Ok-clause-touched c =
    touched_by c.as_slice-2.result.now (heads_of c.args.sources.now) c.in-Ok.tiles.items
    (c.as_slice-2.ensures.value ∙ c.in_ok-heads.ensures) c.in-Ok.ensures.listed c.in-Ok.ensures.order

pub returns-in-Ok-clause-few : goal.returns-in-Ok-clause-few
returns-in-Ok-clause-few c =
    few_touched c.requires.drawn.0 c.load-load.result c.args.sources.now c.as_slice.result.now c.in-Ok.tiles.items
    c.requires.drawn.1
    (c.as_slice.ensures.value ∙ c.in_ok-heads.ensures) c.load-load.ensures.load (returns-in-Ok-clause-touched c)
