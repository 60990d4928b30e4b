use Rattle.std.proofs.Common.{◌++◌, ◌∙◌, length-append, sym, subst, arith, true≢false}
use Rattle.cdb_files.specs.Disk.{State}
use Rattle.cdb_cut.specs.OneTile.{no_values}
use Rattle.cdb_cut.proofs.OneTileWhole.{paint_start}
use Rattle.cdb_publish.specs.LookUps.{child_needs, needs_of, look_before}
use Rattle.cdb_publish.specs.inside.LookUps.{IsNamed}
use Rattle.cdb_publish.specs.Needs.{AreSized, TellsError}
use Rattle.cdb_publish.specs.Windows.{window_needs}
use Rattle.cdb_publish.specs.inside.Windows.{HasSources}
use Rattle.cdb_publish.proofs.Sizes.{error_before, error_later, sized-append}
use Rattle.cdb_publish.proofs.tile_values.make_anew.Goals as goal

pub returns-in-Err-clause-sizes : goal.returns-in-Err-clause-sizes
returns-in-Err-clause-sizes g c told =
    let m = (g.D.Disk.state c.args.disk.now).present in let p = c.args.plan.now in let k = c.args.chain.now.records in
    let t = c.args.tile.now in
    error_before m (child_needs p k c.args.children.now)
    (window_needs p.record.version 1 p.record.heads t ++ needs_of t (look_before p k t))
    c.in-Err.error (c.in-Err.ensures.sizes told)

pub returns-in-Err-paint_sources-clause-sizes : goal.returns-in-Err-paint_sources-clause-sizes
returns-in-Err-paint_sources-clause-sizes g c told =
    let m = (g.D.Disk.state c.args.disk.now).present in let p = c.args.plan.now in let k = c.args.chain.now.records in
    let t = c.args.tile.now in
    let a = child_needs p k c.args.children.now in let w = window_needs p.record.version 1 p.record.heads t in
    let o = needs_of t (look_before p k t) in
    let E : State → Type 0 = λ s. TellsError s.present w c.in-Err-paint_sources.error in
    error_later m a (w ++ o) c.in-Err-paint_sources.error (c.in-Ok.ensures.sizes told)
    (error_before m w o
    c.in-Err-paint_sources.error
    (subst E c.fold_children.ensures.state (c.in-Err-paint_sources.ensures.sizes told)))

pub returns-in-Err-fill_older-clause-sizes : goal.returns-in-Err-fill_older-clause-sizes
returns-in-Err-fill_older-clause-sizes g c told =
    let m = (g.D.Disk.state c.args.disk.now).present in let p = c.args.plan.now in let k = c.args.chain.now.records in
    let t = c.args.tile.now in
    let a = child_needs p k c.args.children.now in let w = window_needs p.record.version 1 p.record.heads t in
    let o = needs_of t (look_before p k t) in
    let W : State → Type 0 = λ s. AreSized s.present w in
    let O : State → Type 0 = λ s. TellsError s.present o c.in-Err-fill_older.error in
    error_later m a (w ++ o) c.in-Err-fill_older.error (c.in-Ok.ensures.sizes told)
    (error_later m w o
    c.in-Err-fill_older.error (subst W c.fold_children.ensures.state (c.in-Ok-paint_sources.ensures.sizes told))
    (subst O (c.paint_sources.ensures.state ∙ c.fold_children.ensures.state) (c.in-Err-fill_older.ensures.sizes told)))

pub returns-in-Ok-fill_older-clause-sizes : goal.returns-in-Ok-fill_older-clause-sizes
returns-in-Ok-fill_older-clause-sizes g c told =
    let m = (g.D.Disk.state c.args.disk.now).present in let p = c.args.plan.now in let k = c.args.chain.now.records in
    let t = c.args.tile.now in
    let a = child_needs p k c.args.children.now in let w = window_needs p.record.version 1 p.record.heads t in
    let o = needs_of t (look_before p k t) in
    let W : State → Type 0 = λ s. AreSized s.present w in
    let O : State → Type 0 = λ s. AreSized s.present o in
    sized-append m a (w ++ o) (c.in-Ok.ensures.sizes told)
    (sized-append m w o (subst W c.fold_children.ensures.state (c.in-Ok-paint_sources.ensures.sizes told))
    (subst O (c.paint_sources.ensures.state ∙ c.fold_children.ensures.state) (c.in-Ok-fill_older.ensures.sizes told)))

pub returns-in-Ok-fill_older-clause-values : goal.returns-in-Ok-fill_older-clause-values
returns-in-Ok-fill_older-clause-values g c told ss x h =
    let p = c.args.plan.now in let k = c.args.chain.now.records in let t = c.args.tile.now in
    let S : State → Type 0 = λ s. HasSources s.present p.record.version x in
    let N : State → Type 0 = λ s. IsNamed s.present ss t (look_before p k t) in
    c.in-Ok-fill_older.ensures.filled told ss x
    c.requires.own (subst N (sym (c.paint_sources.ensures.state ∙ c.fold_children.ensures.state)) h.older)
    (c.in-Ok-paint_sources.ensures.painted told (ss ++ x)
    x h.heads (subst S (sym c.fold_children.ensures.state) h.sources)
    (paint_start (ss ++ x) t c.fold_children.new.frame c.requires.own
    (c.in-Ok.ensures.folded told (ss ++ x) no_values h.children_named
    (λ older q unlisted. absurd (true≢false (sym older))) (λ r q. tt) (c.clear.ensures (ss ++ x)))))

pub returns-in-Err-clause-reads : goal.returns-in-Err-clause-reads
returns-in-Err-clause-reads g c =
    let p = c.args.plan.now in let k = c.args.chain.now.records in let t = c.args.tile.now in
    let a = child_needs p k c.args.children.now in let w = window_needs p.record.version 1 p.record.heads t in
    let o = needs_of t (look_before p k t) in
    omega (arith, c.fold_children.ensures.reads, length-append a (w ++ o), length-append w o)

pub returns-in-Err-paint_sources-clause-reads : goal.returns-in-Err-paint_sources-clause-reads
returns-in-Err-paint_sources-clause-reads g c =
    let p = c.args.plan.now in let k = c.args.chain.now.records in let t = c.args.tile.now in
    let a = child_needs p k c.args.children.now in let w = window_needs p.record.version 1 p.record.heads t in
    let o = needs_of t (look_before p k t) in
    omega (
      arith,
      c.fold_children.ensures.reads,
      c.paint_sources.ensures.reads,
      length-append a (w ++ o),
      length-append w o,
    )

pub returns-in-Err-fill_older-clause-reads : goal.returns-in-Err-fill_older-clause-reads
returns-in-Err-fill_older-clause-reads g c =
    let p = c.args.plan.now in let k = c.args.chain.now.records in let t = c.args.tile.now in
    let a = child_needs p k c.args.children.now in let w = window_needs p.record.version 1 p.record.heads t in
    let o = needs_of t (look_before p k t) in
    omega (
      arith,
      c.fold_children.ensures.reads,
      c.paint_sources.ensures.reads,
      c.fill_older.ensures.reads,
      length-append a (w ++ o),
      length-append w o,
    )

pub returns-in-Ok-fill_older-clause-reads : goal.returns-in-Ok-fill_older-clause-reads
returns-in-Ok-fill_older-clause-reads g c =
    let p = c.args.plan.now in let k = c.args.chain.now.records in let t = c.args.tile.now in
    let a = child_needs p k c.args.children.now in let w = window_needs p.record.version 1 p.record.heads t in
    let o = needs_of t (look_before p k t) in
    omega (
      arith,
      c.fold_children.ensures.reads,
      c.paint_sources.ensures.reads,
      c.fill_older.ensures.reads,
      length-append a (w ++ o),
      length-append w o,
    )
