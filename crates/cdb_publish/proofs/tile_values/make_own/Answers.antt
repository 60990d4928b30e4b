use Rattle.std.proofs.Common.{◌++◌, [], List, All, length-append, sym, subst, arith}
use Rattle.cdb_source.specs.Reached.{tile_value}
use Rattle.cdb_files.specs.Disk.{State}
use Rattle.cdb_cut.proofs.KeptParts.{older_start, older_plain, older_whole}
use Rattle.cdb_publish.specs.LookUps.{child_needs, needs_of, look, look_before}
use Rattle.cdb_publish.specs.inside.LookUps.{IsNamed}
use Rattle.cdb_publish.specs.Needs.{Need, AreSized, TellsError}
use Rattle.cdb_publish.specs.Windows.{window_needs}
use Rattle.cdb_publish.proofs.ChildLaws.{folded_few}
use Rattle.cdb_publish.proofs.OlderParts.{level, no_windows, own_stays}
use Rattle.cdb_publish.proofs.Sizes.{error_before, sized-append}
use Rattle.cdb_publish.proofs.tile_values.make_own.Goals as goal

pub returns-in-Err-fold_children-clause-sizes : goal.returns-in-Err-fold_children-clause-sizes
returns-in-Err-fold_children-clause-sizes g c told =
    let m = (g.D.Disk.state c.args.disk.now).present in let p = c.args.plan.now in let k = c.args.chain.now.records in
    let t = c.args.tile.now in
    let E : State → Type 0 = λ s. TellsError s.present (child_needs p k c.args.children.now)
    c.in-Err-fold_children.error in
    error_before m (child_needs p k c.args.children.now)
    (window_needs p.record.version 1 p.record.heads t ++ needs_of t (look_before p k t))
    c.in-Err-fold_children.error (subst E c.read_older.ensures.state (c.in-Err-fold_children.ensures.sizes told))

pub returns-in-Ok-clause-sizes : goal.returns-in-Ok-clause-sizes
returns-in-Ok-clause-sizes g c told =
    let m = (g.D.Disk.state c.args.disk.now).present in let p = c.args.plan.now in let k = c.args.chain.now.records in
    let t = c.args.tile.now in
    let a = child_needs p k c.args.children.now in let w = window_needs p.record.version 1 p.record.heads t in
    let o = needs_of t (look_before p k t) in
    let S : State → Type 0 = λ s. AreSized s.present a in
    let W : List Need → Type 0 = AreSized m in
    let none = c.in-Ok-true.ensures.level c.in-Ok-true.field-0-test in
    sized-append m a (w ++ o) (subst S c.read_older.ensures.state (c.in-Ok.ensures.sizes told))
    (sized-append m w o (subst W (sym (no_windows p.record.version 1 p.record.heads t none)) tt)
    (c.in-Ok-true.ensures.sizes told c.in-Ok-true.field-0-test))

pub returns-in-Ok-clause-values : goal.returns-in-Ok-clause-values
returns-in-Ok-clause-values g c told ss x h =
    let p = c.args.plan.now in let k = c.args.chain.now.records in let t = c.args.tile.now in
    let m = (g.D.Disk.state c.args.disk.now).present in let children = c.args.children.now in
    let N : State → Type 0 = λ s. All (λ d. IsNamed s.present (ss ++ x) d (look p k d)) children in
    let none = c.in-Ok-true.ensures.level c.in-Ok-true.field-0-test in
    older_whole ss x t c.fold_children.new.frame c.requires.own (level p k m ss x t children h none)
    (c.in-Ok.ensures.folded told (ss ++ x) (tile_value ss t)
    (subst N (sym c.read_older.ensures.state) h.children_named)
    (λ yes d unlisted. own_stays p k m ss x t children h c.requires.own [] d unlisted) (older_plain ss t)
    (older_start ss (ss ++ x) t c.read_older.new.older
    (c.in-Ok-true.ensures.values told ss h.older c.in-Ok-true.field-0-test)))

pub returns-in-Ok-clause-reads : goal.returns-in-Ok-clause-reads
returns-in-Ok-clause-reads g c =
    let p = c.args.plan.now in let k = c.args.chain.now.records in let t = c.args.tile.now in
    let a = child_needs p k c.args.children.now in let w = window_needs p.record.version 1 p.record.heads t in
    let o = needs_of t (look_before p k t) in
    omega (
      arith,
      c.read_older.ensures.reads,
      c.fold_children.ensures.reads,
      folded_few p k c.args.children.now,
      length-append a (w ++ o),
      length-append w o,
    )

pub returns-in-Err-fold_children-clause-reads : goal.returns-in-Err-fold_children-clause-reads
returns-in-Err-fold_children-clause-reads g c =
    let p = c.args.plan.now in let k = c.args.chain.now.records in let t = c.args.tile.now in
    let a = child_needs p k c.args.children.now in let w = window_needs p.record.version 1 p.record.heads t in
    let o = needs_of t (look_before p k t) in
    omega (
      arith,
      c.read_older.ensures.reads,
      c.fold_children.ensures.reads,
      folded_few p k c.args.children.now,
      length-append a (w ++ o),
      length-append w o,
    )
