use Rattle.std.proofs.Common.{◌∙◌, ◌*◌, ◌+◌, ◌++◌, ap, sym, subst, take, arith}
use Rattle.cdb_source.specs.Texts.{posts_text}
use Rattle.cdb_model.specs.Maps.{IsThere}
use Rattle.cdb_files.specs.Disk.{State, after_append}
use Rattle.cdb_files.proofs.StateLaws.{there-append, append-only, fails_append-only}
use Rattle.cdb_files.proofs.WholeLaws.{onward, onward_ok}
use Rattle.cdb_publish.proofs.FileRuns.{more_rows, one_piece}
use Rattle.cdb_publish.proofs.source_file.append_rows.Goals as goal

pub returns-in_err-append-clause-only : goal.returns-in_err-append-clause-only
returns-in_err-append-clause-only g c told =
    let p = c.args.path.now.bytes in let clock = g.D.Disk.clock in let since = g.D.Disk.since in
    let state = g.D.Disk.state in
    let here = c.pieces.disk in let piece = c.gather_rows.new.to in
    onward clock since state p c.args.disk.now here c.append.new.self (after_append p piece (state here))
    (c.pieces.invariant.only told)
    (append-only p piece (state here)) (c.append.ensures.time told)
    (fails_append-only p piece (state here) (state c.append.new.self) (c.in_err-append.ensures.err told))

pub pieces-preserved : goal.pieces-preserved
pieces-preserved g c =
    let p = c.args.path.now.bytes in let clock = g.D.Disk.clock in let since = g.D.Disk.since in
    let state = g.D.Disk.state in
    let here = c.pieces.disk in let piece = c.gather_rows.new.to in let source = c.args.source.now in
    record {
      within = omega (arith, c.min-count.ensures);
      there = λ told. let P : State → Type 0 = λ s. IsThere (s.present p) in
          subst P (sym (c.in_ok-append.ensures.ok told))
          (there-append p piece (state here) (c.pieces.invariant.there told));
      state = λ told bytes s is. one_piece p piece (posts_text (take (c.pieces.done * source.head.cols) source.posts))
          (posts_text (take ((c.pieces.done + c.min-count.result) * source.head.cols) source.posts)) bytes s
          (state here) (state c.append.new.self) (c.pieces.invariant.state told bytes s is)
          (more_rows source c.pieces.done c.min-count.result
          ∙ ap (λ t. posts_text (take (c.pieces.done * source.head.cols) source.posts) ++ t)
          (sym c.gather_rows.ensures))
          (c.in_ok-append.ensures.ok told);
      only = λ told. onward_ok clock since state p c.args.disk.now here
          c.append.new.self (after_append p piece (state here)) (c.pieces.invariant.only told)
          (append-only p piece (state here)) (c.append.ensures.time told) (c.in_ok-append.ensures.ok told);
      later = omega (arith, c.pieces.invariant.later, c.append.ensures.cause.later);
      reads = c.append.ensures.reads ∙ c.pieces.invariant.reads;
    }
