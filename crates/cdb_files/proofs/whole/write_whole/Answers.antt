use Rattle.std.proofs.Common.{◌∙◌, sym, ap, subst}
use Rattle.cdb_model.specs.Maps.{Text}
use Rattle.cdb_files.specs.Disk.{State, IsMade, after_make_dir}
use Rattle.cdb_files.specs.Whole.{after_fill, after_write, FailsFill, FailsWrite}
use Rattle.cdb_files.proofs.StateLaws.{made-make_dir, make_dir-only, fails_make_dir-only}
use Rattle.cdb_files.proofs.WholeLaws.{of_err, begun, onward, onward_ok, further}
use Rattle.cdb_files.proofs.whole.write_whole.Goals as goal

pub fill-requires : goal.fill-requires
fill-requires g c told =
    let s = g.D.Disk.state c.args.disk.now in
    let folder = c.args.folder.now.bytes in
    let P : Text → Type 0 = λ t. IsMade (g.D.Disk.state c.make_dir.new.self) t in
    let Q : State → Type 0 = λ t. IsMade t folder in
    subst P c.requires (subst Q (sym (c.in_ok-make_dir.ensures.ok told)) (made-make_dir folder s))

pub returns-in_err-make_dir-clause-only : goal.returns-in_err-make_dir-clause-only
returns-in_err-make_dir-clause-only g c told =
    let p = c.args.path.now.bytes in let clock = g.D.Disk.clock in let since = g.D.Disk.since in
    let state = g.D.Disk.state in
    let disk = c.args.disk.now in let folder = c.args.folder.now.bytes in
    onward clock since state p disk disk c.make_dir.new.self (after_make_dir folder (state disk))
    (begun clock since state p disk)
    (make_dir-only p folder (state disk)) (c.make_dir.ensures.time told)
    (fails_make_dir-only p folder (state disk) (state c.make_dir.new.self) (c.in_err-make_dir.ensures.err told))

pub returns-in_err-fill-clause-only : goal.returns-in_err-fill-clause-only
returns-in_err-fill-clause-only g c told =
    let p = c.args.path.now.bytes in let clock = g.D.Disk.clock in let since = g.D.Disk.since in
    let state = g.D.Disk.state in
    let disk = c.args.disk.now in let folder = c.args.folder.now.bytes in let one = c.make_dir.new.self in
    let made = onward_ok clock since state p disk disk one (after_make_dir folder (state disk))
    (begun clock since state p disk)
    (make_dir-only p folder (state disk)) (c.make_dir.ensures.time told) (c.in_ok-make_dir.ensures.ok told) in
    further clock since state p disk one c.fill.new.disk made (c.fill.ensures.only told)

pub returns-clause-only : goal.returns-clause-only
returns-clause-only g c told =
    let p = c.args.path.now.bytes in let clock = g.D.Disk.clock in let since = g.D.Disk.since in
    let state = g.D.Disk.state in
    let disk = c.args.disk.now in let folder = c.args.folder.now.bytes in let one = c.make_dir.new.self in
    let made = onward_ok clock since state p disk disk one (after_make_dir folder (state disk))
    (begun clock since state p disk)
    (make_dir-only p folder (state disk)) (c.make_dir.ensures.time told) (c.in_ok-make_dir.ensures.ok told) in
    further clock since state p disk one c.fill.new.disk made (c.fill.ensures.only told)

pub returns-clause-ok : goal.returns-clause-ok
unfolding after_write
returns-clause-ok g c told =
    c.in_ok-fill.ensures.ok told ∙ ap (after_fill c.args.path.now.bytes c.args.piece.now)
    (c.in_ok-make_dir.ensures.ok told)

pub returns-in_err-make_dir-clause-err : goal.returns-in_err-make_dir-clause-err
returns-in_err-make_dir-clause-err g c told = of_err _ _ (FailsWrite.in_make_dir (c.in_err-make_dir.ensures.err told))

pub returns-in_err-fill-clause-err : goal.returns-in_err-fill-clause-err
returns-in_err-fill-clause-err g c told =
    let p = c.args.path.now.bytes in let piece = c.args.piece.now in
    let F : State → Type 0 = λ made. FailsFill p piece made (g.D.Disk.state c.fill.new.disk) in
    of_err _ _ (FailsWrite.in_fill (subst F (c.in_ok-make_dir.ensures.ok told) (c.in_err-fill.ensures.err told)))
