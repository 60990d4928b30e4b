use Rattle.std.proofs.Common.{◌∙◌, sym, ap, subst, [], length, arith}
use Rattle.std.proofs.lemmas.List.{take_all}
use Rattle.cdb_model.specs.Maps.{IsThere}
use Rattle.cdb_files.specs.Disk.{State, FailsAppend, after_create, after_append, after_sync_file}
use Rattle.cdb_files.specs.Whole.{FailsFill, after_pieces}
use Rattle.cdb_files.proofs.StateLaws.{there-create, there-append, create-pieces, append-pieces, pieces-fail, sync_file-pieces, create-only, append-only, sync_file-only, fails_append-only, equal-only, same-only}
use Rattle.cdb_files.proofs.WholeLaws.{of_err, begun, onward, onward_ok, onward_err}
use Rattle.cdb_files.proofs.whole.fill.Goals as goal

pub append-requires : goal.append-requires
append-requires g c told =
    subst (λ (s : State). IsThere (s.present c.args.path.now.bytes)) (sym (c.in_ok-create.ensures.ok told))
    (there-create c.args.path.now.bytes (g.D.Disk.state c.args.disk.now))

pub sync_file-requires : goal.sync_file-requires
sync_file-requires g c told =
    let p = c.args.path.now.bytes in
    let P : State → Type 0 = λ s. IsThere (s.present p) in
    subst P (sym (c.in_ok-append.ensures.ok told))
    (there-append p c.args.piece.now (g.D.Disk.state c.create.new.self)
    (subst P (sym (c.in_ok-create.ensures.ok told)) (there-create p (g.D.Disk.state c.args.disk.now))))

pub returns-in_err-create-clause-only : goal.returns-in_err-create-clause-only
returns-in_err-create-clause-only g c told =
    let p = c.args.path.now.bytes in let clock = g.D.Disk.clock in let since = g.D.Disk.since in
    let state = g.D.Disk.state in
    let disk = c.args.disk.now in
    onward_err clock since state p disk disk c.create.new.self (after_create p (state disk))
    (begun clock since state p disk)
    (create-only p (state disk)) (c.create.ensures.time told) (c.in_err-create.ensures.err told)

pub returns-in_err-append-clause-only : goal.returns-in_err-append-clause-only
returns-in_err-append-clause-only g c told =
    let p = c.args.path.now.bytes in let clock = g.D.Disk.clock in let since = g.D.Disk.since in
    let state = g.D.Disk.state in
    let disk = c.args.disk.now in let one = c.create.new.self in let piece = c.args.piece.now in
    let created = onward_ok clock since state p disk disk one (after_create p (state disk))
    (begun clock since state p disk)
    (create-only p (state disk)) (c.create.ensures.time told) (c.in_ok-create.ensures.ok told) in
    onward clock since state p disk one c.append.new.self (after_append p piece (state one)) created
    (append-only p piece (state one)) (c.append.ensures.time told)
    (fails_append-only p piece (state one) (state c.append.new.self) (c.in_err-append.ensures.err told))

pub returns-in_err-sync_file-clause-only : goal.returns-in_err-sync_file-clause-only
returns-in_err-sync_file-clause-only g c told =
    let p = c.args.path.now.bytes in let clock = g.D.Disk.clock in let since = g.D.Disk.since in
    let state = g.D.Disk.state in
    let disk = c.args.disk.now in let one = c.create.new.self in let piece = c.args.piece.now in
    let two = c.append.new.self in
    let created = onward_ok clock since state p disk disk one (after_create p (state disk))
    (begun clock since state p disk)
    (create-only p (state disk)) (c.create.ensures.time told) (c.in_ok-create.ensures.ok told) in
    let appended = onward_ok clock since state p disk one two (after_append p piece (state one)) created
    (append-only p piece (state one)) (c.append.ensures.time told) (c.in_ok-append.ensures.ok told) in
    onward clock since state p disk two c.sync_file.new.self (after_sync_file p (state two)) appended
    (sync_file-only p (state two)) (c.sync_file.ensures.time told)
    (equal-only p (state two) (state two) (state c.sync_file.new.self) (same-only p (state two))
    (c.in_err-sync_file.ensures.err told))

pub returns-clause-only : goal.returns-clause-only
returns-clause-only g c told =
    let p = c.args.path.now.bytes in let clock = g.D.Disk.clock in let since = g.D.Disk.since in
    let state = g.D.Disk.state in
    let disk = c.args.disk.now in let one = c.create.new.self in let piece = c.args.piece.now in
    let two = c.append.new.self in
    let created = onward_ok clock since state p disk disk one (after_create p (state disk))
    (begun clock since state p disk)
    (create-only p (state disk)) (c.create.ensures.time told) (c.in_ok-create.ensures.ok told) in
    let appended = onward_ok clock since state p disk one two (after_append p piece (state one)) created
    (append-only p piece (state one)) (c.append.ensures.time told) (c.in_ok-append.ensures.ok told) in
    onward_ok clock since state p disk two c.sync_file.new.self (after_sync_file p (state two)) appended
    (sync_file-only p (state two)) (c.sync_file.ensures.time told) (c.in_ok-sync_file.ensures.ok told)

pub returns-clause-ok : goal.returns-clause-ok
returns-clause-ok g c told =
    let p = c.args.path.now.bytes in let piece = c.args.piece.now in let s = g.D.Disk.state c.args.disk.now in
    c.in_ok-sync_file.ensures.ok told
    ∙ ap (after_sync_file p)
    (c.in_ok-append.ensures.ok told ∙ ap (after_append p piece) (c.in_ok-create.ensures.ok told ∙ create-pieces p s)
    ∙ append-pieces p [] piece s)
    ∙ sync_file-pieces p piece s

pub returns-in_err-create-clause-err : goal.returns-in_err-create-clause-err
returns-in_err-create-clause-err g c told = of_err _ _ (FailsFill.in_create (c.in_err-create.ensures.err told))

pub returns-in_err-append-clause-err : goal.returns-in_err-append-clause-err
returns-in_err-append-clause-err g c told =
    let p = c.args.path.now.bytes in let piece = c.args.piece.now in let s = g.D.Disk.state c.args.disk.now in
    let new = g.D.Disk.state c.append.new.self in
    let F : State → Type 0 = λ one. FailsAppend p piece one new in
    let part =
    pieces-fail p [] piece s new
    (subst F (c.in_ok-create.ensures.ok told ∙ create-pieces p s) (c.in_err-append.ensures.err told)) in
    of_err _ _ (FailsFill.after_part part.0 part.1 part.2)

pub returns-in_err-sync_file-clause-err : goal.returns-in_err-sync_file-clause-err
returns-in_err-sync_file-clause-err g c told =
    let p = c.args.path.now.bytes in let piece = c.args.piece.now in let s = g.D.Disk.state c.args.disk.now in
    of_err _ _
    (FailsFill.after_part (length piece) (omega arith)
    (c.in_err-sync_file.ensures.err told ∙ c.in_ok-append.ensures.ok told
    ∙ ap (after_append p piece) (c.in_ok-create.ensures.ok told ∙ create-pieces p s) ∙ append-pieces p [] piece s
    ∙ ap (λ t. after_pieces p t s) (sym (take_all (length piece) piece (omega arith)))))
