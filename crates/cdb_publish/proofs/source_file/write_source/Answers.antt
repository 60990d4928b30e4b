use Rattle.std.proofs.Common.{[], ◌++◌, ◌∙◌, sym, ap, subst}
use Rattle.cdb_source.specs.Texts.{posts_text}
use Rattle.cdb_model.specs.Maps.{IsThere, folder_above}
use Rattle.cdb_files.specs.Disk.{State, after_append, after_sync_file, after_make_dir}
use Rattle.cdb_files.specs.Whole.{after_fill, after_write}
use Rattle.cdb_files.proofs.StateLaws.{pieces-there, append-pieces, sync_file-pieces, append-only, sync_file-only, fails_append-only, equal-only, same-only}
use Rattle.cdb_files.proofs.WholeLaws.{onward, onward_ok, further}
use Rattle.cdb_publish.proofs.source_file.write_source.Goals as goal

pub append-requires : goal.append-requires
append-requires g c told =
    let p = c.args.path.now.bytes in let P : State → Type 0 = λ s. IsThere (s.present p) in
    subst P (sym (c.in_ok-begin_file.ensures.ok told))
    (pieces-there p [] (after_make_dir (folder_above p) (g.D.Disk.state c.args.disk.now)))

pub append_rows-requires-clause-there : goal.append_rows-requires-clause-there
append_rows-requires-clause-there g c told =
    let p = c.args.path.now.bytes in let P : State → Type 0 = λ s. IsThere (s.present p) in
    let s1 = after_make_dir (folder_above p) (g.D.Disk.state c.args.disk.now) in
    let piece = c.encode_head.result in
    subst P (sym (c.in_ok-append.ensures.ok told ∙ ap (after_append p piece) (c.in_ok-begin_file.ensures.ok told)
    ∙ append-pieces p [] piece s1)) (pieces-there p piece s1)

pub sync_file-requires : goal.sync_file-requires
sync_file-requires g c told =
    let p = c.args.path.now.bytes in let P : State → Type 0 = λ s. IsThere (s.present p) in
    let s1 = after_make_dir (folder_above p) (g.D.Disk.state c.args.disk.now) in
    let piece = c.encode_head.result in
    let two_is = c.in_ok-append.ensures.ok told ∙ ap (after_append p piece) (c.in_ok-begin_file.ensures.ok told)
    ∙ append-pieces p [] piece s1 in
    subst P (sym (c.in_ok-append_rows.ensures.ok told piece s1 two_is))
    (pieces-there p (piece ++ posts_text c.args.source.now.posts) s1)

pub returns-clause-ok : goal.returns-clause-ok
unfolding after_write
returns-clause-ok g c told =
    let p = c.args.path.now.bytes in
    let s1 = after_make_dir (folder_above p) (g.D.Disk.state c.args.disk.now) in
    let piece = c.encode_head.result in
    let posts = posts_text c.args.source.now.posts in
    let two_is = c.in_ok-append.ensures.ok told ∙ ap (after_append p piece) (c.in_ok-begin_file.ensures.ok told)
    ∙ append-pieces p [] piece s1 in
    c.in_ok-sync_file.ensures.ok told
    ∙ ap (after_sync_file p) (c.in_ok-append_rows.ensures.ok told piece s1 two_is)
    ∙ sync_file-pieces p (piece ++ posts) s1
    ∙ ap (λ t. after_fill p (t ++ posts) s1) c.encode_head.ensures

pub returns-in_err-append-clause-only : goal.returns-in_err-append-clause-only
returns-in_err-append-clause-only g c told =
    let p = c.args.path.now.bytes in let clock = g.D.Disk.clock in let since = g.D.Disk.since in
    let state = g.D.Disk.state in
    let one = c.begin_file.new.disk in let piece = c.encode_head.result in
    onward clock since state p c.args.disk.now one c.append.new.self (after_append p piece (state one))
    (c.begin_file.ensures.only told)
    (append-only p piece (state one)) (c.append.ensures.time told)
    (fails_append-only p piece (state one) (state c.append.new.self) (c.in_err-append.ensures.err told))

pub returns-in_err-append_rows-clause-only : goal.returns-in_err-append_rows-clause-only
returns-in_err-append_rows-clause-only g c told =
    let p = c.args.path.now.bytes in let clock = g.D.Disk.clock in let since = g.D.Disk.since in
    let state = g.D.Disk.state in
    let one = c.begin_file.new.disk in let piece = c.encode_head.result in
    let appended =
    onward_ok clock since state p c.args.disk.now one c.append.new.self (after_append p piece (state one))
    (c.begin_file.ensures.only told)
    (append-only p piece (state one)) (c.append.ensures.time told) (c.in_ok-append.ensures.ok told) in
    further clock since state p c.args.disk.now c.append.new.self c.append_rows.new.disk appended
    (c.append_rows.ensures.only told)

pub returns-in_err-sync_file-clause-only : goal.returns-in_err-sync_file-clause-only
returns-in_err-sync_file-clause-only g c told =
    let p = c.args.path.now.bytes in let clock = g.D.Disk.clock in let since = g.D.Disk.since in
    let state = g.D.Disk.state in
    let one = c.begin_file.new.disk in let piece = c.encode_head.result in let three = c.append_rows.new.disk in
    let appended =
    onward_ok clock since state p c.args.disk.now one c.append.new.self (after_append p piece (state one))
    (c.begin_file.ensures.only told)
    (append-only p piece (state one)) (c.append.ensures.time told) (c.in_ok-append.ensures.ok told) in
    onward clock since state p c.args.disk.now three c.sync_file.new.self (after_sync_file p (state three))
    (further clock since state p c.args.disk.now c.append.new.self three appended (c.append_rows.ensures.only told))
    (sync_file-only p (state three)) (c.sync_file.ensures.time told)
    (equal-only p (state three) (state three) (state c.sync_file.new.self) (same-only p (state three))
    (c.in_err-sync_file.ensures.err told))

pub returns-clause-only : goal.returns-clause-only
returns-clause-only g c told =
    let p = c.args.path.now.bytes in let clock = g.D.Disk.clock in let since = g.D.Disk.since in
    let state = g.D.Disk.state in
    let one = c.begin_file.new.disk in let piece = c.encode_head.result in let three = c.append_rows.new.disk in
    let appended =
    onward_ok clock since state p c.args.disk.now one c.append.new.self (after_append p piece (state one))
    (c.begin_file.ensures.only told)
    (append-only p piece (state one)) (c.append.ensures.time told) (c.in_ok-append.ensures.ok told) in
    onward_ok clock since state p c.args.disk.now three c.sync_file.new.self (after_sync_file p (state three))
    (further clock since state p c.args.disk.now c.append.new.self three appended (c.append_rows.ensures.only told))
    (sync_file-only p (state three)) (c.sync_file.ensures.time told) (c.in_ok-sync_file.ensures.ok told)
