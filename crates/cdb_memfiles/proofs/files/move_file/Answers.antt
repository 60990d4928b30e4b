use Rattle.std.proofs.Common.{◌≡◌, ◌∙◌, Some, None, ap, sym}
use Rattle.cdb_model.specs.Maps.{put, IsThere}
use Rattle.cdb_model.proofs.MapLaws.{put-same, put-other}
use Rattle.cdb_memfiles.specs.Files.{content}
use Rattle.cdb_memfiles.proofs.FileLaws.{absent_there, there_at, put-moved}
use Rattle.cdb_memfiles.proofs.files.move_file.Goals as goal

pub unreachable-requires : goal.unreachable-requires
unreachable-requires c =
    let from = c.args.from.now.bytes in let to = c.args.to.now.bytes in
    absent_there (content c.store.new.files from) (sym c.in_default.ensures.value)
    (there_at (content c.args.files.now) (content c.store.new.files) from
    (ap (λ m. m from) c.in_ok-store.ensures.ok ∙ put-other (content c.args.files.now) to (Some c.args.room.items)
    from c.requires.differ) c.requires.there)

pub unreachable-requires-in-Err : goal.unreachable-requires-in-Err
unreachable-requires-in-Err c =
    let from = c.args.from.now.bytes in let to = c.args.to.now.bytes in
    let has : content c.take.new.files to ≡ Some c.args.room.items =
    ap (λ m. m to) c.take.ensures.rest ∙ put-other (content c.store.new.files) from None to
    (λ e. c.requires.differ (sym e))
    ∙ ap (λ m. m to) c.in_ok-store.ensures.ok ∙ put-same (content c.args.files.now) to (Some c.args.room.items) in
    let there : IsThere (content c.take.new.files to) = rw has tt in
    let bad = c.in-Err.ensures.there there in cc

pub returns-clause-ok : goal.returns-clause-ok
returns-clause-ok c =
    let from = c.args.from.now.bytes in let to = c.args.to.now.bytes in let old = content c.args.files.now in
    let moved : Some c.in-Some.bytes.items ≡ old from =
    c.in-Some.ensures.value ∙ ap (λ m. m from) c.in_ok-store.ensures.ok
    ∙ put-other old to (Some c.args.room.items) from c.requires.differ in
    c.in-Ok.ensures.ok
    ∙ ap (λ m. put m to (Some c.in-Some.bytes.items))
    (c.take.ensures.rest ∙ ap (λ m. put m from None) c.in_ok-store.ensures.ok)
    ∙ put-moved old from to (Some c.args.room.items) (Some c.in-Some.bytes.items) c.requires.differ
    ∙ ap (λ v. put (put old to v) from None) moved
