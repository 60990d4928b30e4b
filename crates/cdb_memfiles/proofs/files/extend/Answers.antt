use Rattle.std.proofs.Common.{◌≡◌, ◌∙◌, List, ℕ, Some, None, ap, sym, rules}
use Rattle.cdb_model.specs.Maps.{put}
use Rattle.cdb_model.proofs.MapLaws.{put-itself}
use Rattle.cdb_files.specs.Disk.{with_piece}
use Rattle.cdb_memfiles.specs.Files.{content}
use Rattle.cdb_memfiles.proofs.FileLaws.{content-update, content-found, absent_there}
use Rattle.cdb_memfiles.proofs.files.extend.Goals as goal

pub unreachable-requires : goal.unreachable-requires
unreachable-requires c =
    absent_there (content c.args.files.now c.args.path.now.bytes)
    (content-found c.args.files.now c.args.path.now None c.in_default.ensures.value) c.requires

pub returns-in_err-extend_from_slice-clause-err : goal.returns-in_err-extend_from_slice-clause-err
returns-in_err-extend_from_slice-clause-err c =
    let w = c.extend_from_slice.new.self in
    let old = c.args.files.now in let p = c.args.path.now.bytes in
    let found : content old p ≡ Some c.in-Some.bytes.now.items =
    content-found old c.args.path.now (Some c.in-Some.bytes.now) c.in-Some.ensures.value in
    let same : content (c.get_mut.follows.lender w) ≡ content old =
    content-update old (c.get_mut.follows.lender w) c.args.path.now (Some w)
    ((c.get_mut.follows.holds w).3 (search rules))
    ∙ put-itself (content old) p (Some w.items)
    (found ∙ ap (λ (xs : List ℕ). Some xs) (sym c.in_err-extend_from_slice.ensures.items)) in
    search rules

pub returns-clause-ok : goal.returns-clause-ok
returns-clause-ok c =
    let w = c.extend_from_slice.new.self in
    let old = c.args.files.now in let p = c.args.path.now.bytes in
    let found : content old p ≡ Some c.in-Some.bytes.now.items =
    content-found old c.args.path.now (Some c.in-Some.bytes.now) c.in-Some.ensures.value in
    content-update old (c.get_mut.follows.lender w) c.args.path.now (Some w)
    ((c.get_mut.follows.holds w).3 (search rules))
    ∙ ap (put (content old) p) (ap (λ (xs : List ℕ). Some xs) c.in_ok-extend_from_slice.ensures.items
    ∙ ap (with_piece c.args.piece.now) (sym found))
