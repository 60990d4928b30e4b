use Rattle.std.proofs.Common.{◌∙◌, ◌*◌, refl, ap, arith}
use Rattle.cdb_publish.proofs.Sizes.{need_same}
use Rattle.cdb_cut.proofs.PaintedSources.{rows_within}
use Rattle.cdb_publish.proofs.WindowReads.{rows_read}
use Rattle.cdb_publish.proofs.windows.read_rows.Goals as goal

pub read_part-requires : goal.read_part-requires
read_part-requires g c =
    omega (
      arith,
      rows_within c.args.head.now c.args.rows.first c.args.rows.count c.requires.within,
      c.requires.posts,
      c.requires.bytes,
    )

pub returns-in-Err-clause-sizes : goal.returns-in-Err-clause-sizes
returns-in-Err-clause-sizes g c told =
    need_same (g.D.Disk.state c.args.disk.now).present c.in-Err.error _ _ _ _ c.source_path-path.ensures refl
    (c.in-Err.ensures.sizes told)

pub returns-clause-posts : goal.returns-clause-posts
returns-clause-posts g c told s same there =
    let m = (g.D.Disk.state c.args.disk.now).present in
    rows_read s c.args.head.now c.args.rows.first c.args.rows.count _ (m c.source_path-path.result.bytes)
    c.read_part.new.into c.decode_posts.new.to same (ap m c.source_path-path.ensures ∙ there) refl
    (c.read_part.auto.into ∙ c.requires.bytes ∙ ap (λ n. 2 * n) c.requires.posts) (c.in-Ok.ensures.read told)
    c.decode_posts.ensures.spelled
