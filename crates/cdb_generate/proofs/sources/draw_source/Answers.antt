use Rattle.std.proofs.Common.{◌≡◌, ℤ, List, length, sym, ◌∙◌, ap, subst}
use Rattle.std.specs.Prelude.{All}
use Rattle.cdb_source.specs.Posts.{IsPost}
use Rattle.cdb_generate.specs.Generator.{posts_drawn}
use Rattle.cdb_generate.proofs.MakeLaws.{drawn_length, all_allowed}
use Rattle.cdb_generate.proofs.sources.draw_source.Goals as goal

pub invariant_of-result : goal.invariant_of-result
invariant_of-result c =
    let head = c.draw_head-head.result in
    let drawn : c.from.result ≡ posts_drawn head.kind c.draw-base.result head.rows head.cols = c.from.ensures
    ∙ c.in_ok-posts.ensures in
    record {
      count = ap length drawn ∙ drawn_length head.kind c.draw-base.result head.rows head.cols;
      in_range = subst (λ (zs : List ℤ). All (IsPost head.kind) zs) (sym drawn)
          (all_allowed head.kind c.draw-base.result head.rows head.cols);
    }
