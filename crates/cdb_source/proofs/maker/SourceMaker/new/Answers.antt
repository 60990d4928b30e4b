use Rattle.std.proofs.Common.{rules, arith, ◌∙◌}
use Rattle.std.proofs.lemmas.Int.{to_z-of_z}
use mir.Syntax.{w16}
use mir.Val.{SFits}
use Rattle.cdb_source.proofs.RowLaws.{all_none}
use Rattle.cdb_source.proofs.maker.SourceMaker.new.Goals as goal

pub invariant_of-result : goal.invariant_of-result
invariant_of-result c =
    let short : SFits w16 c.no_value.result = search rules in
    record {
      due = omega arith;
      count = search rules;
      in_range = all_none c.args.head.kind _ _ _ (to_z-of_z w16 c.no_value.result short ∙ c.no_value.ensures)
          (c.in_ok-posts.ensures.items_if_clones_equal (λ y e. e));
    }
