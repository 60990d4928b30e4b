use Rattle.std.proofs.Common.{arith, ap, ◌≡◌, length}
use Rattle.std.proofs.lemmas.Int.{to_z-of_z}
use mir.Syntax.{w32}
use Rattle.cdb_source.proofs.RowLaws.{answered, one_row, stacked, count_kept, in_range_kept}
use Rattle.cdb_source.specs.Made.{Making}
use Rattle.cdb_source.proofs.maker.SourceMaker.push_row.Goals as goal

pub returns-then-not-is_row-clause-allowed : goal.returns-then-not-is_row-clause-allowed
returns-then-not-is_row-clause-allowed c =
    answered _ _ _ _ c.args.row.now _ _ (ap (λ (m : Making). m.head.kind) c.self.view_is)
    (to_z-of_z w32 c.args.novalue c.ranges.novalue) c.if-not-is_row.true c.is_row.ensures

pub returns-clause-allowed : goal.returns-clause-allowed
returns-clause-allowed c =
    answered _ _ _ _ c.args.row.now _ _ (ap (λ (m : Making). m.head.kind) c.self.view_is)
    (to_z-of_z w32 c.args.novalue c.ranges.novalue) c.if-not-is_row.false c.is_row.ensures

pub invariant_of-self : goal.invariant_of-self
invariant_of-self c =
    let whole : c.self.inside.posts.len ≡ length c.self.inside.posts.items = omega arith in
    record {
      due = omega arith;
      count = count_kept c.put_row.new.posts c.as_mut_slice.result.now c.self.inside.posts.items _ _ whole
          c.put_row.auto.posts c.as_mut_slice.ensures.value c.self.invariant.count;
      in_range = in_range_kept _ c.put_row.new.posts c.as_mut_slice.result.now c.self.inside.posts.items _ whole
          c.put_row.auto.posts c.as_mut_slice.ensures.value c.put_row.ensures.in_range c.self.invariant.in_range;
    }

pub returns-clause-posts : goal.returns-clause-posts
returns-clause-posts c =
    let due = ap (λ (m : Making). m.due) c.self.view_is in
    let cols = ap (λ (m : Making). m.head.cols) c.self.view_is in
    stacked _ _ _ _ c.args.row.now c.put_row.new.posts c.as_mut_slice.result.now c.self.inside.posts.items
    c.args.self.now.posts _ _ _
    (ap (λ (m : Making). m.head.kind) c.self.view_is) (to_z-of_z w32 c.args.novalue c.ranges.novalue)
    (omega arith) (omega arith) c.put_row.ensures.rest c.as_mut_slice.ensures.value
    (one_row _ _ _ (omega arith) (omega arith))
    (ap (λ (m : Making). m.posts) c.self.view_is)
