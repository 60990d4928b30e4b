use Rattle.std.proofs.Common.{not, true, sym, ap, ◌∙◌, subst}
use Rattle.std.specs.List.{position}
use Rattle.cdb_pool.specs.Frames.{Frames, AllOut, IsFirstFree, IsLent, with_out}
use Rattle.cdb_pool.proofs.OutLaws.{is_ready}
use Rattle.cdb_pool.proofs.FreeFrames.{free_at, none_before, none_free}
use Rattle.cdb_pool.proofs.pool.Pool.take.Goals as goal

pub returns-in_default-clause-frame : goal.returns-in_default-clause-frame
returns-in_default-clause-frame g c =
    let none = ap (position not) (sym c.as_slice.ensures.value) ∙ sym c.first_free.ensures ∙ c.in_default.is in
    subst (λ (s : Frames g.row.T.Denot). AllOut s) c.self.view_is (none_free c.self.inside.taken.items none)

pub returns-clause-frame : goal.returns-clause-frame
returns-clause-frame g c =
    let some = ap (position not) (sym c.as_slice.ensures.value) ∙ sym c.first_free.ensures ∙ c.in-Some.is in
    subst (λ (s : Frames g.row.T.Denot). IsFirstFree s c.in-Some.number) c.self.view_is (
      free_at c.self.inside.taken.items c.in-Some.number some,
      none_before c.self.inside.taken.items c.in-Some.number some,
    )

pub returns-clause-ready : goal.returns-clause-ready
returns-clause-ready g c =
    let some = ap (position not) (sym c.as_slice.ensures.value) ∙ sym c.first_free.ensures ∙ c.in-Some.is in
    let p : Frames g.row.T.Denot =
    record {
      items = c.self.inside.block.items;
      frame_length = c.self.inside.frame_length;
      out = c.self.inside.taken.items;
    } in
    let k = c.in-Some.number in
    let first : IsFirstFree p k =
    (free_at c.self.inside.taken.items k some, none_before c.self.inside.taken.items k some) in
    subst (λ n. IsLent (with_out p k true) k n) (ap (λ (s : Frames g.row.T.Denot). s.frame_length) c.self.view_is)
    (is_ready p k c.self.invariant first)
