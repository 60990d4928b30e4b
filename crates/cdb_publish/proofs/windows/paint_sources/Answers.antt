use Rattle.std.proofs.Common.{◌≡◌, ◌∙◌, ◌+◌, ◌-◌, ◌*◌, ◌≤◌, List, [], ◌∷◌, ◌++◌, Some, drop, get_or, length, length-append, append_assoc, refl, sym, ap, subst, arith}
use Rattle.std.proofs.lemmas.Option.{get_or_from_slice_get}
use Rattle.cdb_source.specs.Texts.{source_text}
use Rattle.cdb_source.specs.declared.head.SourceHead.{SourceHead}
use Rattle.cdb_model.specs.Names.{source_path}
use Rattle.cdb_source.proofs.Lists.{some_at}
use Rattle.cdb_files.specs.Disk.{State}
use Rattle.cdb_cut.specs.OneTile.{IsPaintedBy}
use Rattle.cdb_publish.specs.Needs.{Need, AreSized, TellsError}
use Rattle.cdb_publish.specs.Windows.{window_need, window_needs}
use Rattle.cdb_files.proofs.MomentLaws.{rests_then}
use Rattle.cdb_publish.proofs.Sizes.{stopped, sized-append}
use Rattle.cdb_cut.proofs.PaintedSources.{one_older}
use Rattle.cdb_publish.proofs.WindowReads.{from_on, from_more, all_needs, drop_end, head_there, same_length}
use Rattle.cdb_publish.proofs.windows.paint_sources.Goals as goal

pub paint_source-requires-clause-room : goal.paint_source-requires-clause-room
paint_source-requires-clause-room g c head at level first count w =
    let n = length c.as_slice-count.result.now in let k = c.loop-done.done in
    let r : count * head.cols ≤ length c.args.posts.now = c.requires.room (n - 1 - k) head at level first count w in
    omega (arith, r, c.loop-done.invariant.room)

pub loop-done-init : goal.loop-done-init
loop-done-init g c =
    let v = c.args.plan.now.record.version in let heads : List SourceHead = c.args.plan.now.record.heads in
    let t = c.args.tile.now in let n = length c.as_slice-count.result.now in
    let e : n ≡ length heads = ap length c.as_slice-count.ensures in
    let none : drop (n - 0) heads ≡ [] = drop_end heads (n - 0) (omega (arith, e)) in
    let needs : from_on v heads t (n - 0) ≡ [] = ap (λ hs. window_needs v (n - 0 + 1) hs t) none in
    record {
      room = refl;
      state = refl;
      time = record { same = refl; nothing_else = λ u m s. s; keeps = λ u m s. s };
      later = omega arith;
      sizes = λ told. subst (AreSized (g.D.Disk.state c.args.disk.now).present) (sym needs) tt;
      reads = omega arith;
      painted = λ told ss x are src begun.
          subst (λ own. IsPaintedBy ss t own c.args.frame.now)
          (sym (drop_end x (n - 0) (omega (arith, e, same_length heads x are)))) begun;
    }

pub returns-in-Err-clause-sizes : goal.returns-in-Err-clause-sizes
returns-in-Err-clause-sizes g c told =
    let v = c.args.plan.now.record.version in let heads : List SourceHead = c.args.plan.now.record.heads in
    let t = c.args.tile.now in let n = length c.as_slice-count.result.now in let k = c.loop-done.done in
    let e : n ≡ length heads = ap length c.as_slice-count.ensures in
    let h = some_at heads (n - 1 - k) (omega (arith, e, c.loop-done-test.true)) in
    let d : get_or heads (n - 1 - k) h.0 ≡ h.0 = get_or_from_slice_get heads (n - 1 - k) h.0 h.0 h.1 in
    let rest = all_needs v heads t (n - (k + 1)) in
    let this = window_need v (n - 1 - k + 1) h.0 t in
    let E : State → Type 0 = λ s. TellsError s.present this c.in-Err.error in
    stopped (g.D.Disk.state c.args.disk.now).present (from_on v heads t (n - k)) this (rest.0)
    (window_needs v 1 heads t) c.in-Err.error
    (rest.1 ∙ ap (λ l. l ++ rest.0) (from_more v heads t n k h.0 e c.loop-done-test.true
    ∙ ap (λ x. from_on v heads t (n - k) ++ window_need v (n - 1 - k + 1) x t) d)
    ∙ append_assoc (from_on v heads t (n - k)) this (rest.0))
    (c.loop-done.invariant.sizes told) (subst E c.loop-done.invariant.state (c.in-Err.ensures.sizes told h.0 h.1))

pub returns-in-Err-clause-reads : goal.returns-in-Err-clause-reads
returns-in-Err-clause-reads g c =
    let v = c.args.plan.now.record.version in let heads : List SourceHead = c.args.plan.now.record.heads in
    let t = c.args.tile.now in let n = length c.as_slice-count.result.now in let k = c.loop-done.done in
    let e : n ≡ length heads = ap length c.as_slice-count.ensures in
    let h = some_at heads (n - 1 - k) (omega (arith, e, c.loop-done-test.true)) in
    let d : get_or heads (n - 1 - k) h.0 ≡ h.0 = get_or_from_slice_get heads (n - 1 - k) h.0 h.0 h.1 in
    let rest = all_needs v heads t (n - (k + 1)) in
    let this = window_need v (n - 1 - k + 1) h.0 t in
    omega (
      arith,
      c.loop-done.invariant.reads,
      c.paint_source.ensures.reads h.0 h.1,
      ap length
          (rest.1 ∙ ap (λ l. l ++ rest.0) (from_more v heads t n k h.0 e c.loop-done-test.true
          ∙ ap (λ x. from_on v heads t (n - k) ++ window_need v (n - 1 - k + 1) x t) d)),
      length-append (from_on v heads t (n - k) ++ this) (rest.0),
      length-append (from_on v heads t (n - k)) this,
    )

pub loop-done-preserved : goal.loop-done-preserved
loop-done-preserved g c =
    let v = c.args.plan.now.record.version in let heads : List SourceHead = c.args.plan.now.record.heads in
    let t = c.args.tile.now in let n = length c.as_slice-count.result.now in let k = c.loop-done.done in
    let e : n ≡ length heads = ap length c.as_slice-count.ensures in let inv = c.loop-done.invariant in
    let here = g.D.Disk.state c.args.disk.now in
    let h = some_at heads (n - 1 - k) (omega (arith, e, c.loop-done-test.true)) in
    let d : get_or heads (n - 1 - k) h.0 ≡ h.0 = get_or_from_slice_get heads (n - 1 - k) h.0 h.0 h.1 in
    let this = window_need v (n - 1 - k + 1) h.0 t in
    let more : from_on v heads t (n - (k + 1)) ≡ from_on v heads t (n - k) ++ this =
    from_more v heads t n k h.0 e c.loop-done-test.true
    ∙ ap (λ x. from_on v heads t (n - k) ++ window_need v (n - 1 - k + 1) x t) d in
    let A : List Need → Type 0 = AreSized here.present in
    let S : State → Type 0 = λ s. AreSized s.present this in
    record {
      room = c.paint_source.auto.posts ∙ inv.room;
      state = c.paint_source.ensures.state ∙ inv.state;
      time = rests_then _ _ _ _ _ _ inv.time c.paint_source.ensures.time;
      later = omega (arith, inv.later, c.paint_source.ensures.cause.later);
      sizes = λ told. subst A (sym more)
          (sized-append here.present (from_on v heads t (n - k)) this (inv.sizes told)
          (subst S inv.state (c.in-Ok.ensures.sizes told h.0 h.1)));
      reads = omega (
        arith,
        inv.reads,
        c.paint_source.ensures.reads h.0 h.1,
        ap length more,
        length-append (from_on v heads t (n - k)) this,
      );
      painted = λ told ss x are src begun.
          let f : n ≡ length x = e ∙ same_length heads x are in
          let s = some_at x (n - 1 - k) (omega (arith, f, c.loop-done-test.true)) in
          let r : get_or x (n - 1 - k) s.0 ≡ s.0 = get_or_from_slice_get x (n - 1 - k) s.0 s.0 s.1 in
          let N : State → Type 0 = λ z. z.present (source_path v (n - 1 - k + 1)) ≡ Some (source_text s.0) in
          subst (λ own. IsPaintedBy ss t own c.paint_source.new.frame)
          (sym (one_older x n k s.0 f c.loop-done-test.true ∙ ap (λ y. y ∷ drop (n - k) x) r))
          (c.in-Ok.ensures.painted told s.0 (head_there heads x (n - 1 - k) s.0 are s.1)
          (subst N (sym inv.state) (src (n - 1 - k) s.0 s.1)) ss (drop (n - k) x)
          (inv.painted told ss x are src begun));
    }

pub returns-clause-painted : goal.returns-clause-painted
returns-clause-painted g c told ss x are src begun =
    let n = length c.as_slice-count.result.now in let k = c.loop-done.done in
    let zero_left : n - k ≡ 0 = omega (arith, c.loop-done-test.false) in
    subst (λ i. IsPaintedBy ss c.args.tile.now (drop i x) c.loop-done.frame) zero_left
    (c.loop-done.invariant.painted told ss x are src begun)

pub returns-clause-sizes : goal.returns-clause-sizes
returns-clause-sizes g c told =
    let v = c.args.plan.now.record.version in let heads : List SourceHead = c.args.plan.now.record.heads in
    let t = c.args.tile.now in
    let n = length c.as_slice-count.result.now in let k = c.loop-done.done in
    let zero_left : n - k ≡ 0 = omega (arith, c.loop-done-test.false) in
    subst (λ i. AreSized (g.D.Disk.state c.args.disk.now).present (from_on v heads t i)) zero_left
    (c.loop-done.invariant.sizes told)

pub returns-clause-reads : goal.returns-clause-reads
returns-clause-reads g c =
    let v = c.args.plan.now.record.version in let heads : List SourceHead = c.args.plan.now.record.heads in
    let t = c.args.tile.now in
    let n = length c.as_slice-count.result.now in let k = c.loop-done.done in
    let zero_left : n - k ≡ 0 = omega (arith, c.loop-done-test.false) in
    omega (arith, c.loop-done.invariant.reads, ap (λ i. length (from_on v heads t i)) zero_left)
