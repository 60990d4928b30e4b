use Rattle.std.proofs.Common.{◌≡◌, ℕ, ◌+◌, ◌-◌, length, ap, subst, arith}
use Rattle.cdb_crash.specs.Plan.{IsMidAfter}
use Rattle.cdb_publish.specs.Reads.{StepNeeds, SizesTold}
use Rattle.cdb_publish.proofs.Sizes.{no_needs}
use Rattle.cdb_publish.proofs.Underways.{next_source, heads_counted}
use Rattle.cdb_publish.proofs.advance.make_step.Goals as goal

pub returns-then-done-heads-clause-made : goal.returns-then-done-heads-clause-made
returns-then-done-heads-clause-made g c told P x plans rev records mid =
    let e : length c.as_slice-heads.result.now ≡ length c.args.plan.now.record.heads =
    ap length c.as_slice-heads.ensures in
    let is : length c.args.sources.now - 1 + 1 ≡ length c.args.sources.now =
    omega (arith, c.requires.source, c.if-done-heads.true, e) in
    c.source_step.ensures.made told P x plans
    (next_source c.args.sources.now x c.args.done (length c.args.sources.now - 1) c.index-sources-sources.result rev is
    c.index-sources-sources.is)

pub returns-then-done-heads-clause-sizes : goal.returns-then-done-heads-clause-sizes
returns-then-done-heads-clause-sizes g c =
    let e : length c.as_slice-heads.result.now ≡ length c.args.plan.now.record.heads =
    ap length c.as_slice-heads.ensures in
    StepNeeds.none (λ i is less. omega (arith, is, less, e, c.if-done-heads.true)) (
      (λ told. no_needs (g.D.Disk.state c.args.disk.now).present c.source_step.result c.source_step.ensures.error),
      omega (arith, c.source_step.ensures.reads),
    )

pub returns-then-done-heads-3-clause-sizes : goal.returns-then-done-heads-3-clause-sizes
returns-then-done-heads-3-clause-sizes g c =
    let e : length c.as_slice-heads.result.now ≡ length c.args.plan.now.record.heads =
    ap length c.as_slice-heads.ensures in
    let f : length c.as_slice-tiles.result.now ≡ length c.args.plan.now.record.tiles =
    ap length c.as_slice-tiles.ensures in
    StepNeeds.none (λ i is less. omega (arith, is, less, e, f, c.if-done-heads-2.false)) (
      (λ told. no_needs (g.D.Disk.state c.args.disk.now).present c.folder_step.result c.folder_step.ensures.error),
      omega (arith, c.folder_step.ensures.reads),
    )

pub returns-clause-sizes : goal.returns-clause-sizes
returns-clause-sizes g c =
    let e : length c.as_slice-heads.result.now ≡ length c.args.plan.now.record.heads =
    ap length c.as_slice-heads.ensures in
    let f : length c.as_slice-tiles.result.now ≡ length c.args.plan.now.record.tiles =
    ap length c.as_slice-tiles.ensures in
    StepNeeds.none (λ i is less. omega (arith, is, less, e, f, c.if-done-heads-2.false)) (
      (λ told. no_needs (g.D.Disk.state c.args.disk.now).present c.record_step.result c.record_step.ensures.error),
      omega (arith, c.record_step.ensures.reads),
    )

pub returns-then-done-heads-2-clause-sizes : goal.returns-then-done-heads-2-clause-sizes
returns-then-done-heads-2-clause-sizes g c =
    let e : length c.as_slice-heads.result.now ≡ length c.args.plan.now.record.heads =
    ap length c.as_slice-heads.ensures in
    let n : length c.args.plan.now.record.heads + (c.args.done - length c.as_slice-heads.result.now) ≡ c.args.done =
    omega (arith, e, c.if-done-heads.false) in
    let S : ℕ
    → Type 0 =
    λ k. SizesTold g.D.Disk.tells (g.D.Disk.state c.args.disk.now).present c.args.plan.now
    c.args.chain.now.records k
    (g.D.Disk.read_count c.args.disk.now) (g.D.Disk.read_count c.tile_step.new.disk) c.tile_step.result in
    subst S n c.tile_step.ensures.sizes

pub returns-then-done-heads-2-clause-undamaged : goal.returns-then-done-heads-2-clause-undamaged
returns-then-done-heads-2-clause-undamaged g c told P x plans are mid =
    let e : length c.as_slice-heads.result.now ≡ length c.args.plan.now.record.heads =
    ap length c.as_slice-heads.ensures in
    let n : c.args.done ≡ length x + (c.args.done - length c.as_slice-heads.result.now) =
    omega (arith, e, c.if-done-heads.false, heads_counted c.args.plan.now P x plans) in
    let M : ℕ → Type 0 = λ k. IsMidAfter P x c.args.plan.now.record.tiles k (g.D.Disk.state c.args.disk.now) in
    c.tile_step.ensures.undamaged told P x plans are (subst M n mid)
