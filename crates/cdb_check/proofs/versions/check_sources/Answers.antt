use Rattle.std.proofs.Common.{◌≡◌, ◌+◌, ◌<◌, ◌≤◌, ◌++◌, length, get_or, take, sym, ap, subst, arith, List}
use Rattle.cdb_source.specs.declared.head.SourceHead.{SourceHead}
use Rattle.cdb_source.specs.declared.source.Source.{Source}
use Rattle.cdb_check.specs.Expected.{SourceFile, Expected, source_files_of, AllAsExpected, SpellAll}
use Rattle.cdb_check.proofs.LoopLaws.{source_met, source_stopped, spell_next, looks_on, all_files_taken, all_sources_taken}
use Rattle.cdb_check.proofs.versions.check_sources.Goals as goal

pub returns-in-Err-clause-finds : goal.returns-in-Err-clause-finds
returns-in-Err-clause-finds g c = λ told.
    let state = g.D.Disk.state in let heads = c.args.record.now.heads in let head = c.index-heads-k.result in
    let lt : c.loop-k.k < length heads = subst (λ (hs : List SourceHead). c.loop-k.k < length hs)
    c.as_slice-heads.ensures c.loop-k-test.true in
    let is : head ≡ get_or heads c.loop-k.k head =
    subst (λ (hs : List SourceHead). head ≡ get_or hs c.loop-k.k head) c.as_slice-heads.ensures c.index-heads-k.is
    in
    source_stopped (Unit {0}) (state c.args.disk.now) (state c.loop-k.disk) c.loop-k.invariant.looks.state
    c.args.record.now.version heads c.loop-k.k head c.in-Err.error
    lt is (c.loop-k.invariant.met told) (c.in-Err.ensures.gives told) c.in-Err.ensures.path

pub loop-k-preserved : goal.loop-k-preserved
loop-k-preserved g c =
    let state = g.D.Disk.state in let heads = c.args.record.now.heads in let head = c.index-heads-k.result in
    let lt : c.loop-k.k < length heads = subst (λ (hs : List SourceHead). c.loop-k.k < length hs)
    c.as_slice-heads.ensures c.loop-k-test.true in
    let is : head ≡ get_or heads c.loop-k.k head =
    subst (λ (hs : List SourceHead). head ≡ get_or hs c.loop-k.k head) c.as_slice-heads.ensures c.index-heads-k.is
    in
    record {
      met = λ told. source_met (state c.args.disk.now) (state c.loop-k.disk) c.loop-k.invariant.looks.state
          c.args.record.now.version heads c.loop-k.k head c.in-Ok.source
          lt is (c.loop-k.invariant.met told) (c.in-Ok.ensures.gives told);
      spelled = λ told earlier spelled.
          subst (λ (ss : List Source). SpellAll (state c.args.disk.now).present
          (earlier ++ take (c.loop-k.k + 1) (source_files_of c.args.record.now)) ss)
          (sym c.in-Ok-push.ensures.items)
          (spell_next (state c.args.disk.now) (state c.loop-k.disk) c.loop-k.invariant.looks.state
          c.args.record.now.version heads c.loop-k.k head c.in-Ok.source earlier c.loop-k.sources.items
          lt is (c.loop-k.invariant.spelled told earlier spelled) (c.in-Ok.ensures.gives told));
      looks = looks_on g.D.Disk.clock g.D.Disk.since g.D.Disk.state g.D.Disk.fault_count c.args.disk.now c.loop-k.disk
          c.check_source.new.disk c.loop-k.invariant.looks c.check_source.ensures.looks;
    }

pub returns-clause-finds : goal.returns-clause-finds
returns-clause-finds g c = λ told.
    let heads = c.args.record.now.heads in
    let past : length heads ≤ c.loop-k.k =
    (let e : length c.as_slice-heads.result.now ≡ length heads = ap length c.as_slice-heads.ensures in
    omega (arith, e, c.loop-k-test.false)) in
    subst (λ (ds : List Expected). AllAsExpected (g.D.Disk.state c.args.disk.now).present ds)
    (all_sources_taken c.args.record.now.version heads c.loop-k.k past) (c.loop-k.invariant.met told)

pub returns-clause-spelled : goal.returns-clause-spelled
returns-clause-spelled g c = λ told earlier spelled.
    let heads = c.args.record.now.heads in
    let past : length heads ≤ c.loop-k.k =
    (let e : length c.as_slice-heads.result.now ≡ length heads = ap length c.as_slice-heads.ensures in
    omega (arith, e, c.loop-k-test.false)) in
    subst (λ (files : List SourceFile). SpellAll (g.D.Disk.state c.args.disk.now).present (earlier ++ files)
    c.loop-k.sources.items) (all_files_taken c.args.record.now.version heads c.loop-k.k past)
    (c.loop-k.invariant.spelled told earlier spelled)
