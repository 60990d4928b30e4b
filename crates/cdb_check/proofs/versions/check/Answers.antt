use Rattle.std.proofs.Common.{◌≡◌, ℕ, ◌+◌, ◌-◌, ◌++◌, slice_get, take, Some, sym, subst, arith, List}
use Rattle.cdb_files.specs.Disk.{State}
use Rattle.cdb_manifest.specs.declared.record_.Record.{Record}
use Rattle.cdb_check.specs.Expected.{SourceFile, Expected, expected_files, source_files_of, expected_of, AllAsExpected, SpellAll}
use Rattle.cdb_check.specs.declared.outcome.Agreed.{Agreed}
use Rattle.cdb_check.proofs.ExpectedLaws.{all_source_files, met_append}
use Rattle.cdb_check.proofs.LoopLaws.{version_stopped, expected_next, files_next, length_next, looks_on}
use Rattle.cdb_check.proofs.versions.check.Goals as goal

here_at : (k : ℕ) (records : List Record) (r : Record) → slice_get records (k + 1 - 1) ≡ Some r
    → slice_get records k ≡ Some r
here_at k records r at = let e : k + 1 - 1 ≡ k = omega arith in subst (λ (n : ℕ). slice_get records n ≡ Some r) e at

pub returns-in-Err-clause-finds : goal.returns-in-Err-clause-finds
returns-in-Err-clause-finds g c = λ told.
    let state = g.D.Disk.state in let k = c.loop-k.k in let records = c.args.chain.now.records in
    let files = all_source_files (take k records) in
    let here : SpellAll (state c.loop-k.disk).present files c.loop-k.sources.items =
    subst (λ (s : State). SpellAll s.present files c.loop-k.sources.items) (sym c.loop-k.invariant.looks.state)
    (c.loop-k.invariant.spelled told) in
    version_stopped (Unit {0}) Agreed (state c.args.disk.now) (state c.loop-k.disk) c.loop-k.invariant.looks.state
    records k c.in-Some.record.now c.in-Err.error
    (here_at k records c.in-Some.record.now c.in-Some.ensures.1) (c.loop-k.invariant.met told)
    (c.in-Err.ensures.finds told files here)

pub loop-k-preserved : goal.loop-k-preserved
loop-k-preserved g c =
    let state = g.D.Disk.state in let k = c.loop-k.k in let records = c.args.chain.now.records in let r =
    c.in-Some.record.now in
    let files = all_source_files (take k records) in
    let at : slice_get records k ≡ Some r = here_at k records r c.in-Some.ensures.1 in
    record {
      met = λ told.
          let here : SpellAll (state c.loop-k.disk).present files c.loop-k.sources.items =
          subst (λ (s : State). SpellAll s.present files c.loop-k.sources.items)
          (sym c.loop-k.invariant.looks.state) (c.loop-k.invariant.spelled told) in
          let one : AllAsExpected (state c.args.disk.now).present (expected_of files r) =
          subst (λ (s : State). AllAsExpected s.present (expected_of files r)) c.loop-k.invariant.looks.state
          (c.in-Ok-check_version.ensures.finds told files here) in
          subst (λ (ds : List Expected). AllAsExpected (state c.args.disk.now).present ds)
          (sym (expected_next records k r at))
          (met_append (state c.args.disk.now).present (expected_files (take k records)) (expected_of files r)
          (c.loop-k.invariant.met told) one);
      spelled = λ told.
          let here : SpellAll (state c.loop-k.disk).present files c.loop-k.sources.items =
          subst (λ (s : State). SpellAll s.present files c.loop-k.sources.items)
          (sym c.loop-k.invariant.looks.state) (c.loop-k.invariant.spelled told) in
          let one = subst (λ (s : State). SpellAll s.present (files ++ source_files_of r)
          c.check_version.new.sources.items) c.loop-k.invariant.looks.state
          (c.in-Ok-check_version.ensures.spelled told files here) in
          subst (λ (zs : List SourceFile). SpellAll (state c.args.disk.now).present zs
          c.check_version.new.sources.items) (sym (files_next records k r at)) one;
      files = omega (arith, c.loop-k.invariant.files, length_next records k r at, c.file_count-files.ensures.count);
      small = omega (arith, c.loop-k.invariant.small, c.file_count-files.ensures.most);
      ready = c.check_version.ensures.ready;
      looks = looks_on g.D.Disk.clock g.D.Disk.since g.D.Disk.state g.D.Disk.fault_count c.args.disk.now c.loop-k.disk
          c.check_version.new.disk c.loop-k.invariant.looks c.check_version.ensures.looks;
    }
