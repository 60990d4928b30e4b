use Rattle.std.proofs.Common.{sym, subst, arith}
use Rattle.cdb_files.specs.Disk.{State}
use Rattle.cdb_check.specs.Expected.{SpellAll}
use Rattle.cdb_check.proofs.LoopLaws.{tile_met, tile_stopped, looks_on}
use Rattle.cdb_check.proofs.versions.check_tiles.Goals as goal

pub returns-in-Err-clause-finds : goal.returns-in-Err-clause-finds
returns-in-Err-clause-finds g c = λ told files spelled.
    let state = g.D.Disk.state in
    let here : SpellAll (state c.loop-k.disk).present files c.args.sources.now =
    subst (λ (s : State). SpellAll s.present files c.args.sources.now) (sym c.loop-k.invariant.looks.state) spelled
    in
    tile_stopped (Unit {0}) (Unit {0}) (state c.args.disk.now) (state c.loop-k.disk) c.loop-k.invariant.looks.state
    files c.args.version c.args.tiles.now c.loop-k.k c.index-tiles-k.result c.in-Err.error
    (omega (arith, c.loop-k-test.true)) c.index-tiles-k.is (c.loop-k.invariant.met told files spelled)
    (c.in-Err.ensures.judged told files here)

pub loop-k-preserved : goal.loop-k-preserved
loop-k-preserved g c = record {
  met = λ told files spelled.
      let state = g.D.Disk.state in
      let here : SpellAll (state c.loop-k.disk).present files c.args.sources.now =
      subst (λ (s : State). SpellAll s.present files c.args.sources.now) (sym c.loop-k.invariant.looks.state)
      spelled in
      tile_met (state c.args.disk.now) (state c.loop-k.disk) c.loop-k.invariant.looks.state files c.args.version
      c.args.tiles.now c.loop-k.k c.index-tiles-k.result
      (omega (arith, c.loop-k-test.true)) c.index-tiles-k.is (c.loop-k.invariant.met told files spelled)
      (c.in-Ok.ensures.judged told files here);
  kept = c.in-Ok.ensures.kept;
  ready = c.check_tile.ensures.ready;
  looks = looks_on g.D.Disk.clock g.D.Disk.since g.D.Disk.state g.D.Disk.fault_count c.args.disk.now c.loop-k.disk
      c.check_tile.new.disk c.loop-k.invariant.looks c.check_tile.ensures.looks;
}
