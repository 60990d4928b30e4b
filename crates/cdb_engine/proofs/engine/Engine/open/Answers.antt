use Rattle.std.proofs.Common.{◌∷◌, sym, subst}
use Rattle.cdb_model.specs.Images.{StandsForOne}
use Rattle.cdb_engine.specs.contracts.engine.Engine.{the_row}
use Rattle.std.specs.Prelude.{Err}
use Rattle.cdb_files.specs.Disk.{State}
use Rattle.cdb_engine.specs.Store.{IsStoreFound, TellsNoStore}
use Rattle.cdb_engine.proofs.OpenStays.{stays_opened}
use Rattle.cdb_engine.proofs.OpenTracks.{store_stands, recovers, recover_moments, adds_rests, opened_tracks}
use Rattle.cdb_engine.proofs.OpenTracks.{opens_found, chain_refuses, recovery_found}
use Rattle.cdb_engine.proofs.engine.Engine.open.Goals as goal

pub returns-in-Err-clause-moments : goal.returns-in-Err-clause-moments
returns-in-Err-clause-moments g c = λ told list early store.
    recover_moments g.D.Disk.clock g.D.Disk.since c.args.disk.now c.recover.new.disk (g.D.Disk.state c.args.disk.now)
    (c.recover.ensures.moments told) (c.recover.ensures.fault_moments told) list early store

pub returns-in-Err-clause-store : goal.returns-in-Err-clause-store
returns-in-Err-clause-store g c = λ told list early store.
    subst IsStoreFound (sym c.recovery_error.ensures)
    (recovery_found c.in-Err.error
    (c.in-Err.ensures.store told list
    (store_stands (g.D.Disk.state c.args.disk.now) list early
    (g.met.D.Disk.present_possible c.args.disk.now told) store)))

pub returns-in-Err-open-clause-moments : goal.returns-in-Err-open-clause-moments
returns-in-Err-open-clause-moments g c = λ told list early store.
    adds_rests g.D.Disk.clock g.D.Disk.since c.args.disk.now c.recover.new.disk c.open.new.disk
    (StandsForOne (list ∷ early))
    (recover_moments g.D.Disk.clock g.D.Disk.since c.args.disk.now c.recover.new.disk (g.D.Disk.state c.args.disk.now)
    (c.recover.ensures.moments told) (c.recover.ensures.fault_moments told) list early store) c.open.ensures.time

pub returns-in-Err-open-clause-store : goal.returns-in-Err-open-clause-store
returns-in-Err-open-clause-store g c = λ told list early store.
    let r = recovers (g.D.Disk.state c.args.disk.now) (g.D.Disk.state c.recover.new.disk) c.in-Ok.newest
    (c.in-Ok.ensures.clean told) (c.in-Ok.ensures.fault_old told)
    (c.in-Ok.ensures.fault_new told) list early store in
    opens_found list c.in-Err-open.error
    (c.in-Err-open.ensures.store told list
    (r.1.whole.stands (g.D.Disk.state c.recover.new.disk).present
    (g.met.D.Disk.present_possible c.recover.new.disk told)) r.0)

pub returns-in-Err-open-clause-no_store : goal.returns-in-Err-open-clause-no_store
returns-in-Err-open-clause-no_store g c =
    subst (λ (m : State). TellsNoStore {T = the_row.Denot} g.D.Disk.tells
    (g.D.Disk.state c.args.disk.now).present m.present (Err c.in-Err-open.error)) (sym c.open.ensures.state)
    (chain_refuses the_row.Denot g.D.Disk.tells (g.D.Disk.state c.args.disk.now).present
    (g.D.Disk.state c.recover.new.disk).present c.in-Ok.newest c.in-Err-open.error c.in-Ok.ensures.answer
    c.in-Ok.ensures.kept c.in-Err-open.ensures.opened)

pub returns-in-Ok-new-clause-begins : goal.returns-in-Ok-new-clause-begins
returns-in-Ok-new-clause-begins g c = λ told list early store.
    let r = recovers (g.D.Disk.state c.args.disk.now) (g.D.Disk.state c.recover.new.disk) c.in-Ok.newest
    (c.in-Ok.ensures.clean told) (c.in-Ok.ensures.fault_old told)
    (c.in-Ok.ensures.fault_new told) list early store in
    opened_tracks list c.in-Ok-open.chain c.in-Ok-new.sessions c.new-in-Ok-new.result.items
    (g.D.Disk.state c.recover.new.disk)
    (g.D.Disk.state c.open.new.disk) c.in-Ok-new.ensures c.new-in-Ok-new.ensures.items r.1
    (c.in-Ok-open.ensures.store told list
    (r.1.whole.stands (g.D.Disk.state c.recover.new.disk).present
    (g.met.D.Disk.present_possible c.recover.new.disk told)) r.0) c.open.ensures.state

pub returns-in-Ok-new-clause-moments : goal.returns-in-Ok-new-clause-moments
returns-in-Ok-new-clause-moments g c = λ told list early store.
    adds_rests g.D.Disk.clock g.D.Disk.since c.args.disk.now c.recover.new.disk c.open.new.disk
    (StandsForOne (list ∷ early))
    (recover_moments g.D.Disk.clock g.D.Disk.since c.args.disk.now c.recover.new.disk (g.D.Disk.state c.args.disk.now)
    (c.recover.ensures.moments told) (c.recover.ensures.fault_moments told) list early store) c.open.ensures.time

pub returns-in-Ok-new-clause-follows : goal.returns-in-Ok-new-clause-follows
returns-in-Ok-new-clause-follows g c = λ told base faults now store fewer.
    let D = g.D.Disk in
    stays_opened D.tells D.clock D.fault_count D.since D.state c.args.disk.now c.open.new.disk _ base faults told now
    store fewer (returns-in-Ok-new-clause-begins g c told base.list base.early store)
    (returns-in-Ok-new-clause-moments g c told base.list base.early store) (g.met.D.Disk.only_now c.args.disk.now)
    (g.met.D.Disk.only_now c.open.new.disk)

pub returns-in-Err-new-clause-moments : goal.returns-in-Err-new-clause-moments
returns-in-Err-new-clause-moments g c = λ told list early store.
    adds_rests g.D.Disk.clock g.D.Disk.since c.args.disk.now c.recover.new.disk c.open.new.disk
    (StandsForOne (list ∷ early))
    (recover_moments g.D.Disk.clock g.D.Disk.since c.args.disk.now c.recover.new.disk (g.D.Disk.state c.args.disk.now)
    (c.recover.ensures.moments told) (c.recover.ensures.fault_moments told) list early store) c.open.ensures.time
