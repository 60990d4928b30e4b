use Rattle.std.proofs.Common.{rules, ◌≡◌, ℤ, w64, to_z, of_z}
use Rattle.cdb_model.specs.KnownStore.{start_at}
use Rattle.cdb_model.specs.Stores.{known}
use Rattle.cdb_engine.specs.Stays.{Stays}
use Rattle.cdb_engine.proofs.StayLaws.{stays_shows}
use Rattle.cdb_engine.proofs.FilledLaws.{at_start, none_begun, some_begun, all_begun, populates}
use Rattle.cdb_engine.proofs.filling.populate.Goals as goal

pub returns-in_default-clause-follows : goal.returns-in_default-clause-follows
returns-in_default-clause-follows g c = λ w origin s stays at.
    let D = g.D.Disk in
    none_begun w s c.args.start c.args.count
    (Stays D.tells D.clock D.fault_count D.since D.state origin c.args.disk.now c.args.engine.now w) stays

pub returns-in_default-clause-populates : goal.returns-in_default-clause-populates
returns-in_default-clause-populates g c = λ origin stays.
    let D = g.D.Disk in
    populates D.tells D.clock D.fault_count D.since D.state origin c.args.start c.args.count c.args.disk.now
    c.args.engine.now _
    (returns-in_default-clause-follows g c known origin (start_at origin.store.list) stays
    (at_start origin.store.list))

pub returns-in-Ok-fill-clause-follows : goal.returns-in-Ok-fill-clause-follows
returns-in-Ok-fill-clause-follows g c = λ w origin s stays at.
    let D = g.D.Disk in
    let sum : ℤ = c.in-Ok-fill.made.sum in
    let noise : to_z w64 (of_z w64 sum) ≡ sum = search rules in
    all_begun w s c.args.start c.args.count
    (Stays D.tells D.clock D.fault_count D.since D.state origin c.fill.new.disk c.fill.new.engine w)
    (record { versions = c.versions.result; files = c.in-Ok-fill.made.files; sum = to_z w64 (of_z w64 sum) }) sum noise
    (λ new now. (c.versions.ensures.tells w new
    (stays_shows D.tells D.clock D.fault_count D.since D.state origin c.fill.new.disk c.fill.new.engine w new now)).0)
    (c.in-Ok-fill.ensures.fills w origin s stays at)

pub returns-in-Ok-fill-clause-populates : goal.returns-in-Ok-fill-clause-populates
returns-in-Ok-fill-clause-populates g c = λ origin stays.
    let D = g.D.Disk in
    populates D.tells D.clock D.fault_count D.since D.state origin c.args.start c.args.count c.fill.new.disk
    c.fill.new.engine _
    (returns-in-Ok-fill-clause-follows g c known origin (start_at origin.store.list) stays
    (at_start origin.store.list))

pub returns-clause-follows : goal.returns-clause-follows
returns-clause-follows g c = λ w origin s stays at.
    let D = g.D.Disk in
    some_begun w s c.args.start c.args.count
    (Stays D.tells D.clock D.fault_count D.since D.state origin c.fill.new.disk c.fill.new.engine w) c.in-Err.error
    (c.in-Err.ensures.fills w origin s stays at)

pub returns-clause-populates : goal.returns-clause-populates
returns-clause-populates g c = λ origin stays.
    let D = g.D.Disk in
    populates D.tells D.clock D.fault_count D.since D.state origin c.args.start c.args.count c.fill.new.disk
    c.fill.new.engine _
    (returns-clause-follows g c known origin (start_at origin.store.list) stays
    (at_start origin.store.list))
