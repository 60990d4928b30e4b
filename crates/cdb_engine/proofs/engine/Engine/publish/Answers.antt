use Rattle.std.proofs.Common.{◌≡◌, ◌≢◌, ◌≤◌, ◌<◌, ◌∙◌, ℕ, List, [], Some, None, sym, ap, subst}
use Rattle.cdb_source.specs.declared.source.Source.{Source}
use Rattle.cdb_source.specs.Reached.{IsLoad}
use Rattle.cdb_model.specs.Events as machine
use Rattle.cdb_model.specs.Stands.{Stands}
use Rattle.cdb_model.specs.Stores.{store_kind}
use Rattle.cdb_model.specs.Transitions.{PublishLineIn}
use Rattle.cdb_engine.specs.Held.{Held, held_of}
use Rattle.cdb_model.specs.Publications.{Publication, heads_of}
use Rattle.cdb_crash.specs.Crash.{IsClean}
use Rattle.cdb_chain.specs.Publications.{AreRecords}
use Rattle.cdb_chain.specs.Versions.{Versions}
use Rattle.cdb_publish.specs.Going.{Underway, IsBegun}
use Rattle.cdb_publish.specs.Planning.{RefusesPlan, IsAccepted}
use Rattle.cdb_publish.specs.declared.publication.Publication as publish
use Rattle.cdb_engine.specs.StoreAnswers.{publish_refusal, refusal_of}
use Rattle.cdb_engine.specs.declared.errors.PublishError.{PublishError}
use Rattle.cdb_engine.specs.Stays.{Stays}
use Rattle.cdb_engine.specs.Tracks.{Leads}
use Rattle.cdb_engine.proofs.StayLaws.{stays_shows}
use Rattle.cdb_engine.proofs.PublishTracks.{memory_then, refused_then, stays_room, begins_then, spare_then}
use Rattle.cdb_engine.proofs.engine.Engine.publish.Goals as goal

pub returns-in-Err-clause-begins : goal.returns-in-Err-clause-begins
returns-in-Err-clause-begins g c = λ w origin s stays. record {
  next = s;
  step = c.in-Err.ensures.refused w s
      (stays_shows g.D.Disk.tells g.D.Disk.clock g.D.Disk.fault_count g.D.Disk.since g.D.Disk.state origin
      c.args.disk.now c.args.self.now w s stays);
  now = stays;
}

pub returns-then-is_err-clause-begins : goal.returns-then-is_err-clause-begins
returns-then-is_err-clause-begins g c = λ w origin s stays.
    let held : Held =
    held_of c.self.inside.chain c.self.inside.work c.self.inside.pending.items c.self.inside.sessions
    c.self.inside.halted in
    let here : Stays g.D.Disk.tells g.D.Disk.clock g.D.Disk.fault_count g.D.Disk.since g.D.Disk.state origin
    c.args.disk.now held w s =
    subst (λ (h : Held). Stays g.D.Disk.tells g.D.Disk.clock g.D.Disk.fault_count g.D.Disk.since g.D.Disk.state
    origin c.args.disk.now h w s) (sym c.self.view_is) stays in
    let running : held.halted ≡ None = ap (λ (h : Held). h.halted) c.self.view_is ∙ c.in_default.ensures.running in
    let none : held.work ≡ None = ap (λ (h : Held). h.work) c.self.view_is ∙ c.in_default.ensures.idle in
    let some : held.pending ≢ [] =
    subst (λ (h : Held). h.pending ≢ []) (sym c.self.view_is) c.in_default.ensures.some in
    memory_then g.D.Disk.tells g.D.Disk.clock g.D.Disk.fault_count g.D.Disk.since g.D.Disk.state origin c.args.disk.now
    held c.make_room.new.chain running none some c.make_room.ensures.records w s here

pub returns-in-Ok-clause-begins : goal.returns-in-Ok-clause-begins
returns-in-Ok-clause-begins g c = λ w origin s stays.
    let held : Held =
    held_of c.self.inside.chain c.self.inside.work c.self.inside.pending.items c.self.inside.sessions
    c.self.inside.halted in
    let here : Stays g.D.Disk.tells g.D.Disk.clock g.D.Disk.fault_count g.D.Disk.since g.D.Disk.state origin
    c.args.disk.now held w s =
    subst (λ (h : Held). Stays g.D.Disk.tells g.D.Disk.clock g.D.Disk.fault_count g.D.Disk.since g.D.Disk.state
    origin c.args.disk.now h w s) (sym c.self.view_is) stays in
    let running : held.halted ≡ None = ap (λ (h : Held). h.halted) c.self.view_is ∙ c.in_default.ensures.running in
    let none : held.work ≡ None = ap (λ (h : Held). h.work) c.self.view_is ∙ c.in_default.ensures.idle in
    let some : held.pending ≢ [] =
    subst (λ (h : Held). h.pending ≢ []) (sym c.self.view_is) c.in_default.ensures.some in
    let chain : Versions = c.make_room.new.chain in
    let q : publish.Publication = c.in-Ok.work in
    let same : c.replace-sources.result.items ≡ held.pending = ap (λ v. v.items) c.replace-sources.ensures.value in
    let rest : c.replace-sources.new.dest.items ≡ [] = ap (λ v. v.items) c.replace-sources.ensures.after
    ∙ c.new.ensures.items in
    let ready : Held = record held { chain = chain } in
    let there : Stays g.D.Disk.tells g.D.Disk.clock g.D.Disk.fault_count g.D.Disk.since g.D.Disk.state origin
    c.args.disk.now ready w s =
    stays_room g.D.Disk.tells g.D.Disk.clock g.D.Disk.fault_count g.D.Disk.since g.D.Disk.state origin
    c.args.disk.now held chain none c.make_room.ensures.records w s here in
    let underway : g.D.Disk.tells → (P : List Publication) → AreRecords chain.records P
    → IsClean Stands P (g.D.Disk.state c.args.disk.now)
    → Underway q P held.pending 0 chain.records (g.D.Disk.state c.args.disk.now) =
    λ told P are clean. subst
    (λ (y : List Source). Underway q P y 0 chain.records (g.D.Disk.state c.args.disk.now)) same
    (subst (λ (d : g.row.D.Denot). Underway q P c.replace-sources.result.items 0 chain.records (g.D.Disk.state d))
    c.plan.ensures.disk (c.in-Ok.ensures.underway told P are clean)) in
    let accepted : IsAccepted chain.records (heads_of held.pending) =
    subst (λ (y : List Source). IsAccepted chain.records (heads_of y)) same c.in-Ok.ensures.accepted in
    let begun : IsBegun q (heads_of held.pending) =
    subst (λ (y : List Source). IsBegun q (heads_of y)) same c.in-Ok.ensures.begun in
    let few : q.files ≤ accepted.0.load =
    c.in-Ok.ensures.few accepted.0.load
    (subst (λ (y : List Source). IsLoad (heads_of y) accepted.0.load) (sym same) accepted.0.load_is) in
    let room : q.files < chain.spare =
    spare_then c.make_room.result q.files accepted.0.load chain.spare c.if-is_err.ensures.value few
    (c.make_room.ensures.room accepted.0.load
    (subst (λ (y : List Source). IsLoad (heads_of y) accepted.0.load)
    (sym c.as_slice.ensures.value) accepted.0.load_is) accepted.0.fits) in
    let led = begins_then g.D.Disk.tells g.D.Disk.clock g.D.Disk.fault_count g.D.Disk.since g.D.Disk.state
    c.args.disk.now ready q running none some underway accepted begun c.in-Ok.ensures.version room
    c.replace-sources.new.dest.items rest w origin s there in
    let new : Held =
    held_of chain (Some q) c.replace-sources.new.dest.items c.self.inside.sessions c.self.inside.halted in
    subst (λ (d : g.row.D.Denot). Leads
    (PublishLineIn (store_kind w) s (machine.begun c.version.result c.files.result))
    (Stays g.D.Disk.tells g.D.Disk.clock g.D.Disk.fault_count g.D.Disk.since g.D.Disk.state origin d new w))
    (sym c.plan.ensures.disk)
    (subst (λ (v : ℕ). Leads (PublishLineIn (store_kind w) s (machine.begun v c.files.result))
    (Stays g.D.Disk.tells g.D.Disk.clock g.D.Disk.fault_count g.D.Disk.since g.D.Disk.state origin c.args.disk.now
    new w)) (sym c.version.ensures)
    (subst (λ (f : ℕ). Leads (PublishLineIn (store_kind w) s (machine.begun q.version f))
    (Stays g.D.Disk.tells g.D.Disk.clock g.D.Disk.fault_count g.D.Disk.since g.D.Disk.state origin c.args.disk.now
    new w)) (sym c.files.ensures) led))

pub returns-in-Err-plan-clause-begins : goal.returns-in-Err-plan-clause-begins
returns-in-Err-plan-clause-begins g c = λ w origin s stays.
    let held : Held =
    held_of c.self.inside.chain c.self.inside.work c.self.inside.pending.items c.self.inside.sessions
    c.self.inside.halted in
    let here : Stays g.D.Disk.tells g.D.Disk.clock g.D.Disk.fault_count g.D.Disk.since g.D.Disk.state origin
    c.args.disk.now held w s =
    subst (λ (h : Held). Stays g.D.Disk.tells g.D.Disk.clock g.D.Disk.fault_count g.D.Disk.since g.D.Disk.state
    origin c.args.disk.now h w s) (sym c.self.view_is) stays in
    let running : held.halted ≡ None = ap (λ (h : Held). h.halted) c.self.view_is ∙ c.in_default.ensures.running in
    let none : held.work ≡ None = ap (λ (h : Held). h.work) c.self.view_is ∙ c.in_default.ensures.idle in
    let some : held.pending ≢ [] =
    subst (λ (h : Held). h.pending ≢ []) (sym c.self.view_is) c.in_default.ensures.some in
    let same : c.replace-sources.result.items ≡ c.self.inside.pending.items =
    ap (λ v. v.items) c.replace-sources.ensures.value in
    let back : c.in-Err-plan.refused.sources.items ≡ held.pending = c.in-Err-plan.ensures.back ∙ same in
    let refuses = subst
    (λ (y : List Source). RefusesPlan c.make_room.new.chain.records (heads_of y) c.in-Err-plan.refused.error) same
    c.in-Err-plan.ensures.refused in
    let led = refused_then g.D.Disk.tells g.D.Disk.clock g.D.Disk.fault_count g.D.Disk.since g.D.Disk.state origin
    c.args.disk.now held c.make_room.new.chain running none some c.make_room.ensures.records
    c.in-Err-plan.refused.sources.items c.in-Err-plan.refused.error back refuses w s here in
    let new : Held =
    held_of c.make_room.new.chain c.self.inside.work c.in-Err-plan.refused.sources.items c.self.inside.sessions
    c.self.inside.halted in
    subst (λ (e : PublishError). Leads (PublishLineIn (store_kind w) s (publish_refusal e))
    (Stays g.D.Disk.tells g.D.Disk.clock g.D.Disk.fault_count g.D.Disk.since g.D.Disk.state origin c.plan.new.disk
    new w)) (sym c.from.ensures)
    (subst (λ (d : g.row.D.Denot). Leads
    (PublishLineIn (store_kind w) s (publish_refusal (refusal_of c.in-Err-plan.refused.error)))
    (Stays g.D.Disk.tells g.D.Disk.clock g.D.Disk.fault_count g.D.Disk.since g.D.Disk.state origin d new w))
    (sym c.plan.ensures.disk) led)
