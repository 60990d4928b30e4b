use Rattle.std.proofs.Common.{◌≡◌, ◌∙◌, Option, Some, None, IsSome, IfSome, Err, sym, ap, subst}
use Rattle.cdb_publish.specs.declared.publication.Publication as publish
use Rattle.cdb_engine.specs.Held.{Held, held_of, CanStep}
use Rattle.cdb_engine.specs.Stays.{Stays}
use Rattle.cdb_engine.specs.StepSizes.{TellsStep}
use Rattle.cdb_engine.specs.Tracks.{Tracks}
use Rattle.cdb_engine.specs.declared.errors.AdvanceError.TheVariants as advance
use Rattle.cdb_engine.proofs.NoStep.{some_there, tries_halted, tries_nothing}
use Rattle.cdb_engine.proofs.OtherLaws.{step_other}
use Rattle.cdb_engine.proofs.StayLaws.{stays_shows}
use Rattle.cdb_engine.proofs.StepTracks.{not_there, can_of, Steps}
use Rattle.cdb_engine.proofs.StepThen.{step_then, moments_then}
use Rattle.cdb_engine.proofs.engine.Engine.step.Goals as goal

pub returns-then-is_some-clause-step : goal.returns-then-is_some-clause-step
returns-then-is_some-clause-step g c = λ w origin s stays.
    let held : Held =
    held_of c.self.inside.chain c.self.inside.work c.self.inside.pending.items c.self.inside.sessions
    c.self.inside.halted in
    let here : Stays g.D.Disk.tells g.D.Disk.clock g.D.Disk.fault_count g.D.Disk.since g.D.Disk.state origin
    c.args.disk.now held w s =
    subst (λ (h : Held). Stays g.D.Disk.tells g.D.Disk.clock g.D.Disk.fault_count g.D.Disk.since g.D.Disk.state origin
    c.args.disk.now h w s) (sym c.self.view_is) stays in
    let halted : IsSome c.self.inside.halted = some_there c.self.inside.halted c.if-is_some.ensures in
    record {
      next = s;
      step = tries_halted held w s
          (stays_shows g.D.Disk.tells g.D.Disk.clock g.D.Disk.fault_count g.D.Disk.since g.D.Disk.state origin
          c.args.disk.now held w s here) halted (c.self.invariant.idle halted);
      now = stays;
    }

pub returns-in_default-clause-step : goal.returns-in_default-clause-step
returns-in_default-clause-step g c = λ w origin s stays.
    let held : Held =
    held_of c.self.inside.chain c.self.inside.work c.self.inside.pending.items c.self.inside.sessions
    c.self.inside.halted in
    let here : Stays g.D.Disk.tells g.D.Disk.clock g.D.Disk.fault_count g.D.Disk.since g.D.Disk.state origin
    c.args.disk.now held w s =
    subst (λ (h : Held). Stays g.D.Disk.tells g.D.Disk.clock g.D.Disk.fault_count g.D.Disk.since g.D.Disk.state
    origin c.args.disk.now h w s) (sym c.self.view_is) stays in
    let none : c.self.inside.work ≡ None = sym c.take.ensures.value ∙ c.in_default.is in
    let same : held ≡ held_of c.self.inside.chain c.take.new.self c.self.inside.pending.items c.self.inside.sessions
    c.self.inside.halted =
    ap (λ (o : Option publish.Publication). held_of c.self.inside.chain o c.self.inside.pending.items
    c.self.inside.sessions c.self.inside.halted) (none ∙ sym c.take.ensures.after) in
    record {
      next = s;
      step = tries_nothing held w s
          (stays_shows g.D.Disk.tells g.D.Disk.clock g.D.Disk.fault_count g.D.Disk.since g.D.Disk.state origin
          c.args.disk.now held w s here) (not_there c.self.inside.halted c.if-is_some.ensures) none;
      now = subst (λ (h : Held). Stays g.D.Disk.tells g.D.Disk.clock g.D.Disk.fault_count g.D.Disk.since g.D.Disk.state
          origin c.args.disk.now h w s) same here;
    }

pub returns-clause-step : goal.returns-clause-step
returns-clause-step g c = λ w origin s stays.
    let held : Held =
    held_of c.self.inside.chain c.self.inside.work c.self.inside.pending.items c.self.inside.sessions
    c.self.inside.halted in
    let here : Stays g.D.Disk.tells g.D.Disk.clock g.D.Disk.fault_count g.D.Disk.since g.D.Disk.state origin
    c.args.disk.now held w s =
    subst (λ (h : Held). Stays g.D.Disk.tells g.D.Disk.clock g.D.Disk.fault_count g.D.Disk.since g.D.Disk.state
    origin c.args.disk.now h w s) (sym c.self.view_is) stays in
    let has : held.work ≡ Some c.in-Some.work = sym c.take.ensures.value ∙ c.in-Some.is in
    let running : held.halted ≡ None = not_there c.self.inside.halted c.if-is_some.ensures in
    let can : CanStep c.self.inside.chain c.in-Some.work =
    can_of c.self.inside.chain c.self.inside.work c.in-Some.work has c.self.invariant.can_step in
    let made : Steps g.D.Disk.tells g.D.Disk.clock g.D.Disk.fault_count g.D.Disk.since g.D.Disk.state c.args.disk.now
    c.step-made.new.disk c.self.inside.chain c.step-made.new.chain c.in-Some.work c.step-made.new.self
    c.step-made.result = record {
      going = c.step-made.ensures.going;
      published = c.step-made.ensures.published;
      moments = c.step-made.ensures.moments;
      last_moments = c.step-made.ensures.last_moments;
      left = c.step-made.ensures.left;
      progress = c.step-made.ensures.progress;
      version = c.step-made.ensures.version;
      files = c.step-made.ensures.files;
      chain_is = c.step-made.ensures.chain;
      refused = c.step-made.ensures.refused_chain;
      added = c.step-made.ensures.added;
      undamaged = c.step-made.ensures.undamaged;
      cause = c.step-made.ensures.cause;
    } in
    step_then g.D.Disk.tells g.D.Disk.clock g.D.Disk.fault_count g.D.Disk.since g.D.Disk.state c.args.disk.now
    c.step-made.new.disk held c.step-made.new.chain c.in-Some.work c.step-made.new.self has running can
    c.step-made.result made c.settle-work.result.work c.settle-work.result.halted c.settle-work.result.answer
    c.faults.result c.settle-work.ensures.work c.settle-work.ensures.halted c.settle-work.ensures.answer
    c.faults.ensures (g.met.D.Disk.counts_now c.step-made.new.disk)
    (g.met.D.Disk.only_now c.args.disk.now) w origin s here

pub returns-clause-moments : goal.returns-clause-moments
returns-clause-moments g c = λ s told tracks.
    let held : Held =
    held_of c.self.inside.chain c.self.inside.work c.self.inside.pending.items c.self.inside.sessions
    c.self.inside.halted in
    let has : held.work ≡ Some c.in-Some.work = sym c.take.ensures.value ∙ c.in-Some.is in
    let running : held.halted ≡ None = not_there c.self.inside.halted c.if-is_some.ensures in
    let can : CanStep c.self.inside.chain c.in-Some.work =
    can_of c.self.inside.chain c.self.inside.work c.in-Some.work has c.self.invariant.can_step in
    let made : Steps g.D.Disk.tells g.D.Disk.clock g.D.Disk.fault_count g.D.Disk.since g.D.Disk.state c.args.disk.now
    c.step-made.new.disk c.self.inside.chain c.step-made.new.chain c.in-Some.work c.step-made.new.self
    c.step-made.result = record {
      going = c.step-made.ensures.going;
      published = c.step-made.ensures.published;
      moments = c.step-made.ensures.moments;
      last_moments = c.step-made.ensures.last_moments;
      left = c.step-made.ensures.left;
      progress = c.step-made.ensures.progress;
      version = c.step-made.ensures.version;
      files = c.step-made.ensures.files;
      chain_is = c.step-made.ensures.chain;
      refused = c.step-made.ensures.refused_chain;
      added = c.step-made.ensures.added;
      undamaged = c.step-made.ensures.undamaged;
      cause = c.step-made.ensures.cause;
    } in
    moments_then g.D.Disk.tells g.D.Disk.clock g.D.Disk.fault_count g.D.Disk.since g.D.Disk.state c.args.disk.now
    c.step-made.new.disk held c.step-made.new.chain c.in-Some.work c.step-made.new.self has running can
    c.step-made.result made c.settle-work.result.work c.settle-work.result.halted c.settle-work.result.answer
    c.faults.result c.settle-work.ensures.work c.settle-work.ensures.halted c.settle-work.ensures.answer
    c.faults.ensures s told
    (subst (λ (h : Held). Tracks h (g.D.Disk.state c.args.disk.now) s) (sym c.self.view_is) tracks)

pub returns-then-is_some-clause-sizes : goal.returns-then-is_some-clause-sizes
returns-then-is_some-clause-sizes g c =
    let D = g.D.Disk in
    let none : c.self.inside.work ≡ None =
    c.self.invariant.idle (some_there c.self.inside.halted c.if-is_some.ensures) in
    let Told : Held → Type 0 = λ h. IfSome h.work (λ work. TellsStep D.tells (D.state c.args.disk.now).present work
    h.chain.records (D.read_count c.args.disk.now) (D.read_count c.args.disk.now) (Err advance.Halted)) in
    let Here : publish.Publication → Type 0 = λ work. TellsStep D.tells (D.state c.args.disk.now).present work
    c.self.inside.chain.records (D.read_count c.args.disk.now) (D.read_count c.args.disk.now) (Err advance.Halted) in
    subst Told c.self.view_is (subst (λ (o : Option publish.Publication). IfSome o Here) (sym none) tt)

pub returns-in_default-clause-sizes : goal.returns-in_default-clause-sizes
returns-in_default-clause-sizes g c =
    let D = g.D.Disk in
    let none : c.self.inside.work ≡ None = sym c.take.ensures.value ∙ c.in_default.is in
    let Told : Held → Type 0 = λ h. IfSome h.work (λ work. TellsStep D.tells (D.state c.args.disk.now).present work
    h.chain.records (D.read_count c.args.disk.now) (D.read_count c.args.disk.now) (Err advance.Nothing)) in
    let Here : publish.Publication → Type 0 = λ work. TellsStep D.tells (D.state c.args.disk.now).present work
    c.self.inside.chain.records (D.read_count c.args.disk.now) (D.read_count c.args.disk.now) (Err advance.Nothing) in
    subst Told c.self.view_is (subst (λ (o : Option publish.Publication). IfSome o Here) (sym none) tt)

pub returns-clause-sizes : goal.returns-clause-sizes
returns-clause-sizes g c =
    let D = g.D.Disk in
    let has : c.self.inside.work ≡ Some c.in-Some.work = sym c.take.ensures.value ∙ c.in-Some.is in
    let Told : Held → Type 0 = λ h. IfSome h.work (λ work. TellsStep D.tells (D.state c.args.disk.now).present work
    h.chain.records (D.read_count c.args.disk.now) (D.read_count c.step-made.new.disk) c.settle-work.result.answer) in
    let Here : publish.Publication → Type 0 = λ work. TellsStep D.tells (D.state c.args.disk.now).present work
    c.self.inside.chain.records (D.read_count c.args.disk.now) (D.read_count c.step-made.new.disk)
    c.settle-work.result.answer in
    let told : Here c.in-Some.work = record {
      made = c.step-made.result;
      answer = c.settle-work.ensures.answer;
      sizes = c.step-made.ensures.sizes;
      last = c.step-made.ensures.last_error;
      last_reads = c.step-made.ensures.last_reads;
      damage = c.step-made.ensures.damage;
    } in
    subst Told c.self.view_is (subst (λ (o : Option publish.Publication). IfSome o Here) (sym has) told)

pub returns-clause-other : goal.returns-clause-other
returns-clause-other g c =
    step_other c.step-made.result c.settle-work.result.answer c.settle-work.ensures.answer c.step-made.ensures.damage

pub returns-clause-idle : goal.returns-clause-idle
returns-clause-idle g c = λ none.
    let is : Some c.in-Some.work ≡ None =
    sym c.in-Some.is ∙ c.take.ensures.value ∙ ap (λ (h : Held). h.work) c.self.view_is ∙ none in
    absurd (cc)
