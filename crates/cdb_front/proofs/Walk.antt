-- Steps one after another.
use Rattle.std.proofs.Common.{◌≡◌, ◌≢◌, ℕ, zero, suc, ◌<◌, inl, inr, refl, sym, ap, subst, arith}
use Rattle.std.proofs.Common.{Option, None, Some, IsSome, Result, Ok, Err, true, false}
use Rattle.std.specs.Option.{is_some}
use Rattle.cdb_model.specs.Commands as said
use Rattle.cdb_model.specs.Commands.{Command}
use Rattle.cdb_model.specs.Events as machine
use Rattle.cdb_model.specs.Grammar.{sentence_in}
use Rattle.cdb_model.specs.Lines.{Misnames}
use Rattle.cdb_model.specs.Maps.{Content}
use Rattle.cdb_model.specs.Runs.{TurnIn}
use Rattle.cdb_model.specs.Stores.{Kind}
use Rattle.cdb_model.specs.Text.{Text}
use Rattle.cdb_model.specs.Transitions.{StateIn, GoingIn, AdvancesIn, MakesIn, IsIdleIn, IsBusyIn, StepLineIn, StepAllLineIn, HasLeftIn}
use Rattle.cdb_model.specs.declared.line.Line.{Line}
use Rattle.cdb_model.specs.declared.line.Line.TheVariants as line
use Rattle.cdb_engine.specs.Tracks.{Leads}
use Rattle.cdb_front.specs.Hearing.{SaysAsked}
use Rattle.cdb_engine.specs.StoreAnswers.{LeftIn, TriesIn, advance_answer}
use Rattle.cdb_front.specs.inside.Stepping.{step_end}
use Rattle.cdb_front.specs.declared.heard.Asked.{Asked}
use Rattle.cdb_front.specs.declared.heard.Asked.TheVariants as asked
use Rattle.cdb_publish.specs.declared.errors.Progress.{Progress}
use Rattle.cdb_publish.specs.declared.errors.Progress.TheVariants as progress
use Rattle.cdb_engine.specs.declared.errors.AdvanceError.{AdvanceError}
use Rattle.cdb_engine.specs.declared.errors.AdvanceError.TheVariants as advance
use Rattle.cdb_engine.proofs.NoStep.{some_there}
use Rattle.cdb_engine.proofs.StepTracks.{not_there}

-- some steps of many were made, and what remains to be made leads to what all of them lead to
pub record Partway (k : Kind) (most left : ℕ) (s : StateIn k) (Now : StateIn k → Type 0) : Type 0 where
  pub mid : StateIn k
  pub on : (answer : machine.Answer) (new : StateIn k) → MakesIn k left mid answer new → MakesIn k most s answer new
  pub now : Now mid

-- after a step was tried: some way further, or all were made that are to be made
abbrev pub Steps : (k : Kind) → ℕ → ℕ → StateIn k → (StateIn k → Type 0) → Option machine.Answer → Type 0
Steps k most left s Now None = Partway k most left s Now
Steps k most left s Now (Some answer) = Leads (MakesIn k most s answer) Now

pub partway_begins : (k : Kind) (most : ℕ) (s : StateIn k) (Now : StateIn k → Type 0) → Now s
    → Partway k most most s Now
partway_begins k most s Now now = record { mid = s; on = λ answer new makes. makes; now = now }

-- one step more was made, and the publication goes on
pub partway_more : (k : Kind) (most left : ℕ) (s : StateIn k) (Old New : StateIn k → Type 0)
    (p : Partway k most (suc left) s Old) → Leads (TriesIn k p.mid machine.going) New → Partway k most left s New
partway_more k most left s Old New p led =
    record {
      mid = led.next;
      on = λ answer new makes. p.on answer new (inr (inr (led.next, led.step, makes)));
      now = led.now;
    }

-- the step that was made is the last, by its answer
pub partway_ends : (k : Kind) (most left : ℕ) (s : StateIn k) (Old New : StateIn k → Type 0) (answer : machine.Answer)
    (p : Partway k most (suc left) s Old) → answer ≢ machine.going
    → Leads (AdvancesIn k p.mid answer) New → Leads (MakesIn k most s answer) New
partway_ends k most left s Old New answer p other led =
    record { next = led.next; step = p.on answer led.next (inr (inl (other, led.step))); now = led.now }

-- no step was made, since none is going
pub partway_halted : (k : Kind) (most left : ℕ) (s : StateIn k) (Old New : StateIn k → Type 0)
    (p : Partway k most (suc left) s Old) → Leads (TriesIn k p.mid machine.halted) New
    → Leads (MakesIn k most s machine.going) New
partway_halted k most left s Old New p led = record
    { next = led.next; step = p.on machine.going led.next (inl (led.step.1, refl, led.step.2)); now = led.now }

pub partway_idle : (k : Kind) (most left : ℕ) (s : StateIn k) (Old New : StateIn k → Type 0)
    (p : Partway k most (suc left) s Old) → Leads (TriesIn k p.mid machine.nothing) New
    → Leads (MakesIn k most s machine.going) New
partway_idle k most left s Old New p led = record
    { next = led.next; step = p.on machine.going led.next (inl (led.step.0.idle, refl, led.step.1)); now = led.now }

-- all were made
pub partway_out : (k : Kind) (most : ℕ) (s : StateIn k) (Now : StateIn k → Type 0) → Partway k most 0 s Now
    → Leads (MakesIn k most s machine.going) Now
partway_out k most s Now p = record { next = p.mid; step = p.on machine.going p.mid (refl, refl); now = p.now }

-- one step more was tried
pub stepped : (k : Kind) (most left : ℕ) (s : StateIn k) (Old New : StateIn k → Type 0)
    (r : Result Progress AdvanceError) → Partway k most (suc left) s Old
    → ((mid : StateIn k) → Old mid → Leads (TriesIn k mid (advance_answer r)) New)
    → Steps k most left s New (step_end r)
stepped k most left s Old New (Ok progress.Going) p on = partway_more k most left s Old New p (on p.mid p.now)
stepped k most left s Old New (Ok (progress.Published version)) p on = partway_ends k most left s Old New
    (machine.published version) p (λ e. cc) (on p.mid p.now)
stepped k most left s Old New (Err advance.Halted) p on = partway_halted k most left s Old New p (on p.mid p.now)
stepped k most left s Old New (Err advance.Nothing) p on = partway_idle k most left s Old New p (on p.mid p.now)
stepped k most left s Old New (Err advance.Fault) p on = partway_ends k most left s Old New machine.fault p (λ e. cc)
    (on p.mid p.now)
stepped k most left s Old New (Err (advance.Damaged expected found)) p on = partway_ends k most left s Old New
    (machine.damaged expected found) p (λ e. cc) (on p.mid p.now)

-- with the answer that is said
pub stepped_by : (k : Kind) (most left : ℕ) (s : StateIn k) (Old New : StateIn k → Type 0)
    (r : Result Progress AdvanceError) (said : Option machine.Answer) → said ≡ step_end r
    → Partway k most (suc left) s Old
    → ((mid : StateIn k) → Old mid → Leads (TriesIn k mid (advance_answer r)) New) → Steps k most left s New said
stepped_by k most left s Old New r said e p on = subst (Steps k most left s New) (sym e)
    (stepped k most left s Old New r p on)

-- ---- lines that ask for steps

-- a line that asks for steps: refused since the writer is halted, since nothing is going, since none is asked for, or
-- made
pub hasten_halted : (k : Kind) (Now : StateIn k → Type 0) (s : StateIn k) (n : ℕ) → Now s → true ≡ is_some s.halted
    → Leads (StepLineIn k s n machine.halted) Now
hasten_halted k Now s n now e = record { next = s; step = (some_there s.halted e, refl); now = now }

pub complete_halted : (k : Kind) (Now : StateIn k → Type 0) (s : StateIn k) → Now s → true ≡ is_some s.halted
    → Leads (StepAllLineIn k s machine.halted) Now
complete_halted k Now s now e = record { next = s; step = (some_there s.halted e, refl); now = now }

idle : (k : Kind) (s : StateIn k) → false ≡ is_some s.halted → false ≡ is_some s.going → IsIdleIn k s
idle k s a b = record { running = not_there s.halted a; idle = not_there s.going b }

busy : (k : Kind) (s : StateIn k) → false ≡ is_some s.halted → true ≡ is_some s.going → IsBusyIn k s
busy k s a b = record { running = not_there s.halted a; busy = some_there s.going b }

pub hasten_nothing : (k : Kind) (Now : StateIn k → Type 0) (s : StateIn k) (n : ℕ) → Now s → false ≡ is_some s.halted
    → false ≡ is_some s.going → Leads (StepLineIn k s n machine.nothing) Now
hasten_nothing k Now s n now a b = record { next = s; step = (idle k s a b, refl); now = now }

pub complete_nothing : (k : Kind) (Now : StateIn k → Type 0) (s : StateIn k) → Now s → false ≡ is_some s.halted
    → false ≡ is_some s.going → Leads (StepAllLineIn k s machine.nothing) Now
complete_nothing k Now s now a b = record { next = s; step = (idle k s a b, refl); now = now }

pub hasten_none : (k : Kind) (Now : StateIn k → Type 0) (s : StateIn k) (n : ℕ) → Now s → false ≡ is_some s.halted
    → true ≡ is_some s.going → n ≡ 0 → Leads (StepLineIn k s n machine.range) Now
hasten_none k Now s n now a b none = record { next = s; step = (busy k s a b, none, refl); now = now }

-- many steps don't answer what one step doesn't
pub never : (k : Kind) (answer : machine.Answer) → ((s new : StateIn k) → AdvancesIn k s answer new → ⊥)
    → answer ≢ machine.going → (n : ℕ) (s new : StateIn k) → MakesIn k n s answer new → ⊥
never k answer none other zero s new m = other m.0
never k answer none other (suc n) s new (inl m) = other m.1
never k answer none other (suc n) s new (inr (inl m)) = none s new m.1
never k answer none other (suc n) s new (inr (inr m)) = never k answer none other n m.0 new m.2

makes_says : (k : Kind) (n : ℕ) (s new : StateIn k) (answer : machine.Answer) → MakesIn k n s answer new → IsBusyIn k s
    → 0 < n → StepLineIn k s n answer new
makes_says k n s new machine.halted makes b some = absurd
    (never k machine.halted (λ s new a. a) (λ e. cc) n s new makes)
makes_says k n s new machine.nothing makes b some = absurd
    (never k machine.nothing (λ s new a. a) (λ e. cc) n s new makes)
makes_says k n s new machine.range makes b some = absurd (never k machine.range (λ s new a. a) (λ e. cc) n s new makes)
makes_says k n s new _ makes b some = (b, some, makes)

-- all that are left are asked for
left_of : (k : Kind) (now : Option (GoingIn k)) (n : ℕ) → IsSome now → LeftIn k now n → HasLeftIn k now n
left_of k None n some left = cc
left_of k (Some now) n some left = left

all_says : (k : Kind) (n : ℕ) (s new : StateIn k) (answer : machine.Answer) → MakesIn k n s answer new → IsBusyIn k s
    → HasLeftIn k s.going n → StepAllLineIn k s answer new
all_says k n s new machine.halted makes b left = absurd (never k machine.halted (λ s new a. a) (λ e. cc) n s new makes)
all_says k n s new machine.nothing makes b left = absurd
    (never k machine.nothing (λ s new a. a) (λ e. cc) n s new makes)
all_says k n s new _ makes b left = (n, b, left, makes)

pub complete_makes : (k : Kind) (New : StateIn k → Type 0) (s : StateIn k) (n : ℕ) (answer : machine.Answer)
    → false ≡ is_some s.halted → true ≡ is_some s.going → LeftIn k s.going n
    → Leads (MakesIn k n s answer) New → Leads (StepAllLineIn k s answer) New
complete_makes k New s n answer a b left led =
    let is_busy = busy k s a b in
    record {
      next = led.next;
      step = all_says k n s led.next answer led.step is_busy
          (left_of k s.going n is_busy.busy left);
      now = led.now;
    }

pub hasten_makes : (k : Kind) (New : StateIn k → Type 0) (s : StateIn k) (n : ℕ) (answer : machine.Answer)
    → false ≡ is_some s.halted → true ≡ is_some s.going → (n ≡ 0 → ⊥)
    → Leads (MakesIn k n s answer) New → Leads (StepLineIn k s n answer) New
hasten_makes k New s n answer a b some led =
    record {
      next = led.next;
      step = makes_says k n s led.next answer led.step (busy k s a b) (omega arith);
      now = led.now;
    }

-- the lines that ask for them
pub hasten_turn : (k : Kind) (Has : Text → Content → Type 0) (l : Line) (n : ℕ) (answer : machine.Answer)
    {s : StateIn k} {Now : StateIn k → Type 0}
    → l ≡ line.Step n → Leads (StepLineIn k s n answer) Now
    → Leads (TurnIn k Has s (said.said (sentence_in l)) answer) Now
hasten_turn k Has l n answer is led =
    record {
      next = led.next;
      step = record {
        event = machine.step_line n;
        meant = ap (λ (x : Line). said.said (sentence_in x)) is;
        step = led.step;
      };
      now = led.now;
    }

pub complete_turn : (k : Kind) (Has : Text → Content → Type 0) (l : Line) (answer : machine.Answer) {s : StateIn k}
    {Now : StateIn k → Type 0}
    → l ≡ line.StepAll → Leads (StepAllLineIn k s answer) Now
    → Leads (TurnIn k Has s (said.said (sentence_in l)) answer) Now
complete_turn k Has l answer is led =
    record {
      next = led.next;
      step = record {
        event = machine.step_all_line;
        meant = ap (λ (x : Line). said.said (sentence_in x)) is;
        step = led.step;
      };
      now = led.now;
    }

-- lines that say nothing
pub long_turn : (k : Kind) (Has : Text → Content → Type 0) (command : Command) {s : StateIn k}
    {Now : StateIn k → Type 0} → command ≡ said.overlong → Now s → Leads (TurnIn k Has s command machine.long) Now
long_turn k Has command {s = s} is now = record
    { next = s; step = record { event = machine.overlong; meant = is; step = (tt, refl) }; now = now }

pub syntax_turn : (k : Kind) (Has : Text → Content → Type 0) (command : Command) {s : StateIn k}
    {Now : StateIn k → Type 0} → command ≡ said.unreadable → Now s → Leads (TurnIn k Has s command machine.syntax) Now
syntax_turn k Has command {s = s} is now = record
    { next = s; step = record { event = machine.unreadable; meant = is; step = (tt, refl) }; now = now }

pub name_turn : (k : Kind) (Has : Text → Content → Type 0) (command : Command) (place : ℕ) {s : StateIn k}
    {Now : StateIn k → Type 0} → Misnames command place → Now s
    → Leads (TurnIn k Has s command (machine.name place)) Now
name_turn k Has command place {s = s} is now = record
    { next = s; step = record { event = machine.misnamed place; meant = is; step = (refl, refl) }; now = now }

-- a line of the grammar
pub line_turn : (k : Kind) (Has : Text → Content → Type 0) (a : Asked) (l : Line) (command : Command)
    (answer : machine.Answer) {s : StateIn k} {Now : StateIn k → Type 0}
    → a ≡ asked.Line l → SaysAsked a command → Leads (TurnIn k Has s (said.said (sentence_in l)) answer) Now
    → Leads (TurnIn k Has s command answer) Now
line_turn k Has a l command answer {s = s} {Now = Now} is says led =
    let e : command ≡ said.said (sentence_in l) = subst (λ (x : Asked). SaysAsked x command) is says in
    subst (λ (c : Command). Leads (TurnIn k Has s c answer) Now) (sym e) led
