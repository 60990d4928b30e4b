-- All steps of the publication that is going.
use Rattle.std.proofs.Common.{◌≡◌, ℕ, ◌+◌, ◌-◌, ◌<◌, ◌≤◌, Option, None, Some, Result, Ok, Err, sym, ◌∙◌, ap, subst}
use Rattle.std.proofs.Common.{arith}
use Rattle.std.proofs.lemmas.Option.{same_Some}
use Rattle.cdb_model.specs.Events as machine
use Rattle.cdb_model.specs.Stores.{Kind, Which, known, any, store_kind}
use Rattle.cdb_model.specs.Transitions.{StateIn, GoingIn, GivenUpIn}
use Rattle.cdb_publish.specs.declared.errors.Progress.{Progress}
use Rattle.cdb_publish.specs.declared.errors.Progress.TheVariants as progress
use Rattle.cdb_engine.specs.StoreAnswers.{LeftIn, TriesIn, advance_answer}
use Rattle.cdb_engine.specs.Tracks.{Leads}
use Rattle.cdb_engine.specs.declared.errors.AdvanceError.{AdvanceError}
use Rattle.cdb_engine.specs.declared.errors.AdvanceError.TheVariants as advance
use Rattle.cdb_engine.specs.inside.Populating.{ended_by, FinishesSteps}
use Rattle.cdb_engine.specs.declared.errors.PopulateError.{PopulateError}

-- a state in which so many steps are left
abbrev pub with_left : (k : Kind) → StateIn k → k.Planned → ℕ → StateIn k
with_left k s planned left = record s { going = Some record { publication = planned; left = left } }

abbrev pub done : (k : Kind) → StateIn k → k.Planned → StateIn k
done k s planned = record s { list = k.add s.list planned; going = None }

abbrev pub dropped : (k : Kind) → StateIn k → k.Planned → StateIn k
dropped k s planned = record s { going = None; halted = Some (k.drop planned) }

-- some of them were made, and others are left
pub record Partly (k : Kind) (s : StateIn k) (now : GoingIn k) (left made : ℕ) (Now : StateIn k → Type 0) : Type 0 where
  pub same : left ≡ now.left
  pub more : made < now.left
  pub stays : Now (with_left k s now.publication (now.left - made))

pub partly_none : (k : Kind) (s : StateIn k) (now : GoingIn k) (left : ℕ) (Now : StateIn k → Type 0)
    → LeftIn k s.going left → s.going ≡ Some now → 0 < now.left → Now s → Partly k s now left 0 Now
partly_none k s now left Now is going some stays =
    let e : now.left ≡ now.left - 0 = omega arith in
    record {
      same = subst (λ (g : Option (GoingIn k)). LeftIn k g left) going is;
      more = some;
      stays = subst (λ (n : ℕ). Now (with_left k s now.publication n)) e
          (subst (λ (g : Option (GoingIn k)). Now (record s { going = g })) going stays);
    }

module _ (k : Kind) (s : StateIn k) (now : GoingIn k) (left made : ℕ) (Old New : StateIn k → Type 0)
    (p : Partly k s now left made Old) where
  abbrev mid : StateIn k
  mid = with_left k s now.publication (now.left - made)

  abbrev here : GoingIn k
  here = record { publication = now.publication; left = now.left - made }

  pub one_more : Leads (TriesIn k mid machine.going) New → Partly k s now left (made + 1) New
  one_more led =
      let e : here ≡ led.step.now = same_Some here led.step.now led.step.going in
      let n : now.left - made ≡ led.step.now.left = ap (λ (g : GoingIn k). g.left) e in
      let more = led.step.more in
      let one : now.left - made - 1 ≡ now.left - (made + 1) = omega arith in
      record {
        same = p.same;
        more = omega (arith, n, more);
        stays = subst New (led.step.next ∙ ap (λ (g : GoingIn k). with_left k s g.publication (g.left - 1)) (sym e)
            ∙ ap (λ (m : ℕ). with_left k s now.publication m) one) led.now;
      }

  pub last_one : (version : ℕ) → Leads (TriesIn k mid (machine.published version)) New → New (done k s now.publication)
  last_one version led =
      let e : here ≡ led.step.now = same_Some here led.step.now led.step.going in
      subst New (led.step.next ∙ ap (λ (g : GoingIn k). done k s g.publication) (sym e)) led.now

  given_up : (next : StateIn k) → GivenUpIn k mid next → New next → New (dropped k s now.publication)
  given_up next step there =
      let e : here ≡ step.now = same_Some here step.now step.going in
      subst New (step.next ∙ ap (λ (g : GoingIn k). dropped k s g.publication) (sym e)) there

  pub failed : Leads (TriesIn k mid machine.fault) New → New (dropped k s now.publication)
  failed led = given_up led.next led.step led.now

  pub not_halted : Leads (TriesIn k mid machine.halted) New → ⊥
  not_halted led = let e : Some here ≡ None = led.step.1 in cc

  pub not_idle : Leads (TriesIn k mid machine.nothing) New → ⊥
  not_idle led = let e : Some here ≡ None = led.step.0.idle in cc

pub damaged : (w : Which) (s : StateIn (store_kind w)) (now : GoingIn (store_kind w)) (left made expected : ℕ)
    (found : Option ℕ)
    (Old New : StateIn (store_kind w) → Type 0) → Partly (store_kind w) s now left made Old
    → Leads (TriesIn (store_kind w) (with_left (store_kind w) s now.publication (now.left - made))
    (machine.damaged expected found)) New
    → (store_kind w).Maybe (New (dropped (store_kind w) s now.publication))
damaged known s now left made expected found Old New p led = led.step
damaged any s now left made expected found Old New p led =
    given_up (store_kind any) s now left made Old New p led.next led.step led.now

-- after a step was tried: one more was made, or the steps ended
abbrev pub Steps : (w : Which) → StateIn (store_kind w) → GoingIn (store_kind w) → ℕ → ℕ
    → (StateIn (store_kind w) → Type 0)
    → Option (Result Unit PopulateError) → Type 0
Steps w s now left made New None = Partly (store_kind w) s now left (made + 1) New
Steps w s now left made New (Some end) = FinishesSteps w s now.publication end New

module _ (w : Which) (s : StateIn (store_kind w)) (now : GoingIn (store_kind w)) (left made : ℕ)
    (Old New : StateIn (store_kind w) → Type 0) (p : Partly (store_kind w) s now left made Old) where
  stepped : (r : Result Progress AdvanceError)
      → Leads (TriesIn (store_kind w) (with_left (store_kind w) s now.publication (now.left - made))
      (advance_answer r)) New
      → Steps w s now left made New (ended_by r)
  stepped (Ok progress.Going) led = one_more (store_kind w) s now left made Old New p led
  stepped (Ok (progress.Published version)) led = last_one (store_kind w) s now left made Old New p version led
  stepped (Err advance.Halted) led = absurd (not_halted (store_kind w) s now left made Old New p led)
  stepped (Err advance.Nothing) led = absurd (not_idle (store_kind w) s now left made Old New p led)
  stepped (Err advance.Fault) led = failed (store_kind w) s now left made Old New p led
  stepped (Err (advance.Damaged expected found)) led = damaged w s now left made expected found Old New p led

  -- with what the step is said to end
  pub stepped_by : (r : Result Progress AdvanceError) (said : Option (Result Unit PopulateError)) → said ≡ ended_by r
      → ((mid : StateIn (store_kind w)) → Old mid → Leads (TriesIn (store_kind w) mid (advance_answer r)) New)
      → Steps w s now left made New said
  stepped_by r said e on = subst (Steps w s now left made New) (sym e) (stepped r (on _ p.stays))

pub not_all : (k : Kind) (s : StateIn k) (now : GoingIn k) (left made : ℕ) (Now : StateIn k → Type 0)
    → Partly k s now left made Now → left ≤ made → ⊥
not_all k s now left made Now p le = let a = p.same in let b = p.more in omega (arith, a, b, le)
