-- What becomes of a publication of which many steps are made.
use Rattle.std.proofs.Common.{◌≡◌, ◌≢◌, ℕ, zero, suc, ◌-◌, ◌<◌, ◌⊎◌, inl, inr, None, Some, refl, ap, sym, ◌∙◌, subst, arith}
use Rattle.std.proofs.lemmas.Option.{same_Some, none-some}
use Rattle.cdb_model.specs.Events as machine
use Rattle.cdb_model.specs.Events.{Answer}
use Rattle.cdb_model.specs.MachineLaws.{GoesOnIn, EndsIn, AreMadeIn, ManySteps}
use Rattle.cdb_model.specs.Stores.{Kind, Which, known, any, store_kind}
use Rattle.cdb_model.specs.Transitions.{StateIn, GoingIn, MovedIn, GivenUpIn, AdvancesIn}

-- a state in which a publication is going with so many steps left
abbrev pub with_left : (k : Kind) → StateIn k → GoingIn k → ℕ → StateIn k
with_left k s now left = record s { going = Some record { publication = now.publication; left = left } }

-- a publication of which one step was made
abbrev fewer : (k : Kind) → GoingIn k → GoingIn k
fewer k now = record { publication = now.publication; left = now.left - 1 }

abbrev after : (k : Kind) → StateIn k → GoingIn k → StateIn k
after k s now = with_left k s now (now.left - 1)

-- what goes on after a step was the publication with one step fewer left
goes_on : (k : Kind) (count : ℕ) (old : StateIn k) (now : GoingIn k) (new : StateIn k) → old.going ≡ Some now
    → old.halted ≡ None → 1 < now.left
    → GoesOnIn k count (after k old now) new → GoesOnIn k (suc count) old new
goes_on k count old now new is running many g =
    let e : fewer k now ≡ g.now = same_Some (fewer k now) g.now g.going in
    let l : now.left - 1 ≡ g.now.left = ap (λ (n : GoingIn k). n.left) e in
    let m = g.more in
    let counted : now.left - 1 - count ≡ now.left - suc count = omega arith in
    record {
      now = now;
      going = is;
      running = running;
      some = omega arith;
      more = omega (arith, l, m, many);
      next =
          g.next ∙ sym (ap (λ (n : GoingIn k). with_left k old n (n.left - count)) e)
          ∙ ap (with_left k old now) counted;
    }

ends : (k : Kind) (count : ℕ) (old : StateIn k) (now : GoingIn k) (version : ℕ) (new : StateIn k)
    → old.going ≡ Some now → old.halted ≡ None → 1 < now.left
    → EndsIn k count (after k old now) version new → EndsIn k (suc count) old version new
ends k count old now version new is running many g =
    let e : fewer k now ≡ g.now = same_Some (fewer k now) g.now g.going in
    let l : now.left - 1 ≡ g.now.left = ap (λ (n : GoingIn k). n.left) e in
    let few = g.few in
    record {
      now = now;
      going = is;
      running = running;
      some = omega (arith, many);
      few = omega (arith, l, few);
      version_is = g.version_is;
      next = g.next ∙ sym (ap (λ (n : GoingIn k). record old { list = k.add old.list n.publication; going = None }) e);
    }

given_up : (k : Kind) (old : StateIn k) (now : GoingIn k) (new : StateIn k) → old.going ≡ Some now → old.halted ≡ None
    → GivenUpIn k (after k old now) new → GivenUpIn k old new
given_up k old now new is running g =
    let e : fewer k now ≡ g.now = same_Some (fewer k now) g.now g.going in
    record {
      now = now;
      going = is;
      running = running;
      next = g.next ∙ sym (ap (λ (n : GoingIn k). record old { going = None; halted = Some (k.drop n.publication) }) e);
    }

-- none of some steps was made after the first one
stood : (k : Kind) (count : ℕ) (old : StateIn k) (now : GoingIn k) (new : StateIn k) → old.going ≡ Some now
    → old.halted ≡ None → 1 < now.left
    → (count ≡ 0) ⊎ (Some (fewer k now) ≡ None) → new ≡ after k old now → GoesOnIn k (suc count) old new
stood k count old now new is running many (inl none) e =
    let counted : now.left - 1 ≡ now.left - suc count = omega arith in
    record {
      now = now;
      going = is;
      running = running;
      some = omega arith;
      more = omega arith;
      next =
          e ∙ ap (with_left k old now) counted;
    }
stood k count old now new is running many (inr none) e = absurd (none-some (fewer k now) (sym none))

-- what a damaged file may do
pub maybe : (w : Which) (X Y : Type 0) → (X → Y) → (store_kind w).Maybe X → (store_kind w).Maybe Y
maybe known X Y f m = m
maybe any X Y f m = f m

one_more : (w : Which) (count : ℕ) (old : StateIn (store_kind w)) (now : GoingIn (store_kind w)) (answer : Answer)
    (new : StateIn (store_kind w))
    → old.going ≡ Some now → old.halted ≡ None → 1 < now.left
    → AreMadeIn (store_kind w) count (after (store_kind w) old now) answer new
    → AreMadeIn (store_kind w) (suc count) old answer new
one_more w count old now machine.going new is running many (inl g) =
    inr (stood (store_kind w) count old now new is running many g.0 g.1)
one_more w count old now machine.going new is running many (inr g) =
    inr (goes_on (store_kind w) count old now new is running many g)
one_more w count old now (machine.published version) new is running many g =
    ends (store_kind w) count old now version new is running many g
one_more w count old now machine.fault new is running many g = given_up (store_kind w) old now new is running g
one_more w count old now (machine.damaged expected found) new is running many g =
    maybe w (GivenUpIn (store_kind w) (after (store_kind w) old now) new) (GivenUpIn (store_kind w) old new)
    (given_up (store_kind w) old now new is running) g
one_more w count old now _ new is running many g = absurd g

-- the last step that was made
last : (w : Which) (count : ℕ) (old : StateIn (store_kind w)) (answer : Answer) (new : StateIn (store_kind w))
    → answer ≢ machine.going
    → AdvancesIn (store_kind w) old answer new → AreMadeIn (store_kind w) (suc count) old answer new
last w count old machine.going new other g = absurd (other refl)
last w count old (machine.published version) new other g =
    let l = g.last in
    record {
      now = g.now;
      going = g.going;
      running = g.running;
      some = omega (arith, l);
      few = omega (arith, l);
      version_is = g.version_is;
      next = g.next;
    }
last w count old machine.fault new other g = g
last w count old (machine.damaged expected found) new other g = g
last w count old _ new other g = absurd g

-- no step
none : (w : Which) (count : ℕ) (old : StateIn (store_kind w)) (answer : Answer) (new : StateIn (store_kind w))
    → (count ≡ 0)
    ⊎ (old.going ≡ None)
    → answer ≡ machine.going → new ≡ old → AreMadeIn (store_kind w) count old answer new
none w count old answer new why is e =
    subst (λ (a : Answer). AreMadeIn (store_kind w) count old a new) (sym is) (inl (why, e))

pub many_steps : ManySteps
many_steps w zero old answer new m = none w zero old answer new (inl refl) m.0 m.1
many_steps w (suc n) old answer new (inl m) = none w (suc n) old answer new (inr m.0) m.1 m.2
many_steps w (suc n) old answer new (inr (inl m)) = last w n old answer new m.0 m.1
many_steps w (suc n) old answer new (inr (inr m)) =
    let moved : MovedIn (store_kind w) old m.0 = m.1 in
    one_more w n old moved.now answer new moved.going moved.running moved.more
    (subst (λ (mid : StateIn (store_kind w)). AreMadeIn (store_kind w) n mid answer new) moved.next
    (many_steps w n m.0 answer new m.2))
