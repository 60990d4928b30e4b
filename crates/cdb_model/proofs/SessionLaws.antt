-- A session that stays open keeps its version, and sees the same sources whatever is published.
use Rattle.std.proofs.Common.{◌≡◌, ◌≢◌, ℕ, ◌+◌, ◌≤◌, ◌⊎◌, inl, inr, Bool, true, false, cond, List, [], ◌∷◌, ◌++◌, length, take, nat_eq, Option, None, Some, refl, ap, sym, ◌∙◌, subst, append-nil, length-append, arith}
use Rattle.std.specs.Option.{option_or}
use Rattle.std.proofs.lemmas.Bool.{eqb-true, eqb-false, ne_eqb}
use Rattle.std.proofs.lemmas.List.{take-append-le}
use Rattle.std.proofs.lemmas.List.Folds.{find-append}
use Rattle.std.proofs.lemmas.Option.{same_Some, none-some}
use Rattle.cdb_model.specs.Events.{Answer}
use Rattle.cdb_model.specs.KnownStore.{KnownState, start_at}
use Rattle.cdb_model.specs.Maps.{Content}
use Rattle.cdb_model.specs.Publications.{Publication, sources_of}
use Rattle.cdb_model.specs.RunLaws.{SessionsStay}
use Rattle.cdb_model.specs.Runs.{Item, Run}
use Rattle.cdb_model.specs.Sessions.{session_of, without}
use Rattle.cdb_model.specs.Text.{Text}
use Rattle.cdb_model.specs.declared.session.Session.{Session}
use Rattle.cdb_model.proofs.BegunLaws.{moves_add, run_adds}
use Rattle.cdb_model.proofs.Changes as changes
use Rattle.cdb_model.proofs.Changes.{Seats, same_seats, passes_moves, moves_seats}

-- ---- lists of sessions

-- what is found in a list with one session more: one of the list, or that one
last_found : (id : ℕ) (z x : Session) → session_of id (z ∷ []) ≡ Some x → (z.id ≡ id) × (x ≡ z)
last_found id z x e = cases (nat_eq z.id id) refl
  where
    cases : (b : Bool) → nat_eq z.id id ≡ b → (z.id ≡ id) × (x ≡ z)
    cases true t = (eqb-true z.id id t, sym (same_Some z x (subst (λ (b : Bool). cond b (Some z) None ≡ Some x) t e)))
    cases false f = absurd (none-some x (subst (λ (b : Bool). cond b (Some z) None ≡ Some x) f e))

found_in : (id : ℕ) (ss : List Session) (z x : Session) → session_of id (ss ++ z ∷ []) ≡ Some x
    → (session_of id ss ≡ Some x) ⊎ ((z.id ≡ id) × (x ≡ z))
found_in id ss z x e = by (session_of id ss) (sym (find-append (λ (s : Session). nat_eq s.id id) ss (z ∷ [])) ∙ e)
  where
    by : (o : Option Session) → option_or o (session_of id (z ∷ [])) ≡ Some x → (o ≡ Some x) ⊎ ((z.id ≡ id) × (x ≡ z))
    by (Some a) f = inl f
    by None f = inr (last_found id z x f)

-- of the number that is closed none is left, and what is found of another number was there
none_without : (k : ℕ) (ss : List Session) → session_of k (without k ss) ≡ None
none_without k [] = refl
none_without k (x ∷ ss) = (elim (nat_eq x.id k) as (λ b. nat_eq x.id k ≡ b → session_of k (without k (x ∷ ss)) ≡ None) [
  | true ↦ λ t. rw t (none_without k ss)
  | false ↦ λ f. rw (f, f) (none_without k ss)
]) refl

other_without : (id k : ℕ) → id ≢ k → (ss : List Session) → session_of id (without k ss) ≡ session_of id ss
other_without id k ne [] = refl
other_without id k ne (x ∷ ss) =
    (elim (nat_eq x.id k) as (λ b. nat_eq x.id k ≡ b → session_of id (without k (x ∷ ss)) ≡ session_of id (x ∷ ss)) [
      | true ↦ λ t.
          let other : nat_eq x.id id ≡ false = ne_eqb x.id id (λ same. ne (sym same ∙ eqb-true x.id k t)) in
          rw (t, other) (other_without id k ne ss)
      | false ↦ λ f. rw f (ap (λ (o : Option Session). cond (nat_eq x.id id) (Some x) o) (other_without id k ne ss))
    ]) refl

found_without : (id k : ℕ) (ss : List Session) (y : Session) → session_of id (without k ss) ≡ Some y
    → session_of id ss ≡ Some y
found_without id k ss y e = by (nat_eq id k) refl
  where
    by : (b : Bool) → nat_eq id k ≡ b → session_of id ss ≡ Some y
    by true t =
        let gone : session_of id (without k ss) ≡ None =
        subst (λ (n : ℕ). session_of n (without k ss) ≡ None) (sym (eqb-true id k t)) (none_without k ss) in
        absurd (none-some y (sym gone ∙ e))
    by false f = sym (other_without id k (eqb-false id k f) ss) ∙ e

-- ---- through a run

-- the sessions of a state have numbers that were given, and versions that are there
abbrev Fits : KnownState → Type 0
Fits s = (id : ℕ) (x : Session) → session_of id s.sessions ≡ Some x → (id ≤ s.opened) × (x.version ≤ length s.list)

-- a session that is found later, of a number that was given before, was there before; and sessions that fit fit later
-- too
pub record Carries (old new : KnownState) : Type 0 where
  pub opened : old.opened ≤ new.opened
  pub found : (id : ℕ) (y : Session) → id ≤ old.opened → session_of id new.sessions ≡ Some y
      → session_of id old.sessions ≡ Some y
  pub fits : Fits old → Fits new

within : (id v opened opened' len len' : ℕ) → opened ≤ opened' → len ≤ len' → (id ≤ opened) × (v ≤ len)
    → (id ≤ opened') × (v ≤ len')
within id v opened opened' len len' o l h = let a = h.0 in let b = h.1 in (omega (arith, o, a), omega (arith, l, b))

seats_carry : (old new : KnownState) → length old.list ≤ length new.list → Seats old new → Carries old new
seats_carry old new longer (changes.sits a b) =
    let was : (id : ℕ) (y : Session) → session_of id new.sessions ≡ Some y → session_of id old.sessions ≡ Some y =
    λ id y e. subst (λ (ss : List Session). session_of id ss ≡ Some y) a e in
    let more : old.opened ≤ new.opened = omega (arith, b) in
    record {
      opened = more;
      found = λ id y given e. was id y e;
      fits = λ fits id y e. within id y.version _ _ _ _ more longer (fits id y (was id y e));
    }
seats_carry old new longer (changes.closes k a b) =
    let was : (id : ℕ) (y : Session) → session_of id new.sessions ≡ Some y → session_of id old.sessions ≡ Some y =
    λ id y e. found_without id k old.sessions y (subst (λ (ss : List Session). session_of id ss ≡ Some y) a e) in
    let more : old.opened ≤ new.opened = omega (arith, b) in
    record {
      opened = more;
      found = λ id y given e. was id y e;
      fits = λ fits id y e. within id y.version _ _ _ _ more longer (fits id y (was id y e));
    }
seats_carry old new longer (changes.opens a b) =
    record {
      opened = more;
      found = λ id y given e. before id y given (found_in id old.sessions _ y (now id y e));
      fits = λ fits id y e. fit id y fits (found_in id old.sessions _ y (now id y e));
    }
  where
    more : old.opened ≤ new.opened
    more = omega (arith, b)

    now : (id : ℕ) (y : Session) → session_of id new.sessions ≡ Some y
        → session_of id (old.sessions ++ record { id = old.opened + 1; version = length old.list } ∷ []) ≡ Some y
    now id y e = subst (λ (ss : List Session). session_of id ss ≡ Some y) a e

    before : (id : ℕ) (y : Session) → id ≤ old.opened
        → (session_of id old.sessions ≡ Some y)
        ⊎ ((old.opened + 1 ≡ id) × (y ≡ record { id = old.opened + 1; version = length old.list }))
        → session_of id old.sessions ≡ Some y
    before id y given (inl e) = e
    before id y given (inr e) = let same = e.0 in absurd (omega (arith, same, given))

    fit : (id : ℕ) (y : Session) → Fits old
        → (session_of id old.sessions ≡ Some y)
        ⊎ ((old.opened + 1 ≡ id) × (y ≡ record { id = old.opened + 1; version = length old.list }))
        → (id ≤ new.opened) × (y.version ≤ length new.list)
    fit id y fits (inl e) = within id y.version _ _ _ _ more longer (fits id y e)
    fit id y fits (inr e) =
        let same = e.0 in let version : y.version ≡ length old.list = ap (λ (x : Session). x.version) e.1 in
        (omega (arith, same, b), omega (arith, version, longer))

longer_by : (old new more : List Publication) → new ≡ old ++ more → length old ≤ length new
longer_by old new more e = let l = ap length e ∙ length-append old more in omega (arith, l)

run_carries : (Has : Text → Content → Type 0) (old new : KnownState) (items : List Item) (answers : List Answer)
    → Run Has old items answers new → Carries old new
run_carries Has old new [] answers r =
    seats_carry old new (longer_by old.list new.list [] (ap (λ (s : KnownState). s.list) r.1
    ∙ sym (append-nil old.list))) (same_seats old old new refl refl r.1)
run_carries Has old new (item ∷ items) answers r =
    let moves = passes_moves Has old r.mid item r.now r.passes in
    let adds = moves_add old r.mid r.now moves in
    let first =
    seats_carry old r.mid (longer_by old.list r.mid.list adds.0 adds.1) (moves_seats old r.mid r.now moves) in
    let later = run_carries Has r.mid new items r.later r.rest in
    let a = first.opened in let b = later.opened in
    record {
      opened = omega (arith, a, b);
      found = λ id y given e. first.found id y given (later.found id y (omega (arith, a, given)) e);
      fits = λ fits. later.fits (first.fits fits);
    }

none_fit : (from : List Publication) → Fits (start_at from)
none_fit from id x e = absurd (none-some x e)

pub sessions_stay : (Has : Text → Content → Type 0) → SessionsStay Has
sessions_stay Has from s t before after said later r q id x y was is =
    let fit = (run_carries Has (start_at from) s before said r).fits (none_fit from) id x was in
    let still : session_of id s.sessions ≡ Some y = (run_carries Has s t after later q).found id y fit.0 is in
    let adds = run_adds Has s t after later q in (
      same_Some y x (sym still ∙ was),
      ap sources_of (ap (take x.version) adds.1 ∙ take-append-le x.version s.list adds.0 fit.1),
    )
