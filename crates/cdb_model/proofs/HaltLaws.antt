-- The writer is halted by a step that says so alone, and then for good; a halted writer begins nothing. Where no device
-- fails, no answer speaks of it.
use Rattle.std.proofs.Common.{◌≡◌, ℕ, ◌+◌, ◌≤◌, ◌⊎◌, inl, inr, List, [], ◌∷◌, ◌++◌, Option, None, Some, IsSome, All, refl, ap, sym, ◌∙◌, subst, arith}
use Rattle.std.proofs.lemmas.List.Elements.{All-nil, All-cons, All-append}
use Rattle.cdb_model.specs.Events as machine
use Rattle.cdb_model.specs.Events.{Answer}
use Rattle.cdb_model.specs.AnswerTexts.{shelf_fault, disk_fault, tally}
use Rattle.cdb_model.specs.Begun.{begins, begins_first}
use Rattle.cdb_model.specs.KnownStore.{KnownState}
use Rattle.cdb_model.specs.MachineLaws.{AreMadeIn}
use Rattle.cdb_model.specs.Maps.{Content}
use Rattle.cdb_model.specs.Publications.{Publication}
use Rattle.cdb_model.specs.RunLaws.{HaltsByFault, HaltedBeginsNone, IsOfNoFailure, PlainAnswers}
use Rattle.cdb_model.specs.Runs.{behind}
use Rattle.cdb_model.specs.Stores.{known_store}
use Rattle.cdb_model.specs.Text.{Text}
use Rattle.cdb_model.proofs.BegunLaws.{tally-append, quiet_begins}
use Rattle.cdb_model.proofs.Changes as changes
use Rattle.cdb_model.proofs.Changes.{IsQuiet, Changes, Moves, passes_moves}

some_not_none : {A : Type 0} (a : Option A) → IsSome a → a ≡ None → ⊥
some_not_none None some e = cc
some_not_none (Some x) some e = cc

-- ---- the halt comes with a failure

-- halted as before, or halted now, with so many failures of the disk said
abbrev Halts : KnownState → ℕ → KnownState → Type 0
Halts old faults new = (new.halted ≡ old.halted) ⊎ ((old.halted ≡ None) × (1 ≤ faults))

made_halts : (count : ℕ) (old new : KnownState) (answer : Answer) → AreMadeIn known_store count old answer new
    → Halts old (disk_fault answer) new
made_halts count old new machine.going (inl g) = inl (ap (λ (s : KnownState). s.halted) g.1)
made_halts count old new machine.going (inr g) = inl (ap (λ (s : KnownState). s.halted) g.next)
made_halts count old new (machine.published version) g = inl (ap (λ (s : KnownState). s.halted) g.next)
made_halts count old new machine.fault g = inr (g.running, omega arith)
made_halts count old new _ g = absurd g

changes_halt : (old new : KnownState) (answer : Answer) → Changes old answer new → Halts old (disk_fault answer) new
changes_halt old new answer (changes.stays quiet same) = inl same.halted
changes_halt old new answer (changes.begins version files is b) = inl (ap (λ (s : KnownState). s.halted) b.next)
changes_halt old new answer (changes.makes count m) = made_halts count old new answer m

late_halts : (count : ℕ) (old new : KnownState) (answer : Answer) → AreMadeIn known_store count old answer new
    → tally disk_fault (behind answer) ≡ disk_fault answer
late_halts count old new machine.going g = refl
late_halts count old new (machine.published version) g = refl
late_halts count old new machine.fault g = refl
late_halts count old new _ g = absurd g

moves_halt : (old new : KnownState) (answers : List Answer) → Moves old answers new
    → Halts old (tally disk_fault answers) new
moves_halt old new answers (changes.by_line answer is c) =
    let one : disk_fault answer ≡ tally disk_fault (answer ∷ []) = omega arith in
    subst (λ (n : ℕ). Halts old n new) (one ∙ ap (tally disk_fault) (sym is)) (changes_halt old new answer c)
moves_halt old new answers (changes.by_steps count answer is m) =
    subst (λ (n : ℕ). Halts old n new) (sym (late_halts count old new answer m)
    ∙ ap (tally disk_fault) (sym is)) (made_halts count old new answer m)

joined : (old mid new : KnownState) (first later all : ℕ) → all ≡ first + later → Halts old first mid
    → Halts mid later new
    → Halts old all new
joined old mid new first later all sum (inl a) (inl b) = inl (b ∙ a)
joined old mid new first later all sum (inr a) later_halts = inr (a.0, let f = a.1 in omega (arith, f, sum))
joined old mid new first later all sum (inl a) (inr b) = inr (sym a ∙ b.0, let f = b.1 in omega (arith, f, sum))

pub halts_by_fault : (Has : Text → Content → Type 0) → HaltsByFault Has
halts_by_fault Has old new [] answers r = inl (ap (λ (s : KnownState). s.halted) r.1)
halts_by_fault Has old new (item ∷ items) answers r =
    joined old r.mid new (tally disk_fault r.now) (tally disk_fault r.later) (tally disk_fault answers)
    (ap (tally disk_fault) r.answers_are ∙ tally-append disk_fault r.now r.later)
    (moves_halt old r.mid r.now (passes_moves Has old r.mid item r.now r.passes))
    (halts_by_fault Has r.mid new items r.later r.rest)

-- ---- a halted writer

-- nothing is begun, and neither the halt nor the list changes
abbrev Rests : KnownState → List Publication → KnownState → Type 0
Rests old begun new = (begun ≡ []) × (new.halted ≡ old.halted) × (new.list ≡ old.list)

made_rests : (count : ℕ) (old new : KnownState) (answer : Answer) → IsSome old.halted
    → AreMadeIn known_store count old answer new
    → Rests old (begins old answer) new × (begins_first old (behind answer) ≡ [])
made_rests count old new machine.going some (inl g) =
    ((refl, ap (λ (s : KnownState). s.halted) g.1, ap (λ (s : KnownState). s.list) g.1), refl)
made_rests count old new machine.going some (inr g) = absurd (some_not_none old.halted some g.running)
made_rests count old new (machine.published version) some g = absurd (some_not_none old.halted some g.running)
made_rests count old new machine.fault some g = absurd (some_not_none old.halted some g.running)
made_rests count old new _ some g = absurd g

changes_rest : (old new : KnownState) (answer : Answer) → IsSome old.halted → Changes old answer new
    → Rests old (begins old answer) new
changes_rest old new answer some (changes.stays quiet same) = (quiet_begins old answer quiet, same.halted, same.list)
changes_rest old new answer some (changes.begins version files is b) =
    absurd (some_not_none old.halted some b.planned.pending.idle.running)
changes_rest old new answer some (changes.makes count m) = (made_rests count old new answer some m).0

moves_rest : (old new : KnownState) (answers : List Answer) → IsSome old.halted → Moves old answers new
    → Rests old (begins_first old answers) new
moves_rest old new answers some (changes.by_line answer is c) =
    let rests = changes_rest old new answer some c in (ap (begins_first old) is ∙ rests.0, rests.1, rests.2)
moves_rest old new answers some (changes.by_steps count answer is m) =
    let rests = made_rests count old new answer some m in (ap (begins_first old) is ∙ rests.1, rests.0.1, rests.0.2)

pub halted_begins_none : (Has : Text → Content → Type 0) → HaltedBeginsNone Has
halted_begins_none Has old new [] answers begun r some =
    (r.1, ap (λ (s : KnownState). s.halted) r.2, ap (λ (s : KnownState). s.list) r.2)
halted_begins_none Has old new (item ∷ items) answers begun r some =
    let first = moves_rest old r.mid r.now some (passes_moves Has old r.mid item r.now r.passes) in
    let later =
    halted_begins_none Has r.mid new items r.later r.others r.rest
    (subst (λ (h : Option Publication). IsSome h) (sym first.1) some) in
    (r.begun_are ∙ ap (λ (l : List Publication). l ++ r.others) first.0 ∙ later.0, later.1 ∙ first.1, later.2 ∙ first.2)

-- ---- where no device fails

one : (answer : Answer) → IsOfNoFailure answer → All IsOfNoFailure (answer ∷ [])
one answer p = All-cons IsOfNoFailure answer [] p (All-nil IsOfNoFailure)

quiet_plain : (s : KnownState) (answer : Answer) → IsQuiet s answer → s.halted ≡ None → disk_fault answer ≡ 0
    → shelf_fault answer ≡ 0 → IsOfNoFailure answer
quiet_plain s machine.halted q running d f = some_not_none s.halted q running
quiet_plain s machine.shelf q running d f = absurd (omega (arith, f))
quiet_plain s machine.fault q running d f = absurd (omega (arith, d))
quiet_plain s machine.late_fault q running d f = absurd q
quiet_plain s (machine.damaged expected found) q running d f = absurd q
quiet_plain s (machine.late_damaged expected found) q running d f = absurd q
quiet_plain s _ q running d f = tt

made_plain : (count : ℕ) (old new : KnownState) (answer : Answer) → AreMadeIn known_store count old answer new
    → disk_fault answer ≡ 0
    → IsOfNoFailure answer × All IsOfNoFailure (behind answer)
made_plain count old new machine.going g d = (tt, All-nil IsOfNoFailure)
made_plain count old new (machine.published version) g d = (tt, one (machine.published version) tt)
made_plain count old new machine.fault g d = absurd (omega (arith, d))
made_plain count old new _ g d = absurd g

changes_plain : (old new : KnownState) (answer : Answer) → Changes old answer new → old.halted ≡ None
    → disk_fault answer ≡ 0 → shelf_fault answer ≡ 0 → IsOfNoFailure answer
changes_plain old new answer (changes.stays quiet same) running d f = quiet_plain old answer quiet running d f
changes_plain old new answer (changes.begins version files is b) running d f =
    subst (λ (a : Answer). IsOfNoFailure a) (sym is) tt
changes_plain old new answer (changes.makes count m) running d f = (made_plain count old new answer m d).0

moves_plain : (old new : KnownState) (answers : List Answer) → Moves old answers new → old.halted ≡ None
    → tally disk_fault answers ≡ 0 → tally shelf_fault answers ≡ 0
    → All IsOfNoFailure answers
moves_plain old new answers (changes.by_line answer is c) running d f =
    let d' : disk_fault answer + 0 ≡ 0 = sym (ap (tally disk_fault) is) ∙ d in
    let f' : shelf_fault answer + 0 ≡ 0 = sym (ap (tally shelf_fault) is) ∙ f in
    subst (λ (l : List Answer). All IsOfNoFailure l) (sym is)
    (one answer (changes_plain old new answer c running (omega (arith, d')) (omega (arith, f'))))
moves_plain old new answers (changes.by_steps count answer is m) running d f =
    let d' : disk_fault answer ≡ 0 = sym (late_halts count old new answer m) ∙ sym (ap (tally disk_fault) is) ∙ d in
    subst (λ (l : List Answer). All IsOfNoFailure l) (sym is) (made_plain count old new answer m d').1

still : (old new : KnownState) (faults : ℕ) → old.halted ≡ None → faults ≡ 0 → Halts old faults new → new.halted ≡ None
still old new faults running none (inl e) = e ∙ running
still old new faults running none (inr h) = let l = h.1 in absurd (omega (arith, none, l))

pub plain_answers : (Has : Text → Content → Type 0) → PlainAnswers Has
plain_answers Has old new [] answers r running d f =
    subst (λ (l : List Answer). All IsOfNoFailure l) (sym r.0) (All-nil IsOfNoFailure)
plain_answers Has old new (item ∷ items) answers r running d f =
    let moves = passes_moves Has old r.mid item r.now r.passes in
    let ds = ap (tally disk_fault) r.answers_are ∙ tally-append disk_fault r.now r.later in
    let fs = ap (tally shelf_fault) r.answers_are ∙ tally-append shelf_fault r.now r.later in
    let d0 : tally disk_fault r.now ≡ 0 = omega (arith, ds, d) in
    subst (λ (l : List Answer). All IsOfNoFailure l) (sym r.answers_are)
    (All-append IsOfNoFailure r.now r.later (moves_plain old r.mid r.now moves running d0 (omega (arith, fs, f)))
    (plain_answers Has r.mid new items r.later r.rest
    (still old r.mid (tally disk_fault r.now) running d0 (moves_halt old r.mid r.now moves))
    (omega (arith, ds, d)) (omega (arith, fs, f))))
