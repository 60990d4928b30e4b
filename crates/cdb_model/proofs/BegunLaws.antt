-- The publications that a run begins, by its answers and by its last state, and those that are complete.
use Rattle.std.proofs.Common.{◌≡◌, ℕ, ◌+◌, ◌≤◌, inl, inr, Bool, true, false, cond, List, [], ◌∷◌, ◌++◌, length, take, drop, nat_eq, Option, None, Some, refl, ap, ap₂, sym, ◌∙◌, subst, append_assoc, append-nil, length-append, arith}
use Rattle.std.specs.List.{starts_with}
use Rattle.std.proofs.lemmas.List.{take-append-drop, take-append-le, append_cancel_left}
use Rattle.cdb_model.specs.Events as machine
use Rattle.cdb_model.specs.Events.{Answer}
use Rattle.cdb_model.specs.AnswerTexts.{text_of_answer, tally}
use Rattle.cdb_model.specs.Begun.{begun_by, begins, begins_first, unfinished, completes, whole_answers, acknowledged}
use Rattle.cdb_model.specs.KnownStore.{KnownState, Going, start_at}
use Rattle.cdb_model.specs.MachineLaws.{AreMadeIn}
use Rattle.cdb_model.specs.Maps.{Content}
use Rattle.cdb_model.specs.Publications.{Publication}
use Rattle.cdb_model.specs.RunLaws.{BegunInOrder, BegunFromStore, AcknowledgedComplete}
use Rattle.cdb_model.specs.Runs.{Item, Run, behind}
use Rattle.cdb_model.specs.Stores.{known_store}
use Rattle.cdb_model.specs.Text.{Text}
use Rattle.cdb_model.proofs.Changes as changes
use Rattle.cdb_model.proofs.Changes.{IsQuiet, Changes, Moves, passes_moves}

-- ---- those that a state knows of

left : (old new : KnownState) → new ≡ old → begun_by new ≡ begun_by old ++ []
left old new e = ap begun_by e ∙ sym (append-nil (begun_by old))

pub quiet_begins : (s : KnownState) (answer : Answer) → IsQuiet s answer → begins s answer ≡ []
quiet_begins s (machine.begun version files) q = absurd q
quiet_begins s _ q = refl

-- what a state with a publication that is going knows of
going_knows : (old : KnownState) (now : Going) → old.going ≡ Some now → begun_by old ≡ old.list ++ now.publication ∷ []
going_knows old now is = ap (λ (o : Option Going). old.list ++ unfinished o old.halted) is

made_begun : (count : ℕ) (old new : KnownState) (answer : Answer) → AreMadeIn known_store count old answer new
    → begun_by new ≡ begun_by old ++ begins old answer
made_begun count old new machine.going (inl g) = left old new g.1
made_begun count old new machine.going (inr g) =
    ap begun_by g.next ∙ sym (going_knows old g.now g.going) ∙ sym (append-nil (begun_by old))
made_begun count old new (machine.published version) g =
    ap begun_by g.next
    ∙ ap (λ (h : Option Publication). (old.list ++ g.now.publication ∷ []) ++ unfinished None h) g.running
    ∙ append-nil (old.list ++ g.now.publication ∷ []) ∙ sym (going_knows old g.now g.going)
    ∙ sym (append-nil (begun_by old))
made_begun count old new machine.fault g =
    ap begun_by g.next ∙ sym (going_knows old g.now g.going) ∙ sym (append-nil (begun_by old))
made_begun count old new _ g = absurd g

changes_begun : (old new : KnownState) (answer : Answer) → Changes old answer new
    → begun_by new ≡ begun_by old ++ begins old answer
changes_begun old new answer (changes.stays quiet same) =
    ap (λ (l : List Publication). l ++ unfinished new.going new.halted) same.list
    ∙ ap₂ (λ (g : Option Going) (h : Option Publication). old.list ++ unfinished g h) same.going same.halted
    ∙ sym (append-nil (begun_by old))
    ∙ ap (λ (l : List Publication). begun_by old ++ l) (sym (quiet_begins old answer quiet))
changes_begun old new answer (changes.begins version files is b) =
    let idle = b.planned.pending.idle in
    let knows : begun_by old ≡ old.list ++ [] =
    ap₂ (λ (g : Option Going) (h : Option Publication). old.list ++ unfinished g h) idle.idle idle.running in
    ap begun_by b.next ∙ ap (λ (x : Publication). old.list ++ x ∷ []) b.starts.0
    ∙ sym (ap (λ (l : List Publication). l ++ old.pending ∷ []) (knows ∙ append-nil old.list))
    ∙ ap (λ (a : Answer). begun_by old ++ begins old a) (sym is)
changes_begun old new answer (changes.makes count m) = made_begun count old new answer m

-- what is said of steps that no line asked for begins what their answer begins
late_begins : (count : ℕ) (old new : KnownState) (answer : Answer) → AreMadeIn known_store count old answer new
    → begins_first old (behind answer) ≡ begins old answer
late_begins count old new machine.going g = refl
late_begins count old new (machine.published version) g = refl
late_begins count old new machine.fault g = refl
late_begins count old new _ g = absurd g

moves_begun : (old new : KnownState) (answers : List Answer) → Moves old answers new
    → begun_by new ≡ begun_by old ++ begins_first old answers
moves_begun old new answers (changes.by_line answer is c) =
    changes_begun old new answer c ∙ ap (λ (a : List Answer). begun_by old ++ begins_first old a) (sym is)
moves_begun old new answers (changes.by_steps count answer is m) =
    made_begun count old new answer m
    ∙ ap (λ (b : List Publication). begun_by old ++ b) (sym (late_begins count old new answer m))
    ∙ ap (λ (a : List Answer). begun_by old ++ begins_first old a) (sym is)

pub begun_in_order : (Has : Text → Content → Type 0) → BegunInOrder Has
begun_in_order Has old new [] answers r = ([], (r.0, refl, r.1), left old new r.1)
begun_in_order Has old new (item ∷ items) answers r =
    let later = begun_in_order Has r.mid new items r.later r.rest in (
      begins_first old r.now ++ later.0,
      record {
        mid = r.mid;
        now = r.now;
        later = r.later;
        answers_are = r.answers_are;
        passes = r.passes;
        others = later.0;
        begun_are = refl;
        rest = later.1;
      },
      later.2 ∙ ap (λ (l : List Publication). l ++ later.0)
          (moves_begun old r.mid r.now (passes_moves Has old r.mid item r.now r.passes))
          ∙ append_assoc (begun_by old) (begins_first old r.now) later.0,
    )

-- ---- those that are complete

-- a list gains as many publications as are said to be complete
abbrev pub Adds : KnownState → ℕ → KnownState → Type 0
Adds old count new = (more : List Publication) × (new.list ≡ old.list ++ more) × (length more ≡ count)

none_more : (old new : KnownState) → new.list ≡ old.list → Adds old 0 new
none_more old new e = ([], e ∙ sym (append-nil old.list), refl)

quiet_completes : (s : KnownState) (answer : Answer) → IsQuiet s answer → completes answer ≡ 0
quiet_completes s (machine.published version) q = absurd q
quiet_completes s _ q = refl

made_adds : (count : ℕ) (old new : KnownState) (answer : Answer) → AreMadeIn known_store count old answer new
    → Adds old (completes answer) new
made_adds count old new machine.going (inl g) = none_more old new (ap (λ (s : KnownState). s.list) g.1)
made_adds count old new machine.going (inr g) = none_more old new (ap (λ (s : KnownState). s.list) g.next)
made_adds count old new (machine.published version) g =
    (g.now.publication ∷ [], ap (λ (s : KnownState). s.list) g.next, refl)
made_adds count old new machine.fault g = none_more old new (ap (λ (s : KnownState). s.list) g.next)
made_adds count old new _ g = absurd g

changes_add : (old new : KnownState) (answer : Answer) → Changes old answer new → Adds old (completes answer) new
changes_add old new answer (changes.stays quiet same) =
    subst (λ (n : ℕ). Adds old n new) (sym (quiet_completes old answer quiet)) (none_more old new same.list)
changes_add old new answer (changes.begins version files is b) =
    subst (λ (a : Answer). Adds old (completes a) new) (sym is)
    (none_more old new (ap (λ (s : KnownState). s.list) b.next))
changes_add old new answer (changes.makes count m) = made_adds count old new answer m

late_completes : (count : ℕ) (old new : KnownState) (answer : Answer) → AreMadeIn known_store count old answer new
    → tally completes (behind answer) ≡ completes answer
late_completes count old new machine.going g = refl
late_completes count old new (machine.published version) g = refl
late_completes count old new machine.fault g = refl
late_completes count old new _ g = absurd g

pub moves_add : (old new : KnownState) (answers : List Answer) → Moves old answers new
    → Adds old (tally completes answers) new
moves_add old new answers (changes.by_line answer is c) =
    let one : completes answer ≡ tally completes (answer ∷ []) = omega arith in
    subst (λ (n : ℕ). Adds old n new) (one ∙ ap (tally completes) (sym is)) (changes_add old new answer c)
moves_add old new answers (changes.by_steps count answer is m) =
    subst (λ (n : ℕ). Adds old n new) (sym (late_completes count old new answer m)
    ∙ ap (tally completes) (sym is)) (made_adds count old new answer m)

pub tally-append : (kind : Answer → ℕ) (answers now : List Answer)
    → tally kind (answers ++ now) ≡ tally kind answers + tally kind now
tally-append kind [] now = omega arith
tally-append kind (a ∷ answers) now = let rest = tally-append kind answers now in omega (arith, rest)

pub run_adds : (Has : Text → Content → Type 0) (old new : KnownState) (items : List Item) (answers : List Answer)
    → Run Has old items answers new → Adds old (tally completes answers) new
run_adds Has old new [] answers r =
    subst (λ (a : List Answer). Adds old (tally completes a) new) (sym r.0)
    (none_more old new (ap (λ (s : KnownState). s.list) r.1))
run_adds Has old new (item ∷ items) answers r =
    let first = moves_add old r.mid r.now (passes_moves Has old r.mid item r.now r.passes) in
    let later = run_adds Has r.mid new items r.later r.rest in
    let sum = ap (tally completes) r.answers_are ∙ tally-append completes r.now r.later in
    let count = length-append first.0 later.0 in
    let a = first.2 in let b = later.2 in (
      first.0 ++ later.0,
      later.1 ∙ ap (λ (l : List Publication). l ++ later.0) first.1 ∙ append_assoc old.list first.0 later.0,
      omega (arith, sum, count, a, b),
    )

pub begun_from_store : (Has : Text → Content → Type 0) → BegunFromStore Has
begun_from_store Has from s items answers r =
    let b = begun_in_order Has (start_at from) s items answers r in
    let a = run_adds Has (start_at from) s items answers r in
    let knows : begun_by s ≡ from ++ b.0 = b.2 ∙ ap (λ (l : List Publication). l ++ b.0) (append-nil from) in
    let has : begun_by s ≡ from ++ (a.0 ++ unfinished s.going s.halted) =
    ap (λ (l : List Publication). l ++ unfinished s.going s.halted) a.1
    ∙ append_assoc from a.0 (unfinished s.going s.halted) in (
      b.0,
      b.1,
      record {
        complete = a.0;
        list_is = a.1;
        begun_is = append_cancel_left from b.0 (a.0 ++ unfinished s.going s.halted) (sym knows ∙ has);
      },
    )

-- ---- those that are acknowledged

fewer_whole : (answers : List Answer) (written : Text)
    → tally completes (whole_answers answers written) ≤ tally completes answers
fewer_whole [] written = omega arith
fewer_whole (a ∷ answers) written =
    by (starts_with nat_eq written (text_of_answer a)) (fewer_whole answers (drop (length (text_of_answer a)) written))
  where
    by : (w : Bool)
        → tally completes (whole_answers answers (drop (length (text_of_answer a)) written)) ≤ tally completes answers
        → tally completes (cond w (a ∷ whole_answers answers (drop (length (text_of_answer a)) written)) []) ≤ completes
        a +
        tally completes answers
    by true fewer = omega arith
    by false fewer = omega arith

-- what is acknowledged is the first of the complete ones
pub acknowledged_first : (complete later : List Publication) (answers : List Answer) (written : Text)
    → length complete ≡ tally completes answers
    → complete ≡ acknowledged (complete ++ later) answers written ++ drop
    (tally completes (whole_answers answers written)) complete
acknowledged_first complete later answers written many =
    let n = tally completes (whole_answers answers written) in
    let few : n ≤ length complete = omega (arith, many, fewer_whole answers written) in
    let e : take n (complete ++ later) ≡ take n complete = take-append-le n complete later few in
    sym (ap (λ (l : List Publication). l ++ drop n complete) e ∙ take-append-drop n complete)

pub acknowledged_complete : (Has : Text → Content → Type 0) → AcknowledgedComplete Has
acknowledged_complete Has from s items answers begun written r h =
    let a = run_adds Has (start_at from) s items answers r in
    let same : h.complete ≡ a.0 = append_cancel_left from h.complete a.0 (sym h.list_is ∙ a.1) in
    let many : length h.complete ≡ tally completes answers = ap length same ∙ a.2 in
    let rest = drop (tally completes (whole_answers answers written)) h.complete in (
      rest,
      h.list_is ∙ ap (λ (l : List Publication). from ++ l)
          (acknowledged_first h.complete (unfinished s.going s.halted) answers written many
          ∙ ap (λ (b : List Publication). acknowledged b answers written ++ rest) (sym h.begun_is)),
    )
