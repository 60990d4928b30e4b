-- How far a publication is, before and after a step.
use Rattle.std.proofs.Common.{◌≡◌, ℕ, zero, suc, ◌+◌, ◌-◌, ◌<◌, List, [], ◌∷◌, ◌++◌, length, get_or, drop, Option, Some, None, refl, sym, ap, ◌∙◌, subst, arith}
use Rattle.std.specs.Prelude.{slice_get, reverse, option_to_list}
use Rattle.std.proofs.lemmas.List.{length-map, reverse-append}
use Rattle.std.proofs.lemmas.Option.{same_Some, none-some}
use Rattle.cdb_source.specs.declared.source.Source.{Source}
use Rattle.cdb_model.specs.Stands.{Stands}
use Rattle.cdb_files.specs.Disk.{State, IsImage}
use Rattle.cdb_manifest.specs.declared.record_.Record.{Record}
use Rattle.cdb_crash.specs.Crash.{IsReadyForHead}
use Rattle.cdb_crash.specs.Laws.{PlanKeeps}
use Rattle.cdb_crash.specs.Leftovers.{HasNext}
use Rattle.cdb_crash.specs.Plan.{steps_of, IsMidAfter}
use Rattle.cdb_crash.proofs.Own as own
use Rattle.cdb_chain.specs.Publications.{AreRecords}
use Rattle.cdb_publish.specs.Fitting.{Plans, Fits, steps_before_head}
use Rattle.cdb_publish.specs.Going.{Underway}
use Rattle.cdb_publish.specs.declared.plan.Plan.{Plan}
use Rattle.cdb_publish.specs.declared.publication.Publication.{Publication}
use Rattle.cdb_publish.specs.declared.work.Work.{Work}
use Rattle.cdb_crash.proofs.PlanNumbers.{got}

drop_head : {A : Type 0} (x : List A) (n : ℕ) (s : A) (rest : List A) → s ∷ rest ≡ drop n x → slice_get x n ≡ Some s
drop_head {A = A} [] zero s rest e = let P : List A → Type 0 = Empty in absurd (subst P (sym e) tt)
  where
    Empty : List A → Type 0
    Empty [] = Unit {0}
    Empty (y ∷ ys) = ⊥
drop_head {A = A} [] (suc n) s rest e = let P : List A → Type 0 = Empty in absurd (subst P (sym e) tt)
  where
    Empty : List A → Type 0
    Empty [] = Unit {0}
    Empty (y ∷ ys) = ⊥
drop_head {A = A} (y ∷ x) zero s rest e = ap head (sym e)
  where
    head : List A → Option A
    head [] = None
    head (z ∷ zs) = Some z
drop_head (y ∷ x) (suc n) s rest e = drop_head x n s rest e

drop_tail : {A : Type 0} (x : List A) (n m : ℕ) → m ≡ n + 1 → drop m x ≡ drop 1 (drop n x)
drop_tail x n zero is = absurd (omega (arith, is))
drop_tail [] zero (suc m) is = refl
drop_tail [] (suc n) (suc m) is = refl
drop_tail (y ∷ x) zero (suc zero) is = refl
drop_tail (y ∷ x) zero (suc (suc m)) is = absurd (omega (arith, is))
drop_tail (y ∷ x) (suc n) (suc m) is = drop_tail x n m (omega (arith, is))

last_apart : {A : Type 0} (ss : List A) (i : ℕ) (s : A) → i + 1 ≡ length ss → slice_get ss i ≡ Some s
    → (front : List A) × (ss ≡ front ++ s ∷ [])
last_apart [] i s is e = absurd (none-some s e)
last_apart (y ∷ []) zero s is e = ([], ap (λ z. z ∷ []) (same_Some y s e))
last_apart (y ∷ z ∷ ss) zero s is e = absurd (omega (arith, is))
last_apart (y ∷ ss) (suc i) s is e = let l = last_apart ss i s (omega (arith, is)) e in (y ∷ l.0, ap (λ t. y ∷ t) l.1)

-- The source whose turn it is, of those that are left, the last one first.
pub next_source : (ss x : List Source) (n i : ℕ) (s : Source) → reverse ss ≡ drop n x → i + 1 ≡ length ss
    → s ≡ get_or ss i s → slice_get x n ≡ Some s
next_source ss x n i s rev is at =
    let l = last_apart ss i s is (got ss i s (omega (arith, is)) at) in
    drop_head x n s (reverse l.0) (sym (reverse-append l.0 (s ∷ [])) ∙ sym (ap reverse l.1) ∙ rev)

-- Those that are left behind it.
pub rest_sources : (before after x : List Source) (taken : Option Source) (n len : ℕ) → len ≡ length before
    → before ≡ after ++ option_to_list taken
    → ((d : Source) → 0 < len → taken ≡ Some (get_or before (len - 1) d)) → reverse before ≡ drop n x
    → reverse after ≡ drop (n + 1) x
rest_sources before after x None n len is parts value rev = empty before after is parts value ∙ ap (drop 1) rev
    ∙ sym (drop_tail x n (n + 1) refl)
  where
    empty : (before after : List Source) → len ≡ length before → before ≡ after ++ []
        → ((d : Source) → 0 < len → None ≡ Some (get_or before (len - 1) d)) → reverse after ≡ drop 1 (reverse before)
    empty (s ∷ before) after l e v = absurd (none-some _ (v s (omega (arith, l))))
    empty [] [] l e v = refl
    empty [] (s ∷ after) l e v = absurd (omega (arith, ap length e))
rest_sources before after x (Some s) n len is parts value rev =
    ap (drop 1) (sym (reverse-append after (s ∷ [])) ∙ sym (ap reverse parts) ∙ rev) ∙ sym (drop_tail x n (n + 1) refl)

-- ---- plans
pub keeps : (w : Work) (P : List (List Source)) (x : List Source) (n : ℕ) → Fits w P x n
    → PlanKeeps P x w.plan.record.tiles
keeps w P x n fits = own.plan_steps P x w.plan.record.tiles fits.plan.list fits.plan.touched

pub heads_counted : (p : Plan) (P : List (List Source)) (x : List Source) → Plans p P x
    → length p.record.heads ≡ length x
heads_counted p P x plans = ap length plans.heads ∙ length-map x (λ s. s.head)

pub steps_counted : (p : Plan) (P : List (List Source)) (x : List Source) → Plans p P x
    → length (steps_of P x p.record.tiles) ≡ steps_before_head p
steps_counted p P x plans =
    let k : PlanKeeps P x p.record.tiles = own.plan_steps P x p.record.tiles plans.list plans.touched in
    omega (arith, k.count, heads_counted p P x plans, ap length plans.folders, length-map p.folders.keys (λ f. f.bytes))

-- All steps but the head's are made.
pub now_ready : (w : Work) (P : List (List Source)) (x : List Source) (n : ℕ) (s : State) → Fits w P x n
    → IsImage s s.present → IsMidAfter P x w.plan.record.tiles n s
    → w.done ≡ steps_before_head w.plan → IsReadyForHead Stands HasNext P x s
now_ready w P x n s fits here mid full =
    let M : ℕ → Type 0 = λ k. IsMidAfter P x w.plan.record.tiles k s in
    (keeps w P x n fits).ready s here (subst M (sym fits.done ∙ full ∙ sym (steps_counted w.plan P x fits.plan)) mid)

-- ---- the work that a publication holds
pub record Holds (w : Work) (P : List (List Source)) (x : List Source) (number : ℕ) (kept : List Record)
    (s : State) : Type 0 where
  pub fits : Fits w P x number
  pub records : AreRecords kept P
  pub mid : IsMidAfter P x w.plan.record.tiles number s

pub opened : (q : Publication) (w : Work) (P : List (List Source)) (x : List Source) (number : ℕ) (kept : List Record)
    (s : State) → q.work ≡ Some w → Underway q P x number kept s
    → Holds w P x number kept s
opened q w P x number kept s is u = let H : Work → Type 0 = λ v. Holds v P x number kept s in
    subst H (same_Some u.work w (sym u.is ∙ is)) (record { fits = u.fits; records = u.records; mid = u.mid })
