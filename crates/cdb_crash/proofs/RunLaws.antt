-- All steps of a publication in a row, and all publications of a list.
use Rattle.std.proofs.Common.{◌≡◌, ℕ, zero, suc, ◌+◌, ◌<◌, ◌≤◌, Bool, true, false, inl, List, [], ◌∷◌, ◌++◌, length, length-append, append_assoc, get_or, None, Some, refl, sym, ap, ◌∙◌, subst, arith}
use Rattle.std.specs.Prelude.{if◌then◌else◌}
use Rattle.std.proofs.lemmas.List.{take_all}
use Rattle.std.specs.Str.{bytes_eq}
use Rattle.cdb_grid.specs.declared.tile.Tile.{Tile}
use Rattle.cdb_source.specs.Reached.{IsTouched}
use Rattle.cdb_source.specs.declared.source.Source.{Source}
use Rattle.cdb_model.specs.Publications.{heads_of}
use Rattle.cdb_model.specs.Maps.{Text, Content, folder_above}
use Rattle.cdb_model.specs.Records.{head_file_text}
use Rattle.cdb_model.specs.Stands.{ArePublications, IsPublication, IsEntryCount, Stands}
use Rattle.cdb_files.specs.Disk.{State, empty_disk, Possible, IsImage, Allows, after_sync, after_sync_dir}
use Rattle.cdb_files.specs.Whole.{after_write}
use Rattle.cdb_crash.specs.Leftovers.{HasNext}
use Rattle.cdb_crash.specs.Crash.{IsClean, IsMid, IsReadyForHead, head_renamed, head_synced}
use Rattle.cdb_crash.specs.Laws.{PlanKeeps, Publishes, EveryList}
use Rattle.cdb_crash.specs.Plan.{FileAction, steps_of, after_step, after_steps, files_after, synced_after, IsMidAfter}
use Rattle.cdb_crash.proofs.CallLaws.{write-here}
use Rattle.cdb_crash.proofs.HeadLaws.{renamed-here, head_step}
use Rattle.cdb_crash.proofs.EmptyLaws.{empty_store}
use Rattle.cdb_crash.proofs.PlanLaws.{lead, plan_keeps}
use Rattle.cdb_crash.proofs.StoreLaws.{store_layout}

-- ---- what is there after a step is possible
kept-here : (now : Content) (may : Possible) → Allows may now → Allows (after_sync now may) now
kept-here now (Some xs) here = inl refl
kept-here None None here = inl refl
kept-here (Some bytes) None here = tt

pub sync_dir-here : (folder : Text) (s : State) → IsImage s s.present
    → IsImage (after_sync_dir folder s) (after_sync_dir folder s).present
unfolding after_sync_dir
sync_dir-here folder s here q = cases (bytes_eq (folder_above q) folder)
  where
    cases : (b : Bool) → Allows (if b then after_sync (s.present q) (s.may q) else s.may q) (s.present q)
    cases true = kept-here (s.present q) (s.may q) (here q)
    cases false = here q

pub step-here : (step : FileAction) (s : State) → IsImage s s.present
    → IsImage (after_step step s) (after_step step s).present
step-here (FileAction.write file) s here = write-here (folder_above file.path) file.path file.bytes s here
step-here (FileAction.sync folder) s here = sync_dir-here folder s here
step-here (FileAction.write_and_sync file) s here =
    sync_dir-here (folder_above file.path) (after_write (folder_above file.path) file.path file.bytes s)
    (write-here (folder_above file.path) file.path file.bytes s here)

pub steps-here : (steps : List FileAction) (s : State) → IsImage s s.present
    → IsImage (after_steps steps s) (after_steps steps s).present
steps-here [] s here = here
steps-here (step ∷ steps) s here = steps-here steps (after_step step s) (step-here step s here)

-- ---- all steps in a row
module _ (P : List (List Source)) (x : List Source) (tiles : List Tile) (list : ArePublications (P ++ x ∷ []))
    (touched : IsTouched (heads_of x) tiles) where
  run : (done rest : List FileAction) (s : State) → steps_of P x tiles ≡ done ++ rest → IsImage s s.present
      → IsMid Stands P (files_after done) (synced_after done) s
      → IsMid Stands P (files_after (steps_of P x tiles)) (synced_after (steps_of P x tiles)) (after_steps rest s)
  run done [] s e here mid = let D : List FileAction → Type 0 = λ ds. IsMid Stands P (files_after ds) (synced_after ds)
      s in subst D (sym (e ∙ append_nil done)) mid
    where
      append_nil : (steps : List FileAction) → steps ++ [] ≡ steps
      append_nil [] = refl
      append_nil (step ∷ steps) = ap (λ t. step ∷ t) (append_nil steps)
  run done (step ∷ rest) s e here mid =
      run (done ++ step ∷ []) rest (after_step step s) (e ∙ sym (append_assoc done (step ∷ []) rest))
      (step-here step s here) (lead P x tiles list touched done step rest s e here mid)

  all_steps : (s : State) → IsImage s s.present → IsClean Stands P s
      → IsReadyForHead Stands HasNext P x (after_steps (steps_of P x tiles) s)
  all_steps s here clean =
      let keeps : PlanKeeps P x tiles = plan_keeps P x tiles list touched in
      keeps.ready (after_steps (steps_of P x tiles) s) (steps-here (steps_of P x tiles) s here)
      (at_length (run [] (steps_of P x tiles) s refl here (keeps.begins s here clean)))
    where
      at_length : IsMid Stands P (files_after (steps_of P x tiles)) (synced_after (steps_of P x tiles))
          (after_steps (steps_of P x tiles) s)
          → IsMidAfter P x tiles (length (steps_of P x tiles)) (after_steps (steps_of P x tiles) s)
      at_length mid = let D : List FileAction → Type 0 = λ ds. IsMid Stands P (files_after ds) (synced_after ds)
          (after_steps (steps_of P x tiles) s) in
          subst D (sym (take_all (length (steps_of P x tiles)) (steps_of P x tiles) (omega arith))) mid

pub publishes : Publishes
publishes P x tiles s list touched here clean =
    (head_step Stands HasNext head_file_text store_layout P x (after_steps (steps_of P x tiles) s)
    (steps-here (steps_of P x tiles) s here)
    (all_steps P x tiles list touched s here clean)).end

pub published-here : (P : List (List Source)) (x : List Source) (tiles : List Tile) (s : State) → IsImage s s.present
    → IsImage (head_synced (head_file_text (length P + 1)) (after_steps (steps_of P x tiles) s))
    (head_synced (head_file_text (length P + 1)) (after_steps (steps_of P x tiles) s)).present
published-here P x tiles s here =
    sync_dir-here [] (head_renamed (head_file_text (length P + 1)) (after_steps (steps_of P x tiles) s))
    (renamed-here (head_file_text (length P + 1)) (after_steps (steps_of P x tiles) s)
    (steps-here (steps_of P x tiles) s here))

-- ---- all publications of a list
index_front : (P : List (List Source)) (x : List Source) (k : ℕ) (d : List Source) → k < length P
    → get_or (P ++ x ∷ []) k d ≡ get_or P k d
index_front [] x k d l = absurd (omega (arith, l))
index_front (p ∷ P) x zero d l = refl
index_front (p ∷ P) x (suc k) d l = index_front P x k d (omega (arith, l))

record EntriesFront (P : List (List Source)) (x : List Source) (count : ℕ) : Type 0 where
  pub tiles : List Tile
  pub touched : IsTouched (heads_of x) tiles
  pub less : ℕ
  pub less_is : IsEntryCount P less
  pub fewer : less ≤ count

entries_front : (P : List (List Source)) (x : List Source) (count : ℕ) → IsEntryCount (P ++ x ∷ []) count
    → EntriesFront P x count
entries_front [] x count (tiles, rest, both) =
    record { tiles = tiles; touched = both.0; less = 0; less_is = refl; fewer = omega arith }
entries_front (p ∷ P) x count (tiles, rest, both) = up (entries_front P x rest (both.1))
  where
    up : EntriesFront P x rest → EntriesFront (p ∷ P) x count
    up front = record {
      tiles = front.tiles;
      touched = front.touched;
      less = length tiles + front.less;
      less_is = (tiles, front.less, ((both.0), front.less_is, refl));
      fewer = omega (arith, front.fewer, both.2);
    }

front_list : (P : List (List Source)) (x : List Source) → (list : ArePublications (P ++ x ∷ []))
    → EntriesFront P x list.entries → ArePublications P
front_list P x list front = record {
  each = λ k d l. subst IsPublication (index_front P x k d l)
      (list.each k d (omega (arith, l, length-append P (x ∷ []))));
  few = omega (arith, list.few, length-append P (x ∷ []));
  entries = front.less;
  entries_are = front.less_is;
  entries_fit = omega (arith, front.fewer, list.entries_fit);
}

record LastOf (list : List (List Source)) : Type 0 where
  pub front : List (List Source)
  pub last : List Source
  pub is : list ≡ front ++ last ∷ []

last_of : (x : List Source) (list : List (List Source)) → LastOf (x ∷ list)
last_of x [] = record { front = []; last = x; is = refl }
last_of x (y ∷ list) = up (last_of y list)
  where
    up : LastOf (y ∷ list) → LastOf (x ∷ y ∷ list)
    up l = record { front = x ∷ l.front; last = l.last; is = ap (λ t. x ∷ t) l.is }

Found : List (List Source) → Type 0
Found list = (s : State) × IsImage s s.present × IsClean Stands list s

one_more : (P : List (List Source)) (x : List Source) (list : ArePublications (P ++ x ∷ []))
    → EntriesFront P x list.entries → Found P → Found (P ++ x ∷ [])
unfolding Found
one_more P x list front (s, here, clean) = (
  head_synced (head_file_text (length P + 1)) (after_steps (steps_of P x front.tiles) s),
  published-here P x front.tiles s here,
  publishes P x front.tiles s list front.touched here clean,
)

empty_found : Found []
unfolding Found
empty_found = (empty_disk, (λ q. inl refl), empty_store.disk)

every : (n : ℕ) (list : List (List Source)) → length list ≡ n → ArePublications list → Found list
every n [] len are = empty_found
every zero (x ∷ list) len are = absurd (omega (arith, len))
every (suc n) (x ∷ list) len are =
    let l = last_of x list in
    let F : List (List Source) → Type 0 = Found in
    let A : List (List Source) → Type 0 = ArePublications in
    let moved : ArePublications (l.front ++ l.last ∷ []) = subst A l.is are in
    let front = entries_front l.front l.last moved.entries moved.entries_are in
    let size = ap length l.is in
    subst F (sym l.is) (one_more l.front l.last moved front
    (every n l.front (omega (arith, len, size, length-append l.front (l.last ∷ [])))
    (front_list l.front l.last moved front)))

pub every_list : EveryList
unfolding Found
every_list list are = every (length list) list refl are
