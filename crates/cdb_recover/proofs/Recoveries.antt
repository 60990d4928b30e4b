-- Recovery of a disk that is whole, and of one that a fault left.
use Rattle.std.proofs.Common.{◌≡◌, ◌≢◌, ℕ, ◌+◌, ◌⊎◌, inl, inr, List, [], ◌∷◌, ◌++◌, None, Some, Result, Ok, Err, IfOk, OnOk, refl}
use Rattle.std.proofs.Common.{sym, ap, ◌∙◌, subst, arith}
use Rattle.cdb_source.specs.declared.source.Source.{Source}
use Rattle.cdb_model.specs.Maps.{Text, Content, FileMap, IsThere, NoneUnder}
use Rattle.cdb_model.specs.Names.{version_folder, head_path, new_head_path}
use Rattle.cdb_model.specs.Stands.{Stands}
use Rattle.cdb_files.specs.Disk.{State, IsImage, after_sync_dir, after_remove}
use Rattle.cdb_files.specs.Moments.{Elapses, AddsOnly, IsBetween}
use Rattle.cdb_files.specs.Whole.{WritesOnly}
use Rattle.cdb_files.proofs.MomentLaws.{started, goes_on, then_on, weaker}
use Rattle.cdb_files.proofs.StateLaws.{sync_dir-present}
use Rattle.cdb_crash.specs.Crash.{IsWhole, IsEither, IsFaulted}
use Rattle.cdb_crash.specs.Leftovers.{IsOfVersion, IsLeftover, HasAtMost}
use Rattle.cdb_crash.proofs.Clearing.{removed-at}
use Rattle.cdb_crash.proofs.HeadTexts.{head_text_tells}
use Rattle.cdb_crash.proofs.Own as own
use Rattle.cdb_crash.proofs.Paths.{not_new_head, at_most-none, at_most-wider}
use Rattle.cdb_recover.specs.Answers.{IsAnswer, NamesNewest, NamesNone, HasNoLeftover, RemovesLeftovers, KeepsStore}
use Rattle.cdb_recover.specs.inside.Answers.{IsCleared}
use Rattle.cdb_recover.proofs.Removals.{others_stay}
use Rattle.cdb_recover.specs.inside.Clearing.{RemovesOne, RemovesUnder}
use Rattle.cdb_recover.specs.declared.recover_error.RecoverError.{RecoverError}
use Rattle.cdb_recover.specs.declared.recover_error.RecoverError.TheVariants.{Fault, NotAStore}

-- ---- over maps
-- The same number of files under a version, where they are the same.
pub at_most-moved : (version : ℕ) (old new : FileMap) → ((q : Text) → IsOfVersion version q → new q ≡ old q)
    → HasAtMost 65536 version new → HasAtMost 65536 version old
at_most-moved version old new same most = record {
  paths = most.paths;
  few = most.few;
  all = λ q left. most.all q ((left.0, moved q left.0 left.1));
}
  where
    moved : (q : Text) → IsOfVersion version q → IsThere (old q) → IsThere (new q)
    moved q under there = let T : Content → Type 0 = IsThere in subst T (sym (same q under)) there

-- Where the new head alone differs, the files under the next version are as many.
pub cleared-moved : (newest : ℕ) (old new : FileMap) (result : Result ℕ RecoverError)
    → ((q : Text) → q ≢ new_head_path → new q ≡ old q) → IsCleared newest new result → IsCleared newest old result
cleared-moved newest old new result same = of result
  where
    at : (q : Text) → IsOfVersion (newest + 1) q → new q ≡ old q
    at q under = same q (not_new_head (newest + 1) q under)

    of : (result : Result ℕ RecoverError) → IsCleared newest new result → IsCleared newest old result
    of (Ok version) (is, few) = (is, at_most-moved (newest + 1) old new at few)
    of (Err (NotAStore version place)) (many, version_is, place_is) =
        ((λ few. many (at_most-moved (newest + 1) new old (λ q under. sym (at q under)) few)), version_is, place_is)
    of (Err Fault) h = tt

-- Nothing was removed.
pub none_left_over : (newest : ℕ) (m : FileMap) → RemovesLeftovers newest m m
none_left_over newest m = record {
  each = λ q. inl refl;
  few = at_most-none 65536 (λ q. IsOfVersion (newest + 1) q × (m q ≢ m q)) (λ q changed. changed.1 refl);
}

-- The new head alone is removed, or stays.
pub new_head_alone : (newest : ℕ) (old new : FileMap) → RemovesOne new_head_path old new
    → RemovesLeftovers newest old new
new_head_alone newest old new removed = record {
  each = λ q. of q (removed q);
  few = at_most-none 65536 (λ q. IsOfVersion (newest + 1) q × (new q ≢ old q))
      (λ q changed. changed.1 (others_stay new_head_path old new removed q (not_new_head (newest + 1) q changed.0)));
}
  where
    of : (q : Text) → (new q ≡ old q) ⊎ ((q ≡ new_head_path) × (new q ≡ None))
        → (new q ≡ old q) ⊎ (IsLeftover newest q × (new q ≡ None))
    of q (inl e) = inl e
    of q (inr (is, gone)) = inr ((inl is, gone))

-- The new head, and then files under the next version.
pub removed-after : (newest : ℕ) (old middle new : FileMap) → RemovesOne new_head_path old middle
    → RemovesUnder 65536 (version_folder (newest + 1)) middle new → RemovesLeftovers newest old new
removed-after newest old middle new first second = record {
  each = λ q. of q (first q) (second.each q);
  few = at_most-wider 65536 65536 (λ q. new q ≢ middle q) (λ q. IsOfVersion (newest + 1) q × (new q ≢ old q))
      (omega arith)
      (λ q changed e. changed.1
      (e ∙ others_stay new_head_path old middle first q (not_new_head (newest + 1) q changed.0)))
      second.few;
}
  where
    of : (q : Text) → (middle q ≡ old q) ⊎ ((q ≡ new_head_path) × (middle q ≡ None))
        → (new q ≡ middle q) ⊎ (IsOfVersion (newest + 1) q × (new q ≡ None))
        → (new q ≡ old q) ⊎ (IsLeftover newest q × (new q ≡ None))
    of q before (inr (under, gone)) = inr ((inr under, gone))
    of q (inl same) (inl e) = inl (e ∙ same)
    of q (inr (is, gone)) (inl e) = inr ((inl is, e ∙ gone))

-- The new head is gone, and then no file is left under the next version.
pub no_leftover : (newest : ℕ) (middle new : FileMap) → middle new_head_path ≡ None
    → RemovesUnder 65536 (version_folder (newest + 1)) middle new
    → NoneUnder new (version_folder (newest + 1)) → HasNoLeftover new newest
no_leftover newest middle new gone removed none q = of
  where
    head : (new new_head_path ≡ middle new_head_path)
        ⊎ (IsOfVersion (newest + 1) new_head_path × (new new_head_path ≡ None)) → new new_head_path ≡ None
    head (inl e) = e ∙ gone
    head (inr (under, e)) = e

    of : IsLeftover newest q → new q ≡ None
    of (inl is) = ap new is ∙ head (removed.each new_head_path)
    of (inr under) = none q under

pub answered : (m : FileMap) (newest : ℕ) (result : Result ℕ RecoverError) → NamesNewest (m head_path) newest
    → IsCleared newest m result → IsAnswer m result
answered m newest (Ok version) named (is, few) =
    let N : ℕ → Type 0 = λ n. NamesNewest (m head_path) n in
    let F : ℕ → Type 0 = λ n. HasAtMost 65536 (n + 1) m in
    (subst N (sym is) named, subst F (sym is) few)
answered m newest (Err (NotAStore version place)) named (many, version_is, place_is) =
    inr (record { newest = newest; named = named; many = many; version_is = version_is; place_is = place_is })
answered m newest (Err Fault) named h = tt

one_newest : (content : Content) (j k : ℕ) → NamesNewest content j → NamesNewest content k → j ≡ k
one_newest None j k a b = a ∙ sym b
one_newest (Some bytes) j k (least, most, is) (least_k, most_k, is_k) =
    head_text_tells j k (omega (arith, most)) (omega (arith, most_k)) (sym is ∙ is_k)

not_both : (content : Content) (newest : ℕ) → NamesNewest content newest → NamesNone content → ⊥
not_both None newest named none = none
not_both (Some bytes) newest (least, most, is) none = none newest least most is

pub keeps_named : (newest : ℕ) (old new : FileMap) → NamesNewest (old head_path) newest
    → RemovesLeftovers newest old new
    → KeepsStore old new
keeps_named newest old new named kept = record {
  named = λ other is. let K : ℕ → Type 0 = λ n. RemovesLeftovers n old new in
      subst K (one_newest (old head_path) newest other named is) kept;
  unnamed = λ none. absurd (not_both (old head_path) newest named none);
}

pub keeps_all : (m : FileMap) → KeepsStore m m
keeps_all m = record { named = λ newest is. none_left_over newest m; unnamed = λ none q. refl }

pub ok_of : {T E : Type 0} (r : Result T E) (Q : T → Type 0) (v : T) → IfOk r (λ w. w ≡ v) → OnOk r (Q v) → IfOk r Q
ok_of (Ok w) Q v same holds = subst Q (sym same) holds
ok_of (Err e) Q v same holds = tt

-- ---- over any disk
module _ {D : Type 0} (clock : D → ℕ) (since : D → ℕ → FileMap → Type 0) (state : D → State) (a b : D)
    (here : IsImage (state a) (state a).present) where
  -- The new head goes.
  pub new_head_goes : (list : List (List Source)) → IsWhole Stands list (state a)
      → WritesOnly clock since state new_head_path a b → AddsOnly clock since a b (λ m. Stands m list)
  new_head_goes list whole run = weaker clock since a b _ _ run.time
      ((own.leftover_calls list new_head_path (state a) here (inl refl) (own.room.whole list (state a) here whole)).run)

  pub whole_without : (list : List (List Source)) → IsWhole Stands list (state a)
      → state b ≡ after_remove new_head_path (state a) → IsWhole Stands list (state b)
  whole_without list whole done = let W : State → Type 0 = IsWhole Stands list in
      subst W (sym done) (own.whole_stays.new_head list (state a) here whole)

  pub new_head_gone : state b ≡ after_remove new_head_path (state a) → (state b).present new_head_path ≡ None
  new_head_gone done = ap (λ (s : State). s.present new_head_path) done ∙ removed-at new_head_path (state a)

  -- The root is synced.
  pub same_present : state b ≡ after_sync_dir [] (state a) → (state b).present ≡ (state a).present
  same_present done = ap (λ (s : State). s.present) done ∙ sync_dir-present [] (state a)

  pub root_synced : (P : FileMap → Type 0) → ((m : FileMap) → IsImage (state a) m → P m)
      → Elapses (clock a) (clock b) (since a) (since b) (IsBetween (state a) (after_sync_dir [] (state a)))
      → AddsOnly clock since a b P
  root_synced P each time = goes_on clock since a a b P _ (started clock since a P) time
      (λ m between. each m ((own.folder_calls.sync_dir [] (state a) here).inside m between))

  pub whole_after : (list : List (List Source)) → IsWhole Stands list (state a) → state b ≡ after_sync_dir [] (state a)
      → IsWhole Stands list (state b)
  whole_after list whole done = let W : State → Type 0 = IsWhole Stands list in
      subst W (sym done) (own.whole_stays.synced list (state a) [] here whole)

  pub old_after : (list : List (List Source)) (x : List Source) → IsFaulted Stands list x (state a)
      → Stands (state a).present list → state b ≡ after_sync_dir [] (state a)
      → IsWhole Stands list (state b)
  old_after list x faulted stands done = let W : State → Type 0 = IsWhole Stands list in
      subst W (sym done) (own.after_fault.old list x (state a) here faulted stands)

  pub new_after : (list : List (List Source)) (x : List Source) → IsFaulted Stands list x (state a)
      → Stands (state a).present (list ++ x ∷ []) → state b ≡ after_sync_dir [] (state a)
      → IsWhole Stands (list ++ x ∷ []) (state b)
  new_after list x faulted stands done = let W : State → Type 0 = IsWhole Stands (list ++ x ∷ []) in
      subst W (sym done) (own.after_fault.new list x (state a) here faulted stands)

  -- After a fault: what comes after the sync of the root leaves one of the two lists.
  pub either_after : (list : List (List Source)) (x : List Source) (c : D) → IsFaulted Stands list x (state a)
      → state b ≡ after_sync_dir [] (state a)
      → Elapses (clock a) (clock b) (since a) (since b) (IsBetween (state a) (after_sync_dir [] (state a)))
      → ((Q : List (List Source)) → IsWhole Stands Q (state b) → AddsOnly clock since b c (λ m. Stands m Q))
      → AddsOnly clock since a c (IsEither Stands list x)
  either_after list x c faulted done time rest = then_on clock since a b c (IsEither Stands list x)
      (root_synced (IsEither Stands list x) faulted.either time) (of (faulted.either (state a).present here))
    where
      of : IsEither Stands list x (state a).present → AddsOnly clock since b c (IsEither Stands list x)
      of (inl stands) = weaker clock since b c _ _ (rest list (old_after list x faulted stands done)) (λ m s. inl s)
      of (inr stands) =
          weaker clock since b c _ _ (rest (list ++ x ∷ []) (new_after list x faulted stands done)) (λ m s. inr s)
