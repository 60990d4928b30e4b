-- Recovery from a whole disk: it comes to its end, and the disk is clean.
use Rattle.std.proofs.Common.{◌≡◌, ◌≢◌, ℕ, ◌+◌, ◌-◌, ◌≤◌, Bool, true, false, ◌⊎◌, inl, inr, List, [], ◌∷◌, length, None, Some, refl, sym, ap, ◌∙◌, subst, arith}
use Rattle.std.specs.List.{Contains}
use Rattle.std.proofs.lemmas.Bool.{true≢false}
use Rattle.cdb_source.specs.declared.source.Source.{Source}
use Rattle.cdb_model.specs.Maps.{Text, Content, IsThere, folder_above, is_under, NoneUnder}
use Rattle.cdb_model.specs.Names.{version_folder, new_head_path}
use Rattle.cdb_model.specs.Records.{head_file_text}
use Rattle.cdb_model.specs.Stands.{AtMost, Stands}
use Rattle.cdb_model.proofs.MapLaws.{same_text}
use Rattle.cdb_files.specs.Disk.{State, IsImage, after_remove, after_sync_dir}
use Rattle.cdb_files.proofs.StateLaws.{sync_dir-present}
use Rattle.cdb_crash.specs.Leftovers.{IsOfVersion, HasNext}
use Rattle.cdb_crash.specs.Crash.{IsWhole, IsClearing}
use Rattle.cdb_crash.specs.Laws.{Recovers}
use Rattle.cdb_crash.specs.Recovery.{after_removal, after_removals, AreLeft, after_barrier}
use Rattle.cdb_crash.proofs.Clearing.{from_whole, goes, at_last, removed-at, removed-present, removed-here, whole_without_new_head}
use Rattle.cdb_crash.proofs.PlanFiles.{some_contained}
use Rattle.cdb_crash.proofs.PlanLists.{Some_of}
use Rattle.cdb_crash.proofs.RunLaws.{sync_dir-here}
use Rattle.cdb_crash.proofs.Steps.{whole_synced}
use Rattle.cdb_crash.proofs.StoreLaws.{store_layout}

removal-here : (path : Text) (s : State) → IsImage s s.present
    → IsImage (after_removal path s) (after_removal path s).present
removal-here path s here = sync_dir-here (folder_above path) (after_remove path s) (removed-here path s here)

-- ---- after the barrier
barrier-here : (s : State) → IsImage s s.present → IsImage (after_barrier s) (after_barrier s).present
barrier-here s here = removed-here new_head_path (after_sync_dir [] s) (sync_dir-here [] s here)

barrier_clearing : (P : List (List Source)) (s : State) → IsImage s s.present → IsWhole Stands P s
    → IsClearing Stands P 65536 (after_barrier s)
barrier_clearing P s here whole = from_whole Stands HasNext head_file_text store_layout P (after_barrier s)
    (barrier-here s here)
    (whole_without_new_head Stands HasNext head_file_text store_layout P (after_sync_dir [] s) (sync_dir-here [] s here)
    (whole_synced Stands HasNext head_file_text store_layout P s [] here whole))

-- ---- any run of removals
one_is : (count : ℕ) (Such : Text → Type 0) (path : Text) → Such path → AtMost count Such → 1 ≤ count
one_is count Such path such most = of (most.all path such)
  where
    of : Contains most.paths path → 1 ≤ count
    of (k, l, e) = omega (arith, l, most.few)

record Cleared (P : List (List Source)) (count : ℕ) (paths : List Text) (s : State) : Type 0 where
  pub clearing : IsClearing Stands P (count - length paths) (after_removals paths s)
  pub bounded : length paths ≤ count

run : (P : List (List Source)) (count : ℕ) (paths : List Text) (s : State) → count ≤ 65536 → IsImage s s.present
    → IsClearing Stands P count s
    → AreLeft (length P + 1) paths s → Cleared P count paths s
run P count [] s le here clearing left =
    let C : ℕ → Type 0 = λ n. IsClearing Stands P n s in
    let same : count ≡ count - 0 = omega arith in
    record { clearing = subst C same clearing; bounded = omega arith }
run P count (path ∷ paths) s le here clearing (under, there, left) =
    up (run P (count - 1) paths (after_removal path s) (omega (arith, le)) (removal-here path s here)
    (goes Stands HasNext head_file_text store_layout P count s path le here clearing under there) left)
  where
    least : 1 ≤ count
    least = one_is count (λ q. IsOfVersion (length P + 1) q × IsThere (s.present q)) path (under, there) clearing.few

    up : Cleared P (count - 1) paths (after_removal path s) → Cleared P count (path ∷ paths) s
    up rest =
        let C : ℕ → Type 0 = λ n. IsClearing Stands P n (after_removals paths (after_removal path s)) in
        let same : (count - 1) - length paths ≡ count - length (path ∷ paths) = omega arith in
        record { clearing = subst C same rest.clearing; bounded = omega (arith, rest.bounded, least) }

-- ---- some run of removals leaves none
record LeavesNone (P : List (List Source)) (s : State) : Type 0 where
  pub paths : List Text
  pub left : AreLeft (length P + 1) paths s
  pub none : NoneUnder (after_removals paths s).present (version_folder (length P + 1))

leaves_none : (P : List (List Source)) (all : List Text) (s : State)
    → ((q : Text) → IsOfVersion (length P + 1) q → IsThere (s.present q) → Some_of (λ p. q ≡ p) all) → LeavesNone P s
leaves_none P [] s among = record { paths = []; left = tt; none = λ q under. of q under (s.present q) refl }
  where
    of : (q : Text) → IsOfVersion (length P + 1) q → (c : Content) → s.present q ≡ c → s.present q ≡ None
    of q under None e = e
    of q under (Some bytes) e = absurd (among q under (let T : Content → Type 0 = IsThere in subst T (sym e) tt))
leaves_none P (path ∷ all) s among = cases (is_under (version_folder (length P + 1)) path) refl (s.present path) refl
    (λ further. leaves_none P all s further) (λ further. leaves_none P all (after_removal path s) further)
  where
    at : (q : Text) → (after_removal path s).present q ≡ (after_remove path s).present q
    at q = ap (λ m. m q) (sync_dir-present (folder_above path) (after_remove path s))

    skip : ((q : Text) → IsOfVersion (length P + 1) q → IsThere (s.present q) → q ≢ path) → (q : Text)
        → IsOfVersion (length P + 1) q → IsThere (s.present q) → Some_of (λ p. q ≡ p) all
    skip other q under there = of (among q under there)
      where
        of : (q ≡ path) ⊎ Some_of (λ p. q ≡ p) all → Some_of (λ p. q ≡ p) all
        of (inl e) = absurd (other q under there e)
        of (inr a) = a

    removed : (q : Text) → IsOfVersion (length P + 1) q → IsThere ((after_removal path s).present q)
        → Some_of (λ p. q ≡ p) all
    removed q under there = of (same_text q path)
      where
        gone : q ≡ path → ⊥
        gone e = let T : Content → Type 0 = IsThere in
            subst T (at q ∙ ap (λ t. (after_remove path s).present t) e ∙ removed-at path s) there

        of : (q ≡ path) ⊎ (q ≢ path) → Some_of (λ p. q ≡ p) all
        of (inl e) = absurd (gone e)
        of (inr ne) =
            in_rest (among q under (let T : Content → Type 0 = IsThere in
            subst T (at q ∙ removed-present path s q ne) there))
          where
            in_rest : (q ≡ path) ⊎ Some_of (λ p. q ≡ p) all → Some_of (λ p. q ≡ p) all
            in_rest (inl e) = absurd (ne e)
            in_rest (inr a) = a

    first : IsOfVersion (length P + 1) path → IsThere (s.present path) → LeavesNone P (after_removal path s)
        → LeavesNone P s
    first under there rest = record { paths = path ∷ rest.paths; left = (under, there, rest.left); none = rest.none }

    cases : (b : Bool) → is_under (version_folder (length P + 1)) path ≡ b → (c : Content) → s.present path ≡ c
        → (((q : Text) → IsOfVersion (length P + 1) q → IsThere (s.present q) → Some_of (λ p. q ≡ p) all)
        → LeavesNone P s)
        → (((q : Text) → IsOfVersion (length P + 1) q → IsThere ((after_removal path s).present q)
        → Some_of (λ p. q ≡ p) all) → LeavesNone P (after_removal path s))
        → LeavesNone P s
    cases false e c f same other =
        same (skip (λ q under there is. true≢false (sym under ∙ ap (is_under (version_folder (length P + 1))) is ∙ e)))
    cases true e None f same other =
        same (skip (λ q under there is. let T : Content → Type 0 = IsThere in subst T (ap s.present is ∙ f) there))
    cases true e (Some bytes) f same other = first e (let T : Content → Type 0 = IsThere in subst T (sym f) tt)
        (other removed)

pub recovers : Recovers
recovers = record {
  ends = λ P s paths here whole left none.
      at_last Stands HasNext head_file_text store_layout P (65536 - length paths)
      (after_removals paths (after_barrier s))
      (run P 65536 paths (after_barrier s) (omega arith) (barrier-here s here) (barrier_clearing P s here whole)
      left).clearing none;
  bounded =
      λ P s paths here whole left.
      (run P 65536 paths (after_barrier s) (omega arith) (barrier-here s here)
      (barrier_clearing P s here whole) left).bounded;
  some = λ P s here whole. of P s (leaves_none P (barrier_clearing P s here whole).few.paths (after_barrier s)
      (λ q under there. some_contained (barrier_clearing P s here whole).few.paths q
      ((barrier_clearing P s here whole).few.all q (under, there))));
}
  where
    of : (P : List (List Source)) (s : State) → LeavesNone P (after_barrier s)
        → (paths : List Text) × AreLeft (length P + 1) paths (after_barrier s)
        × NoneUnder (after_removals paths (after_barrier s)).present (version_folder (length P + 1))
    of P s l = (l.paths, l.left, l.none)
