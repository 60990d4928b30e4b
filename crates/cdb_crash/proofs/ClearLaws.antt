-- A clear disk stays clear.
use Rattle.std.proofs.Common.{◌≡◌, ◌≢◌, ℕ, ◌≤◌, ◌⊎◌, inl, inr, List, [], ◌∷◌, take, None, Some, sym, ap, ◌∙◌, subst}
use Rattle.cdb_model.specs.Maps.{Text, Content, FileMap, IsThere, put}
use Rattle.cdb_model.specs.Names.{head_path, new_head_path}
use Rattle.cdb_model.proofs.MapLaws.{put-other, same_text}
use Rattle.cdb_files.specs.Disk.{State, Possible, Allows, added, after_create, after_append, after_sync_file, after_rename, after_remove, after_make_dir, Fails, FailsAppend}
use Rattle.cdb_files.specs.Whole.{ChangesOnly}
use Rattle.cdb_files.proofs.StateLaws.{create-only, append-only, sync_file-only, remove-only, make_dir-only, fails-only, fails_append-only, there-create, there-append}
use Rattle.cdb_files.proofs.StateLaws.{sync_file-present, sync_dir-present}
use Rattle.cdb_crash.specs.Leftovers.{IsOfVersion}
use Rattle.cdb_crash.specs.Crash.{IsClear}
use Rattle.cdb_crash.specs.Laws.{ClearStays}
use Rattle.cdb_crash.proofs.Paths.{not_head, not_new_head}
use Rattle.cdb_crash.proofs.Possible.{sync_dir-allowed}

-- Paths of versions that a call leaves as they were.
kept_clear : (s new : State) → IsClear s
    → ((k : ℕ) (q : Text) → IsOfVersion k q → (new.present q ≡ s.present q) × (new.may q ≡ s.may q)) → IsClear new
kept_clear s new clear same = record {
  gone = λ k le q under none v a. let P : Possible → Type 0 = λ p. Allows p v in
      clear.gone k le q under (sym ((same k q under).0) ∙ none) v (subst P ((same k q under).1) a);
}

-- One path alone changes, and a file is there.
pub clear_but : (path : Text) (s new : State) → IsClear s → ChangesOnly path s new
    → IsThere (new.present path) → IsClear new
clear_but path s new clear only there =
    record { gone = λ k le q under none v a. of k le q under none v a (same_text q path) }
  where
    of : (k : ℕ) → k ≤ 4097 → (q : Text) → IsOfVersion k q → new.present q ≡ None → (v : Content) → Allows (new.may q) v
        → (q ≡ path) ⊎ (q ≢ path) → v ≡ None
    of k le q under none v a (inl e) = let T : Content → Type 0 = IsThere in
        absurd (subst T (sym (ap (λ t. new.present t) e) ∙ none) there)
    of k le q under none v a (inr ne) = let P : Possible → Type 0 = λ p. Allows p v in
        clear.gone k le q under (sym (only.present q ne) ∙ none) v (subst P (only.may q ne) a)

-- The new head alone changes.
pub clear_but_new_head : (s new : State) → IsClear s → ChangesOnly new_head_path s new → IsClear new
clear_but_new_head s new clear only = kept_clear s new clear
    (λ k q under. (only.present q (not_new_head k q under), only.may q (not_new_head k q under)))

equal_clear : (s new : State) → IsClear s → new ≡ s → IsClear new
equal_clear s new clear e = let C : State → Type 0 = IsClear in subst C (sym e) clear

appended_there : (path : Text) (piece : List ℕ) (s new : State) → IsThere (s.present path)
    → FailsAppend path piece s new → IsThere (new.present path)
appended_there path piece s new there (n, le, fails) = of fails.present
  where
    of : (new.present ≡ s.present) ⊎ (new.present ≡ (after_append path (take n piece) s).present)
        → IsThere (new.present path)
    of (inl e) = let M : FileMap → Type 0 = λ m. IsThere (m path) in subst M (sym e) there
    of (inr e) = let M : FileMap → Type 0 = λ m. IsThere (m path) in
        subst M (sym e) (there-append path (take n piece) s there)

rename-present : (s : State) (q : Text) → q ≢ new_head_path → q ≢ head_path
    → (after_rename new_head_path head_path s).present q ≡ s.present q
unfolding after_rename
rename-present s q not_new not_old =
    put-other (put s.present head_path (s.present new_head_path)) new_head_path None q not_new
    ∙ put-other s.present head_path (s.present new_head_path) q not_old

rename-may : (s : State) (q : Text) → q ≢ new_head_path → q ≢ head_path
    → (after_rename new_head_path head_path s).may q ≡ s.may q
unfolding after_rename
rename-may s q not_new not_old =
    put-other (put s.may head_path (added (s.present new_head_path) (s.may head_path))) new_head_path
    (Some (None ∷ s.present new_head_path ∷ [])) q not_new
    ∙ put-other s.may head_path (added (s.present new_head_path) (s.may head_path)) q not_old

renamed_clear : (s new : State) → IsClear s → Fails s (after_rename new_head_path head_path s) new → IsClear new
renamed_clear s new clear fails = kept_clear s new clear (λ k q under. (
  present q (not_new_head k q under) (not_head k q under) fails.present,
  fails.stays q
      (rename-may s q (not_new_head k q under) (not_head k q under)),
))
  where
    present : (q : Text) → q ≢ new_head_path → q ≢ head_path
        → (new.present ≡ s.present) ⊎ (new.present ≡ (after_rename new_head_path head_path s).present)
        → new.present q ≡ s.present q
    present q not_new not_old (inl e) = ap (λ m. m q) e
    present q not_new not_old (inr e) = ap (λ m. m q) e ∙ rename-present s q not_new not_old

pub clear_stays : ClearStays
clear_stays = record {
  make_dir = λ folder s clear. record {
    ok = kept_clear s (after_make_dir folder s) clear
        (λ k q under. (
          (make_dir-only new_head_path folder s).present q (not_new_head k q under),
          (make_dir-only new_head_path folder s).may q (not_new_head k q under),
        ));
    err = λ new failed. kept_clear s new clear (λ k q under. (ap (λ m. m q) failed.present, ap (λ m. m q) failed.may));
  };
  create = λ path s clear. clear_but path s (after_create path s) clear (create-only path s) (there-create path s);
  append = λ path piece s there clear. record {
    ok = clear_but path s (after_append path piece s) clear (append-only path piece s)
        (there-append path piece s there);
    err = λ new failed. clear_but path s new clear (fails_append-only path piece s new failed)
        (appended_there path piece s new there failed);
  };
  sync_file = λ path s there clear. record {
    ok = clear_but path s (after_sync_file path s) clear (sync_file-only path s)
        (let M : FileMap → Type 0 = λ m. IsThere (m path) in subst M (sym (sync_file-present path s)) there);
    err = λ new e. equal_clear s new clear e;
  };
  sync_dir = λ folder s here clear. record {
    ok = record {
      gone = λ k le q under none v a. clear.gone k le q under
          (sym (ap (λ m. m q) (sync_dir-present folder s)) ∙ none) v (sync_dir-allowed folder s here q v a);
    };
    err = λ new e. equal_clear s new clear e;
  };
  new_head = λ s clear. record {
    ok = clear_but_new_head s (after_create new_head_path s) clear (create-only new_head_path s);
    err = λ new failed. clear_but_new_head s new clear
        (fails-only new_head_path s (after_create new_head_path s) new (create-only new_head_path s) failed);
  };
  no_new_head = λ s clear. record {
    ok = clear_but_new_head s (after_remove new_head_path s) clear (remove-only new_head_path s);
    err = λ new failed. clear_but_new_head s new clear
        (fails-only new_head_path s (after_remove new_head_path s) new (remove-only new_head_path s) failed);
  };
  rename = λ s clear. record {
    ok = kept_clear s (after_rename new_head_path head_path s) clear
        (λ k q under. (
          rename-present s q (not_new_head k q under) (not_head k q under),
          rename-may s q (not_new_head k q under)
              (not_head k q under),
        ));
    err = λ new failed. renamed_clear s new clear failed;
  };
}
