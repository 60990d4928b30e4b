-- Lists of steps: what they write and what they sync.
use Rattle.std.proofs.Common.{◌≡◌, ◌≢◌, ℕ, Bool, true, false, ◌⊎◌, inl, inr, List, [], ◌∷◌, ◌++◌, map, None, Some, refl, sym, ap, ◌∙◌, subst}
use Rattle.std.specs.Prelude.{filter, fold, not, if◌then◌else◌}
use Rattle.std.proofs.lemmas.Bool.{true≢false, or_left, or_right, or_from}
use Rattle.std.specs.Str.{bytes_eq}
use Rattle.cdb_model.specs.Maps.{Text, Content, FileMap, IsThere, put, folder_above}
use Rattle.cdb_model.proofs.MapLaws.{put-other, same_text, bytes_eq-same, bytes_eq-other, put-at}
use Rattle.cdb_crash.specs.Crash.{with_folder}
use Rattle.cdb_crash.specs.Plan.{FileAction, each_once, with_files, with_synced, files_after, synced_after, WritesTo}

-- ---- each member of a list
abbrev pub Each : {A : Type 0} → (A → Type 0) → List A → Type 0
Each Such [] = Unit {0}
Each Such (x ∷ xs) = Such x × Each Such xs

pub each-append : {A : Type 0} (Such : A → Type 0) (xs ys : List A) → Each Such xs → Each Such ys → Each Such (xs ++ ys)
each-append Such [] ys a b = b
each-append Such (x ∷ xs) ys a b = (a.0, each-append Such xs ys (a.1) b)

pub each-front : {A : Type 0} (Such : A → Type 0) (xs ys : List A) → Each Such (xs ++ ys) → Each Such xs
each-front Such [] ys a = tt
each-front Such (x ∷ xs) ys a = (a.0, each-front Such xs ys (a.1))

pub each-back : {A : Type 0} (Such : A → Type 0) (xs ys : List A) → Each Such (xs ++ ys) → Each Such ys
each-back Such [] ys a = a
each-back Such (x ∷ xs) ys a = each-back Such xs ys (a.1)

pub each-map : {A B : Type 0} (f : A → B) (Such : B → Type 0) (xs : List A) → Each (λ x. Such (f x)) xs
    → Each Such (map f xs)
each-map f Such [] a = tt
each-map f Such (x ∷ xs) a = (a.0, each-map f Such xs (a.1))

pub each-wider : {A : Type 0} (Such Wider : A → Type 0) → ((x : A) → Such x → Wider x) → (xs : List A) → Each Such xs
    → Each Wider xs
each-wider Such Wider wide [] a = tt
each-wider Such Wider wide (x ∷ xs) a = (wide x (a.0), each-wider Such Wider wide xs (a.1))

pub each-all : {A : Type 0} (Such : A → Type 0) → ((x : A) → Such x) → (xs : List A) → Each Such xs
each-all Such all [] = tt
each-all Such all (x ∷ xs) = (all x, each-all Such all xs)

each-filter : (test : Text → Bool) (Such : Text → Type 0) (xs : List Text) → Each Such xs → Each Such (filter test xs)
each-filter test Such [] a = tt
each-filter test Such (x ∷ xs) a = cases (test x) (each-filter test Such xs (a.1))
  where
    cases : (b : Bool) → Each Such (filter test xs) → Each Such (if b then x ∷ filter test xs else filter test xs)
    cases true rest = (a.0, rest)
    cases false rest = rest

pub each-once : (Such : Text → Type 0) (xs : List Text) → Each Such xs → Each Such (each_once xs)
each-once Such [] a = tt
each-once Such (x ∷ xs) a =
    (a.0, each-filter (λ other. not (bytes_eq other x)) Such (each_once xs) (each-once Such xs (a.1)))

-- ---- some member of a list
abbrev pub Some_of : {A : Type 0} → (A → Type 0) → List A → Type 0
Some_of Such [] = ⊥
Some_of Such (x ∷ xs) = Such x ⊎ Some_of Such xs

pub some-left : {A : Type 0} (Such : A → Type 0) (xs ys : List A) → Some_of Such xs → Some_of Such (xs ++ ys)
some-left Such [] ys a = absurd a
some-left Such (x ∷ xs) ys (inl a) = inl a
some-left Such (x ∷ xs) ys (inr a) = inr (some-left Such xs ys a)

pub some-right : {A : Type 0} (Such : A → Type 0) (xs ys : List A) → Some_of Such ys → Some_of Such (xs ++ ys)
some-right Such [] ys a = a
some-right Such (x ∷ xs) ys a = inr (some-right Such xs ys a)

pub some-map : {A B : Type 0} (f : A → B) (Such : B → Type 0) (xs : List A) → Some_of (λ x. Such (f x)) xs
    → Some_of Such (map f xs)
some-map f Such [] a = absurd a
some-map f Such (x ∷ xs) (inl a) = inl a
some-map f Such (x ∷ xs) (inr a) = inr (some-map f Such xs a)

some-filter : (test : Text → Bool) (q : Text) (xs : List Text) → test q ≡ true → Some_of (λ x. q ≡ x) xs
    → Some_of (λ x. q ≡ x) (filter test xs)
some-filter test q [] yes_q a = absurd a
some-filter test q (x ∷ xs) yes_q (inl e) = cases (test x) refl
  where
    cases : (b : Bool) → test x ≡ b → Some_of (λ y. q ≡ y) (if b then x ∷ filter test xs else filter test xs)
    cases true h = inl e
    cases false h = absurd (true≢false (sym yes_q ∙ ap test e ∙ h))
some-filter test q (x ∷ xs) yes_q (inr a) = cases (test x) (some-filter test q xs yes_q a)
  where
    cases : (b : Bool) → Some_of (λ y. q ≡ y) (filter test xs)
        → Some_of (λ y. q ≡ y) (if b then x ∷ filter test xs else filter test xs)
    cases true rest = inr rest
    cases false rest = rest

pub some-once : (q : Text) (xs : List Text) → Some_of (λ x. q ≡ x) xs → Some_of (λ x. q ≡ x) (each_once xs)
some-once q [] a = absurd a
some-once q (x ∷ xs) (inl e) = inl e
some-once q (x ∷ xs) (inr a) = of (same_text q x) (some-once q xs a)
  where
    of : (q ≡ x) ⊎ (q ≢ x) → Some_of (λ y. q ≡ y) (each_once xs)
        → Some_of (λ y. q ≡ y) (x ∷ filter (λ other. not (bytes_eq other x)) (each_once xs))
    of (inl e) b = inl e
    of (inr ne) b =
        inr (some-filter (λ other. not (bytes_eq other x)) q (each_once xs)
        (ap not (bytes_eq-other q x (λ e. ne (sym e)))) b)

-- ---- where a list of two parts is split
pub split_two : {A : Type 0} (front back done : List A) (y : A) (rest : List A) → front ++ back ≡ done ++ y ∷ rest
    → ((more : List A) × (front ≡ done ++ y ∷ more))
    ⊎ ((more : List A) × (done ≡ front ++ more) × (back ≡ more ++ y ∷ rest))
split_two [] back done y rest e = inr ((done, refl, e))
split_two (a ∷ front) back [] y rest e = inl ((front, ap (λ z. z ∷ front) (first a y (front ++ back) rest e)))
  where
    first : {A : Type 0} (a b : A) (xs ys : List A) → a ∷ xs ≡ b ∷ ys → a ≡ b
    first {A = A} a b xs ys e = ap head e
      where
        head : List A → A
        head [] = a
        head (z ∷ zs) = z
split_two {A = A} (a ∷ front) back (d ∷ done) y rest e = up (split_two front back done y rest (ap tail e))
  where
    tail : List A → List A
    tail [] = []
    tail (z ∷ zs) = zs

    head : List A → A
    head [] = a
    head (z ∷ zs) = z

    up : ((more : List A) × (front ≡ done ++ y ∷ more))
        ⊎ ((more : List A) × (done ≡ front ++ more) × (back ≡ more ++ y ∷ rest))
        → ((more : List A) × (a ∷ front ≡ (d ∷ done) ++ y ∷ more))
        ⊎ ((more : List A) × (d ∷ done ≡ (a ∷ front) ++ more) × (back ≡ more ++ y ∷ rest))
    up (inl (more, is)) = inl ((more, λ i. ap head e i ∷ is i))
    up (inr (more, is, left)) = inr ((more, (λ i. sym (ap head e) i ∷ is i), left))

-- ---- what steps write
abbrev pub Writes_bytes : Text → List ℕ → FileAction → Type 0
Writes_bytes q bytes (FileAction.write file) = q ≡ file.path → file.bytes ≡ bytes
Writes_bytes q bytes (FileAction.sync folder) = Unit {0}
Writes_bytes q bytes (FileAction.write_and_sync file) = q ≡ file.path → file.bytes ≡ bytes

put-there : (m : FileMap) (p : Text) (bytes : List ℕ) (q : Text) → IsThere (put m p (Some bytes) q)
    → IsThere (m q) ⊎ (q ≡ p)
put-there m p bytes q there = of (same_text q p)
  where
    of : (q ≡ p) ⊎ (q ≢ p) → IsThere (m q) ⊎ (q ≡ p)
    of (inl e) = inr e
    of (inr ne) = let T : Content → Type 0 = IsThere in inl (subst T (put-other m p (Some bytes) q ne) there)

there_from : (m : FileMap) (steps : List FileAction) (q : Text) → IsThere (fold with_files m steps q) → IsThere (m q)
    ⊎ Some_of (WritesTo q) steps
there_from m [] q there = inl there
there_from m (FileAction.write file ∷ steps) q there = of (there_from (put m file.path (Some file.bytes)) steps q there)
  where
    of : IsThere (put m file.path (Some file.bytes) q) ⊎ Some_of (WritesTo q) steps → IsThere (m q)
        ⊎ ((q ≡ file.path) ⊎ Some_of (WritesTo q) steps)
    of (inr a) = inr (inr a)
    of (inl h) = at (put-there m file.path file.bytes q h)
      where
        at : IsThere (m q) ⊎ (q ≡ file.path) → IsThere (m q) ⊎ ((q ≡ file.path) ⊎ Some_of (WritesTo q) steps)
        at (inl k) = inl k
        at (inr e) = inr (inl e)
there_from m (FileAction.sync folder ∷ steps) q there = of (there_from m steps q there)
  where
    of : IsThere (m q) ⊎ Some_of (WritesTo q) steps → IsThere (m q) ⊎ (⊥ ⊎ Some_of (WritesTo q) steps)
    of (inr a) = inr (inr a)
    of (inl h) = inl h
there_from m (FileAction.write_and_sync file ∷ steps) q there =
    of (there_from (put m file.path (Some file.bytes)) steps q there)
  where
    of : IsThere (put m file.path (Some file.bytes) q) ⊎ Some_of (WritesTo q) steps → IsThere (m q)
        ⊎ ((q ≡ file.path) ⊎ Some_of (WritesTo q) steps)
    of (inr a) = inr (inr a)
    of (inl h) = at (put-there m file.path file.bytes q h)
      where
        at : IsThere (m q) ⊎ (q ≡ file.path) → IsThere (m q) ⊎ ((q ≡ file.path) ⊎ Some_of (WritesTo q) steps)
        at (inl k) = inl k
        at (inr e) = inr (inl e)

pub there_written : (steps : List FileAction) (q : Text) → IsThere (files_after steps q) → Some_of (WritesTo q) steps
there_written steps q there = of (there_from (λ path. None) steps q there)
  where
    of : ⊥ ⊎ Some_of (WritesTo q) steps → Some_of (WritesTo q) steps
    of (inl h) = absurd h
    of (inr a) = a

-- A path at which each step that writes to it writes the same bytes.
written_from : (m : FileMap) (steps : List FileAction) (q : Text) (bytes : List ℕ) → Each (Writes_bytes q bytes) steps
    → (m q ≡ Some bytes) ⊎ Some_of (WritesTo q) steps
    → fold with_files m steps q ≡ Some bytes
written_from m [] q bytes each (inl e) = e
written_from m [] q bytes each (inr a) = absurd a
written_from m (FileAction.write file ∷ steps) q bytes each some = written_from (put m file.path (Some file.bytes))
    steps q bytes (each.1) (of some (same_text q file.path))
  where
    of : (m q ≡ Some bytes) ⊎ ((q ≡ file.path) ⊎ Some_of (WritesTo q) steps) → (q ≡ file.path) ⊎ (q ≢ file.path)
        → (put m file.path (Some file.bytes) q ≡ Some bytes) ⊎ Some_of (WritesTo q) steps
    of h (inl e) = inl (put-at m file.path (Some file.bytes) q e ∙ ap (λ b. Some b) ((each.0) e))
    of (inl h) (inr ne) = inl (put-other m file.path (Some file.bytes) q ne ∙ h)
    of (inr (inl e)) (inr ne) = absurd (ne e)
    of (inr (inr a)) (inr ne) = inr a
written_from m (FileAction.sync folder ∷ steps) q bytes each some = written_from m steps q bytes (each.1) (of some)
  where
    of : (m q ≡ Some bytes) ⊎ (⊥ ⊎ Some_of (WritesTo q) steps) → (m q ≡ Some bytes) ⊎ Some_of (WritesTo q) steps
    of (inl h) = inl h
    of (inr (inl h)) = absurd h
    of (inr (inr a)) = inr a
written_from m (FileAction.write_and_sync file ∷ steps) q bytes each some =
    written_from (put m file.path (Some file.bytes)) steps q bytes (each.1) (of some (same_text q file.path))
  where
    of : (m q ≡ Some bytes) ⊎ ((q ≡ file.path) ⊎ Some_of (WritesTo q) steps) → (q ≡ file.path) ⊎ (q ≢ file.path)
        → (put m file.path (Some file.bytes) q ≡ Some bytes) ⊎ Some_of (WritesTo q) steps
    of h (inl e) = inl (put-at m file.path (Some file.bytes) q e ∙ ap (λ b. Some b) ((each.0) e))
    of (inl h) (inr ne) = inl (put-other m file.path (Some file.bytes) q ne ∙ h)
    of (inr (inl e)) (inr ne) = absurd (ne e)
    of (inr (inr a)) (inr ne) = inr a

pub written : (steps : List FileAction) (q : Text) (bytes : List ℕ) → Each (Writes_bytes q bytes) steps
    → Some_of (WritesTo q) steps → files_after steps q ≡ Some bytes
written steps q bytes each some = written_from (λ path. None) steps q bytes each (inr some)

-- ---- what steps sync
abbrev pub Syncs : Text → FileAction → Type 0
Syncs f (FileAction.write file) = ⊥
Syncs f (FileAction.sync folder) = f ≡ folder
Syncs f (FileAction.write_and_sync file) = f ≡ folder_above file.path

abbrev pub Leaves : Text → FileAction → Type 0
Leaves f (FileAction.write file) = Unit {0}
Leaves f (FileAction.sync folder) = f ≢ folder
Leaves f (FileAction.write_and_sync file) = f ≢ folder_above file.path

not_synced_from : (synced : Text → Bool) (steps : List FileAction) (f : Text) → synced f ≡ false → Each (Leaves f) steps
    → fold with_synced synced steps f ≡ false
not_synced_from synced [] f none each = none
not_synced_from synced (FileAction.write file ∷ steps) f none each = not_synced_from synced steps f none (each.1)
not_synced_from synced (FileAction.sync folder ∷ steps) f none each =
    not_synced_from (with_folder synced folder) steps f
    (or_from (synced f) (bytes_eq f folder) none (bytes_eq-other f folder (λ e. (each.0) (sym e)))) (each.1)
not_synced_from synced (FileAction.write_and_sync file ∷ steps) f none each =
    not_synced_from (with_folder synced (folder_above file.path)) steps f
    (or_from (synced f) (bytes_eq f (folder_above file.path)) none
    (bytes_eq-other f (folder_above file.path) (λ e. (each.0) (sym e)))) (each.1)

pub not_synced : (steps : List FileAction) (f : Text) → Each (Leaves f) steps → synced_after steps f ≡ false
not_synced steps f each = not_synced_from (λ folder. false) steps f refl each

same_synced : (synced : Text → Bool) (f folder : Text) → f ≡ folder → with_folder synced folder f ≡ true
same_synced synced f folder e = or_right (synced f) (bytes_eq f folder)
    (ap (λ t. bytes_eq t folder) e ∙ bytes_eq-same folder)

synced_from : (synced : Text → Bool) (steps : List FileAction) (f : Text) → (synced f ≡ true) ⊎ Some_of (Syncs f) steps
    → fold with_synced synced steps f ≡ true
synced_from synced [] f (inl e) = e
synced_from synced [] f (inr a) = absurd a
synced_from synced (FileAction.write file ∷ steps) f (inl e) = synced_from synced steps f (inl e)
synced_from synced (FileAction.write file ∷ steps) f (inr (inl h)) = absurd h
synced_from synced (FileAction.write file ∷ steps) f (inr (inr a)) = synced_from synced steps f (inr a)
synced_from synced (FileAction.sync folder ∷ steps) f (inl e) = synced_from (with_folder synced folder) steps f
    (inl (or_left (synced f) (bytes_eq f folder) e))
synced_from synced (FileAction.sync folder ∷ steps) f (inr (inl e)) = synced_from (with_folder synced folder) steps f
    (inl (same_synced synced f folder e))
synced_from synced (FileAction.sync folder ∷ steps) f (inr (inr a)) =
    synced_from (with_folder synced folder) steps f (inr a)
synced_from synced (FileAction.write_and_sync file ∷ steps) f (inl e) =
    synced_from (with_folder synced (folder_above file.path)) steps f
    (inl (or_left (synced f) (bytes_eq f (folder_above file.path)) e))
synced_from synced (FileAction.write_and_sync file ∷ steps) f (inr (inl e)) =
    synced_from (with_folder synced (folder_above file.path)) steps f
    (inl (same_synced synced f (folder_above file.path) e))
synced_from synced (FileAction.write_and_sync file ∷ steps) f (inr (inr a)) =
    synced_from (with_folder synced (folder_above file.path)) steps f (inr a)

pub are_synced : (steps : List FileAction) (f : Text) → Some_of (Syncs f) steps → synced_after steps f ≡ true
are_synced steps f a = synced_from (λ folder. false) steps f (inr a)
