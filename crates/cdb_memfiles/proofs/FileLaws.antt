-- What calls of a map by path make of its files.
use Rattle.std.specs.BTreeMap as tree
use Rattle.std.specs.BTreeMap.{BTreeMap}
use Rattle.std.specs.BTreeMap.Range.{IsInRange, IsLeBy}
use Rattle.std.specs.declared.ops.Bound.TheVariants.{Included, Unbounded}
use Rattle.std.specs.List.{starts_with}
use Rattle.std.proofs.lemmas.Bool.{true≢false}
use Rattle.std.proofs.Common.{◌≡◌, ◌≢◌, ℕ, ◌≤◌, Bool, true, false, cond, ◌⊎◌, inl, inr, [], length, Option, None, Some, Vec, Ordering, IsSome, is_some, nat_eq, arith, refl, sym, ap, ◌∙◌, subst}
use Rattle.std.proofs.lemmas.Map.Text.{is_eq-slice_cmp}
use Rattle.std.specs.Option.{option_map}
use Rattle.std.specs.Map.{lookup}
use Rattle.std.specs.Ordering.{nat_cmp, is_eq}
use Rattle.std.specs.Cmp.Lexicographic.{slice_cmp}
use Rattle.std.specs.Str.{bytes_eq}
use Rattle.std.specs.declared.alloc.Global.{Global}
use Rattle.arrayvec.specs.ArrayString.{ArrayString}
use Rattle.cdb_model.specs.Maps.{Text, Content, FileMap, IsThere, put, folder_prefix, is_under, NoneUnder, IsFirstUnder}
use Rattle.cdb_model.proofs.MapLaws.{same_text, put-same, put-other}
use Rattle.cdb_memfiles.specs.Files.{ByPath, content, IsShort, bytes_of}
use Rattle.cdb_memfiles.proofs.OrderLaws.{from_prefix, between_prefix, prefix-length}
use mathlib.Core.Path.{fun_ext}

-- The order of the keys.
abbrev pub path_cmp : ArrayString → ArrayString → Ordering
path_cmp s t = slice_cmp nat_cmp s.bytes t.bytes

-- A path with this text.
abbrev pub key : Text → ArrayString
key q = record { bytes = q; spare = [] }

-- What a table holds at a path, as `view` sees it, after a change at one path.
pub view-update : {X Y : Type 0} (view : Option X → Y) (old new : BTreeMap ArrayString X)
    (path : ArrayString) (w : Option X)
    → tree.UpdatesBy path_cmp (path_cmp path) old new w → (m n : Text → Y)
    → ((q : Text) → m q ≡ view (tree.get path_cmp old (key q)))
    → ((q : Text) → n q ≡ view (tree.get path_cmp new (key q)))
    → n ≡ put m path.bytes (view w)
unfolding put
view-update {X = X} {Y = Y} view old new path w updates m n before after = fun_ext at
  where
    split : (b : Bool) (x : Option X) → view (cond b w x) ≡ cond b (view w) (view x)
    split true x = refl
    split false x = refl

    at : (q : Text) → n q ≡ put m path.bytes (view w) q
    at q = after q ∙ ap view (updates.0 (key q))
        ∙ split (is_eq (slice_cmp nat_cmp path.bytes q)) (tree.get path_cmp old (key q))
        ∙ ap (λ b. cond b (view w) (view (tree.get path_cmp old (key q)))) (is_eq-slice_cmp path.bytes q)
        ∙ ap (λ x. cond (bytes_eq path.bytes q) (view w) x) (sym (before q))

-- A change of the files at one path.
pub content-update : (old new : ByPath) (path : ArrayString) (w : Option (Vec ℕ Global))
    → tree.UpdatesBy path_cmp (path_cmp path) old new w
    → content new ≡ put (content old) path.bytes (bytes_of w)
unfolding content
content-update old new path w updates = view-update bytes_of old new path w updates (content old) (content new)
    (λ q. refl) (λ q. refl)

-- The same entries.
pub content-entries : (old new : ByPath) → new.entries ≡ old.entries → content new ≡ content old
unfolding content
content-entries old new e =
    fun_ext (λ q.
    ap (λ es. option_map (λ bytes. bytes.items) (lookup (λ path. is_eq (slice_cmp nat_cmp q path.bytes)) es)) e)

-- A change to a short path keeps all paths short.
pub short-put : (old new : ByPath) (path : Text) (v : Content) → IsShort old → length path ≤ 128
    → content new ≡ put (content old) path v → IsShort new
short-put old new path v short fits e q there = cases (same_text q path)
  where
    cases : (q ≡ path) ⊎ (q ≢ path) → length q ≤ 128
    cases (inl same) = let P : Text → Type 0 = λ t. length t ≤ 128 in subst P (sym same) fits
    cases (inr ne) = let P : Content → Type 0 = IsThere in
        short q (subst P (ap (λ m. m q) e ∙ put-other (content old) path v q ne) there)

-- ---- the first file under a folder
found_there : (o : Option (Vec ℕ Global)) → IsThere (bytes_of o) → IsSome o
found_there None h = absurd h
found_there (Some bytes) h = refl

-- No path is so long as those under the folder would be.
pub none_so_long : (files : ByPath) (folder : Text) → IsShort files → 129 ≤ length (folder_prefix folder)
    → NoneUnder (content files) folder
unfolding is_under
none_so_long files folder short long path under = cases (content files path) refl
  where
    cases : (v : Content) → content files path ≡ v → content files path ≡ None
    cases None e = e
    cases (Some bytes) e =
        let P : Content → Type 0 = IsThere in
        let fits : length path ≤ 128 = short path (subst P (sym e) tt) in
        let longer : length (folder_prefix folder) ≤ length path = prefix-length (folder_prefix folder) path under in
        absurd (omega (arith, fits, longer, long))

-- No path stands at the prefix or after it.
pub none_from : (files : ByPath) (prefix : ArrayString) (folder : Text) → prefix.bytes ≡ folder_prefix folder
    → ((q : ArrayString) → IsInRange path_cmp (Included prefix) Unbounded q → tree.get path_cmp files q ≡ None)
    → NoneUnder (content files) folder
unfolding content is_under
none_from files prefix folder is none path under =
    let begins : starts_with nat_eq path prefix.bytes ≡ true = ap (λ p. starts_with nat_eq path p) is ∙ under in
    ap bytes_of (none (key path) (from_prefix prefix.bytes path begins, tt))

-- The least path from the prefix on begins with it, and so it is the first.
pub first_from : (files : ByPath) (prefix path : ArrayString) (bytes : Vec ℕ Global) (folder : Text) → prefix.bytes
    ≡ folder_prefix folder
    → tree.get path_cmp files path ≡ Some bytes → starts_with nat_eq path.bytes prefix.bytes ≡ true
    → ((q : ArrayString) → IsInRange path_cmp (Included prefix) Unbounded q → IsSome (tree.get path_cmp files q)
    → IsLeBy path_cmp path q)
    → IsFirstUnder (content files) folder path.bytes
unfolding content is_under
first_from files prefix path bytes folder is has begins least = record {
  under = ap (λ p. starts_with nat_eq path.bytes p) (sym is) ∙ begins;
  there = let P : Content → Type 0 = IsThere in subst P (sym (ap bytes_of has)) tt;
  least = λ other under there. least (key other)
      (from_prefix prefix.bytes other (ap (λ p. starts_with nat_eq other p) is ∙ under), tt)
      (found_there (tree.get path_cmp files (key other)) there);
}

-- The least path from the prefix on doesn't begin with it, and so none does.
pub none_first : (files : ByPath) (prefix path : ArrayString) (folder : Text) → prefix.bytes ≡ folder_prefix folder
    → IsLeBy path_cmp prefix path → starts_with nat_eq path.bytes prefix.bytes ≡ false
    → ((q : ArrayString) → IsInRange path_cmp (Included prefix) Unbounded q → IsSome (tree.get path_cmp files q)
    → IsLeBy path_cmp path q)
    → NoneUnder (content files) folder
unfolding content is_under
none_first files prefix path folder is from apart least q under = cases (tree.get path_cmp files (key q)) refl
  where
    begins : starts_with nat_eq q prefix.bytes ≡ true
    begins = ap (λ p. starts_with nat_eq q p) is ∙ under

    cases : (o : Option (Vec ℕ Global)) → tree.get path_cmp files (key q) ≡ o
        → bytes_of (tree.get path_cmp files (key q)) ≡ None
    cases None e = ap bytes_of e
    cases (Some bytes) e =
        absurd (true≢false (sym (between_prefix prefix.bytes path.bytes q begins from
        (least (key q) (from_prefix prefix.bytes q begins, tt) (ap is_some e))) ∙ apart))

-- What a lookup found.
pub content-found : (files : ByPath) (path : ArrayString) (o : Option (Vec ℕ Global)) → o ≡ tree.get path_cmp files path
    → content files path.bytes ≡ bytes_of o
unfolding content
content-found files path o e = ap bytes_of (sym e)

pub absent_there : (v : Content) → v ≡ None → IsThere v → ⊥
absent_there v e there = let P : Content → Type 0 = IsThere in subst P e there

-- ---- a file that gets another path
pub put-moved : (m : FileMap) (from to : Text) (room v : Content) → from ≢ to → put (put (put m to room) from None) to v
    ≡ put (put m to v) from None
put-moved m from to room v differ = fun_ext (λ q. at q (same_text q from) (same_text q to))
  where
    at : (q : Text) → (q ≡ from) ⊎ (q ≢ from) → (q ≡ to) ⊎ (q ≢ to) → put (put (put m to room) from None) to v q
        ≡ put (put m to v) from None q
    at q (inl a) (inl b) = absurd (differ (sym a ∙ b))
    at q (inl a) (inr ne) =
        put-other (put (put m to room) from None) to v q ne
        ∙ (let P : Text → Type 0 = λ t. put (put m to room) from None t ≡ put (put m to v) from None t in
        subst P (sym a) (put-same (put m to room) from None ∙ sym (put-same (put m to v) from None)))
    at q (inr ne) (inl b) =
        let P : Text → Type 0 = λ t. put (put (put m to room) from None) to v t ≡ put (put m to v) from None t in
        subst P (sym b) (put-same (put (put m to room) from None) to v
        ∙ sym (put-other (put m to v) from None to (λ e. differ (sym e)) ∙ put-same m to v))
    at q (inr n1) (inr n2) =
        put-other (put (put m to room) from None) to v q n2 ∙ put-other (put m to room) from None q n1
        ∙ put-other m to room q n2
        ∙ sym (put-other (put m to v) from None q n1 ∙ put-other m to v q n2)

-- A change between two short maps.
pub there_at : (m n : FileMap) (q : Text) → n q ≡ m q → IsThere (m q) → IsThere (n q)
there_at m n q e there = let P : Content → Type 0 = IsThere in subst P (sym e) there

pub short-less : (old new : ByPath) (path : Text) → IsShort old
    → content new ≡ put (content old) path None → IsShort new
short-less old new path short e q there = cases (same_text q path)
  where
    cases : (q ≡ path) ⊎ (q ≢ path) → length q ≤ 128
    cases (inl same) = absurd (absent_there (content new q)
        (ap (λ m. m q) e
        ∙ (let P : Text → Type 0 = λ t. put (content old) path None t ≡ None in
        subst P (sym same) (put-same (content old) path None))) there)
    cases (inr ne) = let P : Content → Type 0 = IsThere in
        short q (subst P (ap (λ m. m q) e ∙ put-other (content old) path None q ne) there)

pub short-moved : (old new : ByPath) (from to : Text) (v : Content) → IsShort old → length to ≤ 128
    → content new ≡ put (put (content old) to v) from None → IsShort new
short-moved old new from to v short fits e q there = cases (same_text q from) (same_text q to)
  where
    cases : (q ≡ from) ⊎ (q ≢ from) → (q ≡ to) ⊎ (q ≢ to) → length q ≤ 128
    cases (inl same) other = absurd (absent_there (content new q)
        (ap (λ m. m q) e
        ∙ (let P : Text → Type 0 = λ t. put (put (content old) to v) from None t ≡ None in
        subst P (sym same) (put-same (put (content old) to v) from None))) there)
    cases (inr ne) (inl same) = let P : Text → Type 0 = λ t. length t ≤ 128 in subst P (sym same) fits
    cases (inr ne) (inr apart) = let P : Content → Type 0 = IsThere in
        short q (subst P (ap (λ m. m q) e ∙ put-other (put (content old) to v) from None q ne
        ∙ put-other (content old) to v q apart) there)
