-- What calls make of the table of what a crash may leave.
use Rattle.std.specs.BTreeMap as tree
use Rattle.std.proofs.Common.{◌≡◌, ◌≢◌, ◌⊎◌, inl, inr, Bool, true, false, cond, List, [], ◌∷◌, Option, None, Some, refl, sym, ap, ◌∙◌, subst}
use Rattle.std.proofs.lemmas.Map.Text.{is_eq-slice_cmp}
use Rattle.std.proofs.lemmas.Slice.Eq.{bytes_eq-Decides}
use Rattle.std.specs.BTreeMap.{is_at}
use Rattle.std.specs.Map.{lookup}
use Rattle.std.specs.Map.Calls.{RetainsPairs}
use Rattle.std.specs.Ordering.{nat_cmp}
use Rattle.std.specs.Cmp.Lexicographic.{slice_cmp}
use Rattle.std.specs.Str.{bytes_eq}
use Rattle.arrayvec.specs.ArrayString.{ArrayString}
use Rattle.cdb_model.specs.Maps.{Text, put, folder_above}
use Rattle.cdb_model.proofs.MapLaws.{put-put, put-same, put-other, same_text}
use mathlib.Core.Path.{fun_ext}
use Rattle.cdb_memfiles.specs.declared.standing.Standing.{Standing}
use Rattle.cdb_memfiles.specs.Standing.{Shown, Standings, shown, shown_by, shown_of, never_named, kept_in, kept_shown}
use Rattle.cdb_memfiles.proofs.FileLaws.{path_cmp, view-update}

pub shown-update : (old new : Standings) (path : ArrayString) (w : Option Standing)
    → tree.UpdatesBy path_cmp (path_cmp path) old new w
    → shown new ≡ put (shown old) path.bytes (shown_of w)
unfolding shown
shown-update old new path w updates = view-update shown_of old new path w updates (shown old) (shown new)
    (λ q. refl) (λ q. refl)

pub shown-found : (table : Standings) (path : ArrayString) (o : Option Standing) → o ≡ tree.get path_cmp table path
    → shown table path.bytes ≡ shown_of o
unfolding shown
shown-found table path o e = ap shown_of (sym e)

-- What is taken out and put back changed.
pub shown-again : (m one two : Text → Shown) (path : Text) (x y z : Shown) → one ≡ put m path x → two ≡ put one path y
    → y ≡ z → two ≡ put m path z
shown-again m one two path x y z e f same = f ∙ ap (λ t. put t path y) e ∙ put-put m path x y ∙ ap (put m path) same

-- The path of an entry that a lookup finds.
same_key : (q : Text) (path : ArrayString) → is_at (λ (p : ArrayString). slice_cmp nat_cmp q p.bytes) path ≡ true
    → q ≡ path.bytes
same_key q path e = (bytes_eq-Decides q path.bytes).0 (sym (is_eq-slice_cmp q path.bytes) ∙ e)

kept-nothing : (folder q : Text) → never_named ≡ kept_in folder q never_named
kept-nothing folder q = cases (bytes_eq (folder_above q) folder)
  where
    cases : (b : Bool) → never_named ≡ cond b (kept_shown None (Some None)) never_named
    cases true = refl
    cases false = refl

module _ {F : Type 0} (T : F → ArrayString → Standing → Bool → Standing → F → Type 0) (folder q : Text) (f : F)
    (each : (k : ArrayString) (v : Standing) (b : Bool) (w : Standing) (g : F) → T f k v b w g
    → (b ≡ true) × (shown_by w ≡ kept_in folder k.bytes (shown_by v)) × (g ≡ f)) where
  -- The entries that a sync of the folder leaves.
  pub retain-kept : (es kept : List (ArrayString × Standing)) → RetainsPairs T f es kept
      → shown_of (lookup (is_at (λ p. slice_cmp nat_cmp q p.bytes)) kept)
      ≡ kept_in folder q (shown_of (lookup (is_at (λ p. slice_cmp nat_cmp q p.bytes)) es))
  retain-kept [] kept none = ap (λ xs. shown_of (lookup (is_at (λ p. slice_cmp nat_cmp q p.bytes)) xs)) none
      ∙ kept-nothing folder q
  retain-kept (e ∷ es) kept (b, w, g, rest, call, more, is) =
      step (retain-kept es rest (let P : F → Type 0 = λ h. RetainsPairs T h es rest in
      subst P (each e.0 e.1 b w g call).2 more))
      (is_at (λ p. slice_cmp nat_cmp q p.bytes) e.0) refl
    where
      head : kept ≡ (e.0, w) ∷ rest
      head = is ∙ ap (λ c. cond c ((e.0, w) ∷ rest) rest) (each e.0 e.1 b w g call).0

      step : shown_of (lookup (is_at (λ p. slice_cmp nat_cmp q p.bytes)) rest)
          ≡ kept_in folder q (shown_of (lookup (is_at (λ p. slice_cmp nat_cmp q p.bytes)) es))
          → (c : Bool) → is_at (λ p. slice_cmp nat_cmp q p.bytes) e.0 ≡ c
          → shown_of (lookup (is_at (λ p. slice_cmp nat_cmp q p.bytes)) kept)
          ≡ kept_in folder q (shown_of (lookup (is_at (λ p. slice_cmp nat_cmp q p.bytes)) (e ∷ es)))
      step others true found =
          ap (λ xs. shown_of (lookup (is_at (λ p. slice_cmp nat_cmp q p.bytes)) xs)) head
          ∙ ap (λ c. shown_of (cond c (Some w) (lookup (is_at (λ p. slice_cmp nat_cmp q p.bytes)) rest))) found
          ∙ (each e.0 e.1 b w g call).1
          ∙ ap (λ t. kept_in folder t (shown_by e.1)) (sym (same_key q e.0 found))
          ∙ ap (λ c. kept_in folder q
          (shown_of (cond c (Some e.1) (lookup (is_at (λ p. slice_cmp nat_cmp q p.bytes)) es)))) (sym found)
      step others false missed =
          ap (λ xs. shown_of (lookup (is_at (λ p. slice_cmp nat_cmp q p.bytes)) xs)) head
          ∙ ap (λ c. shown_of (cond c (Some w) (lookup (is_at (λ p. slice_cmp nat_cmp q p.bytes)) rest))) missed
          ∙ others
          ∙ ap (λ c. kept_in folder q
          (shown_of (cond c (Some e.1) (lookup (is_at (λ p. slice_cmp nat_cmp q p.bytes)) es)))) (sym missed)

-- Two changes at one path with one at another between them.
pub put-between : (m : Text → Shown) (from to : Text) (x y z : Shown) → put (put (put m from x) to z) from y
    ≡ put (put m to z) from y
put-between m from to x y z = fun_ext (λ q. at q (same_text q from) (same_text q to))
  where
    at : (q : Text) → (q ≡ from) ⊎ (q ≢ from) → (q ≡ to) ⊎ (q ≢ to) → put (put (put m from x) to z) from y q
        ≡ put (put m to z) from y q
    at q (inl a) other = let P : Text → Type 0 = λ t. put (put (put m from x) to z) from y t
        ≡ put (put m to z) from y t in
        subst P (sym a) (put-same (put (put m from x) to z) from y ∙ sym (put-same (put m to z) from y))
    at q (inr ne) (inl b) = put-other (put (put m from x) to z) from y q ne
        ∙ (let P : Text → Type 0 = λ t. put (put m from x) to z t ≡ put m to z t in
        subst P (sym b) (put-same (put m from x) to z ∙ sym (put-same m to z)))
        ∙ sym (put-other (put m to z) from y q ne)
    at q (inr ne) (inr apart) = put-other (put (put m from x) to z) from y q ne ∙ put-other (put m from x) to z q apart
        ∙ put-other m from x q ne
        ∙ sym (put-other (put m to z) from y q ne ∙ put-other m to z q apart)

pub shown-empty : (table : Standings) → table.entries ≡ [] → (q : Text) → shown table q ≡ never_named
unfolding shown
shown-empty table e q = ap (λ es. shown_of (lookup (is_at (λ p. slice_cmp nat_cmp q p.bytes)) es)) e
