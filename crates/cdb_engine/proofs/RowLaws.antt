-- Rows that come one after another, and the posts that they become.
use Rattle.std.proofs.Common.{◌≡◌, ℕ, zero, suc, ◌+◌, ◌<◌, ◌≤◌, inl, inr, ℤ, Bool, true, false, if◌then◌else◌, List}
use Rattle.std.proofs.Common.{◌++◌, length, map, get_or, All, refl, sym, ◌∙◌, ap, subst, arith, add-one, slice_get}
use Rattle.std.proofs.Common.{Some, EachIndex}
use Rattle.std.specs.Ordering.{int_eq}
use Rattle.std.proofs.Math.Nat.{eq-or-lt_of_le}
use Rattle.std.proofs.lemmas.Bool.Decides.{Decides-int_eq}
use Rattle.std.proofs.lemmas.List.{length-append, length-map, get_or-map, get_or_append_left, get_or-append-add}
use Rattle.std.proofs.lemmas.List.{map-append}
use Rattle.std.proofs.lemmas.Option.{get_or_from_slice_get}
use Rattle.cdb_source.specs.declared.kind.Kind.{Kind}
use Rattle.cdb_source.specs.declared.head.SourceHead.{SourceHead}
use Rattle.cdb_source.specs.Made.{Making}
use Rattle.cdb_source.specs.Posts.{IsAllowed, IsPost, post_of, none_of}
use Rattle.cdb_tiff_base.specs.Numbers.{Bytes}
use Rattle.cdb_tiff_base.specs.Pixels.{pixel}
use Rattle.cdb_tiff_base.specs.Strips.{image_width}
use Rattle.cdb_model.specs.Spelled.{row_of_pixels}
use Rattle.cdb_model.specs.Text.{last_first}
use Rattle.cdb_engine.specs.inside.Words.{HasRows}
use Rattle.cdb_tiff_write.proofs.RasterLaws.{by_index}

all_left : {A : Type 0} (P : A → Type 0) (xs ys : List A) → All P (xs ++ ys) → All P xs
all_left P xs ys all k d h = subst P (get_or_append_left xs ys d k h) (all k d (rw length-append (omega arith)))

all_right : {A : Type 0} (P : A → Type 0) (xs ys : List A) → All P (xs ++ ys) → All P ys
all_right P xs ys all k d h =
    subst P (get_or-append-add xs ys k d) (all (length xs + k) d (rw length-append (omega arith)))

-- what holds of all that came holds of each row
pub all_of_row : {A : Type 0} (P : A → Type 0) (n k : ℕ) (row : ℕ → List A) → k < n → All P (last_first n row)
    → All P (row k)
all_of_row P zero k row h all = absurd (omega arith)
all_of_row P (suc n) k row h all =
    elim (eq-or-lt_of_le (let below : k ≤ n = omega arith in below)) [
      | inl e ↦ subst (λ m. All P (row m)) (sym e) (all_left P (row n) (last_first n row) all)
      | inr lt ↦ all_of_row P n k row lt (all_right P (row n) (last_first n row) all)
    ]

allowed_by : (kind : Kind) (v x : ℤ) (test : Bool) → int_eq x v ≡ test → IsPost kind (if test then none_of kind else x)
    → IsAllowed kind v x
allowed_by kind v x true e post = inl ((Decides-int_eq x v).0 e)
allowed_by kind v x false e post = inr post

-- numbers that become posts of a kind are allowed
pub all_allowed : (kind : Kind) (v : ℤ) (xs : List ℤ) → All (IsPost kind) (map (post_of kind v) xs)
    → All (IsAllowed kind v) xs
all_allowed kind v xs all k d h =
    let post = subst (IsPost kind) (get_or-map (post_of kind v) xs k d (post_of kind v d) h)
    (all k (post_of kind v d) (rw length-map h)) in
    allowed_by kind v (get_or xs k d) (int_eq (get_or xs k d) v) refl post

-- one more row
pub one_more_row : (head : SourceHead) (v : ℤ) (row : ℕ → List ℤ) (k : ℕ) (old new : Making) (r : List ℤ)
    → HasRows head v row k old → new.head ≡ old.head → new.due + 1 ≡ old.due
    → new.posts ≡ map (post_of old.head.kind v) r ++ old.posts → r ≡ row k → HasRows head v row (k + 1) new
one_more_row head v row k old new r came same due posts is = record {
  head_is = same ∙ came.head_is;
  due = omega (arith, came.due);
  posts =
      let kind : old.head.kind ≡ head.kind = ap (λ (h : SourceHead). h.kind) came.head_is in
      posts ∙ ap (λ l. l ++ old.posts) (ap (λ (c : Kind). map (post_of c v) r) kind ∙ ap (map (post_of head.kind v)) is)
      ∙ ap (λ l. map (post_of head.kind v) (row k) ++ l) came.posts
      ∙ sym (map-append (post_of head.kind v) (row k) (last_first k row))
      ∙ ap (λ n. map (post_of head.kind v) (last_first n row)) (sym (add-one k));
}

-- ---- the rows of an image

-- a row of samples that were read
pub row_read : (bytes : Bytes) (r : ℕ) (row : List ℤ) → length row ≡ image_width bytes
    → EachIndex row (λ c. slice_get row c ≡ Some (pixel bytes r c)) → row ≡ row_of_pixels bytes r
row_read bytes r row len each =
    by_index (λ c. pixel bytes r c) (image_width bytes) row len
    (λ k d h. get_or_from_slice_get row k (pixel bytes r k) d (each k (omega (arith, len))))
