-- Rows of new sources: what is read of them, and the sources in a loop, the last one first.
use Rattle.std.proofs.Common.{◌≡◌, ℕ, zero, suc, ◌+◌, ◌-◌, ◌*◌, ◌<◌, ◌≤◌, ℤ, Bool, ◌&&◌, if◌then◌else◌, List, [], ◌∷◌, ◌++◌, length, take, drop, get_or, All, Some, slice_get, refl, sym, ap, ◌∙◌, subst, arith, append_assoc, append-nil}
use Rattle.std.specs.Ordering.{int_eq}
use Rattle.std.proofs.lemmas.Bool.Decides.{Decides-int_eq}
use Rattle.std.proofs.lemmas.List.Elements.{All-take, All-drop}
use Rattle.cdb_grid.specs.declared.tile.Tile.{Tile}
use Rattle.cdb_source.specs.Posts.{IsPost}
use Rattle.cdb_source.specs.Texts.{posts_text, source_text}
use Rattle.cdb_source.specs.declared.head.SourceHead.{SourceHead}
use Rattle.cdb_source.specs.declared.source.Source.{Source}
use Rattle.cdb_source.proofs.TextLaws.{row_in_file}
use Rattle.cdb_model.specs.Maps.{Content, HasAt}
use Rattle.cdb_model.specs.Names.{source_path}
use Rattle.cdb_cut.specs.Window.{HasNoWindow, IsWindow, has_window, rows_of}
use Rattle.cdb_cut.proofs.PaintedSources.{one_older}
use Rattle.cdb_cut.proofs.WindowTests as windows
use Rattle.std.proofs.lemmas.List.{length-map}
use Rattle.std.proofs.lemmas.Bool.{and_left, and_right, false_from_ne_true}
use Rattle.std.proofs.lemmas.Option.{same_Some}
use Rattle.cdb_model.specs.Publications.{heads_of}
use Rattle.cdb_crash.proofs.PlanNumbers.{got, get-map}
use Rattle.cdb_publish.specs.Needs.{Need}
use Rattle.cdb_publish.specs.Windows.{source_size, window_need, window_needs}

-- ---- the bytes

pub rows_read : (s : Source) (head : SourceHead) (first count at : ℕ) (content : Content) (piece : List ℕ)
    (posts : List ℤ) → s.head ≡ head → content ≡ Some (source_text s)
    → at ≡ 52 + 2 * (first * head.cols) → length piece ≡ 2 * (count * head.cols) → HasAt content at piece
    → ((ps : List ℤ) → All (IsPost head.kind) ps → piece ≡ posts_text ps → posts ≡ ps) → posts ≡ rows_of s first count
rows_read s head first count at content piece posts same there at_is len has spelled =
    let here : HasAt (Some (source_text s)) at piece = subst (λ v. HasAt v at piece) there has in
    let at_here : at ≡ 52 + 2 * (first * s.head.cols) = at_is
    ∙ ap (λ (h : SourceHead). 52 + 2 * (first * h.cols)) (sym same) in
    let len_here : length piece ≡ 2 * (count * s.head.cols) = len
    ∙ ap (λ (h : SourceHead). 2 * (count * h.cols)) (sym same) in
    let text : piece ≡ posts_text (rows_of s first count) =
    here ∙ ap (λ n. take n (drop at (source_text s))) len_here
    ∙ ap (λ n. take (2 * (count * s.head.cols)) (drop n (source_text s))) at_here
    ∙ row_in_file s (first * s.head.cols) (count * s.head.cols) in
    let all : All (IsPost s.head.kind) (rows_of s first count) =
    All-take (IsPost s.head.kind) (count * s.head.cols) (drop (first * s.head.cols) s.posts)
    (All-drop (IsPost s.head.kind) (first * s.head.cols) s.posts s.in_range) in
    spelled (rows_of s first count) (subst (λ (h : SourceHead). All (IsPost h.kind) (rows_of s first count)) same all)
    text

-- ---- which sources a tile takes rows of

abbrev needs_if : (version number : ℕ) (head : SourceHead) → Bool → List Need
needs_if version number head b = if b then record { path = source_path version number; size = source_size head } ∷ []
    else []

pub other_level : (version number : ℕ) (head : SourceHead) (t : Tile) → (head.level.number ≡ t.level.number → ⊥)
    → window_need version number head t ≡ []
other_level version number head t other =
    ap (needs_if version number head)
    (and_left _ _
    (false_from_ne_true (int_eq head.level.number t.level.number)
    (λ e. other ((Decides-int_eq head.level.number t.level.number).0 e))))

pub no_rows : (version number : ℕ) (head : SourceHead) (t : Tile) → HasNoWindow head t
    → window_need version number head t ≡ []
no_rows version number head t none =
    ap (needs_if version number head)
    (and_right (int_eq head.level.number t.level.number) _ (windows.no_rows head t none))

pub some_rows : (version number : ℕ) (head : SourceHead) (t : Tile) (first count : ℕ)
    → head.level.number ≡ t.level.number → IsWindow head t first count
    → window_need version number head t ≡ record { path = source_path version number; size = source_size head } ∷ []
some_rows version number head t first count level w =
    ap (needs_if version number head)
    (ap (λ b. b && has_window head t) ((Decides-int_eq head.level.number t.level.number).1 level)
    ∙ windows.some_rows head t first count w)

-- ---- the sources of a version, the last one first

module _ (version : ℕ) (heads : List SourceHead) (t : Tile) where
  -- those from this number on
  abbrev pub from_on : ℕ → List Need
  from_on i = window_needs version (i + 1) (drop i heads) t

  pub from_more : (n k : ℕ) (d : SourceHead) → n ≡ length heads → k < n
      → from_on (n - (k + 1)) ≡ from_on (n - k) ++ window_need version (n - 1 - k + 1) (get_or heads (n - 1 - k) d) t
  from_more n k d e lt =
      let i : n - (k + 1) ≡ n - 1 - k = omega arith in
      let j : n - 1 - k + 1 + 1 ≡ n - k + 1 = omega arith in
      ap (λ hs. window_needs version (n - (k + 1) + 1) hs t) (one_older heads n k d e lt)
      ∙ ap (λ m. window_needs version (m + 1) (get_or heads (n - 1 - k) d ∷ drop (n - k) heads) t) i
      ∙ ap (λ m. window_needs version m (drop (n - k) heads) t ++ window_need version (n - 1 - k + 1)
      (get_or heads (n - 1 - k) d) t) j

rest_needs : (version number : ℕ) (heads : List SourceHead) (t : Tile) (i : ℕ)
    → (rest : List Need)
    × (window_needs version number heads t ≡ window_needs version (number + i) (drop i heads) t ++ rest)
rest_needs version number heads t zero =
    let e : number ≡ number + 0 = omega arith in (
      [],
      sym (append-nil (window_needs version (number + 0) heads t)
          ∙ ap (λ m. window_needs version m heads t) (sym e)),
    )
rest_needs version number [] t (suc i) = ([], refl)
rest_needs version number (head ∷ heads) t (suc i) =
    let r = rest_needs version (number + 1) heads t i in
    let e : number + 1 + i ≡ number + suc i = omega arith in (
      r.0 ++ window_need version number head t,
      ap (λ l. l ++ window_need version number head t)
          (r.1 ∙ ap (λ m. window_needs version m (drop i heads) t ++ r.0) e)
          ∙ append_assoc (window_needs version (number + suc i) (drop i heads) t) (r.0)
          (window_need version number head t),
    )

pub all_needs : (version : ℕ) (heads : List SourceHead) (t : Tile) (i : ℕ)
    → (rest : List Need) × (window_needs version 1 heads t ≡ from_on version heads t i ++ rest)
all_needs version heads t i =
    let r = rest_needs version 1 heads t i in
    let e : 1 + i ≡ i + 1 = omega arith in
    (r.0, r.1 ∙ ap (λ m. window_needs version m (drop i heads) t ++ r.0) e)

pub drop_end : {A : Type 0} (xs : List A) (n : ℕ) → length xs ≤ n → drop n xs ≡ []
drop_end [] zero le = refl
drop_end [] (suc n) le = refl
drop_end (x ∷ xs) zero le = absurd (omega (arith, le))
drop_end (x ∷ xs) (suc n) le = drop_end xs n (omega (arith, le))

pub same_at : {A : Type 0} (xs : List A) (k : ℕ) (x y : A) → k < length xs → x ≡ get_or xs k x
    → slice_get xs k ≡ Some y → x ≡ y
same_at xs k x y l e at = same_Some x y (sym (got xs k x l e) ∙ at)

pub head_there : (heads : List SourceHead) (x : List Source) (k : ℕ) (s : Source) → heads ≡ heads_of x
    → slice_get x k ≡ Some s → slice_get heads k ≡ Some s.head
head_there heads x k s are at = ap (λ hs. slice_get hs k) are ∙ get-map (λ (r : Source). r.head) x k s at

pub same_length : (heads : List SourceHead) (x : List Source) → heads ≡ heads_of x → length heads ≡ length x
same_length heads x are = ap length are ∙ length-map x (λ (r : Source). r.head)
