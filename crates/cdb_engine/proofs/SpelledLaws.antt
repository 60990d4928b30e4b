-- Words that spell no source, and a source that words spell.
use Rattle.std.proofs.Common.{◌≡◌, ℕ, ℤ, List, map, All, true, false, sym, ◌∙◌, ap, subst}
use Rattle.cdb_source.specs.Made.{Making}
use Rattle.cdb_source.specs.Posts.{IsAllowed, IsPost, none_of, post_of}
use Rattle.cdb_source.specs.declared.kind.Kind.{Kind}
use Rattle.cdb_source.specs.declared.head.SourceHead.{SourceHead}
use Rattle.cdb_source.specs.declared.source.Source.{Source}
use Rattle.cdb_tiff_base.specs.Numbers.{Bytes}
use Rattle.cdb_tiff_base.specs.Strips.{image_width, image_length}
use Rattle.cdb_model.specs.Grammar.{Head, InlineSource, FileSource}
use Rattle.cdb_model.specs.ImageFiles.{SpellsNone}
use Rattle.cdb_model.specs.Spelled.{SpellsHead, SpellsSource, SpellsLoaded, spelled_row, row_of_pixels}
use Rattle.cdb_model.specs.Text.{last_first}
use Rattle.cdb_engine.specs.Words.{SpellsNoHead}
use Rattle.cdb_engine.specs.inside.Words.{HasRows}
use Rattle.cdb_engine.proofs.RowLaws.{all_allowed}

-- a row that isn't allowed, over the fields of a maker
pub not_allowed : (k k' : Kind) (v v' : ℤ) (xs ys : List ℤ) → k ≡ k' → v ≡ v' → xs ≡ ys
    → (All (IsAllowed k v) xs → false ≡ true) → All (IsAllowed k' v') ys → ⊥
not_allowed k k' v v' xs ys ek ev exs none all = let e : false ≡ true = none (rw (ek, ev, exs) all) in cc

-- the posts of a source are posts of its kind, so the numbers that they were are allowed
posts_allowed : (s : Source) (kind : Kind) (v : ℤ) (numbers : List ℤ) → s.head.kind ≡ kind
    → s.posts ≡ map (post_of kind v) numbers → All (IsAllowed kind v) numbers
posts_allowed s kind v numbers k posts =
    all_allowed kind v numbers
    (subst (λ l. All (IsPost kind) l) posts (subst (λ c. All (IsPost c) s.posts) k s.in_range))

pub no_head : (w : InlineSource) (h : Head) → h ≡ w.head → SpellsNoHead h w.rows w.cols → SpellsNone (SpellsSource w)
no_head w h e none s spelled = none s.head (subst (λ x. SpellsHead x w.rows w.cols s.head) (sym e) spelled.head)

pub no_row : (w : InlineSource) (v : ℤ) (kind : Kind) (rows cols : ℕ) → kind ≡ w.head.kind → v ≡ none_of kind
    → rows ≡ w.rows → cols ≡ w.cols
    → (All (IsAllowed kind v) (last_first rows (spelled_row cols w.posts)) → ⊥) → SpellsNone (SpellsSource w)
no_row w v kind rows cols k ev er ec none s spelled =
    none (rw (ev, k, er, ec) (posts_allowed s w.head.kind (none_of w.head.kind) _ spelled.head.kind spelled.posts))

pub no_file_row : (w : FileSource) (bytes : Bytes) (v : ℤ) (kind : Kind) (rows : ℕ) → kind ≡ w.head.kind
    → v ≡ w.novalue → rows ≡ image_length bytes
    → (All (IsAllowed kind v) (last_first rows (row_of_pixels bytes)) → ⊥) → SpellsNone (SpellsLoaded w bytes)
no_file_row w bytes v kind rows k ev er none s spelled =
    none (rw (ev, k, er) (posts_allowed s w.head.kind w.novalue _ spelled.head.kind spelled.posts))

-- the source of the rows of a file
pub file_spelled : (w : FileSource) (bytes : Bytes) (h : Head) (rows cols : ℕ) (head : SourceHead) (v : ℤ) (m : Making)
    (s : Source) → h ≡ w.head → rows ≡ image_length bytes → cols ≡ image_width bytes → v ≡ w.novalue
    → SpellsHead h rows cols head → HasRows head v (row_of_pixels bytes) rows m → s.head ≡ m.head → s.posts ≡ m.posts
    → SpellsLoaded w bytes s
file_spelled w bytes h rows cols head v m s e er ec ev spelled came sh sp =
    let kind : head.kind ≡ w.head.kind = spelled.kind ∙ ap (λ (x : Head). x.kind) e in
    record {
      head = rw (sh, came.head_is)
          (subst (λ (x : Head). SpellsHead x (image_length bytes) (image_width bytes) head) e
          (subst (λ n. SpellsHead h (image_length bytes) n head) ec
          (subst (λ n. SpellsHead h n cols head) er spelled)));
      posts = sp ∙ came.posts ∙ ap (λ k. map (post_of k v) (last_first rows (row_of_pixels bytes))) kind
          ∙ ap (λ x. map (post_of w.head.kind x) (last_first rows (row_of_pixels bytes))) ev
          ∙ ap (λ n. map (post_of w.head.kind w.novalue) (last_first n (row_of_pixels bytes))) er;
    }
