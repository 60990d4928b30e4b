-- A file that is written piece by piece.
use Rattle.std.proofs.Common.{◌≡◌, ℕ, ◌+◌, ◌*◌, ◌≤◌, List, ◌++◌, take, drop, length, sym, ap, ◌∙◌, subst, arith, append_assoc}
use Rattle.std.proofs.Math.Seq.{take-add, drop-drop}
use Rattle.std.proofs.lemmas.Grind.{flat_map-append}
use Rattle.std.proofs.lemmas.List.{take_all}
use Rattle.cdb_source.specs.Texts.{posts_text, post_bytes, row_of_posts}
use Rattle.cdb_source.specs.declared.source.Source.{Source}
use Rattle.cdb_cut.specs.Window.{rows_of}
use Rattle.cdb_model.specs.Maps.{Text}
use Rattle.cdb_files.specs.Disk.{State, after_append}
use Rattle.cdb_files.specs.Whole.{after_pieces}
use Rattle.cdb_files.proofs.StateLaws.{append-pieces}

-- Rows that are gathered, one more.
pub gathered_more : (source : Source) (first k : ℕ)
    → posts_text (rows_of source first (k + 1)) ≡ posts_text (rows_of source first k)
    ++ posts_text (row_of_posts source (first + k))
gathered_more source first k =
    let n : (k + 1) * source.head.cols ≡ k * source.head.cols + source.head.cols = omega arith in
    let at : first * source.head.cols + k * source.head.cols ≡ (first + k) * source.head.cols = omega arith in
    ap (λ i. posts_text (take i (drop (first * source.head.cols) source.posts))) n
    ∙ ap posts_text (take-add (k * source.head.cols) source.head.cols (drop (first * source.head.cols) source.posts))
    ∙ flat_map-append post_bytes (take (k * source.head.cols) (drop (first * source.head.cols) source.posts))
    (take source.head.cols (drop (k * source.head.cols) (drop (first * source.head.cols) source.posts)))
    ∙ ap (λ l. posts_text (rows_of source first k) ++ posts_text (take source.head.cols l))
    (drop-drop (k * source.head.cols) (first * source.head.cols) source.posts ∙ ap (λ i. drop i source.posts) at)

pub gathered_all : (source : Source) (first k count size : ℕ) (to : List ℕ) → k ≡ count → length to ≡ count * size
    → take (k * size) to ≡ posts_text (rows_of source first k) → to ≡ posts_text (rows_of source first count)
gathered_all source first k count size to same long is =
    sym (take_all (k * size) to (let K : ℕ → Type 0 = λ n. length to ≤ n * size in
    subst K (sym same) (omega (arith, long)))) ∙ is ∙ ap (λ n. posts_text (rows_of source first n)) same

-- Some rows more.
pub more_rows : (source : Source) (done count : ℕ)
    → posts_text (take ((done + count) * source.head.cols) source.posts)
    ≡ posts_text (take (done * source.head.cols) source.posts) ++ posts_text (rows_of source done count)
more_rows source done count =
    let n : (done + count) * source.head.cols ≡ done * source.head.cols + count * source.head.cols = omega arith in
    ap (λ k. posts_text (take k source.posts)) n
    ∙ ap posts_text (take-add (done * source.head.cols) (count * source.head.cols) source.posts)
    ∙ flat_map-append post_bytes (take (done * source.head.cols) source.posts) (rows_of source done count)

pub all_rows : (source : Source) → posts_text (take (source.head.rows * source.head.cols) source.posts)
    ≡ posts_text source.posts
all_rows source =
    ap posts_text (take_all (source.head.rows * source.head.cols) source.posts (omega (arith, source.count)))

-- One piece more.
pub one_piece : (path : Text) (piece so_far with_it bytes : List ℕ) (s now after : State)
    → now ≡ after_pieces path (bytes ++ so_far) s → with_it ≡ so_far ++ piece
    → after ≡ after_append path piece now → after ≡ after_pieces path (bytes ++ with_it) s
one_piece path piece so_far with_it bytes s now after is more done =
    done ∙ ap (after_append path piece) is ∙ append-pieces path (bytes ++ so_far) piece s
    ∙ ap (λ t. after_pieces path t s) (append_assoc bytes so_far piece ∙ ap (λ t. bytes ++ t) (sym more))
