-- The bytes of sources, put together and taken apart.
use Rattle.std.proofs.Common.{◌≡◌, ℕ, zero, suc, ◌+◌, ◌*◌, ◌<◌, ℤ, pos, negsuc, List, [], ◌∷◌, ◌++◌, length, take, drop, get_or, refl, sym, ap, arith}
use Rattle.std.proofs.lemmas.List.{take_more}
use Rattle.std.proofs.Math.Seq.{drop-nil}
use Rattle.std.proofs.lemmas.Grind.{flat_map-append}
use Rattle.cdb_source.specs.declared.kind.Kind.TheVariants.{Elevation}
use Rattle.cdb_source.specs.declared.head.SourceHead.{SourceHead}
use Rattle.cdb_source.specs.declared.source.Source.{Source}
use Rattle.cdb_source.specs.Texts.{head_text, source_front_text, post_bytes, posts_text, source_text}

-- a known part that stands right after a front makes a longer front
pub then_part : (at n : ℕ) (new old part front known : List ℕ) → part ≡ known → at + length known ≡ n
    → take (at + length part) new ≡ take at old ++ part → take at old ≡ front → take n new ≡ front ++ known
then_part at n new old part front known is e put so_far = let put-known = rw is at put in
    rw (← e, put-known, so_far) refl

-- one more post
pub posts_more : (k : ℕ) (new old part : List ℕ) (posts : List ℤ) → k < length posts
    → part ≡ post_bytes (get_or posts k (pos 0)) → take (2 * k + length part) new ≡ take (2 * k) old ++ part
    → take (2 * k) old ≡ posts_text (take k posts) → take (2 * (k + 1)) new ≡ posts_text (take (k + 1) posts)
posts_more k new old part posts lt is put so_far =
    let n : 2 * (k + 1) ≡ 2 * k + length part = rw is (omega arith) in
    rw (n, put, so_far, take_more posts k (pos 0) lt, is)
    (sym (flat_map-append post_bytes (take k posts) (get_or posts k (pos 0) ∷ [])))

pub length-posts_text : (posts : List ℤ) → length (posts_text posts) ≡ 2 * length posts
length-posts_text [] = refl
length-posts_text (p ∷ ps) = omega (arith, length-posts_text ps)

pub posts_text-drop : (n : ℕ) (posts : List ℤ) → drop (2 * n) (posts_text posts) ≡ posts_text (drop n posts)
posts_text-drop zero posts = refl
posts_text-drop (suc n) [] = drop-nil (2 * suc n)
posts_text-drop (suc n) (p ∷ ps) =
    let e : 2 * suc n ≡ suc (suc (2 * n)) = omega arith in
    rw e (posts_text-drop n ps)

pub posts_text-take : (n : ℕ) (posts : List ℤ) → take (2 * n) (posts_text posts) ≡ posts_text (take n posts)
posts_text-take zero posts = refl
posts_text-take (suc n) [] =
    let e : 2 * suc n ≡ suc (suc (2 * n)) = omega arith in
    rw e refl
posts_text-take (suc n) (p ∷ ps) =
    let e : 2 * suc n ≡ suc (suc (2 * n)) = omega arith in
    rw e (ap (λ rest. post_bytes p ++ rest) (posts_text-take n ps))

pub length-front_text : (head : SourceHead) → length (source_front_text head) ≡ 52
unfolding head_text
length-front_text head = refl

drop-front : (n : ℕ) (front rest : List ℕ) → drop (length front + n) (front ++ rest) ≡ drop n rest
drop-front n [] rest = ap (λ k. drop k rest) (omega arith)
drop-front n (x ∷ front) rest =
    let e : length (x ∷ front) + n ≡ suc (length front + n) = omega arith in
    rw e (drop-front n front rest)

-- a row of the posts, as a part of the file
pub row_in_file : (source : Source) (from cols : ℕ) → take (2 * cols) (drop (52 + 2 * from) (source_text source))
    ≡ posts_text (take cols (drop from source.posts))
row_in_file source from cols =
    let past : drop (52 + 2 * from) (source_text source) ≡ drop (2 * from) (posts_text source.posts) =
    rw (← length-front_text source.head)
    (drop-front (2 * from) (source_front_text source.head) (posts_text source.posts)) in
    rw (past, posts_text-drop from source.posts) (posts_text-take cols (drop from source.posts))

-- the file of one post of 500 metres at N46E007, at level -10 with steps of one degree, byte by byte
pub worked_file : (source : Source) → source.head.kind ≡ Elevation → source.head.level.number ≡ negsuc 9
    → source.head.rows ≡ 1 → source.head.cols ≡ 1
    → source.head.lat.units ≡ pos 1600304814489600 → source.head.lon.units ≡ pos 243524645683200
    → source.head.dlat.units ≡ pos 34789235097600 → source.head.dlon.units ≡ pos 34789235097600
    → source.posts ≡ pos 500 ∷ []
    → source_text source ≡
    0x43 ∷ 0x44 ∷ 0x42 ∷ 0x53 ∷ 0x52 ∷ 0x43 ∷ 0x31 ∷ 0x0A ∷
    0x01 ∷ 0xF6 ∷ 0x00 ∷ 0x00 ∷ 0x00 ∷ 0x00 ∷ 0x00 ∷ 0x01 ∷ 0x00 ∷ 0x00 ∷ 0x00 ∷ 0x01 ∷
    0x00 ∷ 0x05 ∷ 0xAF ∷ 0x78 ∷ 0x00 ∷ 0x00 ∷ 0x00 ∷ 0x00 ∷
    0x00 ∷ 0x00 ∷ 0xDD ∷ 0x7C ∷ 0x00 ∷ 0x00 ∷ 0x00 ∷ 0x00 ∷
    0x00 ∷ 0x00 ∷ 0x1F ∷ 0xA4 ∷ 0x00 ∷ 0x00 ∷ 0x00 ∷ 0x00 ∷
    0x00 ∷ 0x00 ∷ 0x1F ∷ 0xA4 ∷ 0x00 ∷ 0x00 ∷ 0x00 ∷ 0x00 ∷
    0x01 ∷ 0xF4 ∷ []
unfolding head_text
worked_file source kind level rows cols lat lon dlat dlon posts =
    simp (kind, level, rows, cols, lat, lon, dlat, dlon, posts) refl
