-- The posts that a run of bytes spells.
use Rattle.std.proofs.Common.{◌≡◌, ℕ, zero, suc, ◌*◌, ◌<◌, ◌≤◌, ℤ, pos, negsuc, List, [], ◌∷◌, ◌++◌, length, get_or, All, refl, ap, ◌∙◌, arith}
use Rattle.std.specs.Int.{w16, cast_signed, cast_unsigned}
use Rattle.std.proofs.lemmas.Int.{ints, to_z-of_z}
use Rattle.std.proofs.lemmas.Nat.{from_be_bytes-to_be_bytes_2}
use Rattle.std.proofs.lemmas.List.{ext_get_or}
use Rattle.cdb_source.proofs.TextLaws.{length-posts_text}
use Rattle.cdb_source.specs.declared.kind.Kind.{Kind}
use Rattle.cdb_source.specs.declared.kind.Kind.TheVariants.{Elevation, Material}
use Rattle.cdb_source.specs.Posts.{IsPost}
use Rattle.cdb_source.specs.Texts.{post_bytes, posts_text}
use Rattle.cdb_source.specs.Runs.{number_from, read_as}
use Rattle.cdb_source.proofs.DecodingLaws.{any_number, number_fits, All-rest}

one_number : (z : ℤ) (rest : List ℕ) → IsPost Elevation z → number_from (post_bytes z ++ rest) 0 ≡ z
one_number z rest h =
    let f = number_fits z h in
    ap (cast_signed w16) (from_be_bytes-to_be_bytes_2 (cast_unsigned w16 z) f.1) ∙ to_z-of_z w16 z f.0

pub number_spelled : (kind : Kind) (posts : List ℤ) (k : ℕ) → All (IsPost kind) posts → k < length posts
    → number_from (posts_text posts) (2 * k) ≡ get_or posts k (pos 0)
number_spelled kind [] k all lt = absurd (omega arith)
number_spelled kind (x ∷ xs) zero all lt = one_number x (posts_text xs) (any_number kind x (All-rest kind x xs all).0)
number_spelled kind (x ∷ xs) (suc k) all lt =
    let n : 2 * suc k ≡ suc (suc (2 * k)) = omega arith in
    let rec = number_spelled kind xs k (All-rest kind x xs all).1 (omega arith) in
    rw n rec

pub read_same : (kind : Kind) (z : ℤ) → IsPost kind z → read_as kind z ≡ z
read_same Elevation z h = refl
read_same Material (pos zero) h = refl
read_same Material (pos (suc n)) h = let m : suc n ≤ 255 = let g = h.greatest in omega (arith, ints) in
    grind (arith, ints)
read_same Material (negsuc n) h = let g = h.least in absurd (omega (arith, ints))

All-at : (kind : Kind) (posts : List ℤ) (k : ℕ) → All (IsPost kind) posts → k < length posts
    → IsPost kind (get_or posts k (pos 0))
All-at kind posts k all lt = all k (pos 0) lt

-- posts read one by one are those that the bytes spell
pub all_spelled : (kind : Kind) (bytes : List ℕ) (to posts : List ℤ) (n : ℕ) → length to ≡ n → length bytes ≡ 2 * n
    → ((k : ℕ) → k < n → get_or to k (pos 0) ≡ read_as kind (number_from bytes (2 * k))) → All (IsPost kind) posts
    → bytes ≡ posts_text posts → to ≡ posts
all_spelled kind bytes to posts n size room each all e =
    let long : length bytes ≡ 2 * length posts = ap length e ∙ length-posts_text posts in
    ext_get_or (pos 0) to posts (omega arith) (λ k lt.
    let below : k < length posts = omega arith in
    each k (omega arith) ∙ ap (λ b. read_as kind (number_from b (2 * k))) e
    ∙ ap (read_as kind) (number_spelled kind posts k all below)
    ∙ read_same kind (get_or posts k (pos 0)) (All-at kind posts k all below))
