-- Which part of the bytes of a source file is the first bad one.
use Rattle.std.proofs.Common.{◌≡◌, ℕ, zero, suc, ◌+◌, ◌*◌, ◌^◌, ◌<◌, ◌≤◌, ℤ, pos, negsuc, List, [], ◌∷◌, ◌++◌, length, take, drop, get_or, All, set, Result, Ok, Err, inl, inr, refl, sym, ap, subst, ◌∙◌, append_assoc, arith}
use Rattle.std.proofs.lemmas.Int.{ints, to_z-of_z}
use Rattle.std.specs.Prelude.{IfOk, IfErr, false, ◌==◌}
use Rattle.std.specs.Result.{IsErrAnd}
use Rattle.std.specs.Int.{w16, from_be_bytes, cast_signed, cast_unsigned}
use Rattle.std.proofs.lemmas.Nat.{from_be_bytes-to_be_bytes_2}
use Rattle.std.proofs.Props.{props}
use Rattle.std.proofs.Math.Nat.{le_antisymm}
use Rattle.std.proofs.lemmas.Bool.{cases_lt}
use mir.Val.{SFits}
use Rattle.std.proofs.lemmas.List.{take_at, drop_at, take-append-drop, length-append, length-take, append-nil}
use Rattle.std.proofs.lemmas.List.Elements.{All-push}
use Rattle.std.proofs.lemmas.Grind.{flat_map-append}
use Rattle.cdb_source.specs.declared.kind.Kind.{Kind}
use Rattle.cdb_source.specs.declared.kind.Kind.TheVariants.{Elevation, Material}
use Rattle.cdb_source.specs.declared.head.SourceHead.{SourceHead}
use Rattle.cdb_source.specs.declared.source.Source.{Source}
use Rattle.cdb_source.specs.Posts.{IsPost}
use Rattle.cdb_source.specs.Texts.{source_first_bytes, head_text, source_front_text, post_bytes, posts_text, source_text}
use Rattle.cdb_source.specs.Decoding.{post_count, HasOtherFirstBytes, HasCutPosts, HasBadPost, HasBytesLeft, IsBadPost, FirstBadPart, SourceCause, GivesSource, first_bytes_bad, head_bad, posts_cut, post_bad, bytes_left}
use Rattle.cdb_source.specs.inside.Decoding.{TellsPost}
use Rattle.cdb_source.specs.declared.decode_error.DecodeError.{DecodeError}
use Rattle.cdb_source.specs.declared.decode_error.DecodeError.TheVariants.{Memory, Bad}
use Rattle.cdb_source.proofs.HeadLaws.{one_head, has_head}
use Rattle.cdb_source.proofs.TextLaws.{length-front_text, length-posts_text}

-- ---- the head

pub front_cut : (bytes : List ℕ) → bytes ≡ source_first_bytes ++ drop 8 bytes → length bytes < 52 → FirstBadPart bytes 8
front_cut bytes begins short = head_bad (record {
  rest = drop 8 bytes;
  begins = begins;
  never = λ head after e. let whole : length bytes ≡ 52 + length after = ap length e
      ∙ length-append (source_front_text head) after ∙ ap (λ n. n + length after) (length-front_text head) in
      omega arith;
}) refl

pub front_bad : (bytes front : List ℕ) → bytes ≡ source_first_bytes ++ drop 8 bytes → front ≡ take 52 bytes
    → ((head : SourceHead) → front ≡ source_front_text head → ⊥) → FirstBadPart bytes 8
front_bad bytes front begins is never = head_bad (record {
  rest = drop 8 bytes;
  begins = begins;
  never = λ head after e. never head
      (is ∙ ap (take 52) e ∙ take_at (source_front_text head) after 52 (length-front_text head));
}) refl

pub front_then : (bytes front : List ℕ) (head : SourceHead) → front ≡ take 52 bytes → front ≡ source_front_text head
    → bytes ≡ source_front_text head ++ drop 52 bytes
front_then bytes front head is spelled = sym (take-append-drop 52 bytes)
    ∙ ap (λ (f : List ℕ). f ++ drop 52 bytes) (sym is ∙ spelled)

-- ---- the posts

-- one more post of the text
pub spelled_more : (k : ℕ) (text : List ℕ) (posts : List ℤ) (post : ℤ) → k < length posts
    → text ≡ posts_text (take k posts) ++ drop (2 * k) text
    → drop (2 * k) text ≡ post_bytes post ++ drop (2 * k + 2) text → take (k + 1) (set posts k post)
    ≡ take k posts ++ post ∷ [] → text ≡ posts_text (take (k + 1) (set posts k post)) ++ drop (2 * (k + 1)) text
spelled_more k text posts post lt so_far here more =
    let n : 2 * (k + 1) ≡ 2 * k + 2 = omega arith in
    let two : posts_text (take k posts ++ post ∷ []) ≡ posts_text (take k posts) ++ post_bytes post =
    flat_map-append post_bytes (take k posts) (post ∷ []) in
    rw (n, more, two) (so_far ∙ ap (λ (rest : List ℕ). posts_text (take k posts) ++ rest) here
    ∙ sym (append_assoc (posts_text (take k posts)) (post_bytes post) (drop (2 * k + 2) text)))

a_number : (z : ℤ) → SFits w16 z → IsPost Elevation z
a_number (pos n) fits = record { least = omega (arith, ints); greatest = let h = fits.sfits in omega (arith, ints) }
a_number (negsuc n) fits = record { least = let h = fits.sfits in omega (arith, ints); greatest = omega (arith, ints) }

pub a_bad_post : (kind : Kind) (k : ℕ) (text : List ℕ) (posts : List ℤ) (post : ℤ) → SFits w16 post → k < length posts
    → text ≡ posts_text (take k posts) ++ drop (2 * k) text → All (IsPost kind) (take k posts)
    → drop (2 * k) text ≡ post_bytes post ++ drop (2 * k + 2) text → (IsPost kind post → ⊥) → IsBadPost kind text k
a_bad_post kind k text posts post fits lt so_far allowed here refused = record {
  posts = take k posts;
  number = post;
  rest = drop (2 * k + 2) text;
  parts = so_far ∙ ap (λ (rest : List ℕ). posts_text (take k posts) ++ rest) here
      ∙ sym (append_assoc (posts_text (take k posts)) (post_bytes post) (drop (2 * k + 2) text));
  counted = omega (arith, length-take k posts);
  allowed = allowed;
  a_number = a_number post fits;
  refused = refused;
}

pub allowed_more : (kind : Kind) (posts : List ℤ) (post : ℤ) → All (IsPost kind) posts → IsPost kind post
    → All (IsPost kind) (posts ++ post ∷ [])
allowed_more kind posts post all one = All-push (IsPost kind) posts post all one

-- ---- texts that are equal

pub same_front : (a b : SourceHead) (x y : List ℕ) → source_front_text a ++ x ≡ source_front_text b ++ y
    → (a ≡ b) × (x ≡ y)
same_front a b x y e =
    let fronts : source_front_text a ≡ source_front_text b =
    sym (take_at (source_front_text a) x 52 (length-front_text a)) ∙ ap (take 52) e
    ∙ take_at (source_front_text b) y 52 (length-front_text b) in
    let rests : x ≡ y = sym (drop_at (source_front_text a) x 52 (length-front_text a)) ∙ ap (drop 52) e
    ∙ drop_at (source_front_text b) y 52 (length-front_text b) in (
      one_head (source_front_text a) a b (has_head (source_front_text a) a refl)
          (has_head (source_front_text a) b fronts),
      rests,
    )

pub any_number : (kind : Kind) (z : ℤ) → IsPost kind z → IsPost Elevation z
any_number Elevation z h = h
any_number Material z h = let least = h.least in
    let greatest = h.greatest in record { least = omega (arith, ints); greatest = omega (arith, ints) }

pub number_fits : (z : ℤ) → IsPost Elevation z → SFits w16 z × (cast_unsigned w16 z < 2 ^ 16)
number_fits (pos n) h = let greatest = h.greatest in (record { sfits = omega (arith, ints) }, omega (arith, ints))
number_fits (negsuc n) h = let least = h.least in (record { sfits = omega (arith, ints) }, omega arith)

same_post : (a b : ℤ) → IsPost Elevation a → IsPost Elevation b → post_bytes a ≡ post_bytes b → a ≡ b
same_post a b ha hb e =
    let fa = number_fits a ha in
    let fb = number_fits b hb in
    let n : cast_unsigned w16 a ≡ cast_unsigned w16 b = sym (from_be_bytes-to_be_bytes_2 (cast_unsigned w16 a) fa.1)
    ∙ ap (from_be_bytes w16) e ∙ from_be_bytes-to_be_bytes_2 (cast_unsigned w16 b) fb.1 in
    sym (to_z-of_z w16 a fa.0) ∙ ap (cast_signed w16) n ∙ to_z-of_z w16 b fb.0

two_front : (a b : ℤ) (x y : List ℕ) → post_bytes a ++ x ≡ post_bytes b ++ y → (post_bytes a ≡ post_bytes b) × (x ≡ y)
two_front a b x y e = (ap (take 2) e, ap (drop 2) e)

pub All-rest : (kind : Kind) (p : ℤ) (ps : List ℤ) → All (IsPost kind) (p ∷ ps) → IsPost kind p × All (IsPost kind) ps
All-rest kind p ps all = (all 0 (pos 0) (omega arith), λ k d lt. all (suc k) d (omega arith))

-- the post after so many posts of a text, which goes on with more
post_there : (kind : Kind) (xs ys : List ℤ) (n : ℤ) (more rest : List ℕ) → All (IsPost kind) xs → All (IsPost kind) ys
    → IsPost Elevation n → length ys < length xs → posts_text xs ++ more ≡ posts_text ys ++ (post_bytes n ++ rest)
    → IsPost kind n
post_there kind [] ys n more rest all others fits lt e = absurd (omega arith)
post_there kind (x ∷ xs) [] n more rest all others fits lt e =
    let here = All-rest kind x xs all in
    let same = same_post x n (any_number kind x here.0) fits
    (two_front x n (posts_text xs ++ more) rest (sym (append_assoc (post_bytes x) (posts_text xs) more) ∙ e)).0 in
    subst (λ z. IsPost kind z) same here.0
post_there kind (x ∷ xs) (y ∷ ys) n more rest all others fits lt e =
    let shorter : length ys < length xs = omega arith in
    post_there kind xs ys n more rest (All-rest kind x xs all).1 (All-rest kind y ys others).1 fits shorter
    (two_front x y (posts_text xs ++ more) (posts_text ys ++ (post_bytes n ++ rest))
    (sym (append_assoc (post_bytes x) (posts_text xs) more) ∙ e
    ∙ append_assoc (post_bytes y) (posts_text ys) (post_bytes n ++ rest))).1

pub same_posts : (xs ys : List ℤ) → All (IsPost Elevation) xs → All (IsPost Elevation) ys → posts_text xs
    ≡ posts_text ys → xs ≡ ys
same_posts [] [] a b e = refl
same_posts [] (y ∷ ys) a b e = absurd cc
same_posts (x ∷ xs) [] a b e = absurd cc
same_posts (x ∷ xs) (y ∷ ys) a b e =
    let f = two_front x y (posts_text xs) (posts_text ys) e in
    let ax = All-rest Elevation x xs a in
    let by = All-rest Elevation y ys b in
    let one : x ≡ y = same_post x y ax.0 by.0 f.0 in
    let rest : xs ≡ ys = same_posts xs ys ax.1 by.1 f.1 in
    cc

-- ---- sources by their plain contents

abbrev SourceFacts : SourceHead → List ℤ → Type 0
SourceFacts head posts = (length posts ≡ head.rows * head.cols) × All (IsPost head.kind) posts

source_of : (head : SourceHead) (posts : List ℤ) → SourceFacts head posts → Source
source_of head posts f = record { head = head; posts = posts; count = f.0; in_range = f.1 }

source_facts : (head : SourceHead) (posts : List ℤ) → IsProp (SourceFacts head posts)
source_facts head posts = hlevel props

pub same_source : (a b : Source) → a.head ≡ b.head → a.posts ≡ b.posts → a ≡ b
unfolding source_of
same_source a b eh ep =
    let P : SourceHead → List ℤ → Type 0 = λ h ps. (f : SourceFacts h ps) → a ≡ source_of h ps f in
    let start : P a.head a.posts =
    λ f. ap (source_of a.head a.posts) (source_facts a.head a.posts (a.count, a.in_range) f) in
    let moved : P b.head a.posts = subst (λ h. P h a.posts) eh start in
    subst (λ ps. P b.head ps) ep moved (b.count, b.in_range)

-- a source file has one source
pub one_source : (a b : Source) → source_text a ≡ source_text b → a ≡ b
one_source a b e =
    let both = same_front a.head b.head (posts_text a.posts) (posts_text b.posts) e in
    let all_a : All (IsPost Elevation) a.posts = λ k d lt. any_number a.head.kind (get_or a.posts k d)
    (a.in_range k d lt) in
    let all_b : All (IsPost Elevation) b.posts = λ k d lt. any_number b.head.kind (get_or b.posts k d)
    (b.in_range k d lt) in
    same_source a b both.0 (same_posts a.posts b.posts all_a all_b both.1)

-- ---- parts that exclude one another

other_or_front : (bytes rest : List ℕ) (head : SourceHead) → HasOtherFirstBytes bytes
    → bytes ≡ source_front_text head ++ rest → ⊥
other_or_front bytes rest head other e =
    other.never (head_text head ++ rest) (e ∙ append_assoc source_first_bytes (head_text head) rest)

-- the 52 bytes of the head, and two bytes for each post
pub length-source_text : (source : Source) → length (source_text source) ≡ 52 + 2 * post_count source.head
length-source_text source = length-append (source_front_text source.head) (posts_text source.posts)
    ∙ omega (arith, length-front_text source.head, length-posts_text source.posts, source.count)

pub most-source_text : (source : Source) → length (source_text source) ≤ 33554484
most-source_text source = let n = length-source_text source in
    let most = source.head.in_range.raster.posts_most in omega arith

-- the head of a source's file, and what follows it
source_front : (bytes more : List ℕ) (source : Source) → bytes ≡ source_text source ++ more
    → bytes ≡ source_front_text source.head ++ (posts_text source.posts ++ more)
source_front bytes more source e = e ∙ append_assoc (source_front_text source.head) (posts_text source.posts) more

-- bytes that begin with a source's file have whole posts
whole_or_cut : (bytes more : List ℕ) (source : Source) → bytes ≡ source_text source ++ more → HasCutPosts bytes → ⊥
whole_or_cut bytes more source e cut =
    let both = same_front cut.head source.head cut.rest (posts_text source.posts ++ more)
    (sym cut.begins ∙ source_front bytes more source e) in
    let short : length cut.rest < 2 * post_count source.head = rw (← both.0) cut.cut in
    let whole : length cut.rest ≡ length (posts_text source.posts) + length more = ap length both.1
    ∙ length-append (posts_text source.posts) more in
    omega (arith, length-posts_text source.posts, source.count)

-- and each of them is of the kind
whole_or_bad : (bytes more : List ℕ) (source : Source) (place : ℕ) → bytes ≡ source_text source ++ more
    → HasBadPost bytes place → ⊥
whole_or_bad bytes more source place e bad =
    let both = same_front bad.head source.head bad.rest (posts_text source.posts ++ more)
    (sym bad.begins ∙ source_front bytes more source e) in
    let kind : bad.head.kind ≡ source.head.kind = ap (λ (h : SourceHead). h.kind) both.0 in
    let within : bad.count < post_count source.head = rw (← both.0) bad.within in
    let b = bad.bad in
    let shorter : length b.posts < length source.posts = rw (b.counted, source.count) within in
    let parts : posts_text source.posts ++ more ≡ posts_text b.posts ++ (post_bytes b.number ++ b.rest) = sym both.1
    ∙ b.parts ∙ append_assoc (posts_text b.posts) (post_bytes b.number) b.rest in
    b.refused (post_there bad.head.kind source.posts b.posts b.number more b.rest (rw kind source.in_range)
    b.allowed b.a_number shorter parts)

-- posts that are whole aren't cut
bad_or_cut : (bytes : List ℕ) (place : ℕ) → HasBadPost bytes place → HasCutPosts bytes → ⊥
bad_or_cut bytes place bad cut =
    let both = same_front cut.head bad.head cut.rest bad.rest (sym cut.begins ∙ bad.begins) in
    let short : length cut.rest < 2 * post_count bad.head = rw (← both.0) cut.cut in
    omega (arith, ap length both.1, bad.whole)

-- of two sources at the beginning of the same bytes the heads are one
heads_agree : (bytes more others : List ℕ) (a b : Source) → bytes ≡ source_text a ++ more
    → bytes ≡ source_text b ++ others → a.head ≡ b.head
heads_agree bytes more others a b ea eb =
    (same_front a.head b.head (posts_text a.posts ++ more) (posts_text b.posts ++ others)
    (sym (source_front bytes more a ea) ∙ source_front bytes others b eb)).0

-- the posts before a bad one are of the kind
none_before : (kind : Kind) (text : List ℕ) (j k : ℕ) → IsBadPost kind text j → IsBadPost kind text k → j < k → ⊥
none_before kind text j k a b lt =
    let shorter : length a.posts < length b.posts = rw (a.counted, b.counted) lt in
    let parts : posts_text b.posts ++ (post_bytes b.number ++ b.rest)
    ≡ posts_text a.posts ++ (post_bytes a.number ++ a.rest) =
    sym (append_assoc (posts_text b.posts) (post_bytes b.number) b.rest) ∙ sym b.parts ∙ a.parts
    ∙ append_assoc (posts_text a.posts) (post_bytes a.number) a.rest in
    a.refused (post_there kind b.posts a.posts a.number (post_bytes b.number ++ b.rest)
    a.rest b.allowed a.allowed a.a_number shorter parts)

-- the file of a source has no bad part
pub no_bad : (bytes : List ℕ) (place : ℕ) (source : Source) → bytes ≡ source_text source → FirstBadPart bytes place → ⊥
no_bad bytes place source e (first_bytes_bad other at) =
    other_or_front bytes (posts_text source.posts) source.head other e
no_bad bytes place source e (head_bad bad at) = bad.never source.head (posts_text source.posts) e
no_bad bytes place source e (posts_cut cut at) =
    whole_or_cut bytes [] source (e ∙ sym (append-nil (source_text source))) cut
no_bad bytes place source e (post_bad bad) =
    whole_or_bad bytes [] source place (e ∙ sym (append-nil (source_text source))) bad
no_bad bytes place source e (bytes_left left) =
    let heads = heads_agree bytes (left.byte ∷ left.rest) [] left.source source
    left.begins (e ∙ sym (append-nil (source_text source))) in
    let longer : length bytes ≡ length (source_text left.source) + suc (length left.rest) = ap length left.begins
    ∙ length-append (source_text left.source) (left.byte ∷ left.rest) in
    let counts : post_count left.source.head ≡ post_count source.head = ap post_count heads in
    omega (arith, ap length e, length-source_text left.source, length-source_text source)

pub gives : (bytes : List ℕ) (r : Result Source DecodeError) → IfOk r (λ source. bytes ≡ source_text source)
    → IfErr r (SourceCause bytes) → (source : Source) → bytes ≡ source_text source → GivesSource source r
gives bytes (Ok given) spelled told source e = one_source given source (sym spelled ∙ e)
gives bytes (Err Memory) spelled told source e = tt
gives bytes (Err (Bad place)) spelled told source e = no_bad bytes place source e told

-- ---- the first bad part begins at one place

-- no bad post comes after another
bad_post_order : (bytes : List ℕ) (p q : ℕ) → HasBadPost bytes p → HasBadPost bytes q → p ≤ q
bad_post_order bytes p q a b =
    let both = same_front a.head b.head a.rest b.rest (sym a.begins ∙ b.begins) in
    let there : IsBadPost a.head.kind a.rest b.count = rw (both.0, both.1) b.bad in
    elim (cases_lt b.count a.count) [
      | inl lt ↦ absurd (none_before a.head.kind a.rest b.count a.count there a.bad lt)
      | inr le ↦ let at_a = a.place_is in let at_b = b.place_is in omega arith
    ]

-- the bytes after a whole source begin nowhere later
left_order : (bytes : List ℕ) (p q : ℕ) → HasBytesLeft bytes p → HasBytesLeft bytes q → p ≤ q
left_order bytes p q a b =
    let heads = heads_agree bytes (a.byte ∷ a.rest) (b.byte ∷ b.rest) a.source b.source a.begins b.begins in
    let counts : post_count a.source.head ≡ post_count b.source.head = ap post_count heads in
    omega (arith, a.place_is, b.place_is, length-source_text a.source, length-source_text b.source)

front_of_left : (bytes : List ℕ) (place : ℕ) (left : HasBytesLeft bytes place)
    → bytes ≡ source_front_text left.source.head ++ (posts_text left.source.posts ++ left.byte ∷ left.rest)
front_of_left bytes place left = source_front bytes (left.byte ∷ left.rest) left.source left.begins

place_of_left : (bytes : List ℕ) (place : ℕ) → HasBytesLeft bytes place → 52 ≤ place
place_of_left bytes place left = omega (arith, left.place_is, length-source_text left.source)

place_of_post : (bytes : List ℕ) (place : ℕ) → HasBadPost bytes place → 52 ≤ place
place_of_post bytes place bad = omega (arith, bad.place_is)

-- no first bad part begins after another
bad_order : (bytes : List ℕ) (p q : ℕ) → FirstBadPart bytes p → FirstBadPart bytes q → p ≤ q
bad_order bytes p q (first_bytes_bad a at_a) b = omega arith
bad_order bytes p q (head_bad a at_a) (first_bytes_bad b at_b) = absurd (b.never a.rest a.begins)
bad_order bytes p q (head_bad a at_a) (head_bad b at_b) = omega arith
bad_order bytes p q (head_bad a at_a) (posts_cut b at_b) = omega arith
bad_order bytes p q (head_bad a at_a) (post_bad b) = omega (arith, place_of_post bytes q b)
bad_order bytes p q (head_bad a at_a) (bytes_left b) = omega (arith, place_of_left bytes q b)
bad_order bytes p q (posts_cut a at_a) (first_bytes_bad b at_b) = absurd (other_or_front bytes a.rest a.head b a.begins)
bad_order bytes p q (posts_cut a at_a) (head_bad b at_b) = absurd (b.never a.head a.rest a.begins)
bad_order bytes p q (posts_cut a at_a) (posts_cut b at_b) = omega arith
bad_order bytes p q (posts_cut a at_a) (post_bad b) = omega (arith, place_of_post bytes q b)
bad_order bytes p q (posts_cut a at_a) (bytes_left b) = omega (arith, place_of_left bytes q b)
bad_order bytes p q (post_bad a) (first_bytes_bad b at_b) = absurd (other_or_front bytes a.rest a.head b a.begins)
bad_order bytes p q (post_bad a) (head_bad b at_b) = absurd (b.never a.head a.rest a.begins)
bad_order bytes p q (post_bad a) (posts_cut b at_b) = absurd (bad_or_cut bytes p a b)
bad_order bytes p q (post_bad a) (post_bad b) = bad_post_order bytes p q a b
bad_order bytes p q (post_bad a) (bytes_left b) = absurd (whole_or_bad bytes (b.byte ∷ b.rest) b.source p b.begins a)
bad_order bytes p q (bytes_left a) (first_bytes_bad b at_b) =
    absurd (other_or_front bytes _ a.source.head b (front_of_left bytes p a))
bad_order bytes p q (bytes_left a) (head_bad b at_b) = absurd (b.never a.source.head _ (front_of_left bytes p a))
bad_order bytes p q (bytes_left a) (posts_cut b at_b) =
    absurd (whole_or_cut bytes (a.byte ∷ a.rest) a.source a.begins b)
bad_order bytes p q (bytes_left a) (post_bad b) = absurd (whole_or_bad bytes (a.byte ∷ a.rest) a.source q a.begins b)
bad_order bytes p q (bytes_left a) (bytes_left b) = left_order bytes p q a b

pub one_bad_place : (bytes : List ℕ) (p q : ℕ) → FirstBadPart bytes p → FirstBadPart bytes q → p ≡ q
one_bad_place bytes p q a b = le_antisymm (bad_order bytes p q a b) (bad_order bytes q p b a)

-- ---- what stops a reading

pub cut_posts : (bytes : List ℕ) (head : SourceHead) → bytes ≡ source_front_text head ++ drop 52 bytes
    → length (drop 52 bytes) < 2 * post_count head → FirstBadPart bytes 52
cut_posts bytes head begins short =
    posts_cut (record { head = head; rest = drop 52 bytes; begins = begins; cut = short }) refl

pub wrong_post : (bytes text : List ℕ) (head : SourceHead) (k place : ℕ)
    → bytes ≡ source_front_text head ++ drop 52 bytes → 2 * post_count head ≤ length (drop 52 bytes)
    → text ≡ take (2 * post_count head) (drop 52 bytes)
    → k < post_count head → IsBadPost head.kind text k → place ≡ 52 + 2 * k → FirstBadPart bytes place
wrong_post bytes text head k place begins whole is within bad at = post_bad (record {
  head = head;
  rest = drop 52 bytes;
  count = k;
  begins = begins;
  whole = whole;
  within = within;
  bad = record {
    posts = bad.posts;
    number = bad.number;
    rest = bad.rest ++ drop (2 * post_count head) (drop 52 bytes);
    parts = sym (take-append-drop (2 * post_count head) (drop 52 bytes))
        ∙ ap (λ (t : List ℕ). t ++ drop (2 * post_count head) (drop 52 bytes)) (sym is ∙ bad.parts)
        ∙ append_assoc (posts_text bad.posts ++ post_bytes bad.number)
        bad.rest (drop (2 * post_count head) (drop 52 bytes));
    counted = bad.counted;
    allowed = bad.allowed;
    a_number = bad.a_number;
    refused = bad.refused;
  };
  place_is = at;
})

-- the text of the posts and what follows it
pub parts_are : (bytes text after : List ℕ) (head : SourceHead) (posts : List ℤ)
    → bytes ≡ source_front_text head ++ drop 52 bytes → text ≡ take (2 * post_count head) (drop 52 bytes)
    → after ≡ drop (2 * post_count head) (drop 52 bytes) → text ≡ posts_text posts
    → bytes ≡ (source_front_text head ++ posts_text posts) ++ after
parts_are bytes text after head posts begins is rest spelled =
    begins ∙ ap (λ (r : List ℕ). source_front_text head ++ r)
    (sym (take-append-drop (2 * post_count head) (drop 52 bytes)) ∙ rw (← is, ← rest, spelled) refl)
    ∙ sym (append_assoc (source_front_text head) (posts_text posts) after)

pub more_bytes : (bytes after : List ℕ) (head : SourceHead) (posts : List ℤ) (place : ℕ)
    → bytes ≡ (source_front_text head ++ posts_text posts) ++ after → SourceFacts head posts → 0 < length after
    → place ≡ 52 + 2 * post_count head → FirstBadPart bytes place
unfolding source_of
more_bytes bytes [] head posts place parts facts some at = absurd (omega arith)
more_bytes bytes (byte ∷ rest) head posts place parts facts some at = bytes_left (record {
  source = source_of head posts facts;
  byte = byte;
  rest = rest;
  begins = parts;
  place_is = at ∙ sym (length-source_text (source_of head posts facts));
})

pub told_post : (bytes text : List ℕ) (head : SourceHead) → bytes ≡ source_front_text head ++ drop 52 bytes
    → 2 * post_count head ≤ length (drop 52 bytes) → text ≡ take (2 * post_count head) (drop 52 bytes)
    → (e : DecodeError) → TellsPost head.kind text (post_count head) e → SourceCause bytes e
told_post bytes text head begins whole is Memory told = tt
told_post bytes text head begins whole is (Bad place) told =
    wrong_post bytes text head told.0 place begins whole is told.1.0 told.1.1 told.1.2

-- an error that a `?` hands on
pub handed_on : {T E : Type 0} (r : Result T E) (Says : E → Type 0) (e : E) → Says e
    → IsErrAnd r (λ y. y ≡ e) → IfErr r Says
handed_on (Ok x) Says e said h = tt
handed_on (Err y) Says e said h = subst Says (sym h) said

pub not_empty : (n : ℕ) → false ≡ (n == 0) → 0 < n
not_empty zero e = absurd cc
not_empty (suc n) e = omega arith
