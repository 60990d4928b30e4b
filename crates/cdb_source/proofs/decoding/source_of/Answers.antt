use Rattle.std.proofs.Common.{arith, ◌≡◌, ◌*◌, ◌<◌, ◌≤◌, ◌∙◌, length, take, drop, ap, refl}
use Rattle.std.proofs.lemmas.List.{length-append}
use Rattle.cdb_source.specs.Texts.{source_front_text}
use Rattle.cdb_source.specs.Decoding.{post_count, SourceCause}
use Rattle.cdb_source.proofs.TextLaws.{length-front_text}
use Rattle.cdb_source.proofs.DecodingLaws.{cut_posts, told_post, handed_on, parts_are, more_bytes, not_empty}
use Rattle.cdb_source.proofs.decoding.source_of.Goals as goal

pub split_at-requires : goal.split_at-requires
split_at-requires c =
    let head = c.in_ok-head.head in
    let whole = ap length c.in_ok-head.ensures.head ∙ length-append (source_front_text c.in_ok-head.head)
    (drop 52 c.args.bytes.now) in
    omega (arith, whole, length-front_text c.in_ok-head.head)

pub returns-then-rest-count-clause-bad : goal.returns-then-rest-count-clause-bad
returns-then-rest-count-clause-bad c =
    let back : c.split_at.result.1.now ≡ drop 52 c.args.bytes.now = c.split_at.ensures.back in
    cut_posts c.args.bytes.now c.in_ok-head.head c.in_ok-head.ensures.head (rw (← back) c.if-rest-count.true)

pub returns-in_err-posts-clause-bad : goal.returns-in_err-posts-clause-bad
returns-in_err-posts-clause-bad c =
    let bytes = c.args.bytes.now in
    let head = c.in_ok-head.head in
    let back : c.split_at.result.1.now ≡ drop 52 c.args.bytes.now = c.split_at.ensures.back in
    let whole : 2 * post_count head ≤ length (drop 52 c.args.bytes.now) = rw (← back) c.if-rest-count.false in
    let text : c.split_at-2.result.0.now ≡ take (2 * post_count head) (drop 52 c.args.bytes.now) =
    rw (← back) c.split_at-2.ensures.front in
    let told = told_post bytes c.split_at-2.result.0.now head c.in_ok-head.ensures.head whole text
    c.in_err-posts.field-0.0 c.in_err-posts.ensures.bad in
    handed_on c.from_residual-in_err-posts.result (SourceCause bytes) c.in_err-posts.field-0.0 told
    c.from_residual-in_err-posts.ensures.1

pub returns-then-not-is_empty-clause-bad : goal.returns-then-not-is_empty-clause-bad
returns-then-not-is_empty-clause-bad c =
    let bytes = c.args.bytes.now in
    let head = c.in_ok-head.head in
    let back : c.split_at.result.1.now ≡ drop 52 c.args.bytes.now = c.split_at.ensures.back in
    let text : c.split_at-2.result.0.now ≡ take (2 * post_count head) (drop 52 c.args.bytes.now) =
    rw (← back) c.split_at-2.ensures.front in
    let after : c.split_at-2.result.1.now ≡ drop (2 * post_count head) (drop 52 c.args.bytes.now) =
    rw (← back) c.split_at-2.ensures.back in
    let read = c.in_ok-posts.ensures.read in
    let parts = parts_are bytes c.split_at-2.result.0.now c.split_at-2.result.1.now head
    c.in_ok-posts.posts.items c.in_ok-head.ensures.head text after read.0.spelled in
    let some : 0 < length c.split_at-2.result.1.now =
    not_empty (length c.split_at-2.result.1.now) c.if-not-is_empty.ensures in
    more_bytes bytes c.split_at-2.result.1.now head c.in_ok-posts.posts.items _ parts (read.1, read.0.allowed) some refl
