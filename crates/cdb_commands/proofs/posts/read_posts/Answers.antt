use Rattle.std.proofs.Common.{◌≡◌, length, Some, ap, sym, ◌∙◌, arith, List}
use Rattle.std.proofs.lemmas.List.{append-nil}
use Rattle.cdb_model.specs.Text.{Text}
use Rattle.cdb_commands.specs.Left.{left}
use Rattle.cdb_commands.proofs.PostLemmas.{read_all, with_front, word_is, no_word, bad_word, posts_bad, posts_full, posts_empty, posts_done}
use Rattle.cdb_commands.proofs.posts.read_posts.Goals as goal

pub returns-in_default-read_small : goal.returns-in_default-read_small
returns-in_default-read_small c =
    let is = word_is (left c.loop-word.left) (left c.in-Some.rest) c.in-Some.word.now c.in-Some.ensures in
    sym (posts_bad (left c.args.words)
    (bad_word c.loop-word.posts.items _ (left c.loop-word.left) (left c.in-Some.rest) c.in-Some.word.now is
    c.in_default-read_small.ensures c.loop-word.invariant.all))

pub returns-then-len-eq-MOST_POSTS : goal.returns-then-len-eq-MOST_POSTS
returns-then-len-eq-MOST_POSTS c =
    let is = word_is (left c.loop-word.left) (left c.in-Some.rest) c.in-Some.word.now c.in-Some.ensures in
    sym (posts_full (left c.args.words)
    (omega (arith, c.loop-word.invariant.count, ap length is, c.len.ensures.value, c.if-len-eq-MOST_POSTS.true)))

pub returns-then-len-eq0 : goal.returns-then-len-eq0
returns-then-len-eq0 c =
    let none = no_word (left c.loop-word.left) c.in_default.ensures in
    sym (posts_empty (left c.args.words)
    (omega (arith, c.loop-word.invariant.count, ap length none, c.len-2.ensures.value, c.if-len-eq0.true)))

pub returns : goal.returns
returns c =
    let none = no_word (left c.loop-word.left) c.in_default.ensures in
    let items = c.loop-word.posts.items in
    let read : read_all (left c.args.words) ≡ Some items = c.loop-word.invariant.all
    ∙ ap (λ (ws : List Text). with_front items (read_all ws)) none ∙ ap Some (append-nil items) in
    posts_done (left c.args.words) items read
    (omega (arith, c.loop-word.invariant.count, c.len-2.ensures.value, c.if-len-eq0.false))
    (omega (arith, c.loop-word.invariant.count, ap length none, c.loop-word.invariant.few))
