use Rattle.std.proofs.Common.{◌≡◌, ◌∙◌, ◌+◌, ◌*◌, ◌≤◌, List, Some, slice_get, length, sym, ap, subst, arith, rules}
use Rattle.std.proofs.lemmas.Int.{ints}
use Rattle.std.proofs.lemmas.List.{length-take-le}
use Rattle.cdb_source.specs.declared.head.SourceHead.{SourceHead}
use Rattle.cdb_cut.specs.Window.{HasNoWindow}
use Rattle.cdb_publish.specs.Needs.{Need, AreSized, TellsError}
use Rattle.cdb_publish.specs.Windows.{window_need}
use Rattle.cdb_cut.proofs.PaintedSources.{pass_level, pass_window, painted_one}
use Rattle.cdb_publish.proofs.WindowReads.{other_level, no_rows, some_rows, same_at}
use Rattle.cdb_crash.proofs.PlanNumbers.{got}
use Rattle.cdb_publish.proofs.windows.paint_source.Goals as goal

pub returns-then-head-tile-clause-painted : goal.returns-then-head-tile-clause-painted
returns-then-head-tile-clause-painted g c told s at there ss own before =
    let head : SourceHead = c.index-as_slice-number.result in let t = c.args.tile.now in
    let same : head ≡ s.head =
    same_at c.args.plan.now.record.heads c.args.number head s.head c.requires.number (search rules) at in
    pass_level ss t s own c.args.frame.now (λ e. let f : head.level.number
    ≡ t.level.number = ap (λ (h : SourceHead). h.level.number) same ∙ e in
    absurd (omega (arith, ints, c.if-head-tile.true, f))) before

pub returns-then-head-tile-clause-sizes : goal.returns-then-head-tile-clause-sizes
returns-then-head-tile-clause-sizes g c told other at =
    let head : SourceHead = c.index-as_slice-number.result in let t = c.args.tile.now in
    let v = c.args.plan.now.record.version in
    let same : head ≡ other = same_at c.args.plan.now.record.heads c.args.number head other
    c.requires.number (search rules) at in
    subst (AreSized (g.D.Disk.state c.args.disk.now).present) (sym (other_level v (c.args.number + 1) other t
    (λ e. let f : head.level.number ≡ t.level.number = ap (λ (h : SourceHead). h.level.number) same ∙ e in
    absurd (omega (arith, ints, c.if-head-tile.true, f))))) tt

pub returns-in_default-clause-painted : goal.returns-in_default-clause-painted
returns-in_default-clause-painted g c told s at there ss own before =
    let head : SourceHead = c.index-as_slice-number.result in let t = c.args.tile.now in
    let same : head ≡ s.head =
    same_at c.args.plan.now.record.heads c.args.number head s.head c.requires.number (search rules) at in
    pass_window ss t s own c.args.frame.now (subst (λ (h : SourceHead). HasNoWindow h t) same c.in_default.ensures)
    before

pub returns-in_default-clause-sizes : goal.returns-in_default-clause-sizes
returns-in_default-clause-sizes g c told other at =
    let head : SourceHead = c.index-as_slice-number.result in let t = c.args.tile.now in
    let v = c.args.plan.now.record.version in
    let same : head ≡ other = same_at c.args.plan.now.record.heads c.args.number head other
    c.requires.number (search rules) at in
    subst (AreSized (g.D.Disk.state c.args.disk.now).present)
    (sym (no_rows v (c.args.number + 1) other t
    (subst (λ (h : SourceHead). HasNoWindow h t) same c.in_default.ensures))) tt

pub slice_bounds-posts-end : goal.slice_bounds-posts-end
slice_bounds-posts-end g c =
    let head : SourceHead = c.index-as_slice-number.result in let t = c.args.tile.now in
    let v = c.args.plan.now.record.version in
    let here : slice_get c.args.plan.now.record.heads c.args.number ≡ Some head =
    got c.args.plan.now.record.heads c.args.number head c.requires.number (search rules) in
    let level : head.level.number ≡ t.level.number = omega (arith, ints, c.if-head-tile.false) in
    let rows = c.in-Some.rows in
    let room : rows.count * head.cols ≤ length c.args.posts.now =
    c.requires.room head here level rows.first rows.count c.in-Some.ensures in
    omega (arith, room)

pub slice_bounds-posts-end-2 : goal.slice_bounds-posts-end-2
slice_bounds-posts-end-2 g c =
    let head : SourceHead = c.index-as_slice-number.result in let t = c.args.tile.now in
    let v = c.args.plan.now.record.version in
    let here : slice_get c.args.plan.now.record.heads c.args.number ≡ Some head =
    got c.args.plan.now.record.heads c.args.number head c.requires.number (search rules) in
    let level : head.level.number ≡ t.level.number = omega (arith, ints, c.if-head-tile.false) in
    let rows = c.in-Some.rows in
    let room : rows.count * head.cols ≤ length c.args.posts.now =
    c.requires.room head here level rows.first rows.count c.in-Some.ensures in
    omega (arith, room, length-take-le (rows.count * head.cols) c.args.posts.now room)

pub slice_bounds-read_rows-end : goal.slice_bounds-read_rows-end
slice_bounds-read_rows-end g c =
    let head : SourceHead = c.index-as_slice-number.result in let t = c.args.tile.now in
    let v = c.args.plan.now.record.version in
    let here : slice_get c.args.plan.now.record.heads c.args.number ≡ Some head =
    got c.args.plan.now.record.heads c.args.number head c.requires.number (search rules) in
    let level : head.level.number ≡ t.level.number = omega (arith, ints, c.if-head-tile.false) in
    let rows = c.in-Some.rows in
    let room : rows.count * head.cols ≤ length c.args.posts.now =
    c.requires.room head here level rows.first rows.count c.in-Some.ensures in
    omega (arith, room, c.requires.bytes)

pub slice_bounds-read_rows-end-2 : goal.slice_bounds-read_rows-end-2
slice_bounds-read_rows-end-2 g c =
    let head : SourceHead = c.index-as_slice-number.result in let t = c.args.tile.now in
    let v = c.args.plan.now.record.version in
    let here : slice_get c.args.plan.now.record.heads c.args.number ≡ Some head =
    got c.args.plan.now.record.heads c.args.number head c.requires.number (search rules) in
    let level : head.level.number ≡ t.level.number = omega (arith, ints, c.if-head-tile.false) in
    let rows = c.in-Some.rows in
    let room : rows.count * head.cols ≤ length c.args.posts.now =
    c.requires.room head here level rows.first rows.count c.in-Some.ensures in
    let le : 2 * (rows.count * head.cols) ≤ length c.args.bytes.now = omega (arith, room, c.requires.bytes) in
    omega (arith, le, length-take-le (2 * (rows.count * head.cols)) c.args.bytes.now le)

pub read_rows-requires-clause-posts : goal.read_rows-requires-clause-posts
read_rows-requires-clause-posts g c =
    let head : SourceHead = c.index-as_slice-number.result in let t = c.args.tile.now in
    let v = c.args.plan.now.record.version in
    let here : slice_get c.args.plan.now.record.heads c.args.number ≡ Some head =
    got c.args.plan.now.record.heads c.args.number head c.requires.number (search rules) in
    let level : head.level.number ≡ t.level.number = omega (arith, ints, c.if-head-tile.false) in
    let rows = c.in-Some.rows in
    let room : rows.count * head.cols ≤ length c.args.posts.now =
    c.requires.room head here level rows.first rows.count c.in-Some.ensures in
    length-take-le (rows.count * head.cols) c.args.posts.now room

pub paint-requires-clause-posts : goal.paint-requires-clause-posts
paint-requires-clause-posts g c =
    let head : SourceHead = c.index-as_slice-number.result in let t = c.args.tile.now in
    let v = c.args.plan.now.record.version in
    let here : slice_get c.args.plan.now.record.heads c.args.number ≡ Some head =
    got c.args.plan.now.record.heads c.args.number head c.requires.number (search rules) in
    let level : head.level.number ≡ t.level.number = omega (arith, ints, c.if-head-tile.false) in
    let rows = c.in-Some.rows in
    let room : rows.count * head.cols ≤ length c.args.posts.now =
    c.requires.room head here level rows.first rows.count c.in-Some.ensures in
    c.read_rows.auto.posts ∙ length-take-le (rows.count * head.cols) c.args.posts.now room

pub read_rows-requires-clause-bytes : goal.read_rows-requires-clause-bytes
read_rows-requires-clause-bytes g c =
    let head : SourceHead = c.index-as_slice-number.result in let t = c.args.tile.now in
    let v = c.args.plan.now.record.version in
    let here : slice_get c.args.plan.now.record.heads c.args.number ≡ Some head =
    got c.args.plan.now.record.heads c.args.number head c.requires.number (search rules) in
    let level : head.level.number ≡ t.level.number = omega (arith, ints, c.if-head-tile.false) in
    let rows = c.in-Some.rows in
    let room : rows.count * head.cols ≤ length c.args.posts.now =
    c.requires.room head here level rows.first rows.count c.in-Some.ensures in
    length-take-le (2 * (rows.count * head.cols)) c.args.bytes.now (omega (arith, room, c.requires.bytes))
    ∙ ap (λ n. 2 * n) (sym (length-take-le (rows.count * head.cols) c.args.posts.now room))

pub returns-in-Err-clause-sizes : goal.returns-in-Err-clause-sizes
returns-in-Err-clause-sizes g c told other at =
    let head : SourceHead = c.index-as_slice-number.result in let t = c.args.tile.now in
    let v = c.args.plan.now.record.version in
    let here : slice_get c.args.plan.now.record.heads c.args.number ≡ Some head =
    got c.args.plan.now.record.heads c.args.number head c.requires.number (search rules) in
    let level : head.level.number ≡ t.level.number = omega (arith, ints, c.if-head-tile.false) in
    let rows = c.in-Some.rows in
    let room : rows.count * head.cols ≤ length c.args.posts.now =
    c.requires.room head here level rows.first rows.count c.in-Some.ensures in
    let m = (g.D.Disk.state c.args.disk.now).present in
    let same : head ≡ other = same_at c.args.plan.now.record.heads c.args.number head other
    c.requires.number (search rules) at in
    let E : List Need → Type 0 = λ l. TellsError m l c.in-Err.error in
    subst (λ (h : SourceHead). E (window_need v (c.args.number + 1) h t)) same
    (subst E (sym (some_rows v (c.args.number + 1) head t rows.first rows.count level c.in-Some.ensures))
    (c.in-Err.ensures.sizes told))

pub returns-in-Err-clause-reads : goal.returns-in-Err-clause-reads
returns-in-Err-clause-reads g c other at =
    let head : SourceHead = c.index-as_slice-number.result in let t = c.args.tile.now in
    let v = c.args.plan.now.record.version in
    let here : slice_get c.args.plan.now.record.heads c.args.number ≡ Some head =
    got c.args.plan.now.record.heads c.args.number head c.requires.number (search rules) in
    let level : head.level.number ≡ t.level.number = omega (arith, ints, c.if-head-tile.false) in
    let rows = c.in-Some.rows in
    let room : rows.count * head.cols ≤ length c.args.posts.now =
    c.requires.room head here level rows.first rows.count c.in-Some.ensures in
    let same : head ≡ other = same_at c.args.plan.now.record.heads c.args.number head other
    c.requires.number (search rules) at in
    let one : length (window_need v (c.args.number + 1) other t) ≡ 1 =
    ap (λ (h : SourceHead). length (window_need v (c.args.number + 1) h t)) (sym same)
    ∙ ap length (some_rows v (c.args.number + 1) head t rows.first rows.count level c.in-Some.ensures) in
    omega (arith, c.read_rows.ensures.reads, one)

pub returns-clause-painted : goal.returns-clause-painted
returns-clause-painted g c told s at there ss own before =
    let head : SourceHead = c.index-as_slice-number.result in let t = c.args.tile.now in
    let v = c.args.plan.now.record.version in
    let here : slice_get c.args.plan.now.record.heads c.args.number ≡ Some head =
    got c.args.plan.now.record.heads c.args.number head c.requires.number (search rules) in
    let level : head.level.number ≡ t.level.number = omega (arith, ints, c.if-head-tile.false) in
    let rows = c.in-Some.rows in
    let room : rows.count * head.cols ≤ length c.args.posts.now =
    c.requires.room head here level rows.first rows.count c.in-Some.ensures in
    let same : head ≡ s.head =
    same_at c.args.plan.now.record.heads c.args.number head s.head c.requires.number (search rules) at in
    painted_one ss t s own c.args.frame.now c.paint.new.frame c.read_rows.new.posts rows.first rows.count head
    (sym same) c.in-Some.ensures level (c.in-Ok.ensures.posts told s (sym same) there)
    c.paint.ensures.painted before

pub returns-clause-sizes : goal.returns-clause-sizes
returns-clause-sizes g c told other at =
    let head : SourceHead = c.index-as_slice-number.result in let t = c.args.tile.now in
    let v = c.args.plan.now.record.version in
    let here : slice_get c.args.plan.now.record.heads c.args.number ≡ Some head =
    got c.args.plan.now.record.heads c.args.number head c.requires.number (search rules) in
    let level : head.level.number ≡ t.level.number = omega (arith, ints, c.if-head-tile.false) in
    let rows = c.in-Some.rows in
    let room : rows.count * head.cols ≤ length c.args.posts.now =
    c.requires.room head here level rows.first rows.count c.in-Some.ensures in
    let m = (g.D.Disk.state c.args.disk.now).present in
    let same : head ≡ other = same_at c.args.plan.now.record.heads c.args.number head other
    c.requires.number (search rules) at in
    subst (λ (h : SourceHead). AreSized m (window_need v (c.args.number + 1) h t)) same
    (subst (AreSized m) (sym (some_rows v (c.args.number + 1) head t rows.first rows.count level c.in-Some.ensures))
    (c.in-Ok.ensures.sizes told))

pub returns-clause-reads : goal.returns-clause-reads
returns-clause-reads g c other at =
    let head : SourceHead = c.index-as_slice-number.result in let t = c.args.tile.now in
    let v = c.args.plan.now.record.version in
    let here : slice_get c.args.plan.now.record.heads c.args.number ≡ Some head =
    got c.args.plan.now.record.heads c.args.number head c.requires.number (search rules) in
    let level : head.level.number ≡ t.level.number = omega (arith, ints, c.if-head-tile.false) in
    let rows = c.in-Some.rows in
    let room : rows.count * head.cols ≤ length c.args.posts.now =
    c.requires.room head here level rows.first rows.count c.in-Some.ensures in
    let same : head ≡ other = same_at c.args.plan.now.record.heads c.args.number head other
    c.requires.number (search rules) at in
    let one : length (window_need v (c.args.number + 1) other t) ≡ 1 =
    ap (λ (h : SourceHead). length (window_need v (c.args.number + 1) h t)) (sym same)
    ∙ ap length (some_rows v (c.args.number + 1) head t rows.first rows.count level c.in-Some.ensures) in
    omega (arith, c.read_rows.ensures.reads, one)
