use Rattle.std.proofs.Common.{◌≡◌, ℕ, ◌+◌, List, [], ◌∷◌, ◌++◌, length, take, sym, ◌∙◌, ap, subst, arith}
use Rattle.std.proofs.lemmas.List.{take_more}
use Rattle.std.proofs.Math.Seq.{take-length}
use Rattle.cdb_source.specs.declared.head.SourceHead.{SourceHead}
use Rattle.cdb_source.specs.Reached.{Reaches, Reached}
use Rattle.cdb_touch.specs.inside.Touched.{AddsTiles}
use Rattle.cdb_touch.proofs.AddLaws.{Adds-none, Adds-then, one_source_more, no_source}
use Rattle.cdb_touch.proofs.gather.push_touched.Goals as goal

pub loop-head-init : goal.loop-head-init
loop-head-init c = Adds-none (Reached []) c.args.tiles.now.items no_source

pub loop-head-preserved : goal.loop-head-preserved
loop-head-preserved c =
    let i : ℕ = c.loop-head.head-index in
    let xs : List SourceHead = c.args.heads.now in
    let e : take (i + 1) xs ≡ take i xs ++ c.head-item.result ∷ [] =
    take_more xs i c.head-item.result c.loop-head-test.true ∙ ap (λ h. take i xs ++ h ∷ []) (sym c.head-item.is) in
    subst (λ ys. AddsTiles (Reached ys) c.args.tiles.now.items c.push_reached.new.tiles.items) (sym e)
    (Adds-then (Reached (take i xs)) (Reaches c.head-item.result) (Reached (take i xs ++ c.head-item.result ∷ []))
    c.args.tiles.now.items c.loop-head.tiles.items c.push_reached.new.tiles.items c.loop-head.invariant
    c.in_ok-push_reached.ensures
    (one_source_more (take i xs) c.head-item.result))

pub returns : goal.returns
returns c =
    let xs : List SourceHead = c.args.heads.now in
    let all : c.loop-head.head-index ≡ length xs = let a = c.loop-head-test.false in
    let b = c.loop-head.auto.head-index-end in omega arith in
    let e : take c.loop-head.head-index xs ≡ xs = ap (λ k. take k xs) all ∙ take-length xs in
    subst (λ ys. AddsTiles (Reached ys) c.args.tiles.now.items c.loop-head.tiles.items) e c.loop-head.invariant
