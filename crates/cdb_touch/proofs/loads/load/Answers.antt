use Rattle.std.proofs.Common.{◌≡◌, ℕ, ◌+◌, List, ◌∷◌, [], ◌++◌, length, take, sym, ◌∙◌, ap, subst, arith}
use Rattle.std.proofs.lemmas.List.{take_more}
use Rattle.std.proofs.Math.Seq.{take-length}
use Rattle.cdb_source.specs.declared.head.SourceHead.{SourceHead}
use Rattle.cdb_source.specs.Reached.{IsLoad}
use Rattle.cdb_source.proofs.LoadLaws.{one_load}
use Rattle.cdb_touch.proofs.CountLaws.{IsLoad-push}
use Rattle.cdb_touch.proofs.loads.load.Goals as goal

pub loop-head-preserved : goal.loop-head-preserved
loop-head-preserved c =
    let i : ℕ = c.loop-head.head-index in
    let xs : List SourceHead = c.args.heads.now in
    let e : take (i + 1) xs ≡ take i xs ++ c.head-item.result ∷ [] =
    take_more xs i c.head-item.result c.loop-head-test.true ∙ ap (λ h. take i xs ++ h ∷ []) (sym c.head-item.is) in
    record {
      load = subst (λ ys. IsLoad ys (c.loop-head.total + c.reach_count.result)) (sym e)
          (IsLoad-push (take i xs) c.head-item.result c.loop-head.total c.reach_count.result c.loop-head.invariant.load
          c.reach_count.ensures);
      most = let t = c.reach_count.type_inv in let m = c.loop-head.invariant.most in omega arith;
    }

pub returns-clause-only : goal.returns-clause-only
returns-clause-only c n a =
    let xs : List SourceHead = c.args.heads.now in
    let all : c.loop-head.head-index ≡ length xs = let a = c.loop-head-test.false in
    let b = c.loop-head.auto.head-index-end in omega arith in
    let e : take c.loop-head.head-index xs ≡ xs = ap (λ k. take k xs) all ∙ take-length xs in
    let l : IsLoad xs c.loop-head.total = subst (λ ys. IsLoad ys c.loop-head.total) e c.loop-head.invariant.load in
    one_load c.args.heads.now n c.loop-head.total a l
