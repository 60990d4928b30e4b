use Rattle.std.proofs.Common.{◌≡◌, ◌+◌, ◌∙◌, List, [], ◌∷◌, ◌++◌, take, drop, length, length-append, sym, ap, subst, arith}
use Rattle.std.specs.List.{flat_map}
use Rattle.std.proofs.lemmas.List.{take_more, take_all}
use Rattle.cdb_grid.specs.Children.{IsParent}
use Rattle.cdb_grid.specs.declared.tile.Tile.{Tile}
use Rattle.cdb_files.specs.Disk.{State}
use Rattle.cdb_cut.specs.OneTile.{IsFolded}
use Rattle.cdb_publish.specs.LookUps.{look, needs_of, child_needs}
use Rattle.cdb_publish.specs.inside.LookUps.{IsNamed}
use Rattle.cdb_publish.specs.inside.Older.{folded_needs}
use Rattle.cdb_publish.specs.Needs.{Need, AreSized, TellsError}
use Rattle.cdb_cut.proofs.FinerTiles.{parents, all_folded}
use Rattle.cdb_publish.proofs.ChildLaws.{needs_at, needs_more}
use Rattle.cdb_files.proofs.MomentLaws.{rests_then}
use Rattle.cdb_publish.proofs.Sizes.{stopped, sized-append}
use Rattle.cdb_publish.proofs.folding.fold_children.Goals as goal

pub take_child-requires-clause-parent : goal.take_child-requires-clause-parent
take_child-requires-clause-parent g c =
    subst (λ x. IsParent x c.args.tile.now) (sym c.child-item.is)
    (parents c.args.tile.now c.args.children.now c.requires.children c.loop-child.child-index c.child-item.result
    c.loop-child-test.true)

pub returns-in-Err-clause-sizes : goal.returns-in-Err-clause-sizes
returns-in-Err-clause-sizes g c told =
    let p = c.args.plan.now in let kept = c.args.chain.now.records in let items : List Tile = c.args.children.now in
    let k = c.loop-child.child-index in let d = c.child-item.result in
    let E : State → Type 0 = λ s. TellsError s.present (needs_of d (look p kept d)) c.in-Err.error in
    stopped (g.D.Disk.state c.args.disk.now).present (child_needs p kept (take k items)) (needs_of d (look p kept d))
    (child_needs p kept (drop (k + 1) items)) (child_needs p kept items) c.in-Err.error
    (needs_at (λ x. needs_of x (look p kept x)) items k d c.loop-child-test.true c.child-item.is)
    (c.loop-child.invariant.sizes told)
    (subst E c.loop-child.invariant.state (c.in-Err.ensures.sizes told))

pub returns-in-Err-clause-reads : goal.returns-in-Err-clause-reads
returns-in-Err-clause-reads g c =
    let p = c.args.plan.now in let kept = c.args.chain.now.records in let items : List Tile = c.args.children.now in
    let k = c.loop-child.child-index in let d = c.child-item.result in
    let f : Tile → List Need = folded_needs c.args.from_older p kept in
    omega (
      arith,
      c.loop-child.invariant.reads,
      c.take_child.ensures.reads,
      ap length (needs_at f items k d c.loop-child-test.true c.child-item.is),
      length-append (flat_map f (take k items)) (f d ++ flat_map f (drop (k + 1) items)),
      length-append (f d) (flat_map f (drop (k + 1) items)),
    )

pub loop-child-preserved : goal.loop-child-preserved
loop-child-preserved g c =
    let p = c.args.plan.now in let kept = c.args.chain.now.records in let items : List Tile = c.args.children.now in
    let k = c.loop-child.child-index in let d = c.child-item.result in
    let t = c.args.tile.now in let inv = c.loop-child.invariant in let here = g.D.Disk.state c.args.disk.now in
    let more : take (k + 1) items ≡ take k items ++ d ∷ [] = take_more items k d c.loop-child-test.true
    ∙ ap (λ x. take k items ++ x ∷ []) (sym c.child-item.is) in
    let needs = needs_more (λ x. needs_of x (look p kept x)) items k d c.loop-child-test.true c.child-item.is in
    let S : State → Type 0 = λ s. AreSized s.present (needs_of d (look p kept d)) in
    let A : List Need → Type 0 = AreSized here.present in
    let f : Tile → List Need = folded_needs c.args.from_older p kept in
    record {
      state = c.take_child.ensures.state ∙ inv.state;
      time = rests_then _ _ _ _ _ _ inv.time c.take_child.ensures.time;
      later = omega (arith, inv.later, c.take_child.ensures.cause.later);
      sizes = λ told. subst A (sym needs)
          (sized-append here.present (child_needs p kept (take k items)) (needs_of d (look p kept d)) (inv.sizes told)
          (subst S inv.state (c.in-Ok.ensures.sizes told)));
      reads = omega (
        arith,
        inv.reads,
        c.take_child.ensures.reads,
        ap length (needs_more f items k d c.loop-child-test.true c.child-item.is),
        length-append (flat_map f (take k items)) (f d),
      );
      folded = λ told ss start all stays plain begun.
          let N : State → Type 0 = λ s. IsNamed s.present ss d (look p kept d) in
          let one : IsNamed here.present ss d (look p kept d) = subst (λ x. IsNamed here.present ss x (look p kept x))
          (sym c.child-item.is) (all k d c.loop-child-test.true) in
          subst (λ xs. IsFolded ss t start xs c.take_child.new.frame) (sym more)
          (c.in-Ok.ensures.folded told ss start (take k items) (subst N (sym inv.state) one)
          (λ older unlisted. stays older d unlisted) plain (inv.folded told ss start all stays plain begun));
    }

pub returns-clause-folded : goal.returns-clause-folded
returns-clause-folded g c told ss start all stays plain begun =
    let items : List Tile = c.args.children.now in
    let end : take c.loop-child.child-index items ≡ items =
    take_all c.loop-child.child-index items c.loop-child-test.false in
    all_folded ss c.args.tile.now start items c.loop-child.frame c.requires.children
    (subst (λ xs. IsFolded ss c.args.tile.now start xs c.loop-child.frame) end
    (c.loop-child.invariant.folded told ss start all stays plain begun))

pub returns-clause-sizes : goal.returns-clause-sizes
returns-clause-sizes g c told =
    let p = c.args.plan.now in let kept = c.args.chain.now.records in let items : List Tile = c.args.children.now in
    let end : take c.loop-child.child-index items ≡ items =
    take_all c.loop-child.child-index items c.loop-child-test.false in
    subst (λ xs. AreSized (g.D.Disk.state c.args.disk.now).present (child_needs p kept xs)) end
    (c.loop-child.invariant.sizes told)

pub returns-clause-reads : goal.returns-clause-reads
returns-clause-reads g c =
    let p = c.args.plan.now in let kept = c.args.chain.now.records in let items : List Tile = c.args.children.now in
    let end : take c.loop-child.child-index items ≡ items =
    take_all c.loop-child.child-index items c.loop-child-test.false in
    omega (
      arith,
      c.loop-child.invariant.reads,
      ap (λ xs. length (flat_map (folded_needs c.args.from_older p kept) xs)) end,
    )
