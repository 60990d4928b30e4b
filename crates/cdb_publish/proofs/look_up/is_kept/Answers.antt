use Rattle.std.proofs.Common.{◌≡◌, ℕ, true, false, if◌then◌else◌, Option, Some, None, refl, sym, ap, ◌∙◌}
use Rattle.std.specs.Option.{is_some}
use Rattle.cdb_chain.specs.LookUps.{is_listed}
use Rattle.cdb_publish.specs.LookUps.{look_before}
use Rattle.cdb_publish.proofs.look_up.is_kept.Goals as goal

some_of : (o : Option ℕ) → is_some o ≡ true → (v : ℕ) × (o ≡ Some v)
some_of None e = absurd cc
some_of (Some v) e = (v, refl)

pub returns : goal.returns
returns c found =
    let p = c.args.plan.now in let kept = c.args.chain.now.records in let t = c.args.tile.now in
    let some = some_of c.look_before.result (sym c.is_some.ensures ∙ found) in
    let unlisted : is_listed p.record.tiles t ≡ false =
    ap (λ ts. is_listed ts t) (sym c.as_slice.ensures) ∙ sym c.is_listed.ensures ∙ c.if-is_listed.false in (
      unlisted,
      (
        some.0,
        ap (λ b. if b then Some p.record.version else look_before p kept t) unlisted
            ∙ sym c.look_before.ensures.named ∙ some.1,
      ),
    )
