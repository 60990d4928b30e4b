use Rattle.std.proofs.Common.{◌≡◌, ◌+◌, ◌++◌, ◌∷◌, [], List, length, sym, ap, ◌∙◌, subst, is_ok, cond}
use Rattle.cdb_manifest.specs.declared.record_.Record.{Record}
use Rattle.cdb_chain.specs.Publications.{AreRecords}
use Rattle.cdb_chain.specs.Versions.{Versions, places_of, AreVersions}
use Rattle.cdb_chain.proofs.PlaceLaws.{more_versions}
use Rattle.cdb_chain.proofs.StoreLaws.{one_more}
use Rattle.cdb_chain.proofs.chain.Chain.add.Goals as goal

pub invariant_of-self : goal.invariant_of-self
invariant_of-self c =
    let rs = c.self.inside.records.items in
    let next = c.args.next in
    let items : c.push.new.self.items ≡ rs ++ next ∷ [] =
    subst (λ r. c.push.new.self.items ≡ cond (is_ok r) (rs ++ next ∷ []) rs) c.unwrap.ensures
    c.push.ensures.items in
    let version = c.requires.version ∙ ap (λ (v : Versions). length v.records + 1) (sym c.self.view_is) in
    let pushed = c.push_places.ensures
    ∙ ap (λ ts. c.self.inside.index.items ++ places_of next.version ts) c.as_slice.ensures in
    subst (λ (l : List Record). AreVersions l c.sort_unstable.new.self.items) (sym items)
    (more_versions rs c.self.inside.index.items c.push_places.new.index.items c.sort_unstable.new.self.items next
    c.self.invariant version pushed c.sort_unstable.ensures.permutation c.sort_unstable.ensures.sorted)

pub returns-clause-publication : goal.returns-clause-publication
returns-clause-publication c P x are heads touched =
    let rs = c.self.inside.records.items in
    let next = c.args.next in
    let items : c.push.new.self.items ≡ rs ++ next ∷ [] =
    subst (λ r. c.push.new.self.items ≡ cond (is_ok r) (rs ++ next ∷ []) rs) c.unwrap.ensures
    c.push.ensures.items in
    let version = c.requires.version ∙ ap (λ (v : Versions). length v.records + 1) (sym c.self.view_is) in
    subst (λ (l : List Record). AreRecords l (P ++ x ∷ [])) (sym items)
    (one_more rs P x next (subst (λ (v : Versions). AreRecords v.records P) (sym c.self.view_is) are) version heads
    touched)
