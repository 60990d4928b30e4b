use Rattle.std.proofs.Common.{◌≡◌, sym, ◌∙◌, ap}
use Rattle.std.specs.Bool.{Decides}
use Rattle.std.proofs.lemmas.Bool.Decides.{Decides-eqb}
use Rattle.std.proofs.lemmas.Slice.Eq.{slice_eq-Decides}
use Rattle.cdb_source.specs.Texts.{source_front_text}
use Rattle.cdb_check.proofs.SourceLaws.{one_front}
use Rattle.cdb_check.proofs.compare.same_head.Goals as goal

pub returns : goal.returns
returns c =
    let a = c.args.a.now in let b = c.args.b.now in
    let x : c.encode_head.result ≡ source_front_text a = c.encode_head.ensures in
    let y : c.encode_head-2.result ≡ source_front_text b = c.encode_head-2.ensures in
    let d : Decides c.eq.result (c.encode_head.result ≡ c.encode_head-2.result) =
    slice_eq-Decides Decides-eqb c.encode_head.result c.encode_head-2.result c.eq.result c.eq.ensures in
    ((λ yes. one_front a b (sym x ∙ d.0 yes ∙ y)), (λ e. d.1 (x ∙ ap source_front_text e ∙ sym y)))
