use Rattle.std.proofs.Common.{rules, arith, ◌≡◌, [], ◌∷◌, take, refl, sym, ◌∙◌}
use Rattle.std.proofs.lemmas.List.{take_all}
use Rattle.cdb_source.specs.Texts.{source_first_bytes, kind_and_level, count_bytes, arc_bytes, head_text}
use Rattle.cdb_source.proofs.TextLaws.{then_part}
use Rattle.cdb_source.proofs.encoding.encode_head.Goals as goal

pub returns : goal.returns
unfolding head_text
returns c =
    let head = c.args.head.now in
    let e1 : c.kind_number.result ∷ c.cast_unsigned.result ∷ 0 ∷ 0 ∷ [] ≡ kind_and_level head.kind head.level.number =
    search rules in
    let e2 : c.to_be_bytes.result ≡ count_bytes head.rows = search rules in
    let e3 : c.to_be_bytes-2.result ≡ count_bytes head.cols = search rules in
    let e4 : c.to_be_bytes-3.result ≡ arc_bytes head.lat.units = search rules in
    let e5 : c.to_be_bytes-4.result ≡ arc_bytes head.lon.units = search rules in
    let e6 : c.to_be_bytes-5.result ≡ arc_bytes head.dlat.units = search rules in
    let e7 : c.to_be_bytes-6.result ≡ arc_bytes head.dlon.units = search rules in
    let s1 : take 8 c.put.new.to ≡ source_first_bytes = c.put.ensures in
    let s2 = then_part 8 12 c.put-2.new.to c.put.new.to _ _ _ e1 refl c.put-2.ensures s1 in
    let s3 = then_part 12 16 c.put-3.new.to c.put-2.new.to _ _ _ e2 refl c.put-3.ensures s2 in
    let s4 = then_part 16 20 c.put-4.new.to c.put-3.new.to _ _ _ e3 refl c.put-4.ensures s3 in
    let s5 = then_part 20 28 c.put-5.new.to c.put-4.new.to _ _ _ e4 refl c.put-5.ensures s4 in
    let s6 = then_part 28 36 c.put-6.new.to c.put-5.new.to _ _ _ e5 refl c.put-6.ensures s5 in
    let s7 = then_part 36 44 c.put-7.new.to c.put-6.new.to _ _ _ e6 refl c.put-7.ensures s6 in
    let s8 = then_part 44 52 c.put-8.new.to c.put-7.new.to _ _ _ e7 refl c.put-8.ensures s7 in
    sym (take_all 52 c.put-8.new.to (omega arith)) ∙ s8
