use Rattle.std.proofs.Common.{rules, ◌≡◌, [], ◌∷◌, refl, sym, List, ℕ}
use Rattle.std.proofs.lemmas.List.{append-nil}
use Rattle.std.specs.Int.{w8, w16, to_be_bytes, cast_unsigned}
use Rattle.cdb_source.specs.Texts.{count_bytes}
use Rattle.cdb_model.specs.Records.{family_number, entry_text}
use Rattle.cdb_manifest.proofs.ListLaws.{more}
use Rattle.cdb_manifest.proofs.encoding.put_entry.Goals as goal

pub returns : goal.returns
unfolding entry_text
returns c =
    let tile = c.args.tile.now in
    let old = c.args.out.now.items in
    let first : c.family_number.result ∷ c.cast_unsigned-level.result ∷ c.cast_unsigned-lat.result ∷ 0 ∷ []
    ≡ family_number c.args.tile.now.family ∷ cast_unsigned w8 c.args.tile.now.level.number
    ∷ cast_unsigned w8 c.args.tile.now.cell.lat ∷ 0 ∷ [] = search rules in
    let lon : c.to_be_bytes.result ≡ to_be_bytes w16 (cast_unsigned w16 c.args.tile.now.cell.lon) = search rules in
    let up : c.to_be_bytes-2.result ≡ count_bytes c.args.tile.now.up = search rules in
    let right : c.to_be_bytes-3.result ≡ count_bytes c.args.tile.now.right = search rules in
    let zeros : List ℕ = 0 ∷ 0 ∷ [] in
    let s1 = more _ _ _ old [] _ c.in_ok-extend_from_slice.ensures.items first (sym (append-nil old)) in
    let s2 = more _ _ _ old _ _ c.in_ok-extend_from_slice-2.ensures.items lon s1 in
    let s3 = more _ _ _ old _ _ c.in_ok-extend_from_slice-3.ensures.items refl s2 in
    let s4 = more _ _ _ old _ _ c.in_ok-extend_from_slice-4.ensures.items up s3 in
    more _ _ _ old _ _ c.in_ok-extend_from_slice-5.ensures.items right s4
