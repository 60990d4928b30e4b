use Rattle.std.proofs.Common.{rules, ◌≡◌, ◌++◌, length}
use Rattle.cdb_source.specs.Texts.{count_bytes}
use Rattle.cdb_model.specs.Records.{record_first_bytes, version_text, sources_text}
use Rattle.cdb_manifest.proofs.ListLaws.{more}
use Rattle.cdb_manifest.proofs.encoding.put_front.Goals as goal

pub returns : goal.returns
returns c =
    let item = c.args.item.now in
    let old = c.args.out.now.items in
    let version : c.to_be_bytes.result ≡ count_bytes c.args.item.now.version = search rules in
    let heads : c.to_be_bytes-2.result ≡ count_bytes (length c.args.item.now.heads) = search rules in
    let tiles : c.to_be_bytes-3.result ≡ count_bytes (length c.args.item.now.tiles) = search rules in
    let s1 : c.extend_from_slice.new.self.items ≡ c.args.out.now.items ++ record_first_bytes =
    c.in_ok-extend_from_slice.ensures.items in
    let s2 = more _ _ _ old record_first_bytes _ c.in_ok-extend_from_slice-2.ensures.items version s1 in
    let s3 = more _ _ _ old (version_text item.version) _ c.in_ok-extend_from_slice-3.ensures.items heads s2 in
    more _ _ _ old (sources_text item.version (length item.heads)) _ c.in_ok-extend_from_slice-4.ensures.items tiles s3
