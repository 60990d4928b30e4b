use Rattle.std.proofs.Common.{◌≡◌, ℕ, ◌≤◌, length, refl, ap, arith, lit<}
use lib.Utf8.{encode}
use Rattle.std.specs.Fmt.{decimal}
use Rattle.std.proofs.lemmas.Fmt.{length-decimal-le}
use Rattle.cdb_manifest.proofs.head_file.write_head.Goals as goal

few : (n : ℕ) → n ≤ 4096 → length (decimal n) ≤ 4
few n most = length-decimal-le 4 n (omega arith) (omega arith) (omega arith)

feed : length (encode 10) ≡ 1
unfolding encode
feed = refl

pub push_str-requires : goal.push_str-requires
push_str-requires c = (
  lit< tt,
  omega (arith, few c.args.n c.requires.most, ap length c.new-text.ensures, ap length c.format.ensures.text),
)

pub push-requires : goal.push-requires
push-requires c = (
  lit< tt,
  omega (
    arith,
    feed,
    few c.args.n c.requires.most,
    c.push_str.ensures.len,
    ap length c.new-text.ensures,
    ap length c.format.ensures.text,
  ),
)
