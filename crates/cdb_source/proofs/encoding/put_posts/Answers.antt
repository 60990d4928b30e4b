use Rattle.std.proofs.Common.{rules, arith, ◌≡◌, pos, get_or, refl}
use Rattle.cdb_source.specs.Texts.{post_bytes}
use Rattle.cdb_source.proofs.TextLaws.{posts_more}
use Rattle.cdb_source.proofs.encoding.put_posts.Goals as goal

pub loop-k-init : goal.loop-k-init
loop-k-init c = record { written = refl; room = c.requires }

pub loop-k-preserved : goal.loop-k-preserved
loop-k-preserved c =
    let is : c.to_be_bytes.result ≡ post_bytes (get_or c.args.posts.now c.loop-k.k (pos 0)) = search rules in
    record {
      written = posts_more c.loop-k.k c.put.new.to c.loop-k.to c.to_be_bytes.result c.args.posts.now c.loop-k-test.true
          is c.put.ensures c.loop-k.invariant.written;
      room = omega arith;
    }
