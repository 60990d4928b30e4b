-- Frames that were written to are as long as before.
use Rattle.std.proofs.Common.{◌≡◌, ℕ, ℤ, List, length, sym, ap, ◌∙◌, subst, arith}
use Rattle.std.specs.Vec.{with_items}
use Rattle.std.specs.declared.vec.Vec.{Vec}
use Rattle.std.proofs.lemmas.List.{with_items_is}
use Rattle.cdb_publish.specs.Ready.{IsReady}
use Rattle.cdb_publish.specs.Windows.{HasRoom}
use Rattle.cdb_publish.specs.declared.frames.Frames.{Frames}
use Rattle.cdb_publish.specs.declared.plan.Plan.{Plan}

pub written : {X Z : Type 0} (v : Vec X Z) (ws : List X) → length ws ≡ length v.items → (with_items v ws).items ≡ ws
written v ws e = with_items_is v ws (e ∙ sym v.ok.0)

long : {X Z : Type 0} (v : Vec X Z) (ws : List X) → length ws ≡ length v.items
    → length (with_items v ws).items ≡ length v.items
long v ws e = ap length (written v ws e) ∙ e

pub ready_after : (p : Plan) (f : Frames) (bytes : List ℕ) (posts scratch : List ℤ) → IsReady p f
    → length bytes ≡ length f.bytes.items → length posts ≡ length f.posts.items
    → length scratch ≡ length f.scratch.items
    → IsReady p
    (record {
      bytes = with_items f.bytes bytes;
      posts = with_items f.posts posts;
      scratch = with_items f.scratch scratch;
    })
ready_after p f bytes posts scratch ready a b c = record {
  bytes = omega (arith, ready.bytes, long f.bytes bytes a);
  posts = omega (arith, ready.posts, long f.posts posts b);
  scratch = omega (arith, ready.scratch, long f.scratch scratch c);
  row_bytes = omega (arith, ready.row_bytes, long f.bytes bytes a, long f.scratch scratch c);
  room = λ i t at. let R : ℕ → Type 0 = λ n. HasRoom p.record.heads t n in
      subst R (sym (long f.scratch scratch c)) (ready.room i t at);
}
