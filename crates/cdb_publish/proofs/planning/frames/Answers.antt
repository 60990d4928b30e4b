use Rattle.std.proofs.Common.{◌≡◌, ℕ, List, length, Some, sym, subst, arith}
use Rattle.std.specs.Prelude.{slice_get}
use Rattle.cdb_grid.specs.declared.tile.Tile.{Tile}
use Rattle.cdb_source.specs.declared.head.SourceHead.{SourceHead}
use Rattle.cdb_publish.specs.Windows.{HasRoom}
use Rattle.cdb_publish.proofs.RoomLaws.{all_wider}
use Rattle.cdb_publish.proofs.planning.frames.Goals as goal

pub returns : goal.returns
returns c =
    let posts : length c.in_ok-scratch.scratch.items ≡ c.max-room.result =
    omega (arith, c.in_ok-scratch.ensures.len, c.in_ok-scratch.scratch.ok.0) in
    record {
      bytes = omega (arith, c.max-room.ensures, c.in_ok-bytes.ensures.len, c.in_ok-bytes.bytes.ok.0);
      posts = omega (arith, c.in_ok-posts.ensures.len, c.in_ok-posts.posts.ok.0);
      scratch = omega (arith, c.max-room.ensures, posts);
      row_bytes = omega (arith, posts, c.in_ok-bytes.ensures.len, c.in_ok-bytes.bytes.ok.0);
      room = λ i t at.
          let T : List Tile → Type 0 = λ ts. slice_get ts i ≡ Some t in
          let H : List SourceHead → Type 0 = λ hs. HasRoom hs t c.largest_window-window.result in
          let R : ℕ → Type 0 = λ n. HasRoom c.args.plan.now.record.heads t n in
          subst R (sym posts)
          (all_wider c.args.plan.now.record.heads t c.largest_window-window.result c.max-room.result
          (omega (arith, c.max-room.ensures))
          (subst H
          c.as_slice.ensures (c.largest_window-window.ensures.room i t (subst T (sym c.as_slice-2.ensures) at))));
    }
