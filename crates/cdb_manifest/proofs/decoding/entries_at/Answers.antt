use Rattle.std.proofs.Common.{arith, ◌≡◌, ◌+◌, ◌*◌, List, refl, ◌++◌, ◌∷◌, [], length, subst, sym, ap, ◌∙◌}
use Rattle.std.proofs.lemmas.List.{length_push}
use Rattle.cdb_grid.specs.declared.tile.Tile.{Tile}
use Rattle.cdb_manifest.specs.Entries.{Ascending}
use Rattle.cdb_manifest.proofs.EntryLaws.{entry_cancel}
use Rattle.cdb_manifest.proofs.DecodingLaws.{read_more}
use Rattle.cdb_manifest.proofs.decoding.entries_at.Goals as goal

pub returns-then-not-comes_after-clause-bad : goal.returns-then-not-comes_after-clause-bad
returns-then-not-comes_after-clause-bad c =
    let known = c.as_slice.ensures.value in
    let only = c.if-not-comes_after.ensures.only in
    let entry = c.in-Some.ensures in
    let count = c.loop-k.invariant.count in
    record {
      tiles = c.loop-k.tiles.items;
      rest = c.loop-k.rest.now;
      begins = c.loop-k.invariant.read;
      few = omega arith;
      ordered = c.loop-k.invariant.ordered;
      never = λ tile after asc e.
          let same = (entry_cancel c.in-Some.tile tile c.in-Some.after.now after (sym entry ∙ e)).0 in
          let here : Ascending (c.as_slice.result.now ++ c.in-Some.tile ∷ []) = rw (known, same) asc in
          let wrong = only here in absurd cc;
      place_is = ap (λ n. c.args.start + 16 * n) (sym count);
    }

pub loop-k-preserved : goal.loop-k-preserved
loop-k-preserved c =
    let known : c.as_slice.result.now ≡ c.loop-k.tiles.items = c.as_slice.ensures.value in
    let items : c.push.new.self.items ≡ c.loop-k.tiles.items ++ c.in-Some.tile ∷ [] = c.in_ok-push.ensures.items in
    let asc : Ascending (c.as_slice.result.now ++ c.in-Some.tile ∷ []) = c.if-not-comes_after.ensures.yes refl in
    let here : Ascending (c.loop-k.tiles.items ++ c.in-Some.tile ∷ []) =
    subst (λ (ts : List Tile). Ascending (ts ++ c.in-Some.tile ∷ [])) known asc in
    let count : length c.loop-k.tiles.items ≡ c.loop-k.k = c.loop-k.invariant.count in
    record {
      read = rw items
          (read_more c.args.bytes.now c.loop-k.rest.now c.in-Some.after.now c.loop-k.tiles.items c.in-Some.tile
          c.loop-k.invariant.read c.in-Some.ensures);
      count = rw items (length_push c.loop-k.tiles.items c.in-Some.tile ∙ ap (λ n. n + 1) count);
      ordered = subst (λ (ts : List Tile). Ascending ts) (sym items) here;
    }
