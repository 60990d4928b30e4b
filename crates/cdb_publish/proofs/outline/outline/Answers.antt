use Rattle.std.proofs.Common.{◌≡◌, ◌+◌, ◌∙◌, sym, ap, subst, List, length, map, arith, rules}
use Rattle.cdb_source.specs.Reached.{IsTouched}
use Rattle.cdb_source.specs.declared.head.SourceHead.{SourceHead}
use Rattle.cdb_grid.specs.declared.tile.Tile.{Tile}
use Rattle.cdb_model.specs.Publications.{heads_of}
use Rattle.cdb_model.specs.Maps.{folder_above}
use Rattle.cdb_model.specs.Records.{record_text}
use Rattle.cdb_crash.specs.Plan.{each_once}
use Rattle.cdb_publish.specs.Planning.{IsLight, IsAccepted}
use Rattle.cdb_publish.specs.inside.Planning.{paths_in}
use Rattle.std.proofs.lemmas.List.{length-map}
use Rattle.cdb_publish.proofs.EntryLists.{entries_few}
use Rattle.cdb_publish.proofs.PlanBegins.{folders_are, one_publication}
use Rattle.cdb_publish.proofs.outline.outline.Goals as goal

pub returns-then-newest-eq-MOST_VERSIONS-clause-refused : goal.returns-then-newest-eq-MOST_VERSIONS-clause-refused
returns-then-newest-eq-MOST_VERSIONS-clause-refused c =
    let heads = c.as_slice.ensures.value ∙ c.in_ok-heads.ensures in
    let L : List SourceHead → Type 0 = IsLight in
    let T : List SourceHead → Type 0 = λ hs. IsTouched hs c.in-Ok.tiles.items in
    let n : c.len.result ≡ length c.in-Ok.tiles.items = search rules in (
      subst L heads c.in-Ok.ensures.light,
      (
        c.entries.result + c.len.result,
        record {
          tiles = c.in-Ok.tiles.items;
          touched = subst T heads c.in-Ok.ensures.touched;
          count_is = omega (arith, c.entries.ensures, n);
        },
        omega (arith, c.if-count-gt-ENTRY_LIMIT.false),
      ),
      omega (arith, c.newest-newest.ensures.value, c.if-newest-eq-MOST_VERSIONS.true),
    )

pub returns-clause-accepted : goal.returns-clause-accepted
returns-clause-accepted c =
    let heads = c.as_slice.ensures.value ∙ c.in_ok-heads.ensures in
    let L : List SourceHead → Type 0 = IsLight in
    let T : List SourceHead → Type 0 = λ hs. IsTouched hs c.in-Ok.tiles.items in
    let n : c.len.result ≡ length c.in-Ok.tiles.items = search rules in (
      subst L heads c.in-Ok.ensures.light,
      (
        c.entries.result + c.len.result,
        record {
          tiles = c.in-Ok.tiles.items;
          touched = subst T heads c.in-Ok.ensures.touched;
          count_is = omega (arith, c.entries.ensures, n);
        },
        omega (arith, c.if-count-gt-ENTRY_LIMIT.false),
      ),
      omega (arith, c.newest-newest.ensures.value, c.newest-newest.ensures.most, c.if-newest-eq-MOST_VERSIONS.false),
    )

pub returns-clause-plans : goal.returns-clause-plans
returns-clause-plans c P list are =
    let x = c.args.sources.now in
    let heads = c.as_slice.ensures.value ∙ c.in_ok-heads.ensures in
    let L : List SourceHead → Type 0 = IsLight in
    let T : List SourceHead → Type 0 = λ hs. IsTouched hs c.in-Ok.tiles.items in
    let U : List Tile → Type 0 = IsTouched (heads_of x) in
    let n : c.len.result ≡ length c.in-Ok.tiles.items = search rules in
    let touched = subst T heads c.in-Ok.ensures.touched in
    let accepted : IsAccepted c.args.chain.now.records (heads_of x) = (
      subst L heads c.in-Ok.ensures.light,
      (
        c.entries.result + c.len.result,
        record { tiles = c.in-Ok.tiles.items; touched = touched; count_is = omega (arith, c.entries.ensures, n) },
        omega (arith, c.if-count-gt-ENTRY_LIMIT.false),
      ),
      omega (arith, c.newest-newest.ensures.value, c.newest-newest.ensures.most, c.if-newest-eq-MOST_VERSIONS.false),
    ) in
    let v : c.newest-newest.result + 1 ≡ length P + 1 = omega (arith, c.newest-newest.ensures.value, are.count) in
    let h : c.from.result ≡ heads_of x = c.from.ensures ∙ c.in_ok-heads.ensures in
    record {
      list = one_publication c.args.chain.now.records P x list are accepted c.requires.some c.requires.most;
      version = v;
      heads = h;
      touched = subst U (sym c.from-2.ensures) touched;
      bytes = c.in_ok-bytes.ensures ∙ (λ i. record_text (v i) (h i) c.from-2.result);
      folders = c.in_ok-folders.ensures.folders
          ∙ (λ i. each_once
          (map folder_above (paths_in (v i) ((ap length h ∙ length-map x (λ s. s.head)) i) c.from-2.result)))
          ∙ folders_are P x c.from-2.result;
    }

pub overflow_add-count : goal.overflow_add-count
overflow_add-count c =
    omega (
      arith,
      c.entries.ensures,
      entries_few c.args.chain.now.records,
      c.newest-newest.ensures.value,
      c.newest-newest.ensures.most,
      c.in-Ok.ensures.few,
    )
