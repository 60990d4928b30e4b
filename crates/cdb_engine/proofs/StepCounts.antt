-- How many steps a publication has that begins, and the entries of records.
use Rattle.std.proofs.Common.{◌≡◌, ◌+◌, List, [], ◌∷◌, ◌++◌, length}
use Rattle.std.proofs.Common.{sym, ap, ◌∙◌, arith}
use Rattle.std.proofs.lemmas.List.{length-map}
use Rattle.std.proofs.lemmas.List.Sums.{sum_by-cons}
use Rattle.cdb_source.specs.declared.source.Source.{Source}
use Rattle.cdb_manifest.specs.declared.record_.Record.{Record}
use Rattle.cdb_model.specs.Publications as model
use Rattle.cdb_model.specs.Publications.{Publication, IsEntryCount, file_paths, folders_above}
use Rattle.cdb_model.specs.Publications.{step_count}
use Rattle.cdb_crash.specs.Plan as crash
use Rattle.cdb_crash.proofs.PlanLaws.{folders_by_paths}
use Rattle.cdb_chain.specs.Publications.{AreRecords}
use Rattle.cdb_publish.specs.Entries.{entries_in}
use Rattle.cdb_publish.specs.Fitting.{Plans, steps_before_head}
use Rattle.cdb_publish.specs.declared.plan.Plan.{Plan}
use Rattle.cdb_publish.proofs.PlanBegins.{entry_count}

-- all steps of a plan are those of its publication
pub steps_are : (p : Plan) (P : List Publication) (x : Publication) → Plans p P x
    → steps_before_head p + 1 ≡ step_count P x p.record.tiles
steps_are p P x plans =
    let heads : length p.record.heads ≡ length x = ap length plans.heads ∙ length-map x (λ (s : Source). s.head) in
    let folders : length p.folders.keys ≡ length (folders_above (file_paths P x p.record.tiles)) =
    sym (length-map p.folders.keys (λ folder. folder.bytes)) ∙ ap length plans.folders
    ∙ ap length (folders_by_paths P x p.record.tiles) in
    omega (arith, heads, folders)

-- ---- entries

-- the entries of a list's records are those of the list
pub entries_are : (kept : List Record) (P : List Publication) → AreRecords kept P → IsEntryCount P (entries_in kept)
entries_are kept P are = entry_count kept P are.count are.tiles

-- and one record more has its tiles more
pub entries_more : (kept : List Record) (item : Record)
    → entries_in (kept ++ item ∷ []) ≡ entries_in kept + length item.tiles
entries_more [] item = omega arith
entries_more (r ∷ kept) item =
    let more : entries_in (kept ++ item ∷ []) ≡ entries_in kept + length item.tiles = entries_more kept item in
    let a : entries_in (r ∷ (kept ++ item ∷ [])) ≡ length r.tiles + entries_in (kept ++ item ∷ []) =
    sum_by-cons (λ (q : Record). length q.tiles) r (kept ++ item ∷ []) in
    let b : entries_in (r ∷ kept) ≡ length r.tiles + entries_in kept =
    sum_by-cons (λ (q : Record). length q.tiles) r kept in
    a ∙ (let e : length r.tiles + entries_in (kept ++ item ∷ []) ≡ entries_in (r ∷ kept) + length item.tiles =
    omega (arith, more, b) in e)
