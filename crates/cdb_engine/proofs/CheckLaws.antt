-- The check of a store, by what an engine tracks.
use Rattle.std.proofs.Common.{◌≡◌, ℕ, List, [], Option, None, Some, IfOk, Result, Ok, Err, refl, sym, ◌∙◌, subst, arith}
use Rattle.cdb_model.specs.KnownStore.{KnownState, Going}
use Rattle.cdb_model.specs.Maps.{FileMap}
use Rattle.cdb_model.specs.Publications.{Publication}
use Rattle.cdb_model.specs.Stands.{Stands}
use Rattle.cdb_model.specs.Stores.{Which, known, any, store_kind}
use Rattle.cdb_model.specs.Transitions.{StateIn}
use Rattle.cdb_manifest.specs.declared.record_.Record.{Record}
use Rattle.cdb_files.specs.Disk as disk
use Rattle.cdb_files.specs.Disk.{IsImage}
use Rattle.cdb_chain.specs.Publications.{AreRecords}
use Rattle.cdb_publish.specs.declared.publication.Publication as publish
use Rattle.cdb_check.specs.Expected.{expected_files}
use Rattle.cdb_check.specs.Laws.{IsFileCount}
use Rattle.cdb_check.specs.Outcome.{FirstDiffering, OnlyReads, TellsCounts}
use Rattle.cdb_check.specs.declared.outcome.Agreed.{Agreed}
use Rattle.cdb_check.specs.declared.outcome.CheckError.{CheckError}
use Rattle.cdb_check.specs.declared.outcome.CheckError.TheVariants.{Memory, Fault, Differs}
use Rattle.cdb_check.proofs.ExpectedLaws.{one_or_other}
use Rattle.cdb_check.proofs.KeptLaws.{agrees_after}
use Rattle.cdb_check.proofs.RecordsOf.{of_records, counted}
use Rattle.cdb_engine.specs.Checks.{AgreesWith}
use Rattle.cdb_engine.specs.Held.{Held}
use Rattle.cdb_engine.specs.Stays.{Stays}
use Rattle.cdb_engine.specs.Tracks.{Works, Tracks, Origin}

-- ---- a store that stands for a list agrees with it

agrees_with : (m : FileMap) (list : List Publication) (records : List Record) (result : Result Agreed CheckError)
    → Stands m list → AreRecords records list → FirstDiffering m (expected_files records) result
    → IfOk result (TellsCounts records)
    → AgreesWith list result
agrees_with m list records (Ok agreed) stands are found told = (
  told.versions ∙ are.count,
  subst (IsFileCount list) (sym told.files) (counted 0 [] records list (of_records records list are)),
)
agrees_with m list records (Err Memory) stands are found told = tt
agrees_with m list records (Err Fault) stands are found told = tt
agrees_with m list records (Err (Differs path)) stands are found told =
    one_or_other m (expected_files records) path.bytes
    (agrees_after m list stands [] list refl records [] (of_records records list are) tt) found

-- the disk stands for the list at present, where no publication was given up
present_stands : (held : Held) (d : disk.State) (s : KnownState) → Tracks held d s → s.halted ≡ None
    → IsImage d d.present
    → Stands d.present s.list
present_stands held d s t running image = by s.going s.halted held.work held.halted running t.works
  where
    by : (going : Option Going) (given_up : Option Publication) (work : Option publish.Publication)
        (faults : Option ℕ) → given_up ≡ None → Works s.list going given_up work faults held.chain d
        → Stands d.present s.list
    by None None None None none w = w.whole.stands d.present image
    by (Some now) None (Some work) None none w = w.underway.mid.whole.stands d.present image
    by None (Some x) None (Some faults) none w = absurd cc
    by _ _ _ _ none w = absurd w

pub tracked_agrees : (held : Held) (d : disk.State) (s : KnownState) (result : Result Agreed CheckError)
    → Tracks held d s
    → s.halted ≡ None → IsImage d d.present → FirstDiffering d.present (expected_files held.chain.records) result
    → IfOk result (TellsCounts held.chain.records) → AgreesWith s.list result
tracked_agrees held d s result t running image found told =
    agrees_with d.present s.list held.chain.records result
    (present_stands held d s t running image) t.records found told

-- ---- a check only reads

module _ {D : Type 0} (tells : Type 0) (clock count : D → ℕ) (since : D → ℕ → FileMap → Type 0) (state : D → disk.State)
    (origin : Origin) (old new : D) (held : Held) (looks : OnlyReads clock since state count old new) where
  pub stays_looked : (w : Which) (s : StateIn (store_kind w)) → Stays tells clock count since state origin old held w s
      → Stays tells clock count since state origin new held w s
  stays_looked known s stays =
      let f = stays.is in
      record {
        is = record {
          told = f.told;
          opened_after = f.opened_after;
          earlier = let e = f.earlier in let n = looks.time.same in omega (arith, e, n);
          no_fewer = let e = f.no_fewer in let l = looks.later in omega (arith, e, l);
          begun = f.begun;
          has_begun = f.has_begun;
          tracks = subst (λ (d : disk.State). Tracks held d s) (sym looks.state) f.tracks;
          images = λ m was. f.images m (looks.time.nothing_else origin.store.moment m was);
          later_images = λ m was. f.later_images m (looks.time.nothing_else origin.opened m was);
          halt = f.halt;
        };
      }
  stays_looked any s stays = record { is = stays.is }
