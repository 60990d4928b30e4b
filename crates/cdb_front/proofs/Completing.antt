-- Where no device fails, a run says what the machine's table says.
use Rattle.std.proofs.Common.{◌≡◌, ℕ, ◌⊎◌, inl, inr, List, Option, refl, subst, arith}
use Rattle.cdb_model.specs.AnswerTexts.{shelf_fault, disk_fault, tally}
use Rattle.cdb_model.specs.KnownStore.{start_at}
use Rattle.cdb_model.proofs.HaltLaws.{plain_answers}
use Rattle.cdb_front.proofs.InTime.{in_time, quits}
use Rattle.cdb_front.specs.Completeness.{RunsAreComplete}
use Rattle.cdb_front.specs.Headline.{Devices}
use Rattle.cdb_front.specs.RunOutcome.{EndsWith, is_whole, is_part, IsOfStore}
use Rattle.cdb_front.specs.RunProgress.{Holds}
use Rattle.cdb_front.specs.declared.exit_status.Status.{Status}
use Rattle.cdb_front.specs.declared.exit_status.Status.TheVariants.{Done, Memory, Usage, InputFault, OutputFault}
use Rattle.cdb_front.specs.declared.exit_status.Status.TheVariants.{StoreFault, NotAStore, TooLong, Differs, Refused}
use Rattle.cdb_front.specs.declared.exit_status.Status.TheVariants.{Damaged}
use Rattle.cdb_front.proofs.Checking.{no_rise}

-- a run over a store doesn't end as over none
ends_of_store : (status : Status) (old new : Option (List ℕ)) (result : Status) → EndsWith status old new result
    → IsOfStore status → IsOfStore result
ends_of_store status old new result (is_whole written) s = s
ends_of_store status old new result (is_part written) s = tt

pub completes : (v : Devices) (output_faults : v.O → ℕ) → RunsAreComplete v output_faults
completes v output_faults life base goes u =
    record {
      ends = by life.status refl;
      few = in_time life.status goes.outcome;
      quits = quits life.status goes.outcome;
      plain = plain_answers (Holds v.shelf_tells (v.files life.shelf)) (start_at base.list) goes.outcome.run.state
          goes.outcome.transcript.items goes.outcome.transcript.answers goes.outcome.run.run refl disks shelves;
    }
  where
    disks : tally disk_fault goes.outcome.transcript.answers ≡ 0
    disks = let e = u.disk.0 in let l = u.disk.1 in
        let c = goes.outcome.transcript.disk_counted (omega (arith, e, l)) in
        omega (arith, c, e)

    shelves : tally shelf_fault goes.outcome.transcript.answers ≡ 0
    shelves = let e = u.shelf.0 in let l = u.shelf.1 in
        let c = goes.outcome.transcript.shelf_counted (omega (arith, e, l)) in
        omega (arith, c, e)

    of_store : IsOfStore life.status
    of_store = ends_of_store goes.outcome.status goes.outcome.written (v.written life.output') life.status
        goes.outcome.ends goes.outcome.run.of_store

    by : (status : Status) → life.status ≡ status → (life.status ≡ Done)
        ⊎ ((life.status ≡ Memory) ⊎ (life.status ≡ TooLong))
    by Done is = inl is
    by Memory is = inr (inl is)
    by TooLong is = inr (inr is)
    by Usage is = absurd (u.words is)
    by InputFault is = absurd (no_rise (v.input_faults life.input) (v.input_faults life.input') u.input
        (u.input_failed is))
    by StoreFault is = absurd (no_rise (v.disk_faults life.old) (v.disk_faults life.new) u.disk (u.store_failed is))
    by OutputFault is = absurd (no_rise (output_faults life.output) (output_faults life.output') u.output
        (u.output_failed is))
    by (NotAStore version place) is = absurd (subst IsOfStore is of_store)
    by (Differs path) is = absurd (subst IsOfStore is of_store)
    by (Refused limit) is = absurd (subst IsOfStore is of_store)
    by (Damaged expected found) is = absurd (subst IsOfStore is of_store)
