use Rattle.std.proofs.Common.{◌≡◌, ◌+◌, ◌∷◌, [], length, Err, sym, ap, ◌∙◌, subst, arith}
use Rattle.std.proofs.Common.{length-append}
use Rattle.cdb_files.specs.Disk.{State}
use Rattle.cdb_files.proofs.MomentLaws.{rests_then}
use Rattle.cdb_model.specs.Names.{record_path}
use Rattle.cdb_chain.specs.inside.Opening.{IsRecordOf}
use Rattle.cdb_chain.proofs.StoreLaws.{are_records, opens_to}
use Rattle.cdb_chain.proofs.OpeningLaws.{one_read, one_index, refused}
use Rattle.cdb_chain.proofs.chain.Chain.open.Goals as goal

pub loop-done-preserved : goal.loop-done-preserved
loop-done-preserved g c =
    let inv = c.loop-done.invariant in
    let version : c.in-Ok.item.version ≡ length c.loop-done.records.items + 1 = c.in-Ok.ensures.item.0
    ∙ ap (λ n. n + 1) (sym inv.count) in
    let told = λ (t : g.D.Disk.tells).
    ap (λ n. (g.D.Disk.state c.args.disk.now).present (record_path (n + 1))) inv.count
    ∙ ap (λ (s : State). s.present (record_path (c.loop-done.done + 1))) (sym inv.state) ∙ c.in-Ok.ensures.item.1 t in
    record {
      read = one_read g.D.Disk.tells (g.D.Disk.state c.args.disk.now).present c.loop-done.records.items
          c.take_record.new.records.items c.in-Ok.item inv.read c.in_ok-take_record.ensures.records version told;
      count = ap length c.in_ok-take_record.ensures.records
          ∙ length-append c.loop-done.records.items (c.in-Ok.item ∷ []) ∙ ap (λ n. n + 1) inv.count;
      index = one_index c.loop-done.records.items c.take_record.new.records.items c.loop-done.index.items
          c.take_record.new.index.items c.in-Ok.item inv.index c.in_ok-take_record.ensures.records
          c.in_ok-take_record.ensures.index;
      state = c.read_record.ensures.state ∙ inv.state;
      time = rests_then _ _ _ _ _ _ inv.time c.read_record.ensures.time;
      later = omega (arith, inv.later, c.read_record.ensures.later);
    }

pub returns-in-Err-clause-opened : goal.returns-in-Err-clause-opened
returns-in-Err-clause-opened g c =
    let inv = c.loop-done.invariant in
    let moved = subst (λ (s : State). IsRecordOf g.D.Disk.tells (s.present (record_path (c.loop-done.done + 1)))
    (c.loop-done.done + 1) (Err c.in-Err.error)) inv.state c.in-Err.ensures.item in
    refused g.D.Disk.tells (g.D.Disk.state c.args.disk.now).present c.args.newest c.loop-done.done
    c.loop-done.records.items inv.read inv.count c.loop-done-test.true c.in-Err.error moved

pub returns-in-Err-clause-store : goal.returns-in-Err-clause-store
returns-in-Err-clause-store g c told P stands is =
    opens_to g.D.Disk.tells told (g.D.Disk.state c.args.disk.now).present P stands c.args.newest (Err c.in-Err.error) is
    (returns-in-Err-clause-opened g c)

pub returns-clause-store : goal.returns-clause-store
returns-clause-store g c told P stands is =
    let inv = c.loop-done.invariant in
    are_records g.D.Disk.tells told (g.D.Disk.state c.args.disk.now).present P stands c.loop-done.records.items
    (omega (arith, inv.count, c.loop-done-test.false, c.loop-done.auto.done-end, is)) inv.read
