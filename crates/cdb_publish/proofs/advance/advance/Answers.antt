use Rattle.std.specs.Prelude.{vec_len}
use Rattle.std.proofs.Common.{◌+◌, ap}
use Rattle.cdb_publish.specs.Needs.{TellsSizes}
use Rattle.cdb_publish.proofs.ReadBounds.{reads_fall, reads_within}
use Rattle.cdb_publish.proofs.Underways.{rest_sources}
use Rattle.cdb_publish.proofs.advance.advance.Goals as goal

pub returns-clause-fits : goal.returns-clause-fits
returns-clause-fits g c P x number fits = record {
  plan = fits.plan;
  done = ap (λ n. n + 1) fits.done;
  sources = rest_sources c.args.work.now.sources.items c.pop.new.self.items x c.pop.result number
      (vec_len c.args.work.now.sources)
      c.args.work.now.sources.ok.0 c.pop.ensures.items c.pop.ensures.value fits.sources;
}

pub returns-clause-reads : goal.returns-clause-reads
returns-clause-reads g c =
    reads_fall c.args.work.now.plan c.args.chain.now.records c.args.work.now.done
    (λ needs. g.D.Disk.tells → TellsSizes (g.D.Disk.state c.args.disk.now).present needs c.make_step.result)
    (g.D.Disk.read_count c.args.disk.now) (g.D.Disk.read_count c.make_step.new.disk) c.make_step.ensures.sizes

pub returns-clause-most_reads : goal.returns-clause-most_reads
returns-clause-most_reads g c =
    reads_within c.args.work.now.plan c.args.chain.now.records c.args.work.now.done
    (λ needs. g.D.Disk.tells → TellsSizes (g.D.Disk.state c.args.disk.now).present needs c.make_step.result)
    (g.D.Disk.read_count c.args.disk.now) (g.D.Disk.read_count c.make_step.new.disk) c.make_step.ensures.sizes

pub returns-in-Err-clause-most_reads : goal.returns-in-Err-clause-most_reads
returns-in-Err-clause-most_reads g c =
    reads_within c.args.work.now.plan c.args.chain.now.records c.args.work.now.done
    (λ needs. g.D.Disk.tells → TellsSizes (g.D.Disk.state c.args.disk.now).present needs c.make_step.result)
    (g.D.Disk.read_count c.args.disk.now) (g.D.Disk.read_count c.make_step.new.disk) c.make_step.ensures.sizes
