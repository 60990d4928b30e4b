use Rattle.cdb_tiff_read.proofs.samples.put_samples.Goals as goal

-- the order of the bytes says nothing of samples of 8 bits
pub returns-in-8-false-default : goal.returns-in-8-false-default
returns-in-8-false-default c = rw (c.in-8-false-default.is-0, c.in-8-false-default.is-1)
    (c.put_8.ensures c.args.image.now.order)

pub returns-in-8-true-default : goal.returns-in-8-true-default
returns-in-8-true-default c = rw (c.in-8-true-default.is-0, c.in-8-true-default.is-1)
    (c.put_signed_8.ensures c.args.image.now.order)
