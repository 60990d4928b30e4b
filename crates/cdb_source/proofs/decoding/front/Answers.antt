use Rattle.cdb_source.proofs.DecodingLaws.{front_cut, front_bad, front_then}
use Rattle.cdb_source.proofs.decoding.front.Goals as goal

pub returns-in_default-clause-bad : goal.returns-in_default-clause-bad
returns-in_default-clause-bad c = front_cut c.args.bytes.now (c.begins_right.ensures.begins c.if-not-begins_right.false)
    c.in_default.ensures.cases

pub returns-in-Some-decode_head-clause-head : goal.returns-in-Some-decode_head-clause-head
returns-in-Some-decode_head-clause-head c =
    front_then c.args.bytes.now c.in-Some.front.now c.in-Some-decode_head.head c.in-Some.ensures.cases.same
    c.in-Some-decode_head.ensures.spelled

pub returns-in-None-clause-bad : goal.returns-in-None-clause-bad
returns-in-None-clause-bad c =
    front_bad c.args.bytes.now c.in-Some.front.now (c.begins_right.ensures.begins c.if-not-begins_right.false)
    c.in-Some.ensures.cases.same (λ head e. let no_head = c.in-None.ensures.only head e in absurd cc)
