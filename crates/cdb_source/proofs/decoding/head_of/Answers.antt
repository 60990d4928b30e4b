use Rattle.std.proofs.Common.{rules, ◌≡◌, get_or}
use Rattle.std.specs.Int.{w8, cast_signed}
use Rattle.cdb_source.proofs.HeadLaws.{head_answer}
use Rattle.cdb_source.proofs.decoding.head_of.Goals as goal

pub returns-in_default-arc_at : goal.returns-in_default-arc_at
returns-in_default-arc_at c = λ head h. c.in_default-arc_at.ensures head.lat h.lat

pub returns-in_default-arc_at-2 : goal.returns-in_default-arc_at-2
returns-in_default-arc_at-2 c = λ head h. c.in_default-arc_at-2.ensures head.lon h.lon

pub returns-in_default-arc_at-3 : goal.returns-in_default-arc_at-3
returns-in_default-arc_at-3 c = λ head h. c.in_default-arc_at-3.ensures head.dlat h.dlat

pub returns : goal.returns
returns c =
    let bytes = c.args.bytes.now in
    let first = c.begins_right.ensures.begins c.if-not-begins_right.false in
    let level : cast_signed w8 (get_or bytes 9 0) ≡ c.in-Some-new.level.number = search rules in
    let rows = c.count_at-rows.ensures in
    let kind = c.in-Some.ensures in
    let z10 = c.if-bytes-ne0.false in
    let z11 = c.if-bytes-ne0-2.false in
    let fields = c.new-2.ensures in
    head_answer bytes c.new-2.result c.in-Some.kind c.in-Some-new.level c.in-Some-arc_at.lat c.in-Some-arc_at-2.lon
    c.in-Some-arc_at-3.dlat c.in-Some-arc_at-4.dlon
    c.count_at-rows.result c.count_at-cols.result first kind level z10 z11 rows c.count_at-cols.ensures
    c.in-Some-arc_at.ensures c.in-Some-arc_at-2.ensures c.in-Some-arc_at-3.ensures c.in-Some-arc_at-4.ensures fields
