use Rattle.std.proofs.Common.{◌≡◌, ◌<◌, ◌^◌, Err, arith}
use Rattle.std.specs.Str.Parse.{digits_value}
use Rattle.std.proofs.lemmas.Str.Parse.{parse_digits}
use Rattle.cdb_commands.proofs.Digits.{own, utf8, short_value}
use Rattle.cdb_commands.proofs.numbers.value.Goals as goal

pub unreachable-requires : goal.unreachable-requires
unreachable-requires c = c.in_default.ensures.cases.0 (utf8 c.args.word.now c.requires.digits)

pub unreachable-requires-in-Err : goal.unreachable-requires-in-Err
unreachable-requires-in-Err c =
    let same : c.in-Ok.text.now ≡ c.args.word.now = c.in-Ok.ensures.cases.0 in
    let small : digits_value 10 c.args.word.now < 10 ^ 18 =
    short_value c.args.word.now c.requires.digits c.requires.few in
    let fits : digits_value 10 c.args.word.now < 2 ^ 64 = omega arith in
    parse_digits own 64 c.in-Ok.text.now (Err c.in-Err.field-0) c.in-Err.ensures.value.0 (rw same c.requires.digits)
    (rw same c.requires.some, rw same fits)
