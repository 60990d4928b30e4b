use Rattle.std.proofs.Common.{◌≡◌, arith}
use Rattle.cdb_front.proofs.RunProgress.{byte_kept, line_passed}
use Rattle.cdb_front.proofs.script_lines.take_byte.Goals as goal

pub returns-then-byte-ne10-clause-byte : goal.returns-then-byte-ne10-clause-byte
returns-then-byte-ne10-clause-byte g c = λ e read same most sofar. byte_kept c.args.byte c.push.new.self c.push.ensures
    c.if-byte-ne10.true sofar

pub returns-in-More-clause-byte : goal.returns-in-More-clause-byte
returns-in-More-clause-byte g c = λ e read same most sofar.
    let feed : 10 ≡ c.args.byte = omega arith in
    line_passed c.args.byte c.clear.new.self feed c.clear.ensures (c.in-More.ensures.line e read same most sofar)
