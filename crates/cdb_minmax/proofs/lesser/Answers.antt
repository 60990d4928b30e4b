use Rattle.std.proofs.Common.{◌≡◌, ℤ, pos, ◌+ℤ◌, ◌-ℤ◌, if◌then◌else◌, int_lt, rules}
use Rattle.std.specs.Int.{int_wrap}
use Rattle.std.proofs.lemmas.Int.{to_z-of_z}
use mir.Syntax.{w16}
use mir.Val.{SFits}
use Rattle.cdb_minmax.proofs.Numbers.{lesser_is}
use Rattle.cdb_minmax.proofs.lesser.Goals as goal

pub returns : goal.returns
returns c =
    let a : ℤ = c.args.a in let b : ℤ = c.args.b in
    let p : ℤ = c.lowered.result in let q : ℤ = c.lowered-2.result in
    let m : ℤ = c.smaller.result in let r : ℤ = c.raised.result in
    let fits : SFits w16 r = search rules in
    let first : p ≡ int_wrap w16 (a -ℤ pos 1) = search rules in
    let second : q ≡ int_wrap w16 (b -ℤ pos 1) = search rules in
    let least : m ≡ (if int_lt q p then q else p) = search rules in
    let is : r ≡ int_wrap w16 (m +ℤ pos 1) = search rules in
    rw (to_z-of_z w16 r fits) (lesser_is a b p q c.ranges.a c.ranges.b first second m r least is)
