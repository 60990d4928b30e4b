use Rattle.std.proofs.Common.{◌<◌, ◌^◌, ℕ, length, Ok, Err, Result, SomeIff, subst, sym}
use Rattle.std.specs.Result.{OkIff, result_ok}
use Rattle.std.specs.Str.Parse.{digits_value, ParsesUnsigned}
use Rattle.std.proofs.lemmas.Fmt.{IsAscii-from_digits}
use Rattle.std.proofs.lemmas.Str.{IsUtf8-from_ascii}
use Rattle.std.proofs.lemmas.Str.Parse.{parse_digits}
use Rattle.cdb_names.proofs.NumberLaws.{own}
use Rattle.cdb_names.proofs.digits.value.Goals as goal

pub unreachable-requires : goal.unreachable-requires
unreachable-requires c =
    let digits = own.to c.args.digits.now c.requires.digits in
    c.in_default.ensures.cases.0 (IsUtf8-from_ascii c.args.digits.now (IsAscii-from_digits c.args.digits.now digits))

-- the value that parsing gives, where it gives one
kept_value : {E : Type 0} (r : Result ℕ E) (some : Type 0) (v : ℕ) → some → OkIff r (some × (v < 2 ^ 32)) v
    → SomeIff (result_ok r) (v < 2 ^ 32) v
kept_value (Ok x) some v is h = (h.0.1, h.1)
kept_value (Err e) some v is h = λ small. h (is, small)

pub returns : goal.returns
returns c =
    let same = c.in-Ok.ensures.cases.0 in
    let parsed = subst (λ bs. ParsesUnsigned 32 10 bs c.parse.result) same c.parse.ensures.value.0 in
    let k = kept_value c.parse.result (0 < length c.args.digits.now) (digits_value 10 c.args.digits.now)
    c.requires.some (parse_digits own 32 c.args.digits.now c.parse.result parsed c.requires.digits) in
    subst (λ o. SomeIff o (digits_value 10 c.args.digits.now < 2 ^ 32) (digits_value 10 c.args.digits.now))
    (sym c.ok.ensures.value) k
