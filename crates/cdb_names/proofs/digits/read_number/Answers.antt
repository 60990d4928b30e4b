use Rattle.std.proofs.Common.{◌≡◌, ℕ, length, take, drop, true, subst, sym, ap, ◌∙◌, arith}
use Rattle.std.specs.Str.{all_ascii_digits}
use Rattle.cdb_model.specs.Names.{Text}
use Rattle.cdb_names.specs.Fields.{bounded_number}
use Rattle.cdb_names.proofs.NumberLaws.{all_front, near_value}
use Rattle.cdb_names.proofs.digits.read_number.Goals as goal

pub number-requires : goal.number-requires
number-requires c =
    let front = c.split_at.ensures.front ∙ ap (λ (k : ℕ). take k c.args.text.now) c.digits_at.ensures.count in
    subst (λ (ds : Text). all_ascii_digits ds ≡ true) (sym front) (all_front c.args.text.now)

pub returns-clause-near : goal.returns-clause-near
returns-clause-near c small =
    let front = c.split_at.ensures.front ∙ ap (λ (k : ℕ). take k c.args.text.now) c.digits_at.ensures.count in
    let back = c.split_at.ensures.back ∙ ap (λ (k : ℕ). drop k c.args.text.now) c.digits_at.ensures.count in
    let read = sym c.number.ensures ∙ c.in_ok-number.was in
    let near = near_value c.args.limit c.args.text.now c.in_ok-number.field-0 small
    (ap (bounded_number c.args.limit) (sym front) ∙ read) in
    omega (arith, near, ap length back)
