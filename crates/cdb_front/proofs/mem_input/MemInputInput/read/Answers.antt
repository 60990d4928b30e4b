use Rattle.std.proofs.Common.{◌≡◌, ℕ, ◌∙◌, min, sym, ap, length, take, drop, arith}
use Rattle.std.proofs.lemmas.List.{length-take}
use Rattle.cdb_front.specs.Devices.{Supply}
use Rattle.cdb_front.proofs.Bytes.{given, ended}
use Rattle.cdb_front.proofs.mem_input.MemInputInput.read.Goals as goal

pub returns-clause-bytes : goal.returns-clause-bytes
returns-clause-bytes c =
    let n = c.min-count.result in
    let all = c.self.inside.bytes.items in
    let at = c.self.inside.at in
    let v : c.args.self.now.left ≡ drop at all = ap (λ (s : Supply). s.left) (sym c.self.view_is) in
    let r : c.split_at.result.1.now ≡ drop at all = c.split_at.ensures.back ∙ ap (drop at) c.as_slice.ensures.value in
    let f : c.copy_from_slice.new.self ≡ take n (drop at all) = c.copy_from_slice.ensures.after
    ∙ c.split_at-2.ensures.front ∙ ap (take n) r in
    let l : length c.copy_from_slice.new.self ≡ n = omega (arith, c.copy_from_slice.ensures.len, length-take {A = ℕ}) in
    let least : n ≡ min (min (length c.args.into.now) c.self.inside.piece) (length (drop at all)) = omega
    (arith, ap length r, c.min-count.ensures, c.min.ensures) in (
      v ∙ given all c.args.into.now c.copy_from_slice.new.self at n l f,
      λ none room. ended all c.args.into.now
          c.copy_from_slice.new.self at n c.self.inside.piece (omega arith) least l none room,
    )
