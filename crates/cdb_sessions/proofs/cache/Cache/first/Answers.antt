use Rattle.std.proofs.Common.{ℕ, ◌<◌, List, Some, take, length, sym, ap, ◌∙◌, subst, arith, option_map, slice_get}
use Rattle.cdb_pool.specs.Frames.{contents}
use Rattle.cdb_sessions.specs.Cache.{Kept, Cache}
use Rattle.cdb_sessions.proofs.CacheLaws.{head_of, frame_out}
use Rattle.cdb_sessions.proofs.cache.Cache.first.Goals as goal

pub unreachable-requires-in_default-pair : goal.unreachable-requires-in_default-pair
unreachable-requires-in_default-pair c =
    let h = head_of c.self.inside.pool c.self.inside.slots.entries c.in-Some.field-0-0.now c.in-Some.slot.now
    c.self.invariant.files_first c.self.invariant.below.1
    (subst (λ (s : Cache). 0 < length s.kept) (sym c.self.view_is) c.requires) (sym c.in-Some.ensures) in
    h.filled c.in_default-pair.is

pub index-requires : goal.index-requires
index-requires c =
    let h = head_of c.self.inside.pool c.self.inside.slots.entries c.in-Some.field-0-0.now c.in-Some.slot.now
    c.self.invariant.files_first c.self.invariant.below.1
    (subst (λ (s : Cache). 0 < length s.kept) (sym c.self.view_is) c.requires) (sym c.in-Some.ensures) in
    let o = frame_out c.self.inside.pool c.self.inside.frames.items c.self.inside.slots c.self.inside.spare
    c.in-Some.slot.now.frame c.self.invariant h.small in
    omega (arith, h.small, o.0, c.self.inside.frames.ok.0)

pub get-bytes-requires : goal.get-bytes-requires
get-bytes-requires c =
    let h = head_of c.self.inside.pool c.self.inside.slots.entries c.in-Some.field-0-0.now c.in-Some.slot.now
    c.self.invariant.files_first c.self.invariant.below.1
    (subst (λ (s : Cache). 0 < length s.kept) (sym c.self.view_is) c.requires) (sym c.in-Some.ensures) in
    let o = frame_out c.self.inside.pool c.self.inside.frames.items c.self.inside.slots c.self.inside.spare
    c.in-Some.slot.now.frame c.self.invariant h.small in
    (o.1 c.index.result.now c.index.ensures).1

pub returns : goal.returns
returns c =
    let pool = c.self.inside.pool in
    let slot = c.in-Some.slot.now in
    let h = head_of pool c.self.inside.slots.entries c.in-Some.field-0-0.now slot c.self.invariant.files_first
    c.self.invariant.below.1 (subst (λ (s : Cache). 0 < length s.kept) (sym c.self.view_is) c.requires)
    (sym c.in-Some.ensures) in
    let o = frame_out pool c.self.inside.frames.items c.self.inside.slots c.self.inside.spare slot.frame
    c.self.invariant h.small in
    let n = (o.1 c.index.result.now c.index.ensures).0 in
    let tile = c.in-Some-pair.pair.tile in
    let bytes = c.split_at.ensures.front ∙ ap (λ (xs : List ℕ). take c.tile_size.result xs) c.get-bytes.ensures.value
    ∙ ap (λ k. take c.tile_size.result (contents pool k)) n
    ∙ ap (λ k. take k (contents pool slot.frame)) c.tile_size.ensures.value in
    let head = h.head c.in-Some-pair.pair c.in-Some-pair.is in
    let view = ap (λ (s : Cache). slice_get s.kept 0) c.self.view_is in
    record {
      bytes = ap Some bytes ∙ sym (ap (option_map (λ (k : Kept). k.bytes)) (sym view ∙ head));
      small = omega (arith, c.split_at.ensures.front_len, c.tile_size.ensures.most);
    }
