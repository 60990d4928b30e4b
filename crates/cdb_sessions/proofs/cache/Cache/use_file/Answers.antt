use Rattle.std.proofs.Common.{ℕ, ap, ◌∙◌, subst}
use Rattle.lru.specs.LruCache.{LruCache}
use Rattle.cdb_sessions.specs.declared.slot.Slot.{Slot}
use Rattle.cdb_sessions.specs.Cache.{Cache, cache_of, HasNone}
use Rattle.cdb_sessions.proofs.CacheLaws.{moved_cache, none_kept}
use Rattle.cdb_sessions.proofs.cache.Cache.use_file.Goals as goal

pub returns-in_default : goal.returns-in_default
returns-in_default c = (
  subst (λ (s : Cache). HasNone c.args.pair.now s.kept) c.self.view_is
      (none_kept c.self.inside.pool c.args.pair.now c.self.inside.slots.entries c.in_default.ensures.absent),
  ap (λ (slots : LruCache ℕ Slot). cache_of c.self.inside.pool slots.entries c.self.inside.spare)
      c.in_default.ensures.moved ∙ c.self.view_is,
)

pub invariant_of-self-2 : goal.invariant_of-self-2
invariant_of-self-2 c =
    moved_cache c.self.inside.pool c.self.inside.frames.items c.self.inside.slots c.use_slot.new.slots
    c.self.inside.spare c.in-Some.field-0 c.args.pair.now c.self.invariant c.use_slot.ensures.cap
    c.in-Some.ensures.moved
