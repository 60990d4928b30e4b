-- A publication of sources that are drawn is begun.
use Rattle.std.proofs.Common.{◌≡◌, ℕ, ◌<◌, ◌≤◌, List, [], length, Option, None, Result, Ok, Err, IsSome, sym, ap, subst}
use Rattle.std.proofs.Common.{arith}
use Rattle.cdb_grid.specs.declared.tile.Tile.{Tile}
use Rattle.cdb_source.specs.declared.source.Source.{Source}
use Rattle.cdb_model.specs.Stores.{Which, known, any, store_kind}
use Rattle.cdb_model.specs.Transitions.{StateIn, GoingIn, PublishLineIn}
use Rattle.cdb_engine.specs.StoreAnswers.{publish_answer}
use Rattle.cdb_engine.specs.Tracks.{Leads}
use Rattle.cdb_engine.specs.declared.errors.PublishError.{PublishError}
use Rattle.cdb_engine.specs.declared.errors.PublishError.TheVariants as publish
use Rattle.cdb_engine.specs.declared.reply.Begun.{Begun}
use Rattle.cdb_generate.specs.Generator.{PublicationDrawn}
use Rattle.cdb_generate.proofs.LoadLaws.{drawn_fits}
use Rattle.cdb_engine.specs.inside.Populating.{begun_of, BeginsDrawn}
use Rattle.cdb_engine.specs.declared.errors.PopulateError.{PopulateError}

-- a publication has steps
some_left : (w : Which) (list : (store_kind w).Listed) (sources : List Source) (tiles : List Tile) (planned :
    (store_kind w).Planned) (left : ℕ)
    → (store_kind w).Starts list sources tiles planned left → 0 < left
some_left known list sources tiles planned left starts = let e = starts.1 in omega (arith, e)
some_left any list sources tiles planned left starts = starts.1

some_drawn : (x : ℕ) (sources : List Source) → PublicationDrawn x sources → sources ≡ [] → ⊥
some_drawn x sources d e = let n : 1 ≤ length sources = drawn_fits.some x sources d in let m : length sources ≡ 0 =
    ap length e in omega arith

none_there : (A : Type 0) → IsSome {T = A} None → ⊥
none_there A some = cc

module _ (w : Which) (s : StateIn (store_kind w)) (x : ℕ) (New : StateIn (store_kind w) → Type 0)
    (running : s.halted ≡ None) (idle : s.going ≡ None) (drawn : PublicationDrawn x s.pending) where
  begins : (r : Result Begun PublishError) → Leads (PublishLineIn (store_kind w) s (publish_answer r)) New
      → BeginsDrawn w s (begun_of r) New
  begins (Ok begun) led = record {
    tiles = led.step.tiles;
    touched = led.step.planned.touched;
    planned = led.step.publication;
    left = led.step.left;
    starts = led.step.starts;
    some = some_left w s.list s.pending led.step.tiles led.step.publication led.step.left led.step.starts;
    now = subst New led.step.next led.now;
  }
  begins (Err publish.Halted) led =
      absurd (none_there (store_kind w).Dropped (subst (λ (o : Option
      (store_kind w).Dropped). IsSome o) running led.step.0))
  begins (Err publish.Busy) led =
      absurd (none_there (GoingIn (store_kind w)) (subst (λ (o : Option (GoingIn
      (store_kind w))). IsSome o) idle led.step.0.busy))
  begins (Err publish.Nothing) led = absurd (some_drawn x s.pending drawn led.step.1)
  begins (Err (publish.Large count)) led =
      let most : count ≤ 3600 = drawn_fits.load x s.pending count drawn led.step.1 in let large : 16384 < count =
      led.step.2 in absurd (omega arith)
  begins (Err (publish.Entries count)) led = (subst New led.step.1 led.now, led.step.0)
  begins (Err publish.Versions) led = (subst New led.step.1 led.now, led.step.0)
  begins (Err publish.Memory) led = subst New led.step.1 led.now

  pub begins_by : (r : Result Begun PublishError) (said : Result Unit PopulateError) → said ≡ begun_of r
      → Leads (PublishLineIn (store_kind w) s (publish_answer r)) New → BeginsDrawn w s said New
  begins_by r said e led = subst (λ a. BeginsDrawn w s a New) (sym e) (begins r led)
