-- Inside the crate: an image that was opened from the bytes of a TIFF file.
use Rattle.std.specs.Prelude.{◌≡◌, ℕ, ℤ, ◌+◌, ◌*◌, ◌/◌, ◌<◌, Bool, Some, List, length, drop, slice_get}
use Rattle.cdb_tiff_base.specs.Numbers.{Bytes}
use Rattle.cdb_tiff_base.specs.Pixels.{sample}
use Rattle.cdb_tiff_base.specs.declared.order.Order.{Order}

-- a row has the samples of one form that stand one after another from a byte place on
pub record HasSamples (order : Order) (bits : ℕ) (signed : Bool) (b : Bytes) (place : ℕ) (old new : List ℤ)
    : Type 0 where
  pub size : length new ≡ length old
  pub each : (c : ℕ) → c < length old →
      slice_get new c ≡ Some (sample order bits signed (drop (place + c * (bits / 8)) b))
