-- The rounds of removals, over any disk.
use Rattle.std.proofs.Common.{◌≡◌, ℕ, ◌+◌, ◌-◌, ◌≤◌, inr, List, length, None, sym, subst, arith}
use Rattle.cdb_source.specs.declared.source.Source.{Source}
use Rattle.cdb_model.specs.Maps.{Text, FileMap, IsThere}
use Rattle.cdb_model.specs.Stands.{AtMost, Stands}
use Rattle.cdb_files.specs.Disk.{State, IsImage}
use Rattle.cdb_files.specs.Moments.{AddsOnly, Rests}
use Rattle.cdb_files.specs.Whole.{IsImageBut}
use Rattle.cdb_files.proofs.MomentLaws.{started, rests, then_on, weaker}
use Rattle.cdb_crash.specs.Crash.{IsWhole, IsClearing}
use Rattle.cdb_crash.specs.Leftovers.{IsOfVersion}
use Rattle.cdb_crash.specs.Recovery.{after_removal}
use Rattle.cdb_crash.proofs.Own as own
use Rattle.cdb_recover.specs.inside.Clearing.{IsLeftUnder, RemovesOne, RemovesUnder}
use Rattle.cdb_recover.proofs.Removals.{one_removed, one_back, none_removed, one_more}

-- How many files are left, from a map to a later one, after so many removals.
pub record Counted (folder : Text) (old new : FileMap) (rounds : ℕ) : Type 0 where
  pub fewer : (n : ℕ) → AtMost n (IsLeftUnder folder old) → AtMost (n - rounds) (IsLeftUnder folder new)
  pub back : (n : ℕ) → AtMost n (IsLeftUnder folder new) → AtMost (n + rounds) (IsLeftUnder folder old)
  pub removed : RemovesUnder rounds folder old new

pub none_counted : (folder : Text) (m : FileMap) → Counted folder m m 0
none_counted folder m = record {
  fewer = λ n most. let A : ℕ → Type 0 = λ k. AtMost k (IsLeftUnder folder m) in let e : n ≡ n - 0 = omega arith in
      subst A e most;
  back = λ n most. let A : ℕ → Type 0 = λ k. AtMost k (IsLeftUnder folder m) in let e : n ≡ n + 0 = omega arith in
      subst A e most;
  removed = none_removed folder m;
}

pub one_counted : (folder path : Text) (first old new : FileMap) (rounds : ℕ) → IsLeftUnder folder old path
    → Counted folder first old rounds → RemovesOne path old new → new path ≡ None
    → Counted folder first new (rounds + 1)
one_counted folder path first old new rounds left counted removed gone = record {
  fewer = λ n most. let A : ℕ → Type 0 = λ k. AtMost k (IsLeftUnder folder new) in
      let e : (n - rounds) - 1 ≡ n - (rounds + 1) = omega arith in
      subst A e (one_removed folder path old new (n - rounds) left removed gone (counted.fewer n most));
  back = λ n most. let A : ℕ → Type 0 = λ k. AtMost k (IsLeftUnder folder first) in
      let e : (n + 1) + rounds ≡ n + (rounds + 1) = omega arith in
      subst A e (counted.back (n + 1) (one_back folder path old new n removed most));
  removed = one_more rounds folder path first old new left.0 counted.removed removed;
}

module _ {D : Type 0} (clock : D → ℕ) (since : D → ℕ → FileMap → Type 0) (state : D → State) where
  -- From a whole disk to one in recovery.
  pub record Sofar (list : List (List Source)) (count : ℕ) (a b : D) : Type 0 where
    pub moments : AddsOnly clock since a b (λ m. Stands m list)
    pub clearing : IsClearing Stands list count (state b)

  pub begins : (list : List (List Source)) (a : D) → IsImage (state a) (state a).present → IsWhole Stands list (state a)
      → Sofar list 65536 a a
  begins list a here whole =
      record {
        moments = started clock since a (λ m. Stands m list);
        clearing = own.clearing.begins list (state a) here whole;
      }

  pub reads : (list : List (List Source)) (count : ℕ) (a b c : D) → Sofar list count a b → state c ≡ state b
      → Rests (clock b) (clock c) (since b) (since c) → Sofar list count a c
  reads list count a b c sofar same time = record {
    moments = rests clock since a b c (λ m. Stands m list) sofar.moments time;
    clearing = let C : State → Type 0 = IsClearing Stands list count in subst C (sym same) sofar.clearing;
  }

  -- Whatever a removal answers, a crash leaves the list.
  pub stands : (list : List (List Source)) (count : ℕ) (a b c : D) (path : Text) → count ≤ 65536
      → IsImage (state b) (state b).present → Sofar list count a b
      → IsOfVersion (length list + 1) path → IsThere ((state b).present path)
      → AddsOnly clock since b c (IsImageBut path (state b)) → AddsOnly clock since a c (λ m. Stands m list)
  stands list count a b c path le here sofar under there time =
      then_on clock since a b c (λ m. Stands m list) sofar.moments
      (weaker clock since b c (IsImageBut path (state b)) (λ m. Stands m list) time
      ((own.leftover_calls list path (state b) here (inr under)
      (own.room.clearing list count (state b) path le here sofar.clearing there)).run))

  pub goes : (list : List (List Source)) (count : ℕ) (a b c : D) (path : Text) → count ≤ 65536
      → IsImage (state b) (state b).present → Sofar list count a b
      → IsOfVersion (length list + 1) path → IsThere ((state b).present path)
      → AddsOnly clock since b c (IsImageBut path (state b))
      → state c ≡ after_removal path (state b) → Sofar list (count - 1) a c
  goes list count a b c path le here sofar under there time done = record {
    moments = stands list count a b c path le here sofar under there time;
    clearing = let C : State → Type 0 = IsClearing Stands list (count - 1) in
        subst C (sym done) (own.clearing.goes list count (state b) path le here sofar.clearing under there);
  }
