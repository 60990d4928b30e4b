-- What one call more makes of a history: the states, and the images since each moment.
use Rattle.std.proofs.Common.{◌≡◌, ℕ, ◌+◌, ◌<◌, ◌≤◌, ◌⊎◌, inl, inr, List, [], ◌∷◌, ◌++◌, length, take, Vec, Ok, Err, sym, ap, ◌∙◌, subst, arith, length-append}
use Rattle.std.proofs.lemmas.Bool.{cases_lt, or_left}
use Rattle.std.proofs.lemmas.List.{take-append-le, take_all}
use Rattle.std.specs.declared.alloc.Global.{Global}
use Rattle.arrayvec.specs.ArrayString.{ArrayString}
use Rattle.cdb_model.specs.Maps.{Text, FileMap, is_at_or_above}
use Rattle.cdb_files.specs.Disk.{State, IsImage, FailsMakeDir, after_make_dir, after_append}
use Rattle.cdb_files.specs.Moments.{IsBetween, Elapses}
use Rattle.cdb_memfiles.specs.declared.call.Call.{Call}
use Rattle.cdb_memfiles.specs.declared.call.Call.TheVariants.{Append}
use Rattle.cdb_memfiles.specs.History.{apply, replay, HasBeen}
use Rattle.cdb_memfiles.specs.inside.HistoryLaws.{replay-push}
use Rattle.cdb_memfiles.specs.Calls.{Changes}
use Rattle.cdb_memfiles.specs.MemDisk.{history, disk_state, clock_of, since_of}
use Rattle.cdb_memfiles.specs.declared.mem_disk.MemDisk.{MemDisk}

pub elapses_push : (calls later : List Call) (call : Call) → later ≡ calls ++ call ∷ []
    → Elapses (length calls) (length later) (HasBeen calls) (HasBeen later)
    (IsBetween (replay calls) (apply call (replay calls)))
unfolding HasBeen
elapses_push calls later call e = record {
  later = omega (arith, len);
  nothing_else = λ t m le been. split t m le been (cases_lt (length calls) been.0);
  keeps = λ t m le been. (
    been.0,
    been.1,
    omega (arith, been.2, len),
    let P : List Call → Type 0 = λ c. IsImage (replay c) m in subst P (sym (early been.0 been.2)) been.3,
  );
}
  where
    len : length later ≡ length calls + 1
    len = ap length e ∙ length-append calls (call ∷ [])

    early : (k : ℕ) → k ≤ length calls → take k later ≡ take k calls
    early k le = ap (take k) e ∙ take-append-le k calls (call ∷ []) le

    split : (t : ℕ) (m : FileMap) → t ≤ length calls
        → (been : (k : ℕ) × (t ≤ k) × (k ≤ length later) × IsImage (replay (take k later)) m)
        → (length calls < been.0) ⊎ (been.0 ≤ length calls)
        → ((k : ℕ) × (t ≤ k) × (k ≤ length calls) × IsImage (replay (take k calls)) m)
        ⊎ IsBetween (replay calls) (apply call (replay calls)) m
    split t m le been (inl last) =
        let whole : length later ≤ been.0 = omega (arith, last, len) in
        let P : State → Type 0 = λ s. IsImage s m in
        let image = subst P (ap replay (take_all been.0 later whole ∙ e) ∙ replay-push calls call) been.3 in
        inr (λ q. inr (image q))
    split t m le been (inr before) =
        let P : List Call → Type 0 = λ c. IsImage (replay c) m in
        inl (been.0, been.1, before, subst P (early been.0 before) been.3)

-- The same of an append, by the bytes of its piece.
pub elapses_append : (calls later : List Call) (path : ArrayString) (piece : List ℕ) (bytes : Vec ℕ Global)
    → bytes.items ≡ piece
    → later ≡ calls ++ Append path bytes ∷ []
    → Elapses (length calls) (length later) (HasBeen calls) (HasBeen later)
    (IsBetween (replay calls) (after_append path.bytes piece (replay calls)))
elapses_append calls later path piece bytes same e =
    let P : List ℕ → Type 0 = λ xs. Elapses (length calls) (length later) (HasBeen calls) (HasBeen later)
    (IsBetween (replay calls) (after_append path.bytes xs (replay calls))) in
    subst P same (elapses_push calls later (Append path bytes) e)

pub state_push : (calls later : List Call) (call : Call) → later ≡ calls ++ call ∷ [] → replay later
    ≡ apply call (replay calls)
state_push calls later call e = ap replay e ∙ replay-push calls call

pub state_append : (calls later : List Call) (path : ArrayString) (piece : List ℕ) (bytes : Vec ℕ Global)
    → bytes.items ≡ piece
    → later ≡ calls ++ Append path bytes ∷ [] → replay later ≡ after_append path.bytes piece (replay calls)
state_append calls later path piece bytes same e = state_push calls later (Append path bytes) e
    ∙ ap (λ xs. after_append path.bytes xs (replay calls)) same

-- A failed making of folders that made none.
pub fails_make_dir-same : (folder : Text) (old new : State) → new ≡ old
    → FailsMakeDir old (after_make_dir folder old) new
unfolding after_make_dir
fails_make_dir-same folder old new e = record {
  present = ap (λ s. s.present) e;
  may = ap (λ s. s.may) e;
  kept = λ q h. ap (λ s. s.made q) e ∙ h;
  some = λ q h. or_left (old.made q) (is_at_or_above q folder) (sym (ap (λ s. s.made q) e) ∙ h);
}

-- ---- a call of a disk in memory
-- One call more, which is answered with Ok.
pub changes_push : {T E : Type 0} {Leaves : State → State → State → Type 0} {v : T} {old new : MemDisk} (call : Call)
    → history new ≡ history old ++ call ∷ []
    → Changes disk_state clock_of since_of {T = T} {E = E} (apply call) Leaves old new (Ok v)
changes_push {old = old} {new = new} call e = record {
  ok = state_push (history old) (history new) call e;
  err = tt;
  time = elapses_push (history old) (history new) call e;
  moves = inr (omega (arith, ap length e ∙ length-append (history old) (call ∷ [])));
}

-- The same of an append, by the bytes of its piece.
pub changes_append : {T E : Type 0} {Leaves : State → State → State → Type 0} {v : T} {old new : MemDisk}
    (path : ArrayString) (piece : List ℕ) (bytes : Vec ℕ Global)
    → bytes.items ≡ piece → history new ≡ history old ++ Append path bytes ∷ []
    → Changes disk_state clock_of since_of {T = T} {E = E} (after_append path.bytes piece) Leaves old new (Ok v)
changes_append {T = T} {E = E} {Leaves = Leaves} {v = v} {old = old} {new = new} path piece bytes same e =
    let P : List ℕ → Type 0 = λ xs. Changes disk_state clock_of since_of {T = T} {E = E} (after_append path.bytes xs)
    Leaves old new (Ok v) in
    subst P same (changes_push (Append path bytes) e)

-- A call that fails and is not noted.
pub changes_none : {T E : Type 0} {after : State → State} {Leaves : State → State → State → Type 0} {x : E}
    {old new : MemDisk} → history new ≡ history old
    → Leaves (disk_state old) (after (disk_state old)) (disk_state new)
    → Changes disk_state clock_of since_of {T = T} {E = E} after Leaves old new (Err x)
changes_none {old = old} {new = new} e leaves = record {
  ok = tt;
  err = leaves;
  time = record {
    later = omega (arith, ap length e);
    nothing_else = λ t m le been. inl (let P : List Call → Type 0 = λ c. HasBeen c t m in subst P e been);
    keeps = λ t m le been. (let P : List Call → Type 0 = λ c. HasBeen c t m in subst P (sym e) been);
  };
  moves = inl (ap (λ c. (replay c).present) e, ap (λ c. (replay c).may) e);
}
