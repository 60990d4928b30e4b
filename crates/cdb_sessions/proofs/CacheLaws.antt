-- The kept files, as the slots are moved and renewed.
use Rattle.std.proofs.Common.{◌≡◌, ◌≢◌, ℕ, zero, suc, ◌*◌, ◌<◌, ◌≤◌, Bool, true, false, List, [], ◌∷◌, ◌++◌}
use Rattle.std.proofs.Common.{length, take, get_or, replicate, slice_get, Option, Some, None, refl, sym, ap, ◌∙◌}
use Rattle.std.proofs.Common.{subst, arith, nat_eq, length-append, true≢false}
use Rattle.std.specs.List.{AllByRecursion, IsDistinct}
use Rattle.std.specs.List.Sorted.{IsPermutation}
use Rattle.std.specs.Cmp.{nat_eq_equiv}
use Rattle.std.proofs.lemmas.List.{map-append}
use Rattle.std.proofs.lemmas.List.Concat.{flat_map-append}
use Rattle.std.proofs.lemmas.List.Sorted.{IsPermutation-middle, IsPermutation-cons, IsPermutation-to_front}
use Rattle.std.proofs.lemmas.Map.Keys.{IsDistinct-IsPermutation, IsDistinct-head}
use Rattle.lru.specs.LruCache.{LruCache, lru_cache}
use Rattle.std.specs.Ordering.{is_eq}
use Rattle.cdb_grid.specs.Order.{tile_cmp}
use Rattle.cdb_grid.proofs.TileOrder.{tile_self}
use Rattle.std.proofs.lemmas.Nat.{row_fits}
use Rattle.lru.proofs.Splits.{all_left, all_right, all_both}
use Rattle.cdb_pool.specs.Frames.{Frames, contents, written}
use Rattle.cdb_pool.specs.declared.frame.Frame.{Frame}
use Rattle.cdb_pool.proofs.FrameLaws.{Fits, contents-written, contents-written_other, length-written}
use Rattle.cdb_sessions.specs.declared.slot.Pair.{Pair}
use Rattle.cdb_sessions.specs.declared.slot.Slot.{Slot}
use Rattle.cdb_sessions.specs.Slots.{NumberedSlot, fresh, filled_slot, holds, is_pair, IsMoved, IsRenewed}
use Rattle.cdb_sessions.specs.Cache.{Kept, kept_with, kept_one, kept_files, HasNone, IsMovedToFront}
use Rattle.cdb_sessions.specs.Cache.{IsPooled, frames_of, FilesFirst, frame_of, numbered_frames, IsCache}
use Rattle.cdb_sessions.specs.inside.Cache.{with_flags}
use Rattle.cdb_tiff_write.specs.Rasters.{tile_size}

-- ---- how many there are

one_kept : (pool : Frames ℕ) (frame : ℕ) (pair : Option Pair) → length (kept_with pool frame pair) ≤ 1
one_kept pool frame None = omega arith
one_kept pool frame (Some pair) = omega arith

pub few_kept : (pool : Frames ℕ) (entries : List NumberedSlot) → length (kept_files pool entries) ≤ length entries
few_kept pool [] = omega arith
few_kept pool (e ∷ es) =
    omega (
      arith,
      length-append (kept_one pool e) (kept_files pool es),
      one_kept pool e.1.frame e.1.pair,
      few_kept pool es,
    )

-- ---- an element comes to the front

moved_frames : (spare : ℕ) (us : List NumberedSlot) (e : NumberedSlot) (vs : List NumberedSlot)
    → IsPermutation (spare ∷ frames_of (us ++ e ∷ vs)) (spare ∷ frames_of (e ∷ (us ++ vs)))
moved_frames spare us e vs =
    let frame : NumberedSlot → ℕ = λ (f : NumberedSlot). f.1.frame in
    let front = IsPermutation-middle (frames_of us) e.1.frame (frames_of vs) in
    let one = subst (λ l. IsPermutation l (e.1.frame ∷ (frames_of us ++ frames_of vs)))
    (sym (map-append frame us (e ∷ vs))) front in
    let two = subst (λ l. IsPermutation (frames_of (us ++ e ∷ vs)) (e.1.frame ∷ l)) (sym (map-append frame us vs))
    one in
    IsPermutation-cons spare (frames_of (us ++ e ∷ vs)) (frames_of (e ∷ (us ++ vs))) two

still_apart : (xs ys : List ℕ) → IsPermutation xs ys → IsDistinct nat_eq xs → IsDistinct nat_eq ys
still_apart xs ys perm d = IsDistinct-IsPermutation nat_eq (λ x y. nat_eq_equiv.symm x y) xs ys perm d

-- of a list with one element moved to the front
all_moved : {X : Type 0} (P : X → Type 0) (us : List X) (x : X) (vs : List X) → AllByRecursion P (us ++ x ∷ vs)
    → AllByRecursion P (x ∷ (us ++ vs))
all_moved P us x vs h = let right = all_right P us (x ∷ vs) h in
    (right.0, all_both P us vs (all_left P us (x ∷ vs) h) right.1)

below_moved : (P : ℕ → Type 0) (spare : ℕ) (us : List NumberedSlot) (e : NumberedSlot) (vs : List NumberedSlot)
    → AllByRecursion P (spare ∷ frames_of (us ++ e ∷ vs)) → AllByRecursion P (spare ∷ frames_of (e ∷ (us ++ vs)))
below_moved P spare us e vs h =
    let frame : NumberedSlot → ℕ = λ (f : NumberedSlot). f.1.frame in
    let all = subst (AllByRecursion P) (map-append frame us (e ∷ vs)) h.1 in
    let m = all_moved P (frames_of us) e.1.frame (frames_of vs) all in
    (h.0, (m.0, subst (AllByRecursion P) (sym (map-append frame us vs)) m.1))

first_without : (us : List NumberedSlot) (e : NumberedSlot) (vs : List NumberedSlot) → FilesFirst (us ++ e ∷ vs)
    → FilesFirst (us ++ vs)
first_without [] e vs h = h.1
first_without (u ∷ us) e vs h =
    ((λ none. (all_moved (λ (f : NumberedSlot). f.1.pair ≡ None) us e vs (h.0 none)).1), first_without us e vs h.1)

first_front : (us vs : List NumberedSlot) → FilesFirst (us ++ vs) → FilesFirst us
first_front [] vs h = tt
first_front (u ∷ us) vs h =
    ((λ none. all_left (λ (f : NumberedSlot). f.1.pair ≡ None) us vs (h.0 none)), first_front us vs h.1)

-- a slot with a file at the front
first_more : (n frame : ℕ) (pair : Pair) (es : List NumberedSlot) → FilesFirst es
    → FilesFirst ((n, filled_slot frame pair) ∷ es)
first_more n frame pair es h = ((λ none. absurd cc), h)

length_moved : {X : Type 0} (us : List X) (x : X) (vs : List X) → length (x ∷ (us ++ vs)) ≡ length (us ++ x ∷ vs)
length_moved us x vs = omega (arith, length-append us (x ∷ vs), length-append us vs)

-- ---- a file is used

module _ (pool : Frames ℕ) where
  kept_moved : (us : List NumberedSlot) (e : NumberedSlot) (vs : List NumberedSlot) → kept_files pool (us ++ e ∷ vs)
      ≡ kept_files pool us ++ (kept_one pool e ++ kept_files pool vs)
  kept_moved us e vs = flat_map-append (kept_one pool) us (e ∷ vs)

  pub used_front : (pair : Pair) (frame : ℕ) (old new : List NumberedSlot) → IsMoved pair frame old new
      → IsMovedToFront pair (kept_files pool old) (kept_files pool new)
  used_front pair frame old new m =
      let e : NumberedSlot = (m.number, filled_slot frame pair) in
      record {
        before = kept_files pool m.before;
        bytes = take (tile_size pair.tile) (contents pool frame);
        after = kept_files pool m.after;
        was = ap (kept_files pool) m.was ∙ kept_moved m.before e m.after;
        now = ap (kept_files pool) m.now
            ∙ ap (λ ks. kept_one pool e ++ ks) (flat_map-append (kept_one pool) m.before m.after);
      }

pub moved_cache : (pool : Frames ℕ) (frames : List Frame) (old new : LruCache ℕ Slot) (spare frame : ℕ) (pair : Pair)
    → IsCache pool frames old spare → new.cap ≡ old.cap → IsMoved pair frame old.entries new.entries
    → IsCache pool frames new spare
moved_cache pool frames old new spare frame pair h cap m =
    let e : NumberedSlot = (m.number, filled_slot frame pair) in
    let perm = moved_frames spare m.before e m.after in
    let files = first_more m.number frame pair (m.before ++ m.after)
    (first_without m.before e m.after (subst FilesFirst m.was h.files_first)) in
    let apart = still_apart _ _ perm (subst (λ (es : List NumberedSlot). IsDistinct nat_eq (spare ∷ frames_of es)) m.was
    h.apart) in
    let was_below = subst (λ (es : List NumberedSlot). AllByRecursion (λ f. f < 8) (spare ∷ frames_of es))
    m.was h.below in
    let below = below_moved (λ f. f < 8) spare m.before e m.after was_below in
    record {
      pooled = h.pooled;
      all_frames = h.all_frames;
      count = ap length m.now ∙ length_moved m.before e m.after ∙ ap length (sym m.was) ∙ h.count;
      cap = cap ∙ h.cap;
      apart = subst (λ (es : List NumberedSlot). IsDistinct nat_eq (spare ∷ frames_of es)) (sym m.now) apart;
      below = subst (λ (es : List NumberedSlot). AllByRecursion (λ f. f < 8) (spare ∷ frames_of es)) (sym m.now) below;
      files_first = subst FilesFirst (sym m.now) files;
    }

-- ---- no slot has a file

pair_self : (pair : Pair) → is_pair pair (Some pair) ≡ true
pair_self pair =
    let version : nat_eq pair.version pair.version ≡ true = nat_eq_equiv.refl pair.version in
    let tile : is_eq (tile_cmp pair.tile pair.tile) ≡ true = ap is_eq (tile_self pair.tile) in
    rw (version, tile) refl

module _ (pool : Frames ℕ) (pair : Pair) where
  none_one : (frame : ℕ) (kept : Option Pair) (ks : List Kept) → is_pair pair kept ≡ false → HasNone pair ks
      → HasNone pair (kept_with pool frame kept ++ ks)
  none_one frame None ks e h = h
  none_one frame (Some other) ks e h = (
    (λ same. let no : is_pair pair (Some pair) ≡ false = subst (λ o. is_pair pair (Some o) ≡ false) same e in
        absurd (true≢false (sym (pair_self pair) ∙ no))),
    h,
  )

  pub none_kept : (es : List NumberedSlot) → AllByRecursion (λ e. holds pair e.1 ≡ false) es
      → HasNone pair (kept_files pool es)
  none_kept [] h = tt
  none_kept (e ∷ es) h = none_one e.1.frame e.1.pair (kept_files pool es) h.0 (none_kept es h.1)

-- ---- the last slot is renewed

none_in : (pool : Frames ℕ) (es : List NumberedSlot) → AllByRecursion (λ (f : NumberedSlot). f.1.pair ≡ None) es
    → kept_files pool es ≡ []
none_in pool [] h = refl
none_in pool (e ∷ es) h = ap (λ o. kept_with pool e.1.frame o ++ kept_files pool es) h.0 ∙ none_in pool es h.1

module _ (pool : Frames ℕ) (last : NumberedSlot) where
  drop_one : (frame : ℕ) (kept : Option Pair) (us : List NumberedSlot)
      → (kept ≡ None → AllByRecursion (λ (f : NumberedSlot). f.1.pair ≡ None) (us ++ last ∷ []))
      → kept_files pool us ≡ take (length us) (kept_files pool (us ++ last ∷ []))
      → kept_with pool frame kept ++ kept_files pool us
      ≡ take (suc (length us)) (kept_with pool frame kept ++ kept_files pool (us ++ last ∷ []))
  drop_one frame None us none e =
      let all = none refl in
      none_in pool us (all_left (λ (f : NumberedSlot). f.1.pair ≡ None) us (last ∷ []) all)
      ∙ ap (take (suc (length us))) (sym (none_in pool (us ++ last ∷ []) all))
  drop_one frame (Some pair) us none e =
      ap (λ ks. record { pair = pair; bytes = take (tile_size pair.tile) (contents pool frame) } ∷ ks) e

  drop_last : (us : List NumberedSlot) → FilesFirst (us ++ last ∷ [])
      → kept_files pool us ≡ take (length us) (kept_files pool (us ++ last ∷ []))
  drop_last [] h = refl
  drop_last (u ∷ us) h = drop_one u.1.frame u.1.pair us h.0 (drop_last us h.1)
      ∙ ap (λ n. take n (kept_files pool (u ∷ us ++ last ∷ []))) (let e : suc (length us)
      ≡ length (u ∷ us) = omega arith in e)

renewed_length : (us : List NumberedSlot) (last : NumberedSlot) (es : List NumberedSlot) → es ≡ us ++ last ∷ []
    → length es ≡ 7
    → length us ≡ 6
renewed_length us last es was count = omega (arith, ap length was, length-append us (last ∷ []))

pub renewed_kept : (pool : Frames ℕ) (frames : List Frame) (old new : LruCache ℕ Slot) (spare given : ℕ) (pair : Pair)
    → IsCache pool frames old spare → IsRenewed spare pair old new given
    → kept_files pool new.entries
    ≡ record { pair = pair; bytes = take (tile_size pair.tile) (contents pool spare) } ∷ take 6
    (kept_files pool old.entries)
renewed_kept pool frames old new spare given pair h r =
    let k : Kept = record { pair = pair; bytes = take (tile_size pair.tile) (contents pool spare) } in
    let six = renewed_length r.before r.last old.entries r.was h.count in
    let rest = drop_last pool r.last r.before (subst FilesFirst r.was h.files_first) in
    ap (λ (c : LruCache ℕ Slot). kept_files pool c.entries) r.now
    ∙ ap (λ ks. k ∷ ks) (rest ∙ ap (λ n. take n (kept_files pool (r.before ++ r.last ∷ []))) six
    ∙ ap (λ (es : List NumberedSlot). take 6 (kept_files pool es)) (sym r.was))

pub renewed_cache : (pool : Frames ℕ) (frames : List Frame) (old new : LruCache ℕ Slot) (spare given : ℕ) (pair : Pair)
    → IsCache pool frames old spare → IsRenewed spare pair old new given → IsCache pool frames new given
renewed_cache pool frames old new spare given pair h r =
    let frame : NumberedSlot → ℕ = λ (f : NumberedSlot). f.1.frame in
    let e : NumberedSlot = (r.last.0, filled_slot spare pair) in
    let split : frames_of (r.before ++ r.last ∷ []) ≡ frames_of r.before ++ r.last.1.frame ∷ [] =
    map-append frame r.before (r.last ∷ []) in
    let was : frames_of old.entries ≡ frames_of r.before ++ r.last.1.frame ∷ [] = ap frames_of r.was ∙ split in
    let perm = IsPermutation-to_front (spare ∷ frames_of r.before) r.last.1.frame in
    let apart = still_apart _ _ perm (subst (λ l. IsDistinct nat_eq (spare ∷ l)) was h.apart) in
    let below_was = subst (λ l. AllByRecursion (λ f. f < 8) (spare ∷ l)) was h.below in
    let front = all_left (λ f. f < 8) (spare ∷ frames_of r.before) (r.last.1.frame ∷ []) below_was in
    let back = all_right (λ f. f < 8) (spare ∷ frames_of r.before) (r.last.1.frame ∷ []) below_was in
    let six = renewed_length r.before r.last old.entries r.was h.count in
    let entries : new.entries ≡ e ∷ r.before = ap (λ (c : LruCache ℕ Slot). c.entries) r.now in
    record {
      pooled = h.pooled;
      all_frames = h.all_frames;
      count = ap length entries ∙ (let n : length (e ∷ r.before) ≡ 7 = omega (arith, six) in n);
      cap = ap (λ (c : LruCache ℕ Slot). c.cap) r.now ∙ h.cap;
      apart = subst (λ g. IsDistinct nat_eq (g ∷ frames_of new.entries)) (sym r.frame_is)
          (subst (λ (es : List NumberedSlot). IsDistinct nat_eq (r.last.1.frame ∷ frames_of es)) (sym entries) apart);
      below = subst (λ g. AllByRecursion (λ f. f < 8) (g ∷ frames_of new.entries)) (sym r.frame_is)
          (subst (λ (es : List NumberedSlot). AllByRecursion (λ f. f < 8) (r.last.1.frame ∷ frames_of es)) (sym entries)
          (back.0, front));
      files_first =
          subst FilesFirst (sym entries)
          (first_more r.last.0 spare pair r.before
          (first_front r.before (r.last ∷ []) (subst FilesFirst r.was h.files_first)));
    }

-- ---- the spare frame is written

same_kept : (pool : Frames ℕ) (spare : ℕ) (w : List ℕ) (frame : ℕ) → contents (written pool spare w) frame
    ≡ contents pool frame → (kept : Option Pair) (xs ys : List Kept) → xs ≡ ys
    → kept_with (written pool spare w) frame kept ++ xs ≡ kept_with pool frame kept ++ ys
same_kept pool spare w frame e None xs ys r = r
same_kept pool spare w frame e (Some pair) xs ys r =
    λ i. record { pair = pair; bytes = take (tile_size pair.tile) (e i) } ∷ r i

all_other : (pool : Frames ℕ) (spare : ℕ) (w : List ℕ) → Fits pool spare → length w ≡ pool.frame_length
    → (es : List NumberedSlot) → AllByRecursion (λ f. nat_eq spare f ≡ false) (frames_of es)
    → kept_files (written pool spare w) es ≡ kept_files pool es
all_other pool spare w fits long [] h = refl
all_other pool spare w fits long (e ∷ es) h =
    let other : e.1.frame ≢ spare =
    λ same. absurd (true≢false (sym (nat_eq_equiv.refl spare) ∙ subst (λ f. nat_eq spare f ≡ false) same h.0)) in
    same_kept pool spare w e.1.frame (contents-written_other pool spare w fits long e.1.frame other) e.1.pair
    (kept_files (written pool spare w) es) (kept_files pool es) (all_other pool spare w fits long es h.1)

-- what the spare frame lies in, and what a write to it leaves
pub record Spared (pool : Frames ℕ) (frames : List Frame) (slots : LruCache ℕ Slot) (spare : ℕ) : Type 0 where
  pub small : spare < 8
  pub fits : Fits pool spare
  pub out : slice_get pool.out spare ≡ Some true
  pub numbered_so : (f : Frame) → f ≡ get_or frames spare f → f.number ≡ spare
  pub after : (w : List ℕ) → length w ≡ pool.frame_length → IsCache (written pool spare w) frames slots spare
      × (kept_files (written pool spare w) slots.entries ≡ kept_files pool slots.entries)
      × (contents (written pool spare w) spare ≡ w)

fits_in : (pool : Frames ℕ) (k : ℕ) → IsPooled pool → k < 8 → Fits pool k
fits_in pool k h lt = let row = row_fits k pool.frame_length 8 pool.frame_length lt (omega arith) in
    omega (arith, row, h.size, h.whole)

out_at : (k : ℕ) → k < 8 → slice_get (replicate 8 true) k ≡ Some true
out_at zero lt = refl
out_at (suc zero) lt = refl
out_at (suc (suc zero)) lt = refl
out_at (suc (suc (suc zero))) lt = refl
out_at (suc (suc (suc (suc zero)))) lt = refl
out_at (suc (suc (suc (suc (suc zero))))) lt = refl
out_at (suc (suc (suc (suc (suc (suc zero)))))) lt = refl
out_at (suc (suc (suc (suc (suc (suc (suc zero))))))) lt = refl
out_at (suc (suc (suc (suc (suc (suc (suc (suc k)))))))) lt = absurd (omega arith)

frame_at : (k : ℕ) (d : Frame) → k < 8 → get_or (numbered_frames 8) k d ≡ frame_of k
frame_at zero d lt = refl
frame_at (suc zero) d lt = refl
frame_at (suc (suc zero)) d lt = refl
frame_at (suc (suc (suc zero))) d lt = refl
frame_at (suc (suc (suc (suc zero)))) d lt = refl
frame_at (suc (suc (suc (suc (suc zero))))) d lt = refl
frame_at (suc (suc (suc (suc (suc (suc zero)))))) d lt = refl
frame_at (suc (suc (suc (suc (suc (suc (suc zero))))))) d lt = refl
frame_at (suc (suc (suc (suc (suc (suc (suc (suc k)))))))) d lt = absurd (omega arith)

pub spared : (pool : Frames ℕ) (frames : List Frame) (slots : LruCache ℕ Slot) (spare : ℕ)
    → IsCache pool frames slots spare → Spared pool frames slots spare
spared pool frames slots spare h =
    let lt = h.below.0 in
    let fits = fits_in pool spare h.pooled lt in
    record {
      small = lt;
      fits = fits;
      out = ap (λ (out : List Bool). slice_get out spare) h.pooled.out ∙ out_at spare lt;
      numbered_so = λ f e. ap (λ (g : Frame). g.number) (e ∙ ap (λ (fs : List Frame). get_or fs spare f) h.all_frames
          ∙ frame_at spare f lt);
      after = λ w long. (
        record {
          pooled = record {
            size = h.pooled.size;
            whole = length-written pool spare w fits long
                ∙ h.pooled.whole;
            out = h.pooled.out;
          };
          all_frames = h.all_frames;
          count = h.count;
          cap = h.cap;
          apart = h.apart;
          below = h.below;
          files_first = h.files_first;
        },
        all_other pool spare w fits long slots.entries (IsDistinct-head nat_eq spare (frames_of slots.entries) h.apart),
        contents-written pool spare w fits long,
      );
    }

-- the first slot, where some file is kept
pub record HeadOf (pool : Frames ℕ) (es : List NumberedSlot) (slot : Slot) : Type 0 where
  pub small : slot.frame < 8
  pub filled : slot.pair ≡ None → ⊥
  pub head : (pair : Pair) → slot.pair ≡ Some pair → slice_get (kept_files pool es) 0
      ≡ Some (record { pair = pair; bytes = take (tile_size pair.tile) (contents pool slot.frame) })

head_some : (pool : Frames ℕ) (frame : ℕ) (kept : Option Pair) (ks : List Kept) (pair : Pair) → kept ≡ Some pair
    → slice_get (kept_with pool frame kept ++ ks) 0
    ≡ Some (record { pair = pair; bytes = take (tile_size pair.tile) (contents pool frame) })
head_some pool frame None ks pair e = absurd cc
head_some pool frame (Some other) ks pair e = let same : other ≡ pair = cc in
    ap (λ (p : Pair). Some (record { pair = p; bytes = take (tile_size p.tile) (contents pool frame) })) same

pub head_of : (pool : Frames ℕ) (es : List NumberedSlot) (n : ℕ) (slot : Slot) → FilesFirst es
    → AllByRecursion (λ f. f < 8) (frames_of es) → 0 < length (kept_files pool es) → slice_get es 0 ≡ Some (n, slot)
    → HeadOf pool es slot
head_of pool [] n slot files below some e = absurd cc
head_of pool (f ∷ es) n slot files below some e =
    let pair_same : f ≡ (n, slot) = cc in
    let same : f.1 ≡ slot = ap (λ (g : NumberedSlot). g.1) pair_same in
    let is : HeadOf pool (f ∷ es) f.1 = record {
      small = below.0;
      filled = λ none.
          let nothing : kept_files pool (f ∷ es) ≡ [] = none_in pool (f ∷ es) (none, files.0 none) in
          let no : 0 < length {A = Kept} [] = subst (λ ks. 0 < length ks) nothing some in
          absurd (omega arith);
      head = λ pair is. head_some pool f.1.frame f.1.pair (kept_files pool es) pair is;
    } in
    subst (λ s. HeadOf pool (f ∷ es) s) same is

pub frame_out : (pool : Frames ℕ) (frames : List Frame) (slots : LruCache ℕ Slot) (spare k : ℕ)
    → IsCache pool frames slots spare → k < 8
    → (length frames ≡ 8)
    × ((f : Frame) → f ≡ get_or frames k f → (f.number ≡ k) × (slice_get pool.out f.number ≡ Some true))
frame_out pool frames slots spare k h lt = (
  ap length h.all_frames,
  λ f e.
      let n : f.number ≡ k =
      ap (λ (g : Frame). g.number) (e ∙ ap (λ (fs : List Frame). get_or fs k f) h.all_frames ∙ frame_at k f lt) in
      (n, ap (λ j. slice_get pool.out j) n ∙ ap (λ (out : List Bool). slice_get out k) h.pooled.out ∙ out_at k lt),
)

-- ---- no file is kept at first

distinct_frames : IsDistinct nat_eq (7 ∷ frames_of (fresh 7))
unfolding IsDistinct
distinct_frames = (
  (refl, (refl, (refl, (refl, (refl, (refl, (refl, tt))))))),
  (
    (refl, (refl, (refl, (refl, (refl, (refl, tt)))))),
    (
      (refl, (refl, (refl, (refl, (refl, tt))))),
      ((refl, (refl, (refl, (refl, tt)))), ((refl, (refl, (refl, tt))), ((refl, (refl, tt)), ((refl, tt), (tt, tt))))),
    ),
  ),
)

small_frames : AllByRecursion (λ f. f < 8) (7 ∷ frames_of (fresh 7))
small_frames = (
  omega arith,
  (omega arith, (omega arith, (omega arith, (omega arith, (omega arith, (omega arith, (omega arith, tt))))))),
)

files_of_fresh : FilesFirst (fresh 7)
files_of_fresh = (
  (λ _. (refl, (refl, (refl, (refl, (refl, (refl, tt))))))),
  (
    (λ _. (refl, (refl, (refl, (refl, (refl, tt)))))),
    (
      (λ _. (refl, (refl, (refl, (refl, tt))))),
      ((λ _. (refl, (refl, (refl, tt)))), ((λ _. (refl, (refl, tt))), ((λ _. (refl, tt)), ((λ _. tt), tt)))),
    ),
  ),
)

pub new_cache : (p pool : Frames ℕ) (frames : List Frame) (slots : LruCache ℕ Slot) → p.frame_length ≡ 2097338
    → length p.items ≡ 8 * 2097338 → pool ≡ with_flags p 8
    → frames ≡ numbered_frames 8 → slots ≡ lru_cache (fresh 7) 7 → IsCache pool frames slots 7
new_cache p pool frames slots size whole is all fresh_is = record {
  pooled = record {
    size = ap (λ (q : Frames ℕ). q.frame_length) is ∙ size;
    whole = ap (λ (q : Frames ℕ). length q.items) is ∙ whole;
    out = ap (λ (q : Frames ℕ). q.out) is;
  };
  all_frames = all;
  count = ap (λ (c : LruCache ℕ Slot). length c.entries) fresh_is;
  cap = ap (λ (c : LruCache ℕ Slot). c.cap) fresh_is;
  apart = subst (λ (c : LruCache ℕ Slot). IsDistinct nat_eq (7 ∷ frames_of c.entries)) (sym fresh_is) distinct_frames;
  below = subst (λ (c : LruCache ℕ Slot). AllByRecursion (λ f. f < 8) (7 ∷ frames_of c.entries)) (sym fresh_is)
      small_frames;
  files_first = subst (λ (c : LruCache ℕ Slot). FilesFirst c.entries) (sym fresh_is) files_of_fresh;
}
