-- Equal frames of one block.
use Rattle.std.specs.Prelude.{◌≡◌, ℕ, ◌+◌, ◌*◌, ◌≤◌, ◌<◌, ◌^◌, List, ◌++◌, take, drop, length, Bool, true, false}
use Rattle.std.specs.Prelude.{Some, slice_get, slice_set, replicate, refl}
use Rattle.std.specs.List.{AllClonesOf}
use Rattle.std.specs.Coded.{Coded, code_by, coded×, coded_list, coded_bool, coded_ℕ}

-- the block, the length of a frame, and for each frame whether it is out
pub record Frames (T : Type 0) : Type 0 where
  pub items : List T
  pub frame_length : ℕ
  pub out : List Bool

abbrev pub frames_code : {T : Type 0} → Coded T → Coded (Frames T)
frames_code {T = T} t =
    code_by (List T × (ℕ × List Bool)) (coded× (coded_list t) (coded× coded_ℕ (coded_list coded_bool)))
    (λ f. (f.items, (f.frame_length, f.out)))
    (λ p. record { items = p.0; frame_length = p.1.0; out = p.1.1 }) (λ _. refl)

-- the block has as many items as its frames together, and not too many
pub record IsWholeBlock {T : Type 0} (items : List T) (frame_length : ℕ) (out : List Bool) : Type 0 where
  pub all : length items ≡ length out * frame_length
  pub some : 1 ≤ frame_length
  pub most : length items ≤ 2 ^ 28

-- the contents of a frame
abbrev pub contents : {T : Type 0} → Frames T → ℕ → List T
contents p k = take p.frame_length (drop (k * p.frame_length) p.items)

-- it is one of the frames, and is out, or isn't
abbrev pub IsOut : {T : Type 0} → Frames T → ℕ → Type 0
IsOut p k = slice_get p.out k ≡ Some true

abbrev pub IsFree : {T : Type 0} → Frames T → ℕ → Type 0
IsFree p k = slice_get p.out k ≡ Some false

-- the same frames, of which one is out, or isn't
abbrev pub with_out : {T : Type 0} → Frames T → ℕ → Bool → Frames T
with_out p k now = record p { out = slice_set p.out k now }

-- the same frames, where items are written from the beginning of one on; the block keeps its length
abbrev pub written : {T : Type 0} → Frames T → ℕ → List T → Frames T
written p k w = record p {
  items = take (length p.items)
      (take (k * p.frame_length) p.items ++ (w ++ drop (length w) (drop (k * p.frame_length) p.items)));
}

-- so many frames, filled with copies of one value, of which none is out
pub record IsNew {T : Type 0} (clones : T → T → Type 0) (frames frame_length : ℕ) (fill : T) (p : Frames T)
    : Type 0 where
  pub filled : AllClonesOf clones fill p.items
  pub size : p.frame_length ≡ frame_length
  pub whole : length p.items ≡ frames * frame_length
  pub none_out : p.out ≡ replicate frames false

-- a frame is out, lies in the block, and is at least so long
pub record IsLent {T : Type 0} (p : Frames T) (k room : ℕ) : Type 0 where
  pub out : IsOut p k
  pub within : k * p.frame_length + p.frame_length ≤ length p.items
  pub long : room ≤ p.frame_length

-- no frame is free
abbrev pub AllOut : {T : Type 0} → Frames T → Type 0
AllOut p = (k : ℕ) → IsFree p k → ⊥

-- a free frame, and none before it is free
abbrev pub IsFirstFree : {T : Type 0} → Frames T → ℕ → Type 0
IsFirstFree p k = IsFree p k × ((j : ℕ) → j < k → IsFree p j → ⊥)
