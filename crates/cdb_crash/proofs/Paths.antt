-- Paths of versions and of the two heads are apart, and lists that have all paths of a kind.
use Rattle.std.proofs.Common.{◌≡◌, ◌≢◌, ℕ, zero, suc, get_or, ◌+◌, ◌-◌, ◌<◌, ◌≤◌, true, ◌⊎◌, inl, inr, List, [], ◌∷◌, ◌++◌, length, refl, sym, ◌∙◌, subst, arith, append_assoc}
use Rattle.std.specs.Prelude.{nat_eq}
use Rattle.std.proofs.lemmas.Bool.{true≢false, and_parts, eqb-true}
use Rattle.std.specs.List.{starts_with, Contains}
use Rattle.cdb_model.specs.Maps.{Text, is_under, folder_prefix}
use Rattle.cdb_model.specs.Names.{version_folder, head_path, new_head_path, IsUnder}
use Rattle.cdb_model.specs.Stands.{AtMost}
use Rattle.cdb_names.proofs.VersionLaws.{folders_apart, head_apart, new_head_apart}
use Rattle.cdb_names.proofs.FieldLaws.{starts_again}
use Rattle.cdb_crash.specs.Leftovers.{IsOfVersion}

starts : (prefix path : Text) → starts_with nat_eq path prefix ≡ true → (rest : Text) × (path ≡ prefix ++ rest)
starts [] path h = (path, refl)
starts (c ∷ prefix) [] h = absurd (true≢false (sym h))
starts (c ∷ prefix) (d ∷ path) h =
    let parts = and_parts (nat_eq c d) (starts_with nat_eq path prefix) h in
    let rest = starts prefix path parts.1 in
    (rest.0, λ i. sym (eqb-true c d parts.0) i ∷ rest.1 i)

pub is_under-IsUnder : (version : ℕ) (path : Text) → IsOfVersion version path → IsUnder (version_folder version) path
unfolding is_under
is_under-IsUnder version path under =
    let rest = starts (folder_prefix (version_folder version)) path under in
    (rest.0, rest.1 ∙ append_assoc (version_folder version) (47 ∷ []) (rest.0))

pub under_folder : (version : ℕ) (rest : Text) → IsOfVersion version (folder_prefix (version_folder version) ++ rest)
unfolding is_under
under_folder version rest = starts_again (folder_prefix (version_folder version)) rest

pub versions_apart : (j k : ℕ) (path : Text) → IsOfVersion j path → IsOfVersion k path → j ≡ k
versions_apart j k path a b = folders_apart j k path (is_under-IsUnder j path a) (is_under-IsUnder k path b)

pub not_head : (k : ℕ) (path : Text) → IsOfVersion k path → path ≢ head_path
not_head k path under e = let P : Text → Type 0 = IsUnder (version_folder k) in
    head_apart k (subst P e (is_under-IsUnder k path under))

pub not_new_head : (k : ℕ) (path : Text) → IsOfVersion k path → path ≢ new_head_path
not_new_head k path under e = let P : Text → Type 0 = IsUnder (version_folder k) in
    new_head_apart k (subst P e (is_under-IsUnder k path under))

-- ---- lists of paths
-- The path stands in a list of paths.
IsAmong : List Text → Text → Type 0
IsAmong [] path = ⊥
IsAmong (first ∷ rest) path = (path ≡ first) ⊎ IsAmong rest path

to_among : (xs : List Text) (q : Text) → Contains xs q → IsAmong xs q
unfolding IsAmong
to_among xs q (k, l, e) = walk xs k l e
  where
    walk : (xs : List Text) (k : ℕ) → k < length xs → get_or xs k q ≡ q → IsAmong xs q
    walk [] k l e = absurd (omega arith)
    walk (x ∷ xs) zero l e = inl (sym e)
    walk (x ∷ xs) (suc k) l e = inr (walk xs k (omega arith) e)

from_among : (xs : List Text) (q : Text) → IsAmong xs q → Contains xs q
unfolding IsAmong
from_among [] q a = absurd a
from_among (x ∷ xs) q (inl e) = (0, omega arith, sym e)
from_among (x ∷ xs) q (inr a) = later (from_among xs q a)
  where
    later : Contains xs q → Contains (x ∷ xs) q
    later (k, l, e) = (suc k, omega (arith, l), e)

-- A list without one path that stands in it.
record IsWithout (paths : List Text) (path : Text) (rest : List Text) : Type 0 where
  pub shorter : length rest + 1 ≤ length paths
  pub others : (q : Text) → IsAmong paths q → q ≢ path → IsAmong rest q

without : (paths : List Text) (path : Text) → IsAmong paths path → (rest : List Text) × IsWithout paths path rest
unfolding IsAmong
without [] path among = absurd among
without (first ∷ rest) path (inl e) = (rest, record { shorter = omega arith; others = λ q among ne. other q ne among })
  where
    other : (q : Text) → q ≢ path → IsAmong (first ∷ rest) q → IsAmong rest q
    other q ne (inl same) = absurd (ne (same ∙ sym e))
    other q ne (inr a) = a
without (first ∷ rest) path (inr among) = with_first (without rest path among)
  where
    with_first : (less : List Text) × IsWithout rest path less → (less : List Text) × IsWithout (first ∷ rest) path less
    with_first (less, w) = (first ∷ less, record { shorter = omega (arith, w.shorter); others = other })
      where
        other : (q : Text) → IsAmong (first ∷ rest) q → q ≢ path → IsAmong (first ∷ less) q
        other q (inl same) ne = inl same
        other q (inr a) ne = inr (w.others q a ne)

pub one_less : (count : ℕ) (Such Fewer : Text → Type 0) (path : Text) → Such path
    → ((q : Text) → Fewer q → Such q × (q ≢ path))
    → AtMost count Such → AtMost (count - 1) Fewer
one_less count Such Fewer path such fewer most =
    of (without most.paths path (to_among most.paths path (most.all path such)))
  where
    of : (rest : List Text) × IsWithout most.paths path rest → AtMost (count - 1) Fewer
    of (rest, w) = record {
      paths = rest;
      few = omega (arith, most.few, w.shorter);
      all = λ q f. from_among rest q (w.others q (to_among most.paths q (most.all q ((fewer q f).0))) ((fewer q f).1));
    }

-- Fewer paths are such, or more are allowed.
pub at_most-wider : (count more : ℕ) (Such Fewer : Text → Type 0) → count ≤ more → ((q : Text) → Fewer q → Such q)
    → AtMost count Such → AtMost more Fewer
at_most-wider count more Such Fewer le narrower most =
    record { paths = most.paths; few = omega (arith, le, most.few); all = λ q f. most.all q (narrower q f) }

-- One path more.
pub at_most-with : (count : ℕ) (Such Wider : Text → Type 0) (path : Text) → ((q : Text) → Wider q → Such q ⊎ (q ≡ path))
    → AtMost count Such → AtMost (count + 1) Wider
at_most-with count Such Wider path wider most =
    record { paths = path ∷ most.paths; few = omega (arith, most.few); all = λ q w. of q (wider q w) }
  where
    of : (q : Text) → Such q ⊎ (q ≡ path) → Contains (path ∷ most.paths) q
    of q (inl s) = later (most.all q s)
      where
        later : Contains most.paths q → Contains (path ∷ most.paths) q
        later (k, l, e) = (suc k, omega (arith, l), e)
    of q (inr e) = (0, omega arith, sym e)

-- No path is such.
pub at_most-none : (count : ℕ) (Such : Text → Type 0) → ((q : Text) → Such q → ⊥) → AtMost count Such
at_most-none count Such none = record { paths = []; few = omega arith; all = λ q s. absurd (none q s) }

-- One path alone is such.
pub at_most-one : (count : ℕ) (Such : Text → Type 0) (path : Text) → 1 ≤ count → ((q : Text) → Such q → q ≡ path)
    → AtMost count Such
at_most-one count Such path le one =
    record { paths = path ∷ []; few = omega (arith, le); all = λ q s. (0, omega arith, sym (one q s)) }
