-- Laws of offers: which one stands of two lists, and of one height more.
use Rattle.std.proofs.Common.{◌≡◌, ℕ, suc, ◌<◌, ◌≤◌, Bool, true, false, cond, ◌&&◌, nat_le, nat_eq, List, [], ◌∷◌, ◌++◌, Option, Some, None, IfSome, refl, sym, ap, ◌∙◌, arith, inl, inr}
use Rattle.std.specs.Option.{option_map, option_or}
use Rattle.std.proofs.lemmas.Bool.{cases_lt, le-leb, lt-leb}
use Rattle.std.proofs.lemmas.Bool.Decides.{nat_tests}
use Rattle.cdb_source.specs.Offers.{over, newest}

pub or_none : {X : Type 0} (o : Option X) → option_or o None ≡ o
or_none None = refl
or_none (Some x) = refl

pub or_assoc : {X : Type 0} (a b c : Option X) → option_or (option_or a b) c ≡ option_or a (option_or b c)
or_assoc None b c = refl
or_assoc (Some x) b c = refl

pub over_none : {X : Type 0} (o : Option (ℕ × X)) → over None o ≡ o
over_none None = refl
over_none (Some x) = refl

-- the newest of two lists in a row
pub newest-append : {X : Type 0} (xs ys : List (Option X)) → newest (xs ++ ys) ≡ option_or (newest ys) (newest xs)
newest-append [] ys = sym (or_none (newest ys))
newest-append (x ∷ xs) ys = let rec = newest-append xs ys in ap (λ o. option_or o x) rec
    ∙ or_assoc (newest ys) (newest xs) x

-- an offer at the height above h, tagged with that height
abbrev pub tagged : {X : Type 0} → ℕ → Option X → Option (ℕ × X)
tagged h o = option_map (λ v. (h, v)) o

-- an offer of at most a height
abbrev pub IsUpTo : {X : Type 0} → ℕ → Option (ℕ × X) → Type 0
IsUpTo {X} h o = IfSome {T = ℕ × X} o (λ x. x.0 ≤ h)

le_itself : (h : ℕ) → nat_le h h ≡ true
le_itself h = grind (arith, nat_tests)

eq_true : (m n : ℕ) → m ≡ n → nat_eq m n ≡ true
eq_true m n h = grind (arith, nat_tests)

eq_false : (m n : ℕ) → (m ≡ n → ⊥) → nat_eq m n ≡ false
eq_false m n h = grind (arith, nat_tests)

pub over_up_to : {X : Type 0} (h : ℕ) (a b : Option (ℕ × X)) → IsUpTo h a → IsUpTo h b → IsUpTo h (over a b)
over_up_to h None None p q = tt
over_up_to h None (Some y) p q = q
over_up_to h (Some x) None p q = p
over_up_to {X} h (Some x) (Some y) p q =
    elim (nat_le y.0 x.0) as (λ b. IfSome {T = ℕ × X} (cond b (Some y) (Some x)) (λ z. z.0 ≤ h))
    [ true ↦ q | false ↦ p ]

-- one height more: what stands at it is what stood below, else the newest of exactly this height
pub over_step : {X : Type 0} (h : ℕ) (a b : Option (ℕ × X)) (o n : Option X) → IsUpTo h a → IsUpTo h b
    → over (option_or a (tagged (suc h) o)) (option_or b (tagged (suc h) n))
    ≡ option_or (over a b) (tagged (suc h) (option_or n o))
over_step h None None None None p q = refl
over_step h None None (Some v) None p q = refl
over_step h None None None (Some w) p q = refl
over_step h None None (Some v) (Some w) p q = rw (le_itself (suc h)) refl
over_step h None (Some y) None n p q = refl
over_step h None (Some y) (Some v) n p q = let k : y.0 ≤ suc h = omega (arith, q) in rw (le-leb y.0 (suc h) k) refl
over_step h (Some x) None o None p q = refl
over_step h (Some x) None o (Some w) p q = let k : x.0 < suc h = omega (arith, p) in rw (lt-leb (suc h) x.0 k) refl
over_step {X} h (Some x) (Some y) o n p q =
    elim (nat_le y.0 x.0) as
    (λ b. cond b (Some y) (Some x) ≡ option_or (cond b (Some y) (Some x)) (tagged (suc h) (option_or n o)))
    [ true ↦ refl | false ↦ refl ]

or_tagged : {X : Type 0} (m h : ℕ) (o : Option X) → option_map (λ v. (m, v)) o ≡ option_or (option_map (λ v. (m, v)) o)
    (tagged (suc h) None)
or_tagged m h None = refl
or_tagged m h (Some v) = refl

-- an offer of at most a height is one of at most the height below, or one of exactly this height
pub offer_step : {X : Type 0} (k : Bool) (m h : ℕ) (o : Option X)
    → cond (k && nat_le m (suc h)) (option_map (λ v. (m, v)) o) None
    ≡ option_or (cond (k && nat_le m h) (option_map (λ v. (m, v)) o) None)
    (tagged (suc h) (cond (k && nat_eq m (suc h)) o None))
offer_step false m h o = refl
offer_step true m h o = elim (cases_lt (suc h) m) [
  | inl above ↦
      let e : nat_le m (suc h) ≡ false = lt-leb m (suc h) above in
      let f : nat_le m h ≡ false = lt-leb m h (omega arith) in
      let g : nat_eq m (suc h) ≡ false = eq_false m (suc h) (omega arith) in
      rw (e, f, g) refl
  | inr up_to ↦ elim (cases_lt h m) [
    | inl exact ↦
        let same : m ≡ suc h = omega arith in
        let f : nat_le m h ≡ false = lt-leb m h exact in
        let e : nat_le m (suc h) ≡ true = le-leb m (suc h) up_to in
        let g : nat_eq m (suc h) ≡ true = eq_true m (suc h) same in
        rw (e, f, g) (ap (λ n. option_map (λ v. (n, v)) o) same)
    | inr below ↦
        let e : nat_le m (suc h) ≡ true = le-leb m (suc h) up_to in
        let f : nat_le m h ≡ true = le-leb m h below in
        let g : nat_eq m (suc h) ≡ false = eq_false m (suc h) (omega arith) in
        rw (e, f, g) (or_tagged m h o)
  ]
]

pub offer_up_to : {X : Type 0} (k : Bool) (m h : ℕ) (o : Option X)
    → IsUpTo h (cond (k && nat_le m h) (option_map (λ v. (m, v)) o) None)
offer_up_to false m h o = tt
offer_up_to {X} true m h None = elim (nat_le m h) as (λ b. IfSome {T = ℕ × X} (cond b None None) (λ x. x.0 ≤ h))
    [ true ↦ tt | false ↦ tt ]
offer_up_to true m h (Some v) = elim (cases_lt h m) [
  | inl above ↦ rw (lt-leb m h above) tt
  | inr below ↦ rw (le-leb m h below) below
]
