-- A piece that is written in parts.
use Rattle.std.proofs.Common.{◌≡◌, ◌≢◌, ℕ, List, [], ◌∷◌, ◌++◌, take, drop, Option, refl, ap, sym, ◌∙◌, append_assoc, append-nil, subst}
use Rattle.std.proofs.lemmas.List.{take-append-drop}
use Rattle.std.specs.Io.KnownBytes.{Appends}
use Rattle.std.proofs.KnownBytes.{Appends-nil, Appends-trans}
use Rattle.cdb_front.specs.Devices.{WritesPart}
use Rattle.cdb_front.specs.inside.Devices.{WritesLess}

-- some of the piece is written, and the rest is still to come
pub record Appending (old now : Option (List ℕ)) (piece rest : List ℕ) : Type 0 where
  pub part : List ℕ
  pub joined : piece ≡ part ++ rest
  pub appended : Appends old now part

pub begins : (old : Option (List ℕ)) (piece : List ℕ) → Appending old old piece piece
begins old piece = record { part = []; joined = refl; appended = Appends-nil old }

pub goes_on : (old now new : Option (List ℕ)) (piece rest : List ℕ) (n : ℕ) → Appending old now piece rest
    → Appends now new (take n rest) → Appending old new piece (drop n rest)
goes_on old now new piece rest n a b =
    record {
      part = a.part ++ take n rest;
      joined = a.joined ∙ ap (λ l. a.part ++ l) (sym (take-append-drop n rest))
          ∙ sym (append_assoc a.part (take n rest) (drop n rest));
      appended = Appends-trans old now new a.part (take n rest) a.appended b;
    }

pub ends : (old now : Option (List ℕ)) (piece rest : List ℕ) → Appending old now piece rest → rest ≡ []
    → Appends old now piece
ends old now piece rest a none = subst (Appends old now)
    (sym (a.joined ∙ ap (λ l. a.part ++ l) none ∙ append-nil a.part)) a.appended

pub breaks : (old now new : Option (List ℕ)) (piece rest : List ℕ) → Appending old now piece rest → rest ≢ []
    → WritesLess now new rest → WritesPart old new piece
breaks old now new piece [] a some b = absurd (some refl)
breaks old now new piece (x ∷ rest) a some b =
    record {
      part = a.part ++ b.part;
      rest = b.rest;
      joined = a.joined ∙ ap (λ l. a.part ++ l) b.joined ∙ sym (append_assoc a.part b.part b.rest);
      short = b.short;
      appended = Appends-trans old now new a.part b.part a.appended b.appended;
    }

some_more : (xs ys : List ℕ) → xs ≢ [] → xs ++ ys ≢ []
some_more [] ys h e = h refl
some_more (x ∷ xs) ys h e = absurd cc

pub first_breaks : (old new : Option (List ℕ)) (first second : List ℕ) → WritesPart old new first
    → WritesPart old new (first ++ second)
first_breaks old new first second a =
    record {
      part = a.part;
      rest = a.rest ++ second;
      joined = ap (λ l. l ++ second) a.joined ∙ append_assoc a.part a.rest second;
      short = some_more a.rest second a.short;
      appended = a.appended;
    }

pub second_breaks : (old now new : Option (List ℕ)) (first second : List ℕ) → Appends old now first
    → WritesPart now new second → WritesPart old new (first ++ second)
second_breaks old now new first second a b =
    record {
      part = first ++ b.part;
      rest = b.rest;
      joined = ap (λ l. first ++ l) b.joined ∙ sym (append_assoc first b.part b.rest);
      short = b.short;
      appended = Appends-trans old now new first b.part a b.appended;
    }

pub both : (old now new : Option (List ℕ)) (first second : List ℕ) → Appends old now first → Appends now new second
    → Appends old new (first ++ second)
both old now new first second a b = Appends-trans old now new first second a b
