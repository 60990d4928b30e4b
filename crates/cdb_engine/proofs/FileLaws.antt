-- A file of a shelf, by its size and its bytes.
use Rattle.std.proofs.Common.{◌≡◌, ℕ, ◌<◌, ◌≤◌, Bool, true, false, List, length, take, replicate, Some, None, Result}
use Rattle.std.proofs.Common.{Ok, Err, ◌==◌, refl, sym, ◌∙◌, ap, arith}
use Rattle.std.proofs.lemmas.List.{length-replicate}
use Rattle.std.proofs.Math.Seq.{take-length}
use Rattle.std.proofs.lemmas.Bool.Decides.{Decides-eqb}
use Rattle.cdb_model.specs.Maps.{Content, size_of, HasAt}
use Rattle.cdb_engine.specs.declared.errors.LoadError.TheVariants.{Memory, Shelf, Absent, Big, Input, Range}
use Rattle.cdb_engine.specs.declared.errors.LoadError.{LoadError}
use Rattle.cdb_source.specs.declared.source.Source.{Source}
use Rattle.cdb_model.specs.Grammar.{FileSource}
use Rattle.cdb_engine.specs.Loading.{ReadsNot, ReadsAll, IsBigOf, IsMadeOf, LoadOutcome}

pub not_for_shelf : (Tells : Type 0) (file : Content) → ReadsNot Tells file Shelf
not_for_shelf Tells file = record { content = file; told = λ t. refl; unread = tt }

pub not_for_memory : (Tells : Type 0) (file : Content) → ReadsNot Tells file Memory
not_for_memory Tells file = record { content = file; told = λ t. refl; unread = tt }

zeros : (size : ℕ) → 67108864 < size → IsBigOf size (Some (replicate size 0))
zeros size big = record { bytes = replicate size 0; there = refl; size_is = length-replicate size 0; big = big }

-- the file itself where its size is the one that was told, and else as many zeros
big_by : (Tells : Type 0) (size : ℕ) (bytes : List ℕ) (test : Bool) → (length bytes == size) ≡ test → 67108864 < size
    → (Tells → size ≡ length bytes) → ReadsNot Tells (Some bytes) (Big size)
big_by Tells size bytes true e big told = record {
  content = Some bytes;
  told = λ t. refl;
  unread = record { bytes = bytes; there = refl; size_is = (Decides-eqb (length bytes) size).0 e; big = big };
}
big_by Tells size bytes false e big told = record {
  content = Some (replicate size 0);
  told = λ t. absurd
      (let yes : (length bytes == size) ≡ true = (Decides-eqb (length bytes) size).1 (sym (told t)) in cc);
  unread = zeros size big;
}

pub too_big : (Tells : Type 0) (file : Content) (size : ℕ) → 67108864 < size → (Tells → Some size ≡ size_of file)
    → ReadsNot Tells file (Big size)
too_big Tells None size big told =
    record {
      content = Some (replicate size 0);
      told = λ t. absurd (let e : Some size ≡ None = told t in cc);
      unread = zeros size big;
    }
too_big Tells (Some bytes) size big told =
    big_by Tells size bytes ((length bytes == size)) refl big
    (λ t. let e : Some size ≡ Some (length bytes) = told t in cc)

is_whole : (file : Content) (bytes : List ℕ) → Some (length bytes) ≡ size_of file → HasAt file 0 bytes
    → file ≡ Some bytes
is_whole None bytes e at = absurd at
is_whole (Some all) bytes e at =
    let same : length bytes ≡ length all = cc in
    sym (ap Some (at ∙ ap (λ n. take n all) same ∙ take-length all))

pub read_whole : (Tells : Type 0) (file : Content) (size : ℕ) (bytes : List ℕ) → length bytes ≡ size → size ≤ 67108864
    → (Tells → Some size ≡ size_of file) → (Tells → HasAt file 0 bytes) → ReadsAll Tells file bytes
read_whole Tells file size bytes len small told at = record {
  told = λ t. is_whole file bytes (ap Some len ∙ told t) (at t);
  small = omega (arith, len, small);
}

-- ---- a file and the words of an order

pub made_of_file : (Tells : Type 0) (file : Content) (w : FileSource) (bytes : List ℕ)
    (result : Result Source LoadError) → ReadsAll Tells file bytes → IsMadeOf w bytes result
    → LoadOutcome Tells file w result
made_of_file Tells file w bytes (Ok source) reads made = record {
  content = Some bytes;
  told = λ t. sym (reads.told t);
  loaded = record {
    bytes = bytes;
    image = record { there = refl; small = reads.small; sound = made.0 };
    spelled = made.1;
  };
}
made_of_file Tells file w bytes (Err Memory) reads made = record { content = file; told = λ t. refl; loaded = tt }
made_of_file Tells file w bytes (Err Shelf) reads made = absurd made
made_of_file Tells file w bytes (Err Absent) reads made = absurd made
made_of_file Tells file w bytes (Err (Big size)) reads made = absurd made
made_of_file Tells file w bytes (Err (Input error)) reads made = record {
  content = Some bytes;
  told = λ t. sym (reads.told t);
  loaded = record { bytes = bytes; there = refl; small = reads.small; caused = made };
}
made_of_file Tells file w bytes (Err Range) reads made = record {
  content = Some bytes;
  told = λ t. sym (reads.told t);
  loaded = record {
    bytes = bytes;
    image = record { there = refl; small = reads.small; sound = made.0 };
    none = made.1;
  };
}
