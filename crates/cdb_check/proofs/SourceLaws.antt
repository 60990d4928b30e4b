-- Heads and sources by their bytes.
use Rattle.std.proofs.Common.{◌≡◌, ◌≢◌, ℕ, ◌+◌, ◌*◌, List, [], ◌∷◌, length, Option, Some, Result, Ok, Err, refl, sym, ◌∙◌, ap, subst, arith}
use Rattle.std.proofs.lemmas.List.{length-append}
use Rattle.std.proofs.lemmas.Option.{same_Some}
use Rattle.cdb_grid.specs.declared.tile.Tile.{Tile}
use Rattle.cdb_model.specs.Maps.{Text, FileMap, size_of}
use Rattle.cdb_model.specs.Names.{source_path, path}
use Rattle.cdb_model.specs.TileFile.{tile_bytes}
use Rattle.cdb_source.proofs.DecodingLaws.{one_source}
use Rattle.cdb_source.proofs.TextLaws.{length-front_text, length-posts_text}
use Rattle.cdb_check.specs.Expected.{SourceFile, a_tile, Spells, SpellAll, IsAsExpected}
use Rattle.cdb_check.specs.inside.Outcome.{Judges, GivesFile, DecodesTo, Unread}
use Rattle.cdb_check.specs.declared.outcome.CheckError.{CheckError}
use Rattle.cdb_check.specs.declared.outcome.CheckError.TheVariants.{Memory, Fault, Differs}
use Rattle.cdb_source.specs.Texts.{source_front_text, posts_text, source_text}
use Rattle.cdb_source.specs.declared.head.SourceHead.{SourceHead}
use Rattle.cdb_source.specs.declared.source.Source.{Source}
use Rattle.cdb_source.proofs.HeadLaws.{one_head, has_head}

pub one_front : (a b : SourceHead) → source_front_text a ≡ source_front_text b → a ≡ b
one_front a b e = one_head (source_front_text b) a b (has_head (source_front_text b) a (sym e))
    (has_head (source_front_text b) b refl)

pub text_length : (s : Source) → length (source_text s) ≡ 52 + 2 * (s.head.rows * s.head.cols)
text_length s = length-append (source_front_text s.head) (posts_text s.posts)
    ∙ omega (arith, length-front_text s.head, length-posts_text s.posts, s.count)

-- source files spell one list of sources
pub one_spelled : (m : FileMap) (files : List SourceFile) (a b : List Source) → SpellAll m files a → SpellAll m files b
    → a ≡ b
one_spelled m [] [] [] p q = refl
one_spelled m [] [] (y ∷ ys) p q = absurd q
one_spelled m [] (x ∷ xs) b p q = absurd p
one_spelled m (file ∷ files) [] b p q = absurd p
one_spelled m (file ∷ files) (x ∷ xs) [] p q = absurd q
one_spelled m (file ∷ files) (x ∷ xs) (y ∷ ys) p q =
    let texts : source_text x ≡ source_text y = same_Some (source_text x) (source_text y) (sym p.0.there ∙ q.0.there) in
    let same : x ≡ y = one_source x y texts in
    let rest : xs ≡ ys = one_spelled m files xs ys p.1 q.1 in
    (λ i. same i ∷ rest i)

-- the file of a tile, against the bytes for sources that are spelled
pub is_tile : (m : FileMap) (files : List SourceFile) (version : ℕ) (t : Tile) (ss : List Source) → SpellAll m files ss
    → m (path version t) ≡ Some (tile_bytes ss t) → IsAsExpected m (a_tile files version t)
is_tile m files version t ss spelled e = (ss, spelled, e)

pub of_tile : (m : FileMap) (files : List SourceFile) (version : ℕ) (t : Tile) (ss : List Source) → SpellAll m files ss
    → IsAsExpected m (a_tile files version t) → m (path version t) ≡ Some (tile_bytes ss t)
of_tile m files version t ss spelled met =
    subst (λ (zs : List Source). m (path version t) ≡ Some (tile_bytes zs t))
    (one_spelled m files met.0 ss met.1 spelled) met.2

-- one fact for another
pub judges_as : {T : Type 0} (A B : Type 0) (p q : Text) (r : Result T CheckError) → (A → B) → (B → A) → p ≡ q
    → Judges A p r → Judges B q r
judges_as A B p q (Ok v) to back e j = to j
judges_as A B p q (Err Memory) to back e j = tt
judges_as A B p q (Err Fault) to back e j = tt
judges_as A B p q (Err (Differs told)) to back e j = ((λ b. j.0 (back b)), j.1 ∙ e)

pub tile_judged : {T : Type 0} (m : FileMap) (files : List SourceFile) (version : ℕ) (t : Tile) (ss : List Source)
    (p : Text) (file : List ℕ) (r : Result T CheckError)
    → p ≡ path version t → file ≡ tile_bytes ss t → SpellAll m files ss → Judges (m p ≡ Some file) p r
    → Judges (IsAsExpected m (a_tile files version t)) (path version t) r
tile_judged m files version t ss p file r is made spelled j =
    judges_as (m p ≡ Some file) (IsAsExpected m (a_tile files version t)) p (path version t) r
    (λ e. is_tile m files version t ss spelled (ap m (sym is) ∙ e ∙ ap Some made))
    (λ met. ap m is ∙ of_tile m files version t ss spelled met ∙ ap Some (sym made))
    is j

-- a source that the bytes of a file give, or none
pub file_gives : (m : FileMap) (file : SourceFile) (bytes : List ℕ) (r : Result Source CheckError)
    → m (source_path file.version file.number) ≡ Some bytes
    → DecodesTo bytes file.head r → GivesFile m file r
file_gives m file bytes (Ok s) there g = record { head = g.1; there = there ∙ ap Some g.0 }
file_gives m file bytes (Err Memory) there g = tt
file_gives m file bytes (Err Fault) there g = tt
file_gives m file bytes (Err (Differs told)) there g =
    λ s spells. g s (same_Some bytes (source_text s) (sym there ∙ spells.there)) spells.head

-- a file of another size is that of no source with the head
pub other_file : (m : FileMap) (file : SourceFile) (size : Option ℕ) (len : ℕ)
    → len ≡ 52 + 2 * (file.head.rows * file.head.cols) → size ≡ size_of (m (source_path file.version file.number))
    → size ≢ Some len
    → (s : Source) → Spells m file s → ⊥
other_file m file size len len_is is other s spells =
    let heads : length (source_text s) ≡ len = text_length s
    ∙ ap (λ (h : SourceHead). 52 + 2 * (h.rows * h.cols)) spells.head ∙ sym len_is in
    other (is ∙ ap size_of spells.there ∙ ap Some heads)

-- a read that found another size gives no source
pub unread_gives : (m : FileMap) (file : SourceFile) (q : Text) (len : ℕ) (e : CheckError)
    → q ≡ source_path file.version file.number → len ≡ 52 + 2 * (file.head.rows * file.head.cols)
    → Unread (m q) len e → GivesFile m file (Err e)
unread_gives m file q len Memory is len_is u = tt
unread_gives m file q len Fault is len_is u = tt
unread_gives m file q len (Differs told) is len_is u =
    λ s spells. other_file m file (size_of (m q)) len len_is (ap (λ p. size_of (m p)) is) u s spells
