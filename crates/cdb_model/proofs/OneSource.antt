-- Words spell at most one source, by themselves and with a file.
use Rattle.std.proofs.Common.{◌≡◌, ℕ, suc, ◌*◌, ◌/◌, ◌<◌, ℤ, pos, negsuc, neg_ℤ, ◌*ℤ◌, ◌<ℤ◌, List, sym, ◌∙◌, ap, subst, arith}
use Rattle.std.proofs.Math.Nat.{mul-div_cancel}
use Rattle.std.proofs.Math.IntN.{pos-*ℤ-pos, negsuc-*ℤ-pos}
use Rattle.std.proofs.lemmas.Int.{ints}
use Rattle.std.proofs.lemmas.Option.{same_Some}
use Rattle.cdb_grid.specs.Units.{IsFraction}
use Rattle.cdb_source.specs.declared.head.SourceHead.{SourceHead}
use Rattle.cdb_source.specs.declared.source.Source.{Source}
use Rattle.cdb_source.proofs.DecodingLaws.{same_source}
use Rattle.cdb_source.proofs.HeadLaws.{same_head}
use Rattle.cdb_model.specs.Grammar.{Head, InlineSource, FileSource}
use Rattle.cdb_model.specs.ImageFiles.{HasImage}
use Rattle.cdb_model.specs.Maps.{Content}
use Rattle.cdb_model.specs.Spelled.{SpellsHead, SpellsSource, SpellsLoaded}

-- ---- a fraction is one number of units at most

one_factor : (a b m : ℕ) → 0 < m → a * m ≡ b * m → a ≡ b
one_factor a b m h e = sym (mul-div_cancel a h) ∙ ap (λ n. n / m) e ∙ mul-div_cancel b h

same_multiple : (u v : ℤ) (m : ℕ) → 0 < m → u *ℤ pos m ≡ v *ℤ pos m → u ≡ v
same_multiple (pos a) (pos b) m h e =
    let both : pos (a * m) ≡ pos (b * m) = sym (pos-*ℤ-pos a m) ∙ e ∙ pos-*ℤ-pos b m in
    ap pos (one_factor a b m h (cc))
same_multiple (pos a) (negsuc b) m h e =
    let both : pos (a * m) ≡ neg_ℤ (pos (suc b * m)) = sym (pos-*ℤ-pos a m) ∙ e ∙ negsuc-*ℤ-pos b m in
    absurd (omega (arith, ints))
same_multiple (negsuc a) (pos b) m h e =
    let both : neg_ℤ (pos (suc a * m)) ≡ pos (b * m) = sym (negsuc-*ℤ-pos a m) ∙ e ∙ pos-*ℤ-pos b m in
    absurd (omega (arith, ints))
same_multiple (negsuc a) (negsuc b) m h e =
    let both : neg_ℤ (pos (suc a * m)) ≡ neg_ℤ (pos (suc b * m)) = sym (negsuc-*ℤ-pos a m) ∙ e ∙ negsuc-*ℤ-pos b m in
    let same : suc a * m ≡ suc b * m = omega (arith, ints) in
    let next : suc a ≡ suc b = one_factor (suc a) (suc b) m h same in
    ap negsuc (omega arith)

one_number : (d u v w : ℤ) → pos 0 <ℤ d → u *ℤ d ≡ w → v *ℤ d ≡ w → u ≡ v
one_number (pos m) u v w h eu ev = same_multiple u v m (omega (arith, ints)) (eu ∙ sym ev)
one_number (negsuc m) u v w h eu ev = absurd (omega (arith, ints))

pub one_units : (n d u v : ℤ) → IsFraction n d u → IsFraction n d v → u ≡ v
one_units n d u v fu fv = one_number d u v _ fu.positive fu.value fv.value

-- ---- one source

one_spelled_head : (w : Head) (rows cols : ℕ) (a b : SourceHead) → SpellsHead w rows cols a → SpellsHead w rows cols b
    → a ≡ b
one_spelled_head w rows cols a b x y =
    same_head a b (x.kind ∙ sym y.kind) (x.level
    ∙ sym y.level) (one_units _ _ _ _ x.lat y.lat) (one_units _ _ _ _ x.lon y.lon)
    (one_units _ _ _ _ x.dlat y.dlat) (one_units _ _ _ _ x.dlon y.dlon) (x.rows_are ∙ sym y.rows_are) (x.cols_are
    ∙ sym y.cols_are)

-- words with their posts spell at most one source
pub one_spelled : (w : InlineSource) (a b : Source) → SpellsSource w a → SpellsSource w b → a ≡ b
one_spelled w a b x y =
    same_source a b (one_spelled_head w.head w.rows w.cols a.head b.head x.head y.head) (x.posts ∙ sym y.posts)

-- a file that is read, with which words spell a source
pub record IsSpelled (w : FileSource) (content : Content) (s : Source) : Type 0 where
  pub bytes : List ℕ
  pub image : HasImage content bytes
  pub spelled : SpellsLoaded w bytes s

-- and so do words with a file
one_of_bytes : (w : FileSource) (bytes : List ℕ) (a b : Source) → SpellsLoaded w bytes a → SpellsLoaded w bytes b
    → a ≡ b
one_of_bytes w bytes a b x y =
    same_source a b (one_spelled_head w.head _ _ a.head b.head x.head y.head) (x.posts ∙ sym y.posts)

pub one_loaded : (w : FileSource) (content : Content) (a b : Source) → IsSpelled w content a → IsSpelled w content b
    → a ≡ b
one_loaded w content a b x y =
    let same : x.bytes ≡ y.bytes = same_Some x.bytes y.bytes (sym x.image.there ∙ y.image.there) in
    one_of_bytes w y.bytes a b (subst (λ bytes. SpellsLoaded w bytes a) same x.spelled) y.spelled
