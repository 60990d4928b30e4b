-- A start draws one list of publications, and they have one sum.
use Rattle.std.proofs.Common.{◌≡◌, ℕ, suc, ◌+◌, ◌%◌, ℤ, pos, ◌+ℤ◌, List, [], ◌∷◌, ◌++◌, length, refl, sym, ◌∙◌, ap, subst, arith}
use Rattle.std.proofs.lemmas.Int.{ints}
use Rattle.cdb_grid.specs.Units.{height_of, step}
use Rattle.cdb_source.specs.declared.head.SourceHead.{SourceHead}
use Rattle.cdb_source.specs.declared.source.Source.{Source}
use Rattle.cdb_source.proofs.DecodingLaws.{same_source}
use Rattle.cdb_source.proofs.HeadLaws.{same_head}
use Rattle.cdb_model.specs.Text.{Text}
use Rattle.cdb_model.specs.Publications.{Publication, sources_in, sources_of, heads_of, IsEntryCount}
use Rattle.cdb_model.proofs.OneLists.{one_touched, one_entries}
use Rattle.cdb_generate.specs.Generator.{state_after_draws, drawn, posts_drawn, HeadDrawn, SourceDrawn, SourcesDrawn, PublicationDrawn, AreDrawn, state_after, state_next}
use Rattle.cdb_generate.specs.Sums.{tiles_sum, IsSum}
use Rattle.cdb_generate.specs.Generated.{TellsLines, summary_text}
use Rattle.cdb_generate.specs.Laws.{OneSummary}

same_sum : (a b : ℤ) (n : ℕ) → a +ℤ pos 6 ≡ pos n → b +ℤ pos 6 ≡ pos n → a ≡ b
same_sum a b n e f = omega (arith, ints, e, f)

one_head : (x : ℕ) (a b : SourceHead) → HeadDrawn x a → HeadDrawn x b → a ≡ b
one_head x a b d e =
    let level : a.level.number ≡ b.level.number =
    same_sum a.level.number b.level.number (drawn 2 x % 8) d.level e.level in
    let wide : pos (step (height_of a.level.number)) ≡ pos (step (height_of b.level.number)) =
    ap (λ l. pos (step (height_of l))) level in
    same_head a b (d.kind ∙ sym e.kind) level (d.lat ∙ sym e.lat) (d.lon ∙ sym e.lon) (d.dlat ∙ wide
    ∙ sym e.dlat) (d.dlon ∙ wide ∙ sym e.dlon)
    (d.rows ∙ sym e.rows) (d.cols ∙ sym e.cols)

one_source : (x : ℕ) (a b : Source) → SourceDrawn x a → SourceDrawn x b → a ≡ b
one_source x a b d e =
    let head : a.head ≡ b.head = one_head x a.head b.head d.head e.head in
    same_source a b head (d.posts ∙ ap (λ (h : SourceHead). posts_drawn h.kind (drawn 7 x) h.rows h.cols) head
    ∙ sym e.posts)

one_list : (x : ℕ) (a b : List Source) → length a ≡ length b → SourcesDrawn x a → SourcesDrawn x b → a ≡ b
one_list x [] [] same d e = refl
one_list x [] (t ∷ ts) same d e = let z : 0 ≡ suc (length ts) = same in absurd (omega arith)
one_list x (s ∷ ss) [] same d e = let z : suc (length ss) ≡ 0 = same in absurd (omega arith)
one_list x (s ∷ ss) (t ∷ ts) same d e =
    let z : suc (length ss) ≡ suc (length ts) = same in
    let first = one_source x s t d.0 e.0 in
    let rest = one_list (state_after_draws 7 x) ss ts (omega arith) d.1 e.1 in
    (λ i. first i ∷ rest i)

one_publication : (x : ℕ) (a b : List Source) → PublicationDrawn x a → PublicationDrawn x b → a ≡ b
one_publication x a b d e = one_list (state_after x) a b (d.count ∙ sym e.count) d.each e.each

one_drawn : (x : ℕ) (a b : List Publication) → length a ≡ length b → AreDrawn x a → AreDrawn x b → a ≡ b
one_drawn x [] [] same d e = refl
one_drawn x [] (q ∷ qs) same d e = let z : 0 ≡ suc (length qs) = same in absurd (omega arith)
one_drawn x (p ∷ ps) [] same d e = let z : suc (length ps) ≡ 0 = same in absurd (omega arith)
one_drawn x (p ∷ ps) (q ∷ qs) same d e =
    let z : suc (length ps) ≡ suc (length qs) = same in
    let first = one_publication x p q d.0 e.0 in
    let rest = one_drawn (state_next x) ps qs (omega arith) d.1 e.1 in
    (λ i. first i ∷ rest i)

one_sum : (earlier list : List Publication) (m n : ℤ) → IsSum earlier list m → IsSum earlier list n → m ≡ n
one_sum earlier [] m n a b = a ∙ sym b
one_sum earlier (p ∷ list) m n a b =
    let tiles : a.0 ≡ b.0 = one_touched (heads_of (sources_in p)) a.0 b.0 a.2.0 b.2.0 in
    let rest : a.1 ≡ b.1 = one_sum (earlier ++ p ∷ []) list a.1 b.1 a.2.1 b.2.1 in
    a.2.2 ∙ (λ i. tiles_sum (sources_of (earlier ++ p ∷ [])) (tiles i) +ℤ rest i) ∙ sym b.2.2

one_text : (from : List Publication) (start count : ℕ) (a b : List Publication) (wrote wrote' : Text)
    → length a ≡ count → length b ≡ count → AreDrawn start a → AreDrawn start b → TellsLines from a count wrote
    → TellsLines from b count wrote' → wrote ≡ wrote'
one_text from start count a b wrote wrote' m n d e s t =
    let list : a ≡ b = one_drawn start a b (m ∙ sym n) d e in
    let files : s.files ≡ t.files =
    one_entries b s.files t.files (subst (λ l. IsEntryCount l s.files) list s.files_are) t.files_are in
    let sum : s.sum ≡ t.sum = one_sum from b s.sum t.sum (subst (λ l. IsSum from l s.sum) list s.sum_is) t.sum_is in
    s.lines ∙ (λ i. summary_text (length from + count) (files i) (sum i)) ∙ sym t.lines

pub one_summary : OneSummary
one_summary = record { list = one_drawn; text = one_text }
