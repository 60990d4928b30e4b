-- A tile that some source of a list reaches.
use Rattle.std.proofs.Common.{◌≡◌, ℕ, zero, suc, ◌+◌, ◌<◌, ◌≤◌, List, [], ◌∷◌, map, All, length, get_or, take, Some, sym, ap, ◌∙◌, subst}
use Rattle.std.specs.Prelude.{slice_get}
use Rattle.std.specs.Option.{option_map}
use Rattle.std.proofs.lemmas.Option.{slice_get-map, slice_get_read}
use Rattle.std.proofs.lemmas.List.{take_all}
use Rattle.std.proofs.lemmas.List.Elements.{All-head, All-tail, All-more}
use Rattle.std.proofs.Common.{refl}
use Rattle.cdb_grid.specs.declared.tile.Tile.{Tile}
use Rattle.cdb_source.specs.declared.head.SourceHead.{SourceHead}
use Rattle.cdb_source.specs.declared.source.Source.{Source}
use Rattle.cdb_source.specs.Reached.{Reaches, Reached}

-- one source more of which a fact doesn't hold, and all of them
pub none_more : (P : Source → Type 0) (ss : List Source) (i : ℕ) (s : Source) → i < length ss → s ≡ get_or ss i s
    → All P (take i ss) → P s → All P (take (i + 1) ss)
none_more P ss i s lt is all here = All-more P ss i s lt all (subst P is here)

pub none_of_all : (P : Source → Type 0) (ss : List Source) (i : ℕ) → length ss ≤ i → All P (take i ss) → All P ss
none_of_all P ss i le all = subst (All P) (take_all i ss le) all

pub reached_at : (t : Tile) (ss : List Source) (i : ℕ) (s : Source) → i < length ss → s ≡ get_or ss i s
    → Reaches s.head t → Reached (map (λ (source : Source). source.head) ss) t
reached_at t ss i s lt is r = record {
  number = i;
  head = s.head;
  there = slice_get-map (λ (source : Source). source.head) ss i ∙ ap (option_map (λ (source : Source). source.head))
      (slice_get_read ss (length ss) i s refl lt is);
  reaches = r;
}

no_head_there : (t : Tile) (ss : List Source) (n : ℕ) (h : SourceHead) → All (λ (s : Source). Reaches s.head t → ⊥) ss
    → slice_get (map (λ (source : Source). source.head) ss) n ≡ Some h → Reaches h t → ⊥
no_head_there t [] zero h all e r = cc
no_head_there t [] (suc n) h all e r = cc
no_head_there t (s ∷ ss) zero h all e r = let same : s.head ≡ h = cc in
    All-head (λ (s : Source). Reaches s.head t → ⊥) s ss all (subst (λ x. Reaches x t) (sym same) r)
no_head_there t (s ∷ ss) (suc n) h all e r =
    no_head_there t ss n h (All-tail (λ (s : Source). Reaches s.head t → ⊥) s ss all) e r

pub none_reached : (t : Tile) (ss : List Source) → All (λ (s : Source). Reaches s.head t → ⊥) ss
    → Reached (map (λ (source : Source). source.head) ss) t → ⊥
none_reached t ss all r = no_head_there t ss r.number r.head all r.there r.reaches
