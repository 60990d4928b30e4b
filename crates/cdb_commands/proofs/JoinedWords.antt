-- Words with one space between each two are cut into the same words.
use Rattle.std.proofs.Common.{◌≡◌, ℕ, Bool, true, cond, not, List, [], ◌∷◌, ◌++◌, refl, ap, ◌∙◌}
use Rattle.std.specs.List.{list_all, slice_split, onto_first, join_with_byte}
use Rattle.std.proofs.lemmas.Bool.{and_parts, not-true}
use Rattle.cdb_model.specs.Text.{Text}
use Rattle.cdb_model.specs.Words.{words, is_space}

-- no byte of a text passes the test
abbrev pub is_clear : (ℕ → Bool) → Text → Bool
is_clear p text = list_all (λ c. not (p c)) text

abbrev pub has_no_space : Text → Bool
has_no_space text = is_clear is_space text

pub one_part : (p : ℕ → Bool) (text : Text) → is_clear p text ≡ true → slice_split p text ≡ text ∷ []
one_part p [] h = refl
one_part p (c ∷ text) h =
    let t = and_parts (not (p c)) (is_clear p text) h in
    ap (λ b. cond b ([] ∷ slice_split p text) (onto_first c (slice_split p text))) (not-true (p c) t.0)
    ∙ ap (onto_first c) (one_part p text t.1)

pub part_before : (p : ℕ → Bool) (text : Text) (y : ℕ) (rest : Text) → is_clear p text ≡ true → p y ≡ true
    → slice_split p (text ++ y ∷ rest) ≡ text ∷ slice_split p rest
part_before p [] y rest h e = ap (λ b. cond b ([] ∷ slice_split p rest) (onto_first y (slice_split p rest))) e
part_before p (c ∷ text) y rest h e =
    let t = and_parts (not (p c)) (is_clear p text) h in
    ap (λ b. cond b ([] ∷ slice_split p (text ++ y ∷ rest)) (onto_first c (slice_split p (text ++ y ∷ rest))))
    (not-true (p c) t.0) ∙ ap (onto_first c) (part_before p text y rest t.1 e)

pub joined : (w : Text) (ws : List Text) → list_all has_no_space (w ∷ ws) ≡ true
    → words (join_with_byte 32 (w ∷ ws)) ≡ w ∷ ws
joined w [] h = one_part is_space w (and_parts (has_no_space w) true h).0
joined w (v ∷ ws) h =
    let t = and_parts (has_no_space w) (list_all has_no_space (v ∷ ws)) h in
    part_before is_space w 32 (join_with_byte 32 (v ∷ ws)) t.0 refl
    ∙ ap (λ (parts : List Text). w ∷ parts) (joined v ws t.1)
