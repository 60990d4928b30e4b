-- The option words of the program, by their grammar: uses of options, each with its value in the same word or in the
-- next.
use Rattle.std.specs.Prelude.{ℕ, ◌+◌, ◌==◌, ◌++◌, ◌&&◌, Bool, false, not, List, [], ◌∷◌, length, take, drop, nat_lt, Option, Some, None, is_some, find, option_map, option_and_then, codes, if◌then◌else◌}
use Rattle.std.specs.List.{list_all, list_any, position_or_len}
use Rattle.std.specs.Str.{bytes_eq}
use Rattle.cdb_model.specs.Text.{Text}

-- an option and the text that is given for it
abbrev pub Use : Type 0
Use = Text × Text

abbrev pub option_names : List Text
option_names = codes "mode" ∷ codes "background" ∷ codes "start" ∷ codes "count" ∷ []

abbrev pub is_name : Text → Bool
is_name name = list_any (λ n. bytes_eq n name) option_names

abbrev pub is_given : Text → List Use → Bool
is_given name uses = list_any (λ u. bytes_eq u.0 name) uses

-- one use more, of an option that has none yet
abbrev pub and_use : Text → Text → List Use → Option (List Use)
and_use name value uses = if is_name name && not (is_given name uses) then Some (uses ++ (name, value) ∷ []) else None

-- ---- a word

-- what stands behind two hyphens, where something does
abbrev pub behind_hyphens : Text → Option Text
behind_hyphens (a ∷ b ∷ c ∷ rest) = if (a == 45) && (b == 45) then Some (c ∷ rest) else None
behind_hyphens _ = None

abbrev pub is_equals : ℕ → Bool
is_equals c = c == 61

-- what stands behind the first `=`, where there is one
abbrev pub behind_equals : Text → Option Text
behind_equals text =
    if nat_lt (position_or_len is_equals text) (length text) then Some (drop (position_or_len is_equals text + 1) text)
    else None

-- the name in `--name=value` or `--name`, and the value where it stands in the word
abbrev pub name_and_value : Text → Option (Text × Option Text)
name_and_value word = option_map (λ text. (take (position_or_len is_equals text) text, behind_equals text))
    (behind_hyphens word)

-- one hyphen, and more that begins with no second one
abbrev pub is_short : Text → Bool
is_short (a ∷ b ∷ rest) = (a == 45) && not (b == 45)
is_short _ = false

-- not `--`, and not one hyphen and more
abbrev pub is_word : Text → Bool
is_word word = not (bytes_eq word (codes "--")) && not (is_short word)

-- ---- words in their order

-- `--name=value`, or `--name`, whose value is the next word
abbrev pub after_name : Text → Option Text → List Use → (Option Text → List Use → Option (List Use)) → Option (List Use)
after_name name (Some value) uses next = option_and_then (next None) (and_use name value uses)
after_name name None uses next = if is_name name then next (Some name) uses else None

abbrev pub after_word : Option (Text × Option Text) → List Use → (Option Text → List Use → Option (List Use))
    → Option (List Use)
after_word None uses next = None
after_word (Some p) uses next = after_name p.0 p.1 uses next

abbrev pub after_value : Bool → Text → Text → List Use → (Option Text → List Use → Option (List Use))
    → Option (List Use)
after_value is_option name word uses next = if is_option then None
    else option_and_then (next None) (and_use name word uses)

-- the uses that the words spell, where an option may wait for its value
unfoldable pub uses_of : Option Text → List Use → List Text → Option (List Use)
uses_of None uses [] = Some uses
uses_of (Some name) uses [] = None
uses_of None uses (word ∷ rest) = after_word (name_and_value word) uses (λ waits more. uses_of waits more rest)
uses_of (Some name) uses (word ∷ rest) = after_value (is_some (name_and_value word)) name word uses
    (λ waits more. uses_of waits more rest)

-- the text that is given for an option
abbrev pub given_text : Text → List Use → Option Text
given_text name uses = option_map (λ u. u.1) (find (λ u. bytes_eq u.0 name) uses)

-- the uses that a list of words spells
abbrev pub options_spelled : List Text → Option (List Use)
options_spelled words = if list_all is_word words then uses_of None [] words else None
