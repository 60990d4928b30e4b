-- What a parse of the four options makes of words, by the grammar of the words.
use Rattle.std.proofs.Common.{◌≡◌, ◌∙◌, ◌++◌, ◌&&◌, Bool, cond, codes, true, false, not, refl, sym, ap, ap₂, subst, List, [], ◌∷◌, map, Option, Some, None, is_some, inl, inr}
use Rattle.std.specs.Prelude.{slice_get, find, fold, option_and_then, option_map}
use Rattle.std.specs.List.{list_all}
use Rattle.std.specs.Str.{bytes_eq}
use Rattle.std.proofs.lemmas.Bool.{and_parts}
use Rattle.cdb_model.specs.Text.{Text}
use Rattle.clap.specs.Walk.{Held, first_of, next as waits_next, trailing as ends_options, value as a_value, nothing_held, Row, Walk, finished, settled, walk, walk_from, walked, with_default}
use Rattle.clap.specs.Simple.{entered, matches_of}
use Rattle.clap.specs.Kinds.{Kinds, or_else}
use Rattle.clap.specs.Faults.{entered_fault, level_fault, built_fault, check_fault, defaults_fault, fault_of, settle_fault, turn_fault, walk_fault}
use Rattle.clap.specs.declared.builder.value_parser.ValueParser.TheVariants as vp
use Rattle.clap.specs.declared.error.kind.ErrorKind.{ErrorKind}
use Rattle.clap.specs.declared.error.kind.ErrorKind.TheVariants.{ArgumentConflict, InvalidValue}
use Rattle.cdb_commands.specs.OptionCommand.{options_app}
use Rattle.cdb_commands.specs.Given.{IsGiven, SpellsOptions}
use Rattle.cdb_commands.specs.declared.given.Given.{Given}
use Rattle.cdb_commands.specs.OptionWords.{is_word, is_short, options_spelled, Use, given_text, is_given, option_names, uses_of}
use Rattle.cdb_commands.proofs.OptionLexer.{no_short}
use Rattle.cdb_commands.proofs.OptionRules.{rules, shape, app, built_is, row, all_finished, no_defaults_fault}
use Rattle.cdb_commands.proofs.OptionTurns.{AllWords, IsFault, fault_first, held, Standing, walk_of, Names, uses_from, Turns, use_kinds, no_second, one_more, settle_kinds, settled_is, turns, clear, behind, before}

-- ---- all words

abbrev end_kinds : Held → Kinds
end_kinds h = or_else (settle_fault rules false h)
    (or_else (defaults_fault (settled rules h).rows rules) (check_fault shape (finished rules h) false))

abbrev all_kinds : Walk → List Text → Kinds
all_kinds w words = or_else (walk_fault shape [] w words) (end_kinds (fold (walked rules []) w words).held)

-- refused where the words spell no uses, and else the rows of these uses
abbrev Agrees : Walk → List Text → Option (List Use) → Type 0
Agrees w words None = IsFault (all_kinds w words)
Agrees w words (Some uses) = (all_kinds w words ≡ [])
    × (finished rules (fold (walked rules []) w words).held ≡ map row uses)

end_quiet : (h : Held) (uses : List Use) → settle_fault rules false h ≡ [] → settled rules h ≡ held uses None
    → (end_kinds h ≡ []) × (finished rules h ≡ map row uses)
end_quiet h uses quiet is = (
  ap (λ k.
      or_else k (or_else (defaults_fault (settled rules h).rows rules) (check_fault shape (finished rules h) false)))
      quiet
      ∙ ap (λ k. or_else k (check_fault shape (finished rules h) false))
      (no_defaults_fault option_names (settled rules h).rows),
  ap (λ (k : Held). fold with_default k.rows rules) is ∙ all_finished option_names (map row uses),
)

end_refused : (h : Held) (k : ErrorKind) → settle_fault rules false h ≡ k ∷ [] → IsFault (end_kinds h)
end_refused h k bad = fault_first (settle_fault rules false h)
    (or_else (defaults_fault (settled rules h).rows rules) (check_fault shape (finished rules h) false)) k bad

agrees_end : (s : Standing) → Names s → Agrees (walk_of s) [] (uses_from s [])
unfolding uses_of walk_fault
agrees_end (clear uses) n = end_quiet (held uses None) uses refl refl
agrees_end (before uses name) n = end_refused (held uses (Some (name, []))) InvalidValue (settle_kinds uses name [] n)
agrees_end (behind uses name text) n = go (is_given name uses) refl
  where
    go : (b : Bool) → is_given name uses ≡ b
        → Agrees (walk_of (behind uses name text)) [] (uses_from (behind uses name text) [])
    go true g =
        let P : Option (List Use) → Type 0 = λ o. Agrees (walk_of (behind uses name text)) []
        (option_and_then (λ more. uses_of None more []) o) in
        subst P (sym (no_second name text uses n g))
        (end_refused (held uses (Some (name, text ∷ []))) ArgumentConflict
        (settle_kinds uses name (text ∷ []) n ∙ use_kinds name text uses true g))
    go false g =
        let P : Option (List Use) → Type 0 = λ o. Agrees (walk_of (behind uses name text)) []
        (option_and_then (λ more. uses_of None more []) o) in
        subst P (sym (one_more name text uses n g))
        (end_quiet (held uses (Some (name, text ∷ []))) (uses ++ (name, text) ∷ [])
        (settle_kinds uses name (text ∷ []) n ∙ use_kinds name text uses false g) (settled_is uses name text n g))

onward : (w next : Walk) (word : Text) (rest : List Text) → turn_fault shape [] w word ≡ []
    → walked rules [] w word ≡ next
    → all_kinds w (word ∷ rest) ≡ all_kinds next rest
unfolding walk_fault
onward w next word rest none is =
    ap₂ (λ k (v : Walk). or_else (or_else k (walk_fault shape [] v rest))
    (end_kinds (fold (walked rules []) v rest).held)) none is

agrees_on : (w next : Walk) (word : Text) (rest : List Text) (o : Option (List Use)) → turn_fault shape [] w word ≡ []
    → walked rules [] w word ≡ next
    → Agrees next rest o → Agrees w (word ∷ rest) o
agrees_on w next word rest None none is h = let P : Kinds → Type 0 = λ k. IsFault k in
    subst P (sym (onward w next word rest none is)) h
agrees_on w next word rest (Some uses) none is h = (
  onward w next word rest none is ∙ h.0,
  ap (λ (v : Walk). finished rules (fold (walked rules []) v rest).held) is ∙ h.1,
)

refused_now : (w : Walk) (word : Text) (rest : List Text) → IsFault (turn_fault shape [] w word)
    → IsFault (all_kinds w (word ∷ rest))
unfolding walk_fault
refused_now w word rest h =
    stays (or_else (turn_fault shape [] w word) (walk_fault shape [] (walked rules [] w word) rest))
    (end_kinds (fold (walked rules []) (walked rules [] w word) rest).held)
    (stays (turn_fault shape [] w word) (walk_fault shape [] (walked rules [] w word) rest) h)
  where
    stays : (a b : Kinds) → IsFault a → IsFault (or_else a b)
    stays [] b h = absurd h
    stays (k ∷ ks) b h = tt

agrees : (words : List Text) (s : Standing) → Names s → AllWords words → Agrees (walk_of s) words (uses_from s words)
agrees [] s n all = agrees_end s n
agrees (word ∷ rest) s n all = go (agrees rest) (turns s word n all.0)
  where
    go : ((t : Standing) → Names t → AllWords rest → Agrees (walk_of t) rest (uses_from t rest))
        → Turns (walk_of s) (uses_from s) word
        → Agrees (walk_of s) (word ∷ rest) (uses_from s (word ∷ rest))
    go later (inl h) =
        let P : Option (List Use) → Type 0 = λ o. Agrees (walk_of s) (word ∷ rest) o in
        subst P (sym (h.1 rest)) (refused_now (walk_of s) word rest h.0)
    go later (inr h) =
        let P : Option (List Use) → Type 0 = λ o. Agrees (walk_of s) (word ∷ rest) o in
        subst P (sym (h.4 rest))
        (agrees_on (walk_of s) (walk_of h.0) word rest (uses_from h.0 rest) h.2 h.3 (later h.0 h.1 all.1))

-- ---- the command

kinds_are : (words : List Text) → fault_of options_app words ≡ all_kinds (walk_from nothing_held) words
kinds_are words = ap (λ a. built_fault a nothing_held words) built_is
    ∙ by_stop (walk rules [] nothing_held words).stopped
  where
    by_stop : (stop : Option (Text × List Text)) → level_fault shape [] nothing_held words (is_some (entered app stop))
        (entered_fault app stop)
        ≡ all_kinds (walk_from nothing_held) words
    by_stop None = refl
    by_stop (Some p) = refl

rows_are : (words : List Text) → matches_of options_app words ≡ finished rules (walk rules [] nothing_held words).held
rows_are words = refl

first_is : (name : Text) (uses : List Use) → first_of name (map row uses) ≡ given_text name uses
first_is name [] = refl
first_is name (u ∷ uses) = go (first_is name uses) (bytes_eq u.0 name)
  where
    go : first_of name (map row uses) ≡ given_text name uses → (b : Bool)
        → option_and_then (λ (r : Row). slice_get r.values 0)
        (cond b (Some (row u)) (find (λ (r : Row). bytes_eq r.id name) (map row uses)))
        ≡ option_map (λ (v : Use). v.1) (cond b (Some u) (find (λ (v : Use). bytes_eq v.0 name) uses))
    go rest true = refl
    go rest false = rest

-- where the words spell no uses, the parse fails by its words
pub refused_words : (words : List Text) → AllWords words → uses_of None [] words ≡ None
    → fault_of options_app words ≡ [] → ⊥
refused_words words all none quiet =
    let P : Option (List Use) → Type 0 = λ o. Agrees (walk_from nothing_held) words o in
    let bad : IsFault (all_kinds (walk_from nothing_held) words) = subst P none (agrees words (clear []) tt all) in
    let Q : Kinds → Type 0 = λ k. IsFault k in
    subst Q (sym (kinds_are words) ∙ quiet) bad

-- where they spell uses, it fails for want of memory alone, and has their texts
pub taken_words : (words : List Text) (uses : List Use) → AllWords words → uses_of None [] words ≡ Some uses
    → (fault_of options_app words ≡ [])
    × ((name : Text) → first_of name (matches_of options_app words) ≡ given_text name uses)
taken_words words uses all some =
    let P : Option (List Use) → Type 0 = λ o. Agrees (walk_from nothing_held) words o in
    let good : Agrees (walk_from nothing_held) words (Some uses) = subst P some (agrees words (clear []) tt all) in (
      kinds_are words ∙ good.0,
      λ name. ap (first_of name) (rows_are words ∙ good.1) ∙ first_is name uses,
    )

-- the two cases, from what the parse says
pub spelled_where_taken : (words : List Text) → AllWords words → fault_of options_app words ≡ []
    → (uses : List Use) × (uses_of None [] words ≡ Some uses)
    × ((name : Text) → first_of name (matches_of options_app words) ≡ given_text name uses)
spelled_where_taken words all quiet = go (uses_of None [] words) refl
  where
    go : (o : Option (List Use)) → uses_of None [] words ≡ o
        → (uses : List Use) × (uses_of None [] words ≡ Some uses)
        × ((name : Text) → first_of name (matches_of options_app words) ≡ given_text name uses)
    go None e = absurd (refused_words words all e quiet)
    go (Some uses) e = (uses, e, (taken_words words uses all e).1)

pub none_where_refused : (words : List Text) → AllWords words → (fault_of options_app words ≡ [] → ⊥)
    → uses_of None [] words ≡ None
none_where_refused words all loud = go (uses_of None [] words) refl
  where
    go : (o : Option (List Use)) → uses_of None [] words ≡ o → uses_of None [] words ≡ None
    go None e = e
    go (Some uses) e = absurd (loud (taken_words words uses all e).0)

both_not : (a b : Bool) → (not a && not b) ≡ true → (a ≡ false) × (b ≡ false)
both_not true b h = absurd cc
both_not false true h = absurd cc
both_not false false h = (refl, refl)

all_words_of : (words : List Text) → list_all is_word words ≡ true → AllWords words
all_words_of [] h = tt
all_words_of (word ∷ rest) h =
    let p = and_parts (is_word word) (list_all is_word rest) h in
    let q = both_not (bytes_eq word (45 ∷ 45 ∷ [])) (is_short word) p.0 in
    (record { goes_on = q.0; no_short = no_short word q.1 }, all_words_of rest p.1)

pub spelled_by : (words : List Text) (g : Given) → list_all is_word words ≡ true → IsGiven words g
    → SpellsOptions words g
spelled_by words g all k =
    let s = spelled_where_taken words (all_words_of words all) k.taken in (
      s.0,
      ap (λ b. cond b (uses_of None [] words) None) all ∙ s.1,
      record {
        mode = k.mode ∙ s.2 (codes "mode");
        background = k.background ∙ s.2 (codes "background");
        start = k.start ∙ s.2 (codes "start");
        count = k.count ∙ s.2 (codes "count");
      },
    )

pub none_by : (words : List Text) → list_all is_word words ≡ true → (fault_of options_app words ≡ [] → ⊥)
    → options_spelled words ≡ None
none_by words all loud = ap (λ b. cond b (uses_of None [] words) None) all
    ∙ none_where_refused words (all_words_of words all) loud
