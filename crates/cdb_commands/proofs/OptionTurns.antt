-- One word in a parse of the four options and in the grammar: both refuse it, or both go on.
use Rattle.std.proofs.Common.{◌≡◌, ◌∙◌, ◌++◌, ◌&&◌, ◌||◌, Bool, cond, codes, true, false, not, refl, sym, ap, ap₂, subst, List, [], ◌∷◌, map, Option, Some, None, is_some, ◌⊎◌, inl, inr}
use Rattle.std.specs.Prelude.{slice_get, find, fold, option_and_then, option_map, nat_lt}
use Rattle.std.specs.List.{list_all, list_any}
use Rattle.std.specs.Option.{option_map_or}
use Rattle.std.specs.Str.{bytes_eq}
use Rattle.std.proofs.lemmas.Slice.Eq.{bytes_eq-Decides}
use Rattle.std.proofs.lemmas.List.{append-nil, map-append}
use Rattle.clap.specs.Lexer.{long_of, short_of}
use Rattle.cdb_model.specs.Text.{Text}
use Rattle.clap.specs.Walk.{Held, Step, used_by_id, first_of, next as waits_next, trailing as ends_options, value as a_value, long_met, long_or_other, short_or_plain, option_word, more_values, after_step, nothing_held, Row, Rule, Waiting, idle, option, Walk, after_flag, arg_by_id, arg_by_long, at_row, finished, has_row, has_long, option_met, reading_by, settled, used, walk, walk_from, walked, with_default, with_values, word_met}
use Rattle.clap.specs.Simple.{App, Shape, entered, matches_of, built, new_rule, new_shape}
use Rattle.clap.specs.Kinds.{Kinds, or_else}
use Rattle.clap.specs.Faults.{entered_fault, bundle_fault, flag_word_fault, long_fault, other_fault, step_fault, level_fault, built_fault, check_fault, default_fault, defaults_fault, fault_of, given_default_fault, settle_fault, turn_fault, use_fault, walk_fault}
use Rattle.clap.specs.declared.builder.action.ArgAction.TheVariants.{Set}
use Rattle.clap.specs.declared.builder.value_parser.ValueParser.TheVariants as vp
use Rattle.clap.specs.declared.error.kind.ErrorKind.{ErrorKind}
use Rattle.clap.specs.declared.error.kind.ErrorKind.TheVariants.{ArgumentConflict, InvalidValue, UnknownArgument}
use Rattle.clap.specs.declared.parser.matches.ValueSource.TheVariants.{CommandLine}
use Rattle.cdb_commands.specs.OptionCommand.{options_app}
use Rattle.cdb_commands.specs.Given.{IsGiven, SpellsOptions}
use Rattle.cdb_commands.specs.declared.given.Given.{Given}
use Rattle.cdb_commands.specs.OptionWords.{is_word, is_short, name_and_value, options_spelled, Use, given_text, after_name, after_value, after_word, and_use, is_given, is_name, option_names, uses_of}
use Rattle.cdb_commands.proofs.OptionLexer.{word_is}
use Rattle.cdb_commands.proofs.OptionRules.{rule, rules, shape, by_long, by_id, row, rows_given, used_once}

-- ---- one word

-- not `--`, and not one hyphen and more
pub record IsWord (word : Text) : Type 0 where
  pub goes_on : bytes_eq word (45 ∷ 45 ∷ []) ≡ false
  pub no_short : short_of word ≡ None

abbrev pub AllWords : List Text → Type 0
AllWords [] = Unit {0}
AllWords (word ∷ rest) = IsWord word × AllWords rest

abbrev pub IsFault : Kinds → Type 0
IsFault [] = ⊥
IsFault (k ∷ ks) = Unit {0}

pub fault_first : (a b : Kinds) (k : ErrorKind) → a ≡ k ∷ [] → IsFault (or_else a b)
fault_first a b k e = let P : Kinds → Type 0 = λ x. IsFault (or_else x b) in subst P (sym e) tt

pub fault_second : (a b : Kinds) → a ≡ [] → IsFault b → IsFault (or_else a b)
fault_second a b e h = let P : Kinds → Type 0 = λ x. IsFault (or_else x b) in subst P (sym e) h

abbrev pub held : List Use → Option (Text × List Text) → Held
held uses pending = record { rows = map row uses; pending = pending; skip = 0 }

abbrev pub standing : Held → Waiting → Walk
standing h waiting = record { held = h; waiting = waiting; position = 1; is_trailing = false; stopped = None }

-- where the parse stands: between uses, behind a use that is not noted yet, or before a value
pub data Standing : Type 0 where
  clear : List Use → Standing
  behind : List Use → Text → Text → Standing
  before : List Use → Text → Standing

abbrev pub walk_of : Standing → Walk
walk_of (clear uses) = standing (held uses None) idle
walk_of (behind uses name value) = standing (held uses (Some (name, value ∷ []))) idle
walk_of (before uses name) = standing (held uses (Some (name, []))) (option name)

abbrev pub Names : Standing → Type 0
Names (clear uses) = Unit {0}
Names (behind uses name value) = is_name name ≡ true
Names (before uses name) = is_name name ≡ true

abbrev pub uses_from : Standing → List Text → Option (List Use)
uses_from (clear uses) words = uses_of None uses words
uses_from (behind uses name value) words = option_and_then (λ more. uses_of None more words) (and_use name value uses)
uses_from (before uses name) words = uses_of (Some name) uses words

-- a word is refused by both, or both go on
abbrev pub Turns : Walk → (List Text → Option (List Use)) → Text → Type 0
Turns w reads word =
    (IsFault (turn_fault shape [] w word) × ((rest : List Text) → reads (word ∷ rest) ≡ None))
    ⊎ ((t : Standing) × Names t × (turn_fault shape [] w word ≡ []) × (walked rules [] w word ≡ walk_of t)
    × ((rest : List Text) → reads (word ∷ rest) ≡ uses_from t rest))

pub flag_kinds : (word name : Text) (value : Option Text) (h : Held) (b : Bool) → IsWord word → long_of word
    ≡ Some (name, value) → is_name name ≡ b
    → other_fault shape None word h ≡ long_fault rules false (cond b (Some (rule name)) None) value h
flag_kinds word name value h b w e n =
    ap (λ t. cond t [] (flag_word_fault rules false (long_of word) word h)) w.goes_on
    ∙ ap (λ l. flag_word_fault rules false l word h) e
    ∙ ap (λ o. long_fault rules false o value h) (by_long name b n)

pub plain_kinds : (word : Text) (h : Held) → IsWord word → long_of word ≡ None → other_fault shape None word h ≡ []
plain_kinds word h w e =
    ap (λ t. cond t [] (flag_word_fault rules false (long_of word) word h)) w.goes_on
    ∙ ap (λ l. flag_word_fault rules false l word h) e
    ∙ ap (λ o. flag_word_fault_none o word h) w.no_short
  where
    flag_word_fault_none : Option Text → Text → Held → Kinds
    flag_word_fault_none o word h = option_map_or (λ flags. bundle_fault rules false flags h) o []

-- ---- a word that begins with two hyphens

abbrev pub met : Waiting → Text → Held → Held × Step
met waiting word h = word_met rules [] false waiting 1 word h

abbrev pub step_kinds : Waiting → Text → Held → Kinds
step_kinds waiting word h = step_fault shape 1 (met waiting word h).0 (met waiting word h).1

pub met_flag : (word name : Text) (text : Option Text) (h : Held) → IsWord word → long_of word ≡ Some (name, text)
    → is_name name ≡ true
    → met idle word h
    ≡ after_flag rules idle word (option_met rules (rule name) text h).0 (option_met rules (rule name) text h).1
met_flag word name text h w e n =
    let no : Held × Step = (h, ends_options 1) in
    ap (λ t. cond t no (long_or_other rules idle word (long_of word) h)) w.goes_on
    ∙ ap (λ l. long_or_other rules idle word l h) e
    ∙ ap (λ o. after_flag rules idle word (long_met rules o text h).0 (long_met rules o text h).1) (by_long name true n)

pub use_kinds : (name text : Text) (uses : List Use) (b : Bool) → is_given name uses ≡ b
    → use_fault false (rule name) (text ∷ []) (map row uses) ≡ cond b (ArgumentConflict ∷ []) []
use_kinds name text uses b e =
    ap (λ t. or_else (cond (t && true) (ArgumentConflict ∷ []) []) []) (rows_given name uses ∙ e)
    ∙ elim b as (λ t. or_else (cond (t && true) (ArgumentConflict ∷ []) []) [] ≡ cond t (ArgumentConflict ∷ []) [])
    [ true ↦ refl | false ↦ refl ]

pub reads_word : (uses : List Use) (word : Text) (rest : List Text) (l : Option (Text × Option Text)) → long_of word ≡ l
    → uses_of None uses (word ∷ rest) ≡ after_word l uses (λ waits more. uses_of waits more rest)
unfolding uses_of
reads_word uses word rest l e = ap (λ l. after_word l uses (λ waits more. uses_of waits more rest)) (word_is word ∙ e)

pub no_use : (name text : Text) (uses : List Use) → is_name name ≡ false → and_use name text uses ≡ None
no_use name text uses n = ap (λ b. cond (b && not (is_given name uses)) (Some (uses ++ (name, text) ∷ [])) None) n

pub no_second : (name text : Text) (uses : List Use) → is_name name ≡ true → is_given name uses ≡ true
    → and_use name text uses ≡ None
no_second name text uses n g = ap₂ (λ a b. cond (a && not b) (Some (uses ++ (name, text) ∷ [])) None) n g

pub one_more : (name text : Text) (uses : List Use) → is_name name ≡ true → is_given name uses ≡ false
    → and_use name text uses ≡ Some (uses ++ (name, text) ∷ [])
one_more name text uses n g = ap₂ (λ a b. cond (a && not b) (Some (uses ++ (name, text) ∷ [])) None) n g

pub unknown_name : (name : Text) (text : Option Text) (uses : List Use)
    (after : Option Text → List Use → Option (List Use)) → is_name name ≡ false
    → after_name name text uses after ≡ None
unknown_name name None uses after n = ap (λ b. cond b (after (Some name) uses) None) n
unknown_name name (Some text) uses after n = ap (option_and_then (after None)) (no_use name text uses n)

pub walked_by : (h : Held) (waiting : Waiting) (word : Text) (m : Held × Step) → met waiting word h ≡ m
    → walked rules [] (standing h waiting) word ≡ after_step rules word (standing h waiting) m.0 m.1
unfolding walked
walked_by h waiting word m e = ap (λ (m : Held × Step). after_step rules word (standing h waiting) m.0 m.1) e

pub turn_by : (h : Held) (word : Text) (a b : Kinds) → other_fault shape None word h ≡ a → step_kinds idle word h ≡ b
    → turn_fault shape [] (standing h idle) word ≡ or_else a b
turn_by h word a b e f = ap₂ or_else e f

module _ (old : List Use) (pending : Option (Text × List Text)) (uses : List Use) (word name : Text) where
  pub known_value : (text : Text) → settle_fault rules false (held old pending) ≡ [] → settled rules (held old pending)
      ≡ held uses None
      → IsWord word → long_of word ≡ Some (name, Some text) → is_name name ≡ true → (b : Bool) → is_given name uses ≡ b
      → Turns (standing (held old pending) idle) (uses_of None uses) word
  known_value text quiet is w e n true g = inl (
    fault_first (other_fault shape None word (held old pending)) (step_kinds idle word (held old pending))
        ArgumentConflict
        (flag_kinds word name (Some text) (held old pending) true w e n
        ∙ ap₂ or_else quiet (ap (λ (k : Held). use_fault false (rule name) (text ∷ []) k.rows) is
        ∙ use_kinds name text uses true g)),
    λ rest. reads_word uses word rest (Some (name, Some text)) e
        ∙ ap (option_and_then (λ more. uses_of None more rest)) (no_second name text uses n g),
  )
  known_value text quiet is w e n false g = inr (
    clear (uses ++ (name, text) ∷ []),
    tt,
    turn_by (held old pending) word [] [] (flag_kinds word name (Some text) (held old pending) true w e n
        ∙ ap₂ or_else quiet (ap (λ (k : Held). use_fault false (rule name) (text ∷ []) k.rows) is
        ∙ use_kinds name text uses false g))
        (ap (λ (m : Held × Step). step_fault shape 1 m.0 m.1)
        (met_flag word name (Some text) (held old pending) w e n)),
    walked_by (held old pending) idle word _ (met_flag word name (Some text) (held old pending) w e n)
        ∙ ap (λ (k : Held). standing (record { rows = used (rule name) (text ∷ []) k.rows; pending = None; skip = 0 })
        idle) is
        ∙ ap (λ rs. standing (record { rows = rs; pending = None; skip = 0 }) idle) (used_once name text uses g),
    λ rest. reads_word uses word rest (Some (name, Some text)) e
        ∙ ap (option_and_then (λ more. uses_of None more rest)) (one_more name text uses n g),
  )

  pub known_alone : settle_fault rules false (held old pending) ≡ [] → settled rules (held old pending) ≡ held uses None
      → IsWord word → long_of word ≡ Some (name, None) → is_name name ≡ true
      → Turns (standing (held old pending) idle) (uses_of None uses) word
  known_alone quiet is w e n = inr (
    before uses name,
    n,
    turn_by (held old pending) word [] [] (flag_kinds word name None (held old pending) true w e n ∙ quiet)
        (ap (λ (m : Held × Step). step_fault shape 1 m.0 m.1) (met_flag word name None (held old pending) w e n)),
    walked_by (held old pending) idle word _ (met_flag word name None (held old pending) w e n)
        ∙ ap (λ (k : Held). standing (record k { pending = Some (name, []) }) (option name)) is,
    λ rest. reads_word uses word rest (Some (name, None)) e ∙ ap (λ b. cond b (uses_of (Some name) uses rest) None) n,
  )

  pub unknown : (text : Option Text) → IsWord word → long_of word ≡ Some (name, text) → is_name name ≡ false
      → Turns (standing (held old pending) idle) (uses_of None uses) word
  unknown text w e n = inl (
    fault_first (other_fault shape None word (held old pending)) (step_kinds idle word (held old pending))
        UnknownArgument
        (flag_kinds word name text (held old pending) false w e n),
    λ rest. reads_word uses word rest (Some (name, text)) e
        ∙ unknown_name name text uses (λ waits more. uses_of waits more rest) n,
  )

-- ---- any word between uses

pub met_plain : (word : Text) (h : Held) → IsWord word → long_of word ≡ None → met idle word h ≡ (h, a_value)
met_plain word h w e =
    let no : Held × Step = (h, ends_options 1) in
    ap (λ t. cond t no (long_or_other rules idle word (long_of word) h)) w.goes_on
    ∙ ap (λ l. long_or_other rules idle word l h) e
    ∙ ap (λ o. short_or_plain rules idle word o h) w.no_short

pub stray : (word : Text) (h : Held) → IsWord word → long_of word ≡ None
    → IsFault (turn_fault shape [] (standing h idle) word)
stray word h w e =
    let none = plain_kinds word h w e in
    let one : step_kinds idle word h ≡ UnknownArgument ∷ [] = ap (λ (m : Held × Step). step_fault shape 1 m.0 m.1)
    (met_plain word h w e) in
    fault_second (other_fault shape None word h) (step_kinds idle word h) none
    (let P : Kinds → Type 0 = λ x. IsFault x in subst P (sym one) tt)

pub from_idle : (old : List Use) (pending : Option (Text × List Text)) (uses : List Use) (word : Text)
    → settle_fault rules false (held old pending) ≡ [] → settled rules (held old pending) ≡ held uses None → IsWord word
    → Turns (standing (held old pending) idle) (uses_of None uses) word
from_idle old pending uses word quiet is w = go (long_of word) refl
  where
    named : (name : Text) (text : Option Text) → long_of word ≡ Some (name, text) → (b : Bool) → is_name name ≡ b
        → Turns (standing (held old pending) idle) (uses_of None uses) word
    named name text e false n = unknown old pending uses word name text w e n
    named name None e true n = known_alone old pending uses word name quiet is w e n
    named name (Some text) e true n = known_value old pending uses word name text quiet is w e n
        (is_given name uses) refl

    go : (l : Option (Text × Option Text)) → long_of word ≡ l
        → Turns (standing (held old pending) idle) (uses_of None uses) word
    go None e = inl (stray word (held old pending) w e, λ rest. reads_word uses word rest None e)
    go (Some p) e = named p.0 p.1 e (is_name p.0) refl

-- ---- where the pending use is refused

pub refused_flag : (h : Held) (k : ErrorKind) (word name : Text) (text : Option Text) → settle_fault rules false h
    ≡ k ∷ [] → IsWord word → long_of word ≡ Some (name, text)
    → (b : Bool) → is_name name ≡ b → (x : ErrorKind) × (other_fault shape None word h ≡ x ∷ [])
refused_flag h k word name text bad w e false n = (UnknownArgument, flag_kinds word name text h false w e n)
refused_flag h k word name None bad w e true n = (k, flag_kinds word name None h true w e n ∙ bad)
refused_flag h k word name (Some text) bad w e true n = (
  k,
  flag_kinds word name (Some text) h true w e n
      ∙ ap (λ x. or_else x (use_fault false (rule name) (text ∷ []) (settled rules h).rows)) bad,
)

pub refused_word : (h : Held) (k : ErrorKind) (word : Text) → settle_fault rules false h ≡ k ∷ [] → IsWord word
    → IsFault (turn_fault shape [] (standing h idle) word)
refused_word h k word bad w = go (long_of word) refl
  where
    go : (l : Option (Text × Option Text)) → long_of word ≡ l → IsFault (turn_fault shape [] (standing h idle) word)
    go None e = stray word h w e
    go (Some p) e =
        let f = refused_flag h k word p.0 p.1 bad w e (is_name p.0) refl in
        fault_first (other_fault shape None word h) (step_kinds idle word h) f.0 f.1

-- ---- each standing

pub settle_kinds : (uses : List Use) (name : Text) (texts : List Text) → is_name name ≡ true
    → settle_fault rules false (held uses (Some (name, texts))) ≡ use_fault false (rule name) texts (map row uses)
settle_kinds uses name texts n =
    ap (λ o. option_map_or (λ a. use_fault false a texts (map row uses)) o []) (by_id name n)

pub settled_is : (uses : List Use) (name text : Text) → is_name name ≡ true → is_given name uses ≡ false
    → settled rules (held uses (Some (name, text ∷ []))) ≡ held (uses ++ (name, text) ∷ []) None
settled_is uses name text n g =
    ap (λ (rs : List Row). let k : Held = record { rows = rs; pending = None; skip = 0 } in k)
    (ap (λ o. used_by_id o (text ∷ []) (map row uses)) (by_id name n) ∙ used_once name text uses g)

pub turns_as : (w : Walk) (reads other : List Text → Option (List Use)) (word : Text)
    → ((words : List Text) → reads words ≡ other words)
    → Turns w other word → Turns w reads word
turns_as w reads other word same (inl h) = inl (h.0, λ rest. same (word ∷ rest) ∙ h.1 rest)
turns_as w reads other word same (inr h) = inr (h.0, h.1, h.2, h.3, λ rest. same (word ∷ rest) ∙ h.4 rest)

pub reads_value : (uses : List Use) (name word : Text) (rest : List Text) (l : Option (Text × Option Text))
    → long_of word ≡ l
    → uses_of (Some name) uses (word ∷ rest) ≡ after_value (is_some l) name word uses
    (λ waits more. uses_of waits more rest)
unfolding uses_of
reads_value uses name word rest l e =
    ap (λ l. after_value (is_some l) name word uses (λ waits more. uses_of waits more rest)) (word_is word ∙ e)

pub met_value : (uses : List Use) (name word : Text) → is_name name ≡ true → IsWord word → long_of word ≡ None
    → met (option name) word (held uses (Some (name, []))) ≡ (held uses (Some (name, word ∷ [])), waits_next idle)
met_value uses name word n w e =
    let h : Held = held uses (Some (name, [])) in
    let no : Held × Step = (h, ends_options 1) in
    let same : bytes_eq name name ≡ true = (bytes_eq-Decides name name).1 refl in
    ap (λ t. cond t no (long_or_other rules (option name) word (long_of word) h)) w.goes_on
    ∙ ap (λ l. long_or_other rules (option name) word l h) e
    ∙ ap (λ o. short_or_plain rules (option name) word o h) w.no_short
    ∙ ap (λ o. let m : Held × Step = ((option_word o name word h).0, waits_next (option_word o name word h).1) in
    m) (by_id name n)
    ∙ ap (λ b. let m : Held
    × Step = (held uses (Some (name, word ∷ [])), waits_next (cond (nat_lt (cond b 1 0) 1) (option name) idle)) in
    m) same

pub turns : (s : Standing) (word : Text) → Names s → IsWord word → Turns (walk_of s) (uses_from s) word
turns (clear uses) word n w = from_idle uses None uses word refl refl w
turns (behind uses name text) word n w = go (is_given name uses) refl
  where
    go : (b : Bool) → is_given name uses ≡ b
        → Turns (walk_of (behind uses name text)) (uses_from (behind uses name text)) word
    go true g = inl (
      refused_word (held uses (Some (name, text ∷ []))) ArgumentConflict word
          (settle_kinds uses name (text ∷ []) n ∙ use_kinds name text uses true g) w,
      λ rest. ap (option_and_then (λ more. uses_of None more (word ∷ rest))) (no_second name text uses n g),
    )
    go false g = turns_as (walk_of (behind uses name text)) (uses_from (behind uses name text))
        (uses_of None (uses ++ (name, text) ∷ [])) word
        (λ words. ap (option_and_then (λ more. uses_of None more words)) (one_more name text uses n g))
        (from_idle uses (Some (name, text ∷ [])) (uses ++ (name, text) ∷ []) word
        (settle_kinds uses name (text ∷ []) n ∙ use_kinds name text uses false g) (settled_is uses name text n g) w)
turns (before uses name) word n w = go (long_of word) refl
  where
    go : (l : Option (Text × Option Text)) → long_of word ≡ l
        → Turns (walk_of (before uses name)) (uses_from (before uses name)) word
    go (Some p) e =
        let f = refused_flag (held uses (Some (name, []))) InvalidValue word p.0 p.1 (settle_kinds uses name [] n) w e
        (is_name p.0) refl in
        inl (
          fault_first (other_fault shape None word (held uses (Some (name, []))))
              (step_kinds (option name) word (held uses (Some (name, [])))) f.0 f.1,
          λ rest. reads_value uses name word rest (Some p) e,
        )
    go None e = inr (
      behind uses name word,
      n,
      ap₂ or_else (plain_kinds word (held uses (Some (name, []))) w e)
          (ap (λ (m : Held × Step). step_fault shape 1 m.0 m.1) (met_value uses name word n w e)),
      walked_by (held uses (Some (name, []))) (option name) word _ (met_value uses name word n w e),
      λ rest. reads_value uses name word rest None e,
    )
