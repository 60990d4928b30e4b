-- The command of the four options as `clap` builds it: its rules, the rows of their uses, and the end of a walk over
-- words.
use Rattle.std.proofs.Common.{◌≡◌, ◌∙◌, ◌++◌, ◌&&◌, ◌||◌, Bool, cond, codes, true, false, not, refl, sym, ap, ap₂, subst, List, [], ◌∷◌, map, Option, Some, None, is_some, ◌⊎◌, inl, inr}
use Rattle.std.specs.Prelude.{slice_get, find, fold, option_and_then, option_map, nat_lt}
use Rattle.std.specs.List.{list_all, list_any}
use Rattle.std.specs.Option.{option_map_or}
use Rattle.std.specs.Str.{bytes_eq}
use Rattle.std.proofs.lemmas.Slice.Eq.{bytes_eq-Decides}
use Rattle.std.proofs.lemmas.List.{append-nil, map-append}
use Rattle.clap.specs.Lexer.{long_of, short_of}
use Rattle.cdb_model.specs.Text.{Text}
use Rattle.clap.specs.Walk.{Held, Step, used_by_id, first_of, next as waits_next, trailing as ends_options, value as a_value, long_met, long_or_other, short_or_plain, option_word, more_values, after_step, nothing_held, Row, Rule, Waiting, idle, option, Walk, after_flag, arg_by_id, arg_by_long, at_row, finished, has_row, has_long, option_met, reading_by, settled, used, walk, walk_from, walked, with_default, with_values, word_met}
use Rattle.clap.specs.Simple.{App, Shape, entered, matches_of, built, new_rule, new_shape}
use Rattle.clap.specs.Kinds.{Kinds, or_else}
use Rattle.clap.specs.Faults.{entered_fault, bundle_fault, flag_word_fault, long_fault, other_fault, step_fault, level_fault, built_fault, check_fault, default_fault, defaults_fault, fault_of, given_default_fault, settle_fault, turn_fault, use_fault, walk_fault}
use Rattle.clap.specs.declared.builder.action.ArgAction.TheVariants.{Set}
use Rattle.clap.specs.declared.builder.value_parser.ValueParser.TheVariants as vp
use Rattle.clap.specs.declared.error.kind.ErrorKind.{ErrorKind}
use Rattle.clap.specs.declared.error.kind.ErrorKind.TheVariants.{ArgumentConflict, InvalidValue, UnknownArgument}
use Rattle.clap.specs.declared.parser.matches.ValueSource.TheVariants.{CommandLine}
use Rattle.cdb_commands.specs.OptionCommand.{options_app}
use Rattle.cdb_commands.specs.Given.{IsGiven, SpellsOptions}
use Rattle.cdb_commands.specs.declared.given.Given.{Given}
use Rattle.cdb_commands.specs.OptionWords.{is_word, is_short, name_and_value, options_spelled, Use, given_text, after_name, after_value, after_word, and_use, is_given, is_name, option_names, uses_of}

-- ---- the command as built

abbrev pub rule : Text → Rule
rule name = record (new_rule name) {
  long = Some name;
  action = Some Set;
  range = Some (record { start_inclusive = 1; end_inclusive = 1 });
  parser = Some vp.String;
}

abbrev pub rules : List Rule
rules = map rule option_names

abbrev pub shape : Shape
shape = record (new_shape (codes "cdb")) {
  rules = rules;
  no_binary_name = true;
  disable_help_flag = true;
  disable_help_subcommand = true;
  is_built = true;
}

abbrev pub app : App
app = record { top = shape; subs = [] }

pub built_is : built options_app ≡ app
built_is = refl

-- ---- a rule by its name

pub same_text : (a b : Text) → bytes_eq a b ≡ true → a ≡ b
same_text a b h = (bytes_eq-Decides a b).0 h

pub long_is : (n name : Text) → has_long (rule n) name ≡ bytes_eq n name
long_is n name = elim (bytes_eq n name) as (λ b. b || false ≡ b) [ true ↦ refl | false ↦ refl ]

pub found_long : (ns : List Text) (name : Text) → arg_by_long (map rule ns) name
    ≡ cond (list_any (λ n. bytes_eq n name) ns) (Some (rule name)) None
found_long [] name = refl
found_long (n ∷ ns) name =
    ap (λ b. cond b (Some (rule n)) (arg_by_long (map rule ns) name)) (long_is n name)
    ∙ go (found_long ns name) (bytes_eq n name) refl
  where
    go : arg_by_long (map rule ns) name ≡ cond (list_any (λ n. bytes_eq n name) ns) (Some (rule name)) None
        → (b : Bool) → bytes_eq n name ≡ b → cond b (Some (rule n)) (arg_by_long (map rule ns) name)
        ≡ cond (b || list_any (λ n. bytes_eq n name) ns) (Some (rule name)) None
    go rest true e = ap (λ t. Some (rule t)) (same_text n name e)
    go rest false e = rest

pub found_id : (ns : List Text) (name : Text) → arg_by_id (map rule ns) name ≡ cond (list_any (λ n. bytes_eq n name) ns)
    (Some (rule name)) None
found_id [] name = refl
found_id (n ∷ ns) name = go (found_id ns name) (bytes_eq n name) refl
  where
    go : arg_by_id (map rule ns) name ≡ cond (list_any (λ n. bytes_eq n name) ns) (Some (rule name)) None
        → (b : Bool) → bytes_eq n name ≡ b → cond b (Some (rule n)) (arg_by_id (map rule ns) name)
        ≡ cond (b || list_any (λ n. bytes_eq n name) ns) (Some (rule name)) None
    go rest true e = ap (λ t. Some (rule t)) (same_text n name e)
    go rest false e = rest

pub by_long : (name : Text) (b : Bool) → is_name name ≡ b → arg_by_long rules name ≡ cond b (Some (rule name)) None
by_long name b e = found_long option_names name ∙ ap (λ b. cond b (Some (rule name)) None) e

pub by_id : (name : Text) → is_name name ≡ true → arg_by_id rules name ≡ Some (rule name)
by_id name e = found_id option_names name ∙ ap (λ b. cond b (Some (rule name)) None) e

-- ---- rows

abbrev pub row : Use → Row
row u = record {
  id = u.0;
  values = u.1 ∷ [];
  count = None;
  source = Some CommandLine;
  reading = reading_by (rule u.0);
}

pub rows_given : (name : Text) (uses : List Use) → has_row name (map row uses) ≡ is_given name uses
rows_given name [] = refl
rows_given name (u ∷ uses) = ap (λ b. bytes_eq u.0 name || b) (rows_given name uses)

pub absent : (name : Text) (change : Row → List Row) (missing : List Row) (uses : List Use) → is_given name uses ≡ false
    → at_row name change missing (map row uses) ≡ map row uses ++ missing
absent name change missing [] h = refl
absent name change missing (u ∷ uses) h = go (absent name change missing uses) (bytes_eq u.0 name) refl
  where
    go : (is_given name uses ≡ false → at_row name change missing (map row uses) ≡ map row uses ++ missing) → (b : Bool)
        → bytes_eq u.0 name ≡ b
        → cond b (change (row u) ++ map row uses) (row u ∷ at_row name change missing (map row uses))
        ≡ row u ∷ (map row uses ++ missing)
    go rest true e = let bad : true ≡ false = sym (ap (λ b. b || is_given name uses) e) ∙ h in cc
    go rest false e = ap (λ rs. row u ∷ rs) (rest (sym (ap (λ b. b || is_given name uses) e) ∙ h))

pub used_once : (name value : Text) (uses : List Use) → is_given name uses ≡ false
    → used (rule name) (value ∷ []) (map row uses) ≡ map row (uses ++ (name, value) ∷ [])
used_once name value uses h =
    ap (λ rs. with_values name (reading_by (rule name)) CommandLine (value ∷ []) rs)
    (absent name (λ _. []) [] uses h ∙ append-nil (map row uses))
    ∙ absent name (more_values CommandLine (value ∷ [])) (row (name, value) ∷ []) uses h
    ∙ sym (map-append row uses ((name, value) ∷ []))

-- ---- the end of a walk

pub no_default : (rows : List Row) (name : Text) → with_default rows (rule name) ≡ rows
no_default rows name = elim (has_row name rows) as (λ b. cond b rows rows ≡ rows) [ true ↦ refl | false ↦ refl ]

pub all_finished : (ns : List Text) (rows : List Row) → fold with_default rows (map rule ns) ≡ rows
all_finished [] rows = refl
all_finished (n ∷ ns) rows = ap (λ rs. fold with_default rs (map rule ns)) (no_default rows n) ∙ all_finished ns rows

pub no_default_fault : (rows : List Row) (name : Text) → default_fault rows (rule name) ≡ []
no_default_fault rows name =
    elim (has_row name rows) as (λ b. cond (b || true) [] (given_default_fault (rule name) []) ≡ [])
    [ true ↦ refl | false ↦ refl ]

pub no_defaults_fault : (ns : List Text) (rows : List Row) → defaults_fault rows (map rule ns) ≡ []
unfolding defaults_fault
no_defaults_fault [] rows = refl
no_defaults_fault (n ∷ ns) rows =
    ap (λ k. or_else k (defaults_fault (with_default rows (rule n)) (map rule ns))) (no_default_fault rows n)
    ∙ no_defaults_fault ns (with_default rows (rule n))

pub no_check_fault : (rows : List Row) → check_fault shape rows false ≡ []
no_check_fault rows = refl
