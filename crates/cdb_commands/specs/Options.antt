-- What the option words say.
use Rattle.std.specs.Prelude.{ℕ, ◌&&◌, nat_le, List, Option, Some, None, option_and_then, codes, if◌then◌else◌}
use Rattle.std.specs.Str.{bytes_eq}
use Rattle.cdb_model.specs.Text.{Text}
use Rattle.cdb_model.specs.Words.{digits}
use Rattle.cdb_commands.specs.OptionWords.{Use, given_text, options_spelled}
use Rattle.cdb_commands.specs.declared.options.Mode.{Mode}
use Rattle.cdb_commands.specs.declared.options.Mode.TheVariants.{Run, Generate, Check}
use Rattle.cdb_commands.specs.declared.options.Options.{Options}

-- the mode that a text names, and the one without a text
abbrev pub mode_of : Option Text → Option Mode
mode_of None = Some Run
mode_of (Some text) =
    if bytes_eq text (codes "run") then Some Run
    else (if bytes_eq text (codes "generate") then Some Generate
    else (if bytes_eq text (codes "check") then Some Check else None))

abbrev pub within : ℕ → ℕ → ℕ → Option ℕ
within least most n = if nat_le least n && nat_le n most then Some n else None

-- the number of 1 to 10 digits that a text spells, in its range, and the one without a text
abbrev pub option_number : ℕ → ℕ → ℕ → Option Text → Option ℕ
option_number least most default None = Some default
option_number least most default (Some text) = option_and_then (within least most) (digits 10 text)

-- the options that four texts give
abbrev pub chosen : Option Mode → Option ℕ → Option ℕ → Option ℕ → Option Options
chosen (Some mode) (Some background) (Some start) (Some count) =
    Some (record { mode = mode; background = background; start = start; count = count })
chosen _ _ _ _ = None

abbrev pub options_in : List Use → Option Options
options_in uses = chosen (mode_of (given_text (codes "mode") uses))
    (option_number 0 64 1 (given_text (codes "background") uses))
    (option_number 0 4294967295 1 (given_text (codes "start") uses))
    (option_number 1 64 4 (given_text (codes "count") uses))

-- the options that a list of words gives
abbrev pub options_of : List Text → Option Options
options_of words = option_and_then options_in (options_spelled words)
