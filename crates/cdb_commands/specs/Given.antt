-- What words give for the options, by the parse of a command.
use Rattle.std.specs.Prelude.{◌≡◌, List, [], option_map, codes, Some}
use Rattle.clap.specs.Words.{first_of, matches_of, fault_of}
use Rattle.cdb_model.specs.Text.{Text}
use Rattle.cdb_commands.specs.OptionCommand.{options_app}
use Rattle.cdb_commands.specs.OptionWords.{Use, given_text, options_spelled}
use Rattle.cdb_commands.specs.declared.given.Given.{Given}

pub record IsGiven (words : List Text) (g : Given) : Type 0 where
  pub taken : fault_of options_app words ≡ []
  pub mode : option_map (λ s. s.now) g.mode ≡ first_of (codes "mode") (matches_of options_app words)
  pub background : option_map (λ s. s.now) g.background ≡ first_of (codes "background") (matches_of options_app words)
  pub start : option_map (λ s. s.now) g.start ≡ first_of (codes "start") (matches_of options_app words)
  pub count : option_map (λ s. s.now) g.count ≡ first_of (codes "count") (matches_of options_app words)

-- the texts of the uses of the four options
pub record GivesOptions (uses : List Use) (g : Given) : Type 0 where
  pub mode : option_map (λ s. s.now) g.mode ≡ given_text (codes "mode") uses
  pub background : option_map (λ s. s.now) g.background ≡ given_text (codes "background") uses
  pub start : option_map (λ s. s.now) g.start ≡ given_text (codes "start") uses
  pub count : option_map (λ s. s.now) g.count ≡ given_text (codes "count") uses

abbrev pub SpellsOptions : List Text → Given → Type 0
SpellsOptions words g = (uses : List Use) × (options_spelled words ≡ Some uses) × GivesOptions uses g
