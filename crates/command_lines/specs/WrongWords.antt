-- Command lines with words that are wrong for every file.
use Rattle.std.specs.Prelude.{◌≡◌, ◌⊎◌, ◌++◌, List, [], ◌∷◌, Some, codes, option_map}
use Rattle.std.specs.List.{All, Any}
use Rattle.clap.specs.Lexer.{long_of}
use Rattle.clap.specs.Words.{Text}

-- the word isn't `--`, after which no word is an option
abbrev pub IsNoEnd : Text → Type 0
IsNoEnd word = word ≡ codes "--" → ⊥

-- clap reads the word as the option with this name, with or without a value
abbrev pub IsOption : Text → Text → Type 0
IsOption name word = option_map (λ option. option.0) (long_of word) ≡ Some name

-- the word is `--profile` or `--allow`
abbrev pub IsRuleOption : Text → Type 0
IsRuleOption word = IsOption (codes "profile") word ⊎ IsOption (codes "allow") word

-- the commands that take their rules from a certificate
abbrev pub certified_commands : List Text
certified_commands = codes "check" ∷ codes "play" ∷ codes "over" ∷ []

-- the commands that are given their rules
abbrev pub ruled_commands : List Text
ruled_commands = codes "show" ∷ codes "prepare" ∷ codes "list" ∷ codes "info" ∷ codes "certify" ∷ []

-- the program's name, a command that takes its rules from a certificate, and an option for the rules among its words
pub record GiveRulesBesideCertificate (words : List Text) : Type 0 where
  pub program : Text
  pub command : Text
  pub before : List Text
  pub option : Text
  pub after : List Text
  pub are : words ≡ program ∷ command ∷ (before ++ option ∷ after)
  pub certified : Any (λ name. name ≡ command) certified_commands
  pub no_end : All IsNoEnd before
  pub is_option : IsRuleOption option

-- the program's name, a command that is given its rules, and two profiles among its words
pub record GiveProfileTwice (words : List Text) : Type 0 where
  pub program : Text
  pub command : Text
  pub before : List Text
  pub first : Text
  pub between : List Text
  pub second : Text
  pub after : List Text
  pub are : words ≡ program ∷ command ∷ (before ++ first ∷ (between ++ second ∷ after))
  pub ruled : Any (λ name. name ≡ command) ruled_commands
  pub no_end : All IsNoEnd before × All IsNoEnd between
  pub are_profiles : IsOption (codes "profile") first × IsOption (codes "profile") second

-- words that give rules to a command that takes a certificate, or that give the profile twice
abbrev pub AreWrongWords : List Text → Type 0
AreWrongWords words = GiveRulesBesideCertificate words ⊎ GiveProfileTwice words
