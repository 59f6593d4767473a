-- The program's command line, as clap reads it.
use Rattle.std.specs.Prelude.{◌≡◌, ◌≤◌, ℕ, Bool, List, [], ◌∷◌, Option, Some, None, IsSome, String, codes, false, find, map, pos, string_bytes, true}
use Rattle.std.specs.Str.{bytes_eq}
use Rattle.mapping.specs.Limits.{surface_side_limit}
use Rattle.std.specs.Str.Parse.{IsNumeral, digits_value, without_leading_plus}
use Rattle.std.specs.declared.alloc.Global.{Global}
use Rattle.clap.specs.Lexer.{usize_max}
use Rattle.clap.specs.Words.{App, Row, Rule, Shape, Text, first_of, new_app, new_rule, one_of, subcommand_of, with_rule, with_subcommand}
use Rattle.clap.specs.declared.builder.ArgAction.TheVariants.{Append, Set, SetTrue}
use Rattle.clap.specs.declared.builder.value_parser.ValueParser.{ValueParser}
use Rattle.clap.specs.declared.builder.value_parser.ValueParser.TheVariants.{Signed}
use Rattle.draw_ops.specs.RuleSets.{core_rules}
use Rattle.command_lines.specs.Dimensions.{HasDimensions}
use Rattle.command_lines.specs.RuleWords.{AreRightRules, GivesRules}
use Rattle.command_lines.specs.declared.asked.CommandLine.{CommandLine}
use Rattle.command_lines.specs.declared.asked.CommandLine.TheVariants.{Check, List as ListLine, Over, Play, Prepare, Show}

-- a file's name, which is required
abbrev pub name_rule : Text → Rule
name_rule id = record (new_rule id) { required = true; action = Some Set }

-- W or H, which is required, from 1 to 8,192
abbrev pub side_rule : Text → Rule
side_rule id = record (new_rule id) { required = true; action = Some Set; parser = Some (Signed (pos 1) (pos surface_side_limit)) }

-- W and H
abbrev pub side_rules : List Rule
side_rules = side_rule (codes "W") ∷ side_rule (codes "H") ∷ []

-- a command with FILE
abbrev pub file_app : Text → App
file_app name = with_rule (new_app name) (name_rule (codes "FILE"))

-- a command followed by W and H
abbrev pub with_dimensions : App → App
with_dimensions app = with_rule (with_rule app (side_rule (codes "W"))) (side_rule (codes "H"))

-- --fit
abbrev pub fit_rule : Rule
fit_rule = record (new_rule (codes "fit")) { long = Some (codes "fit"); action = Some SetTrue }

-- --profile PROFILE, which is optional
abbrev pub profile_rule : Rule
profile_rule = record (new_rule (codes "PROFILE")) { long = Some (codes "profile"); action = Some Set }

-- --allow NAME, any number of times
abbrev pub allow_rule : Rule
allow_rule = record (new_rule (codes "NAME")) { long = Some (codes "allow"); action = Some Append }

-- a command followed by --profile and --allow
abbrev pub with_rules : App → App
with_rules app = with_rule (with_rule app profile_rule) allow_rule

-- show FILE W H [--fit] [--profile PROFILE] [--allow NAME]...
abbrev pub show_app : App
show_app = with_rules (with_rule (with_dimensions (file_app (codes "show"))) fit_rule)

-- prepare FILE W H OUT [--profile PROFILE] [--allow NAME]...
abbrev pub prepare_app : App
prepare_app = with_rules (with_rule (with_dimensions (file_app (codes "prepare"))) (name_rule (codes "OUT")))

-- check FILE CERT
abbrev pub check_app : App
check_app = with_rule (file_app (codes "check")) (name_rule (codes "CERT"))

-- --bands ROWS, which is optional, from 1 to 8,192
abbrev pub bands_rule : Rule
bands_rule = record (new_rule (codes "ROWS")) { long = Some (codes "bands"); action = Some Set; parser = Some (Signed (pos 1) (pos surface_side_limit)) }

-- play FILE CERT W H [--bands ROWS] [--fit]
abbrev pub play_app : App
play_app = with_rule (with_rule (with_dimensions (with_rule (file_app (codes "play")) (name_rule (codes "CERT")))) bands_rule) fit_rule

-- over FILE CERT IMAGE
abbrev pub over_app : App
over_app = with_rule (with_rule (file_app (codes "over")) (name_rule (codes "CERT"))) (name_rule (codes "IMAGE"))

-- list FILE [--profile PROFILE] [--allow NAME]...
abbrev pub list_app : App
list_app = with_rules (file_app (codes "list"))

-- FILE..., one or more names
abbrev pub files_rule : Rule
files_rule = record (name_rule (codes "FILE")) { action = Some Append; range = Some (record { start_inclusive = 1; end_inclusive = usize_max }) }

-- info FILE... [--profile PROFILE] [--allow NAME]...
abbrev pub info_app : App
info_app = with_rules (with_rule (new_app (codes "info")) files_rule)

-- --out-dir DIR, which is required
abbrev pub folder_rule : Rule
folder_rule = record (name_rule (codes "DIR")) { long = Some (codes "out-dir") }

-- --replace
abbrev pub replace_rule : Rule
replace_rule = record (new_rule (codes "replace")) { long = Some (codes "replace"); action = Some SetTrue }

-- certify --out-dir DIR [--replace] [--profile PROFILE] [--allow NAME]... W H FILE...
abbrev pub certify_app : App
certify_app = with_rules (with_rule (with_rule (with_rule (with_dimensions (new_app (codes "certify"))) files_rule) folder_rule) replace_rule)

-- metaplay without its commands; a command is required
abbrev pub bare_app : App
bare_app = record (new_app (codes "metaplay")) { top = record (new_app (codes "metaplay")).top { subcommand_required = true } }

-- metaplay with its commands
abbrev pub metaplay_app : App
metaplay_app =
    with_subcommand
    (with_subcommand
    (with_subcommand
    (with_subcommand (with_subcommand (with_subcommand (with_subcommand (with_subcommand bare_app show_app.top) prepare_app.top) check_app.top) play_app.top)
    over_app.top)
    list_app.top)
    info_app.top)
    certify_app.top

-- the number of a text: its decimal digits, after an optional plus sign
abbrev pub number_of : Text → ℕ
number_of text = digits_value 10 (without_leading_plus text)

-- the argument with this id was given, and it reads as this number
pub record GivesNumber (given : List Row) (id : Text) (number : ℕ) : Type 0 where
  pub text : Text
  pub is_given : one_of id given ≡ Some text
  pub reads : number ≡ number_of text

-- the arguments W and H were given, and they read as these numbers
pub record GivesDimensions (given : List Row) (width height : ℕ) : Type 0 where
  pub wide : GivesNumber given (codes "W") width
  pub high : GivesNumber given (codes "H") height

-- the argument ROWS was given and reads as this number, or it wasn't given
abbrev pub GivesBands : List Row → Option ℕ → Type 0
GivesBands given None = IsSome (first_of (codes "ROWS") given) → ⊥
GivesBands given (Some rows) = GivesNumber given (codes "ROWS") rows

-- whether an option without a value was given: clap gives it the text `true` or `false`
pub record GivesFlag (given : List Row) (id : Text) (flag : Bool) : Type 0 where
  pub set : one_of id given ≡ Some (codes "true") → flag ≡ true
  pub unset : one_of id given ≡ Some (codes "false") → flag ≡ false
  pub missing : one_of id given ≡ None → flag ≡ false

-- the argument with this id was given, as this text
abbrev pub GivesName : List Row → Text → Text → Type 0
GivesName given id name = first_of id given ≡ Some name

-- the name of a command line's command
abbrev pub command_name : CommandLine → Text
command_name (Show file rules width height fit) = codes "show"
command_name (Prepare file rules width height output) = codes "prepare"
command_name (Check file certificate) = codes "check"
command_name (Play file certificate width height bands fit) = codes "play"
command_name (Over file certificate image) = codes "over"
command_name (ListLine file rules) = codes "list"

-- a command line has the names, the numbers and the rules of the given arguments
abbrev pub HoldsWords : List Row → CommandLine → Type 0
HoldsWords given (Show file rules width height fit) =
    GivesName given (codes "FILE") file.now × GivesRules given rules × GivesDimensions given width height
    × GivesFlag given (codes "fit") fit
HoldsWords given (Prepare file rules width height output) =
    GivesName given (codes "FILE") file.now × GivesRules given rules × GivesDimensions given width height
    × GivesName given (codes "OUT") output.now
HoldsWords given (Check file certificate) = GivesName given (codes "FILE") file.now × GivesName given (codes "CERT") certificate.now
HoldsWords given (Play file certificate width height bands fit) =
    GivesName given (codes "FILE") file.now × GivesName given (codes "CERT") certificate.now × GivesDimensions given width height
    × GivesBands given bands × GivesFlag given (codes "fit") fit
HoldsWords given (Over file certificate image) =
    GivesName given (codes "FILE") file.now × GivesName given (codes "CERT") certificate.now × GivesName given (codes "IMAGE") image.now
HoldsWords given (ListLine file rules) = GivesName given (codes "FILE") file.now × GivesRules given rules

-- the parsed command is that of the command line, and has its arguments
pub record IsAskedBy (met : Option (Text × List Row)) (line : CommandLine) : Type 0 where
  pub given : List Row
  pub command : met ≡ Some (command_name line, given)
  pub gives : HoldsWords given line

-- the words of a command line, as bytes
abbrev pub texts_of : List (String Global) → List Text
texts_of words = map string_bytes words

-- the command line has what the words, the program's name first, give its command
abbrev pub IsAskedByWords : List Text → CommandLine → Type 0
IsAskedByWords words line = IsAskedBy (subcommand_of metaplay_app words) line

-- the word doesn't begin with a hyphen
abbrev pub IsPlainWord : Text → Type 0
IsPlainWord [] = Unit {0}
IsPlainWord (byte ∷ rest) = byte ≡ 45 → ⊥

-- the file has this name, and the width and height are the numbers of these texts
pub record AreOfWords (file wide high : Text) (name : Text) (width height : ℕ) : Type 0 where
  pub named : name ≡ file
  pub wide_reads : width ≡ number_of wide
  pub high_reads : height ≡ number_of high

-- the command line is `show` with this file name and the numbers of these texts, by the core profile, without `--fit`
abbrev pub HasWords : Text → Text → Text → CommandLine → Type 0
HasWords file wide high (Show name rules width height fit) =
    AreOfWords file wide high name.now width height × (fit ≡ false) × (rules ≡ core_rules)
HasWords file wide high line = ⊥

-- the text is a decimal numeral from 1 to 8,192, without a sign
pub record IsSideText (text : Text) : Type 0 where
  pub numeral : IsNumeral 10 text
  pub least : 1 ≤ digits_value 10 text
  pub most : digits_value 10 text ≤ surface_side_limit

-- the argument with this id was given, as such a numeral
pub record GivesSide (given : List Row) (id : Text) : Type 0 where
  pub text : Text
  pub is_given : one_of id given ≡ Some text
  pub is_side : IsSideText text

-- an argument was given as it should be: a text, or a numeral in range if a number is read from it; an optional
-- argument may be missing, and an option without a value is always right
abbrev pub GivesRight : Bool → Option ValueParser → List Row → Text → Type 0
GivesRight true None given id = IsSome (first_of id given)
GivesRight true (Some parser) given id = GivesSide given id
GivesRight false None given id = Unit {0}
GivesRight false (Some parser) given id = IsSome (first_of id given) → GivesSide given id

abbrev pub GivesArgument : Rule → List Row → Type 0
GivesArgument rule given = GivesRight rule.required rule.parser given rule.id

-- all arguments were given as they should be
abbrev pub GivesAll : List Rule → List Row → Type 0
GivesAll [] given = Unit {0}
GivesAll (rule ∷ rules) given = GivesArgument rule given × GivesAll rules given

-- the arguments of a command were given as they should be, those for the rules too
pub record AreRightArguments (shape : Shape) (given : List Row) : Type 0 where
  pub all : GivesAll shape.rules given
  pub rules : AreRightRules given

-- the parsed command is one of metaplay's, and its arguments were given as they should be
pub record IsRightCommand (met : Option (Text × List Row)) : Type 0 where
  pub name : Text
  pub given : List Row
  pub shape : Shape
  pub command : met ≡ Some (name, given)
  pub declared : find (λ s. bytes_eq s.name name) metaplay_app.subs ≡ Some shape
  pub allowed : AreRightArguments shape given

-- a statement holds for a command line that the words give, with valid sizes
pub record HoldsOfAsked (words : List Text) (holds : CommandLine → Type 0) : Type 0 where
  pub line : CommandLine
  pub dimensions : HasDimensions line
  pub asked : IsAskedByWords words line
  pub fact : holds line
