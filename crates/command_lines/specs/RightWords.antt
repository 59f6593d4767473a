-- Command lines with the right words.
use Rattle.std.specs.Prelude.{◌≡◌, ◌++◌, List, [], ◌∷◌, codes, map}
use Rattle.std.specs.List.{Any}
use Rattle.clap.specs.Words.{Text}
use Rattle.command_lines.specs.CommandLine.{IsPlainWord, IsSideText}

-- the kinds of arguments: a file's name, a width or height, the word for bands or for the frame's proportion, or exactly
-- some word
pub data ArgumentKind : Type 0 where
  name : ArgumentKind
  side : ArgumentKind
  bands : ArgumentKind
  fit : ArgumentKind
  exactly : Text → ArgumentKind

-- The word is of this kind: a name doesn't begin with a hyphen, and a width or height is a decimal numeral from 1 to
-- 8,192, without a sign.
abbrev pub IsOfKind : ArgumentKind → Text → Type 0
IsOfKind name word = IsPlainWord word
IsOfKind side word = IsSideText word
IsOfKind bands word = word ≡ codes "--bands"
IsOfKind fit word = word ≡ codes "--fit"
IsOfKind (exactly text) word = word ≡ text

-- each word is of the corresponding kind
abbrev pub AreOfKinds : List ArgumentKind → List Text → Type 0
AreOfKinds [] [] = Unit {0}
AreOfKinds [] (word ∷ words) = ⊥
AreOfKinds (kind ∷ kinds) [] = ⊥
AreOfKinds (kind ∷ kinds) (word ∷ words) = IsOfKind kind word × AreOfKinds kinds words

-- `--allow` with a name
abbrev pub allow : Text → List Text
allow allowance = codes "--allow" ∷ allowance ∷ []

-- the options for the rules: none, or a profile, and for print what is allowed
abbrev pub rule_options : List (List Text)
rule_options =
    []
    ∷ (codes "--profile" ∷ codes "core" ∷ [])
    ∷ (codes "--profile" ∷ codes "print" ∷ [])
    ∷ (codes "--profile" ∷ codes "print" ∷ allow (codes "held-deletion"))
    ∷ (codes "--profile" ∷ codes "print" ∷ allow (codes "emf-plus"))
    ∷ (codes "--profile" ∷ codes "print" ∷ allow (codes "held-deletion") ++ allow (codes "emf-plus"))
    ∷ []

-- a usage, followed by each of the options for the rules
abbrev pub with_rule_options : Text × List ArgumentKind → List (Text × List ArgumentKind)
with_rule_options usage = map (λ options. (usage.0, usage.1 ++ map exactly options)) rule_options

-- the arguments that each command takes without a certificate, in order; `show` may fit the frame
abbrev pub ruled_usages : List (Text × List ArgumentKind)
ruled_usages =
    with_rule_options (codes "show", name ∷ side ∷ side ∷ [])
    ++ with_rule_options (codes "show", name ∷ side ∷ side ∷ fit ∷ [])
    ++ with_rule_options (codes "prepare", name ∷ side ∷ side ∷ name ∷ [])
    ++ with_rule_options (codes "list", name ∷ [])

-- the arguments that each command takes, in order; `play` may have bands, and `show` and `play` may fit the frame
abbrev pub usages : List (Text × List ArgumentKind)
usages =
    (codes "check", name ∷ name ∷ [])
    ∷ (codes "play", name ∷ name ∷ side ∷ side ∷ [])
    ∷ (codes "play", name ∷ name ∷ side ∷ side ∷ fit ∷ [])
    ∷ (codes "play", name ∷ name ∷ side ∷ side ∷ bands ∷ side ∷ [])
    ∷ (codes "play", name ∷ name ∷ side ∷ side ∷ bands ∷ side ∷ fit ∷ [])
    ∷ (codes "play", name ∷ name ∷ side ∷ side ∷ fit ∷ bands ∷ side ∷ [])
    ∷ (codes "over", name ∷ name ∷ name ∷ [])
    ∷ ruled_usages

-- the usage is that of the command, and takes the arguments
abbrev pub TakesArguments : Text → List Text → Text × List ArgumentKind → Type 0
TakesArguments command arguments usage = (usage.0 ≡ command) × AreOfKinds usage.1 arguments

-- the program's name, a command's name, and arguments that it takes
pub record AreRightWords (words : List Text) : Type 0 where
  pub program : Text
  pub command : Text
  pub arguments : List Text
  pub are : words ≡ program ∷ command ∷ arguments
  pub right : Any (TakesArguments command arguments) usages
