-- What clap returns for `certify` with a folder, a width, a height, and one or more names.
use Rattle.std.proofs.Common.{arith, ap₂, fold, is_some, ◌≡◌, ◌∙◌, ◌&&◌, ◌≤◌, ◌+◌, ◌++◌, ap, sym, subst, refl, Bool, List, [], ◌∷◌, false, true, Some, codes, map, length}
use Rattle.std.specs.List.{All, list_all}
use Rattle.std.proofs.lemmas.List.{append_assoc, append-nil, length-append}
use Rattle.std.proofs.lemmas.List.Elements.{All-head, All-tail}
use Rattle.clap.specs.Lexer.{usize_max}
use Rattle.clap.specs.Simple.{built, entered, is_simple}
use Rattle.clap.specs.Takes.{default_passes, entered_passes, is_valid, level_passes, settle_passes}
use Rattle.clap.specs.Walk.{walked, Row, Text, Walk, finished, nothing_held, rows_after, walk_from}
use Rattle.clap.specs.Words.{subcommand_of, takes}
use Rattle.clap.proofs.OnLiterals.{clap_on_literals}
use Rattle.command_lines.specs.BatchWords.{AreCertifyWords, AsksRightCertify}
use Rattle.command_lines.specs.CommandLine.{GivesAll, IsPlainWord, IsSideText, certify_app, metaplay_app}
use Rattle.command_lines.specs.RightWords.{AreOfKinds, ArgumentKind, exactly, name, side}
use Rattle.command_lines.specs.RuleWords.{AreRightRules}
use Rattle.command_lines.proofs.BatchLemmas.{name_kinds, names_taken, top, top_names, words_pass, words_stay}
use Rattle.command_lines.proofs.OptionLemmas.{AreTaken, after_names, certify_shape, front, front_kinds, options_taken, rows_before, rows_given}
use Rattle.command_lines.proofs.KindLemmas.{are_on, end_passes, kinds_pass, kinds_walked, passes_on, rows_kinds, walked_on}
use Rattle.command_lines.proofs.UsageLemmas.{IsTaken, of_usage}

are_names : (names : List Text) → All IsPlainWord names → AreOfKinds (name_kinds names) names
are_names [] all = tt
are_names (word ∷ names) all = (All-head IsPlainWord word names all, are_names names (All-tail IsPlainWord word names all))

are_last : (options : List Text) (wide high word : Text) → IsSideText wide → IsSideText high → IsPlainWord word
    → AreOfKinds (map exactly options ++ side ∷ side ∷ name ∷ []) (options ++ wide ∷ high ∷ word ∷ [])
are_last [] wide high word w h plain = (w, (h, (plain, tt)))
are_last (option ∷ options) wide high word w h plain = (refl, are_last options wide high word w h plain)

-- the words after the command's name, and their kinds
abbrev all_words : Text → List Text → Text → Text → Text → List Text → List Text
all_words folder options wide high word words = front folder options wide high word ++ words

abbrev all_kinds : List Text → List Text → List ArgumentKind
all_kinds options words = front_kinds options ++ name_kinds words

walked_more : (rows : List Row) (words names : List Text) → kinds_walked certify_shape.rules (name_kinds words) (after_names rows names) words ≡ after_names rows (names ++ words)
unfolding clap_on_literals
walked_more rows [] names = ap (after_names rows) (sym (append-nil names))
walked_more rows (word ∷ words) names = walked_more rows words (names ++ word ∷ []) ∙ ap (after_names rows) (append_assoc names (word ∷ []) words)

passed_more : (rows : List Row) (words names : List Text) → kinds_pass certify_shape (name_kinds words) (after_names rows names) words ≡ true
unfolding clap_on_literals
passed_more rows [] names = refl
passed_more rows (word ∷ words) names = passed_more rows words (names ++ word ∷ [])

-- where the walk over `certify` and its words ends
top_walked : (words : List Text) → fold (walked top.rules top_names) (walk_from nothing_held) (codes "certify" ∷ words) ≡ record (walk_from nothing_held) { stopped = Some (codes "certify", words) }
unfolding clap_on_literals
top_walked words = words_stay top.rules top_names (walk_from nothing_held) (codes "certify") words []

certify_met : (program : Text) (words : List Text) → subcommand_of metaplay_app (program ∷ codes "certify" ∷ words) ≡ Some (codes "certify", rows_after certify_shape.rules [] words)
unfolding clap_on_literals
certify_met program words = ap (λ (w : Walk). entered (built metaplay_app) w.stopped) (top_walked words)

certify_enters : (program : Text) (words : List Text) → level_passes certify_shape [] nothing_held words false ≡ true → takes metaplay_app (program ∷ codes "certify" ∷ words) ≡ true
unfolding clap_on_literals
certify_enters program words passes =
    ap₂ (λ (pass : Bool) (w : Walk). is_simple metaplay_app && (entered_passes (built metaplay_app) w.stopped && (pass && (settle_passes top.rules top.args_override_self w.held
    && (list_all default_passes top.rules && is_valid top (finished top.rules w.held) (is_some (entered (built metaplay_app) w.stopped)))))))
    (words_pass top top_names (walk_from nothing_held) (codes "certify") words []) (top_walked words)
    ∙ ap (λ (b : Bool). b && true) passes

module _ (folder : Text) (options : List Text) (wide high word : Text) (words : List Text) (taken : AreTaken options) (w : IsSideText wide) (h : IsSideText high)
    (all : All IsPlainWord (folder ∷ word ∷ words)) where
  names_plain : All IsPlainWord (word ∷ words)
  names_plain = All-tail IsPlainWord folder (word ∷ words) all

  are_front : AreOfKinds (front_kinds options) (front folder options wide high word)
  are_front = (refl, (All-head IsPlainWord folder (word ∷ words) all, are_last options wide high word w h (All-head IsPlainWord word words names_plain)))

  are_all : AreOfKinds (all_kinds options words) (all_words folder options wide high word words)
  are_all = are_on (front_kinds options) (name_kinds words) (front folder options wide high word) words are_front (are_names words (All-tail IsPlainWord word words names_plain))

  -- where the walk over these words ends
  walk_ends : kinds_walked certify_shape.rules (all_kinds options words) (walk_from nothing_held) (all_words folder options wide high word words)
      ≡ after_names (rows_before folder options wide high word) (word ∷ words)
  walk_ends =
      walked_on certify_shape.rules (front_kinds options) (name_kinds words) (walk_from nothing_held) (front folder options wide high word) words are_front
      ∙ ap (λ (walk : Walk). kinds_walked certify_shape.rules (name_kinds words) walk words) (taken.walked folder wide high word)
      ∙ walked_more (rows_before folder options wide high word) words (word ∷ [])

  all_pass : kinds_pass certify_shape (all_kinds options words) (walk_from nothing_held) (all_words folder options wide high word words) ≡ true
  all_pass =
      passes_on certify_shape (front_kinds options) (name_kinds words) (walk_from nothing_held) (front folder options wide high word) words are_front
      ∙ ap₂ (λ (pass : Bool) (walk : Walk). pass && kinds_pass certify_shape (name_kinds words) walk words) (taken.passed folder wide high word w h) (taken.walked folder wide high word)
      ∙ passed_more (rows_before folder options wide high word) words (word ∷ [])

  -- clap accepts them
  certify_taken : length (word ∷ words) ≤ usize_max → IsTaken (codes "certify") (all_words folder options wide high word words)
  certify_taken few =
      let given = ap (λ (walk : Walk). finished certify_shape.rules walk.held) walk_ends in
      of_usage (codes "certify") certify_app.top (all_kinds options words) (all_words folder options wide high word words) are_all refl
      (λ program passes. certify_enters program (all_words folder options wide high word words) passes)
      (λ program. certify_met program (all_words folder options wide high word words))
      (ap₂ (λ (pass : Bool) (walk : Walk). end_passes certify_shape pass walk.held) all_pass walk_ends ∙ taken.ended folder wide high word words (names_taken word words few))
      (subst (GivesAll certify_app.top.rules) (sym given) (taken.gives folder wide high word words w h)) (subst AreRightRules (sym given) (taken.right folder wide high word words))

  -- and they are what `certify` is given
  certify_given : (program : Text) → subcommand_of metaplay_app (program ∷ codes "certify" ∷ all_words folder options wide high word words)
      ≡ Some (codes "certify", rows_given folder options wide high word words)
  certify_given program =
      certify_met program (all_words folder options wide high word words)
      ∙ ap (λ (rows : List Row). Some (codes "certify", rows)) (rows_kinds certify_shape.rules (all_kinds options words) (all_words folder options wide high word words) are_all
      ∙ ap (λ (walk : Walk). finished certify_shape.rules walk.held) walk_ends)

-- the words with the first name apart from the others
first_apart : (words : List Text) (right : AreCertifyWords words)
    → words ≡ right.program ∷ codes "certify" ∷ all_words right.folder right.options right.wide right.high right.name right.names
first_apart words right =
    right.are ∙ ap (λ (l : List Text). right.program ∷ codes "certify" ∷ codes "--out-dir" ∷ right.folder ∷ l)
    (sym (append_assoc right.options (right.wide ∷ right.high ∷ right.name ∷ []) right.names))

-- the options of right words for `certify`
right_options : (words : List Text) (right : AreCertifyWords words) → AreTaken right.options
right_options words right =
    let found = right.right in
    subst AreTaken found.4 (subst AreTaken found.3 (options_taken found.0 found.1 found.2))

-- clap accepts right words for `certify`, and the command is given what it should be
pub certify_words_taken : (words : List Text) → AreCertifyWords words → length words ≤ usize_max → takes metaplay_app words ≡ true
certify_words_taken words right few =
    let last = right.wide ∷ right.high ∷ right.name ∷ right.names in
    let within : length (right.program ∷ codes "certify" ∷ codes "--out-dir" ∷ right.folder ∷ (right.options ++ last)) ≤ usize_max = subst (λ (l : List Text). length l ≤ usize_max) right.are few in
    let parts : length (right.options ++ last) ≡ length right.options + length last = length-append right.options last in
    subst (λ (l : List Text). takes metaplay_app l ≡ true) (sym (first_apart words right))
    ((certify_taken right.folder right.options right.wide right.high right.name right.names (right_options words right) right.sides.0 right.sides.1 right.plain
    (omega (arith, within, parts))).taken right.program)

pub certify_words_asked : (words : List Text) → AreCertifyWords words → AsksRightCertify (subcommand_of metaplay_app words)
certify_words_asked words right =
    let taken = right_options words right in
    subst (λ (l : List Text). AsksRightCertify (subcommand_of metaplay_app l)) (sym (first_apart words right)) (record {
      given = rows_given right.folder right.options right.wide right.high right.name right.names;
      is = certify_given right.folder right.options right.wide right.high right.name right.names taken right.sides.0 right.sides.1 right.plain right.program;
      right = record {
        names = record {
          names = right.name ∷ right.names;
          are = taken.named right.folder right.wide right.high right.name right.names;
          fact = right.none;
        };
        arguments = record {
          all = taken.gives right.folder right.wide right.high right.name right.names right.sides.0 right.sides.1;
          rules = taken.right right.folder right.wide right.high right.name right.names;
        };
      };
    })
