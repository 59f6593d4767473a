-- What clap returns for `info` and one or more names.
use Rattle.std.proofs.Common.{arith, ap₂, fold, is_some, ◌≡◌, ◌∙◌, ◌&&◌, ◌≤◌, ◌+◌, ◌++◌, ap, sym, subst, refl, Bool, List, [], ◌∷◌, false, true, Some, None, codes, map, length}
use Rattle.std.specs.List.{All, list_all}
use Rattle.std.proofs.lemmas.List.{append_assoc, append-nil, length-append}
use Rattle.std.proofs.lemmas.List.Elements.{All-head, All-tail}
use Rattle.clap.specs.Lexer.{usize_max}
use Rattle.clap.specs.Simple.{Shape, built, entered, is_simple}
use Rattle.clap.specs.Takes.{default_passes, entered_passes, is_valid, level_passes, settle_passes}
use Rattle.clap.specs.Walk.{walked, Row, Text, Walk, all_of, finished, nothing_held, positional, rows_after, walk_from}
use Rattle.clap.specs.Words.{subcommand_of, takes}
use Rattle.clap.proofs.OnLiterals.{clap_on_literals}
use Rattle.command_lines.specs.CommandLine.{GivesAll, IsPlainWord, info_app, metaplay_app}
use Rattle.command_lines.specs.BatchWords.{AreInfoWords, AsksRightInfo}
use Rattle.command_lines.specs.RightWords.{AreOfKinds, ArgumentKind, exactly, rule_options}
use Rattle.command_lines.specs.RuleWords.{AreRightRules}
use Rattle.command_lines.proofs.BatchLemmas.{are_exactly, name_kinds, names_pass, names_taken, top, top_names, words_pass, words_stay}
use Rattle.command_lines.proofs.KindLemmas.{end_passes, kinds_end, kinds_pass, kinds_walked, rows_kinds}
use Rattle.command_lines.proofs.UsageLemmas.{IsTaken, all_of_list, built_shape, core_right, of_usage, print_right}

-- the command as clap builds it
abbrev pub info_shape : Shape
info_shape = built_shape (codes "info")

-- names, followed by exactly these words
abbrev pub ended_kinds : List Text → List Text → List ArgumentKind
ended_kinds words options = name_kinds words ++ map exactly options

pub are_names : (words options : List Text) → All IsPlainWord words → AreOfKinds (ended_kinds words options) (words ++ options)
are_names [] options all = are_exactly options
are_names (word ∷ words) options all = (All-head IsPlainWord word words all, are_names words options (All-tail IsPlainWord word words all))

-- where the walk stands after these names
abbrev pub after_names : List Text → Walk
after_names names = record {
  held = record { rows = []; pending = Some (codes "FILE", names); skip = 0 };
  waiting = positional;
  position = 1;
  is_trailing = false;
  stopped = None;
}

-- where it stands after these options
abbrev pub after_options : List Text → List Text → Walk
after_options names options = kinds_walked info_shape.rules (map exactly options) (after_names names) options

pub walked_names : (words options names : List Text) → kinds_walked info_shape.rules (ended_kinds words options) (after_names names) (words ++ options) ≡ after_options (names ++ words) options
unfolding clap_on_literals
walked_names [] options names = ap (λ (all : List Text). after_options all options) (sym (append-nil names))
walked_names (word ∷ words) options names =
    walked_names words options (names ++ word ∷ []) ∙ ap (λ (all : List Text). after_options all options) (append_assoc names (word ∷ []) words)

pub passed_names : (words options names : List Text) → kinds_pass info_shape (ended_kinds words options) (after_names names) (words ++ options)
    ≡ kinds_pass info_shape (map exactly options) (after_names (names ++ words)) options
unfolding clap_on_literals
passed_names [] options names = ap (λ (all : List Text). kinds_pass info_shape (map exactly options) (after_names all) options) (sym (append-nil names))
passed_names (word ∷ words) options names =
    passed_names words options (names ++ word ∷ [])
    ∙ ap (λ (all : List Text). kinds_pass info_shape (map exactly options) (after_names all) options) (append_assoc names (word ∷ []) words)

-- what the walk holds after one or more names and these options
pub ended_names : (word : Text) (words options : List Text) → kinds_end info_shape.rules (ended_kinds (word ∷ words) options) (word ∷ (words ++ options))
    ≡ (after_options (word ∷ words) options).held
unfolding clap_on_literals
ended_names word words options = ap (λ (w : Walk). w.held) (walked_names words options (word ∷ []))

-- what `info` is given with these names and options
abbrev pub rows_given : List Text → List Text → List Row
rows_given names options = finished info_shape.rules (after_options names options).held

-- clap accepts these options after one or more names, and `info` is given the names, and rules as they should be
pub record AreTaken (options : List Text) : Type 0 where
  pub pass : (word : Text) (words : List Text) → names_pass (word ∷ words) ≡ true
      → end_passes info_shape (kinds_pass info_shape (map exactly options) (after_names (word ∷ words)) options) (after_options (word ∷ words) options).held ≡ true
  pub named : (word : Text) (words : List Text) → all_of (codes "FILE") (rows_given (word ∷ words) options) ≡ Some (word ∷ words)
  pub gives : (word : Text) (words : List Text) → GivesAll info_app.top.rules (rows_given (word ∷ words) options)
  pub right : (word : Text) (words : List Text) → AreRightRules (rows_given (word ∷ words) options)

none_taken : AreTaken ([])
unfolding clap_on_literals
none_taken = record {
  pass = λ word words pass. ap (λ (v : Bool). v && true) pass;
  named = λ word words. refl;
  gives = λ word words. (refl, (tt, (tt, tt)));
  right = λ word words. core_right _ refl refl refl;
}

core_taken : AreTaken (codes "--profile" ∷ codes "core" ∷ [])
unfolding clap_on_literals
core_taken = record {
  pass = λ word words pass. ap (λ (v : Bool). ((v && true) && true) && true) pass;
  named = λ word words. refl;
  gives = λ word words. (refl, (tt, (tt, tt)));
  right = λ word words. core_right _ refl refl refl;
}

print_taken : AreTaken (codes "--profile" ∷ codes "print" ∷ [])
unfolding clap_on_literals
print_taken = record {
  pass = λ word words pass. ap (λ (v : Bool). ((v && true) && true) && true) pass;
  named = λ word words. refl;
  gives = λ word words. (refl, (tt, (tt, tt)));
  right = λ word words. print_right _ refl refl refl;
}

held_deletion_taken : AreTaken (codes "--profile" ∷ codes "print" ∷ codes "--allow" ∷ codes "held-deletion" ∷ [])
unfolding clap_on_literals
held_deletion_taken = record {
  pass = λ word words pass. ap (λ (v : Bool). ((v && true) && true) && true) pass;
  named = λ word words. refl;
  gives = λ word words. (refl, (tt, (tt, tt)));
  right = λ word words. print_right _ refl refl refl;
}

emf_plus_taken : AreTaken (codes "--profile" ∷ codes "print" ∷ codes "--allow" ∷ codes "emf-plus" ∷ [])
unfolding clap_on_literals
emf_plus_taken = record {
  pass = λ word words pass. ap (λ (v : Bool). ((v && true) && true) && true) pass;
  named = λ word words. refl;
  gives = λ word words. (refl, (tt, (tt, tt)));
  right = λ word words. print_right _ refl refl refl;
}

both_taken : AreTaken (codes "--profile" ∷ codes "print" ∷ codes "--allow" ∷ codes "held-deletion" ∷ codes "--allow" ∷ codes "emf-plus" ∷ [])
unfolding clap_on_literals
both_taken = record {
  pass = λ word words pass. ap (λ (v : Bool). ((v && true) && true) && true) pass;
  named = λ word words. refl;
  gives = λ word words. (refl, (tt, (tt, tt)));
  right = λ word words. print_right _ refl refl refl;
}

options_taken : All AreTaken rule_options
options_taken = all_of_list AreTaken rule_options (none_taken, (core_taken, (print_taken, (held_deletion_taken, (emf_plus_taken, (both_taken, tt))))))

-- where the walk over `info` and its words ends
pub top_walked : (words : List Text) → fold (walked top.rules top_names) (walk_from nothing_held) (codes "info" ∷ words) ≡ record (walk_from nothing_held) { stopped = Some (codes "info", words) }
unfolding clap_on_literals
top_walked words = words_stay top.rules top_names (walk_from nothing_held) (codes "info") words []

pub info_met : (program : Text) (words : List Text) → subcommand_of metaplay_app (program ∷ codes "info" ∷ words) ≡ Some (codes "info", rows_after info_shape.rules [] words)
unfolding clap_on_literals
info_met program words = ap (λ (w : Walk). entered (built metaplay_app) w.stopped) (top_walked words)

pub info_enters : (program : Text) (words : List Text) → level_passes info_shape [] nothing_held words false ≡ true → takes metaplay_app (program ∷ codes "info" ∷ words) ≡ true
unfolding clap_on_literals
info_enters program words passes =
    ap₂ (λ (pass : Bool) (w : Walk). is_simple metaplay_app && (entered_passes (built metaplay_app) w.stopped && (pass && (settle_passes top.rules top.args_override_self w.held
    && (list_all default_passes top.rules && is_valid top (finished top.rules w.held) (is_some (entered (built metaplay_app) w.stopped)))))))
    (words_pass top top_names (walk_from nothing_held) (codes "info") words []) (top_walked words)
    ∙ ap (λ (b : Bool). b && true) passes

-- clap accepts one or more names with such options
pub info_taken : (word : Text) (words options : List Text) → AreTaken options → All IsPlainWord (word ∷ words) → length (word ∷ words) ≤ usize_max
    → IsTaken (codes "info") (word ∷ (words ++ options))
unfolding clap_on_literals
info_taken word words options taken all few =
    let given = ap (finished info_shape.rules) (ended_names word words options) in
    of_usage (codes "info") info_app.top (ended_kinds (word ∷ words) options) (word ∷ (words ++ options)) (are_names (word ∷ words) options all) refl
    (λ program passes. info_enters program (word ∷ (words ++ options)) passes) (λ program. info_met program (word ∷ (words ++ options)))
    (ap₂ (λ (pass : Bool) (w : Walk). end_passes info_shape pass w.held) (passed_names words options (word ∷ [])) (walked_names words options (word ∷ []))
    ∙ taken.pass word words (names_taken word words few))
    (subst (GivesAll info_app.top.rules) (sym given) (taken.gives word words)) (subst AreRightRules (sym given) (taken.right word words))

-- the options of right words for `info`
right_options : (words : List Text) (right : AreInfoWords words) → AreTaken right.options
right_options words right =
    let found = right.right in
    subst AreTaken found.4 (subst AreTaken found.3 (options_taken found.0 found.1 found.2))

-- clap accepts right words for `info`, and the command is asked about the names
pub info_words_taken : (words : List Text) → AreInfoWords words → length words ≤ usize_max → takes metaplay_app words ≡ true
info_words_taken words right few =
    let all = right.names ++ right.options in
    let within : length (right.program ∷ codes "info" ∷ right.name ∷ all) ≤ usize_max = subst (λ (l : List Text). length l ≤ usize_max) right.are few in
    let parts : length all ≡ length right.names + length right.options = length-append right.names right.options in
    subst (λ (l : List Text). takes metaplay_app l ≡ true) (sym right.are)
    ((info_taken right.name right.names right.options (right_options words right) right.plain (omega (arith, within, parts))).taken right.program)

pub info_words_asked : (words : List Text) → AreInfoWords words → AsksRightInfo (subcommand_of metaplay_app words)
info_words_asked words right =
    let names = right.name ∷ right.names in
    let options = right.options in
    let taken = right_options words right in
    subst (λ (l : List Text). AsksRightInfo (subcommand_of metaplay_app l)) (sym right.are) (record {
      given = rows_given names options;
      is = info_met right.program (right.name ∷ (right.names ++ options))
          ∙ ap (λ (rows : List Row). Some (codes "info", rows)) (rows_kinds info_shape.rules (ended_kinds names options) (names ++ options) (are_names names options right.plain)
          ∙ ap (finished info_shape.rules) (ended_names right.name right.names options));
      right = record {
        names = record { names = names; are = taken.named right.name right.names; fact = right.once };
        rules = taken.right right.name right.names;
      };
    })
