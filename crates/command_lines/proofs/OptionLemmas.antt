-- clap accepts each of the options of `certify` between a folder and a width.
use Rattle.std.proofs.Common.{ap, ap₂, ◌≡◌, ◌&&◌, ◌++◌, refl, Bool, List, [], ◌∷◌, false, true, Some, None, codes, map}
use Rattle.std.specs.List.{All}
use Rattle.clap.specs.Simple.{Shape}
use Rattle.clap.specs.Walk.{Row, Text, Walk, all_of, finished, positional, walk_from, nothing_held}
use Rattle.clap.proofs.OnLiterals.{clap_on_literals}
use Rattle.command_lines.specs.BatchWords.{certify_options}
use Rattle.command_lines.specs.CommandLine.{GivesAll, IsSideText, certify_app}
use Rattle.command_lines.specs.RightWords.{ArgumentKind, exactly, name, side}
use Rattle.command_lines.specs.RuleWords.{AreRightRules}
use Rattle.command_lines.proofs.BatchLemmas.{names_pass}
use Rattle.command_lines.proofs.KindLemmas.{end_passes, kinds_pass, kinds_walked}
use Rattle.command_lines.proofs.SideLemmas.{side_passes}
use Rattle.command_lines.proofs.UsageLemmas.{all_of_list, built_shape, core_right, print_right, side_given}

-- the command as clap builds it
abbrev pub certify_shape : Shape
certify_shape = built_shape (codes "certify")

-- the words after the command's name up to the first name of a file, and their kinds
abbrev pub front : Text → List Text → Text → Text → Text → List Text
front folder options wide high word = codes "--out-dir" ∷ folder ∷ (options ++ wide ∷ high ∷ word ∷ [])

abbrev pub front_kinds : List Text → List ArgumentKind
front_kinds options = exactly (codes "--out-dir") ∷ name ∷ (map exactly options ++ side ∷ side ∷ name ∷ [])

-- where the walk stands after them, and the rows that it has there
abbrev pub front_walk : Text → List Text → Text → Text → Text → Walk
front_walk folder options wide high word =
    kinds_walked certify_shape.rules (front_kinds options) (walk_from nothing_held) (front folder options wide high word)

abbrev pub rows_before : Text → List Text → Text → Text → Text → List Row
rows_before folder options wide high word = (front_walk folder options wide high word).held.rows

-- where the walk stands after these names, with these rows before them
abbrev pub after_names : List Row → List Text → Walk
after_names rows names = record {
  held = record { rows = rows; pending = Some (codes "FILE", names); skip = 0 };
  waiting = positional;
  position = 3;
  is_trailing = false;
  stopped = None;
}

-- what `certify` is given
abbrev pub rows_given : Text → List Text → Text → Text → Text → List Text → List Row
rows_given folder options wide high word words =
    finished certify_shape.rules (after_names (rows_before folder options wide high word) (word ∷ words)).held

-- clap accepts these options between a folder and a width, and `certify` is given what it should be
pub record AreTaken (options : List Text) : Type 0 where
  pub walked : (folder wide high word : Text) → front_walk folder options wide high word ≡ after_names (rows_before folder options wide high word) (word ∷ [])
  pub passed : (folder wide high word : Text) → IsSideText wide → IsSideText high
      → kinds_pass certify_shape (front_kinds options) (walk_from nothing_held) (front folder options wide high word) ≡ true
  pub ended : (folder wide high word : Text) (words : List Text) → names_pass (word ∷ words) ≡ true
      → end_passes certify_shape true (after_names (rows_before folder options wide high word) (word ∷ words)).held ≡ true
  pub named : (folder wide high word : Text) (words : List Text) → all_of (codes "FILE") (rows_given folder options wide high word words) ≡ Some (word ∷ words)
  pub gives : (folder wide high word : Text) (words : List Text) → IsSideText wide → IsSideText high
      → GivesAll certify_app.top.rules (rows_given folder options wide high word words)
  pub right : (folder wide high word : Text) (words : List Text) → AreRightRules (rows_given folder options wide high word words)

none_taken : AreTaken ([])
unfolding clap_on_literals
none_taken = record {
  walked = λ folder wide high word. refl;
  passed = λ folder wide high word w h. ap₂ (λ (a b : Bool). (a && true) && ((b && true) && true)) (side_passes wide w) (side_passes high h);
  ended = λ folder wide high word words pass. ap (λ (b : Bool). b && true) pass;
  named = λ folder wide high word words. refl;
  gives = λ folder wide high word words w h. (side_given _ (codes "W") wide refl w, (side_given _ (codes "H") high refl h, (refl, (refl, (tt, (tt, (tt, tt)))))));
  right = λ folder wide high word words. core_right _ refl refl refl;
}

core_taken : AreTaken (codes "--profile" ∷ codes "core" ∷ [])
unfolding clap_on_literals
core_taken = record {
  walked = λ folder wide high word. refl;
  passed = λ folder wide high word w h. ap₂ (λ (a b : Bool). (a && true) && ((b && true) && true)) (side_passes wide w) (side_passes high h);
  ended = λ folder wide high word words pass. ap (λ (b : Bool). b && true) pass;
  named = λ folder wide high word words. refl;
  gives = λ folder wide high word words w h. (side_given _ (codes "W") wide refl w, (side_given _ (codes "H") high refl h, (refl, (refl, (tt, (tt, (tt, tt)))))));
  right = λ folder wide high word words. core_right _ refl refl refl;
}

print_taken : AreTaken (codes "--profile" ∷ codes "print" ∷ [])
unfolding clap_on_literals
print_taken = record {
  walked = λ folder wide high word. refl;
  passed = λ folder wide high word w h. ap₂ (λ (a b : Bool). (a && true) && ((b && true) && true)) (side_passes wide w) (side_passes high h);
  ended = λ folder wide high word words pass. ap (λ (b : Bool). b && true) pass;
  named = λ folder wide high word words. refl;
  gives = λ folder wide high word words w h. (side_given _ (codes "W") wide refl w, (side_given _ (codes "H") high refl h, (refl, (refl, (tt, (tt, (tt, tt)))))));
  right = λ folder wide high word words. print_right _ refl refl refl;
}

held_deletion_taken : AreTaken (codes "--profile" ∷ codes "print" ∷ codes "--allow" ∷ codes "held-deletion" ∷ [])
unfolding clap_on_literals
held_deletion_taken = record {
  walked = λ folder wide high word. refl;
  passed = λ folder wide high word w h. ap₂ (λ (a b : Bool). (a && true) && ((b && true) && true)) (side_passes wide w) (side_passes high h);
  ended = λ folder wide high word words pass. ap (λ (b : Bool). b && true) pass;
  named = λ folder wide high word words. refl;
  gives = λ folder wide high word words w h. (side_given _ (codes "W") wide refl w, (side_given _ (codes "H") high refl h, (refl, (refl, (tt, (tt, (tt, tt)))))));
  right = λ folder wide high word words. print_right _ refl refl refl;
}

emf_plus_taken : AreTaken (codes "--profile" ∷ codes "print" ∷ codes "--allow" ∷ codes "emf-plus" ∷ [])
unfolding clap_on_literals
emf_plus_taken = record {
  walked = λ folder wide high word. refl;
  passed = λ folder wide high word w h. ap₂ (λ (a b : Bool). (a && true) && ((b && true) && true)) (side_passes wide w) (side_passes high h);
  ended = λ folder wide high word words pass. ap (λ (b : Bool). b && true) pass;
  named = λ folder wide high word words. refl;
  gives = λ folder wide high word words w h. (side_given _ (codes "W") wide refl w, (side_given _ (codes "H") high refl h, (refl, (refl, (tt, (tt, (tt, tt)))))));
  right = λ folder wide high word words. print_right _ refl refl refl;
}

both_taken : AreTaken (codes "--profile" ∷ codes "print" ∷ codes "--allow" ∷ codes "held-deletion" ∷ codes "--allow" ∷ codes "emf-plus" ∷ [])
unfolding clap_on_literals
both_taken = record {
  walked = λ folder wide high word. refl;
  passed = λ folder wide high word w h. ap₂ (λ (a b : Bool). (a && true) && ((b && true) && true)) (side_passes wide w) (side_passes high h);
  ended = λ folder wide high word words pass. ap (λ (b : Bool). b && true) pass;
  named = λ folder wide high word words. refl;
  gives = λ folder wide high word words w h. (side_given _ (codes "W") wide refl w, (side_given _ (codes "H") high refl h, (refl, (refl, (tt, (tt, (tt, tt)))))));
  right = λ folder wide high word words. print_right _ refl refl refl;
}

replace_none_taken : AreTaken (codes "--replace" ∷ [])
unfolding clap_on_literals
replace_none_taken = record {
  walked = λ folder wide high word. refl;
  passed = λ folder wide high word w h. ap₂ (λ (a b : Bool). (a && true) && ((b && true) && true)) (side_passes wide w) (side_passes high h);
  ended = λ folder wide high word words pass. ap (λ (b : Bool). b && true) pass;
  named = λ folder wide high word words. refl;
  gives = λ folder wide high word words w h. (side_given _ (codes "W") wide refl w, (side_given _ (codes "H") high refl h, (refl, (refl, (tt, (tt, (tt, tt)))))));
  right = λ folder wide high word words. core_right _ refl refl refl;
}

replace_core_taken : AreTaken (codes "--replace" ∷ codes "--profile" ∷ codes "core" ∷ [])
unfolding clap_on_literals
replace_core_taken = record {
  walked = λ folder wide high word. refl;
  passed = λ folder wide high word w h. ap₂ (λ (a b : Bool). (a && true) && ((b && true) && true)) (side_passes wide w) (side_passes high h);
  ended = λ folder wide high word words pass. ap (λ (b : Bool). b && true) pass;
  named = λ folder wide high word words. refl;
  gives = λ folder wide high word words w h. (side_given _ (codes "W") wide refl w, (side_given _ (codes "H") high refl h, (refl, (refl, (tt, (tt, (tt, tt)))))));
  right = λ folder wide high word words. core_right _ refl refl refl;
}

replace_print_taken : AreTaken (codes "--replace" ∷ codes "--profile" ∷ codes "print" ∷ [])
unfolding clap_on_literals
replace_print_taken = record {
  walked = λ folder wide high word. refl;
  passed = λ folder wide high word w h. ap₂ (λ (a b : Bool). (a && true) && ((b && true) && true)) (side_passes wide w) (side_passes high h);
  ended = λ folder wide high word words pass. ap (λ (b : Bool). b && true) pass;
  named = λ folder wide high word words. refl;
  gives = λ folder wide high word words w h. (side_given _ (codes "W") wide refl w, (side_given _ (codes "H") high refl h, (refl, (refl, (tt, (tt, (tt, tt)))))));
  right = λ folder wide high word words. print_right _ refl refl refl;
}

replace_held_deletion_taken : AreTaken (codes "--replace" ∷ codes "--profile" ∷ codes "print" ∷ codes "--allow" ∷ codes "held-deletion" ∷ [])
unfolding clap_on_literals
replace_held_deletion_taken = record {
  walked = λ folder wide high word. refl;
  passed = λ folder wide high word w h. ap₂ (λ (a b : Bool). (a && true) && ((b && true) && true)) (side_passes wide w) (side_passes high h);
  ended = λ folder wide high word words pass. ap (λ (b : Bool). b && true) pass;
  named = λ folder wide high word words. refl;
  gives = λ folder wide high word words w h. (side_given _ (codes "W") wide refl w, (side_given _ (codes "H") high refl h, (refl, (refl, (tt, (tt, (tt, tt)))))));
  right = λ folder wide high word words. print_right _ refl refl refl;
}

replace_emf_plus_taken : AreTaken (codes "--replace" ∷ codes "--profile" ∷ codes "print" ∷ codes "--allow" ∷ codes "emf-plus" ∷ [])
unfolding clap_on_literals
replace_emf_plus_taken = record {
  walked = λ folder wide high word. refl;
  passed = λ folder wide high word w h. ap₂ (λ (a b : Bool). (a && true) && ((b && true) && true)) (side_passes wide w) (side_passes high h);
  ended = λ folder wide high word words pass. ap (λ (b : Bool). b && true) pass;
  named = λ folder wide high word words. refl;
  gives = λ folder wide high word words w h. (side_given _ (codes "W") wide refl w, (side_given _ (codes "H") high refl h, (refl, (refl, (tt, (tt, (tt, tt)))))));
  right = λ folder wide high word words. print_right _ refl refl refl;
}

replace_both_taken : AreTaken (codes "--replace" ∷ codes "--profile" ∷ codes "print" ∷ codes "--allow" ∷ codes "held-deletion" ∷ codes "--allow" ∷ codes "emf-plus" ∷ [])
unfolding clap_on_literals
replace_both_taken = record {
  walked = λ folder wide high word. refl;
  passed = λ folder wide high word w h. ap₂ (λ (a b : Bool). (a && true) && ((b && true) && true)) (side_passes wide w) (side_passes high h);
  ended = λ folder wide high word words pass. ap (λ (b : Bool). b && true) pass;
  named = λ folder wide high word words. refl;
  gives = λ folder wide high word words w h. (side_given _ (codes "W") wide refl w, (side_given _ (codes "H") high refl h, (refl, (refl, (tt, (tt, (tt, tt)))))));
  right = λ folder wide high word words. print_right _ refl refl refl;
}

pub options_taken : All AreTaken certify_options
options_taken = all_of_list AreTaken certify_options (none_taken, (core_taken, (print_taken, (held_deletion_taken, (emf_plus_taken, (both_taken, (replace_none_taken, (replace_core_taken, (replace_print_taken, (replace_held_deletion_taken, (replace_emf_plus_taken, (replace_both_taken, tt))))))))))))
