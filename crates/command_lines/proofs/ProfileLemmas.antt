-- Words with two profiles have a fault, and so have all wrong words.
use Rattle.std.proofs.Common.{◌≡◌, ◌∙◌, ◌++◌, ap, inl, inr, refl, subst, sym, ℕ, Bool, List, [], ◌∷◌, false, true, Option, Some, None, codes, fold}
use Rattle.std.specs.List.{All}
use Rattle.std.proofs.lemmas.List.Sums.{fold-append}
use Rattle.clap.specs.Faults.{fault_of, option_fault, settle_fault, step_fault, turn_fault, walk_fault, word_fault}
use Rattle.clap.specs.Kinds.{or_else}
use Rattle.clap.specs.Lexer.{long_of}
use Rattle.clap.specs.Simple.{Shape}
use Rattle.clap.specs.Walk.{Held, Rule, Step, Text, Waiting, Walk, after_flag, after_step, idle, next, nothing_held, option, option_met, reacted, settled, walk_from, walked, walked_from, word_met}
use Rattle.clap.proofs.OnLiterals.{clap_on_literals}
use Rattle.command_lines.specs.CommandLine.{metaplay_app}
use Rattle.command_lines.specs.WrongWords.{AreWrongWords, GiveProfileTwice, IsNoEnd, IsOption, ruled_commands}
use Rattle.command_lines.proofs.ConflictLemmas.{HasProfile, built_profile, profile_id, settle_twice, use_twice}
use Rattle.command_lines.proofs.BatchLemmas.{top, top_names, words_stay}
use Rattle.command_lines.proofs.KindLemmas.{no_command}
use Rattle.command_lines.proofs.OpenLemmas.{IsOpen, fold_open, not_end, walked_open}
use Rattle.command_lines.proofs.RowLemmas.{fold_holds, holds_row, settled_holds, used_holds, waits_holds}
use Rattle.command_lines.proofs.TwiceLemmas.{GoesTwice, fold_twice}
use Rattle.command_lines.proofs.UsageLemmas.{all_of_list, built_shape}
use Rattle.command_lines.proofs.WrongLemmas.{FaultsAreOwn, beside_certificate, no_first, no_second, option_no_end, own, own_fault}

-- the value of an option, if it is in the same word
record LongIs (name word : Text) : Type 0 where
  pub given : Option Text
  pub is : long_of word ≡ Some (name, given)

long_is : (name word : Text) → IsOption name word → LongIs name word
long_is name word is = go (long_of word) refl
  where
    go : (long : Option (Text × Option Text)) → long_of word ≡ long → LongIs name word
    go None long = let bad : None ≡ Some name = rw long at is in cc
    go (Some p) long =
        let named : Some p.0 ≡ Some name = rw long at is in
        let same : p.0 ≡ name = cc in
        record { given = p.1; is = long ∙ ap (λ (t : Text). Some (t, p.1)) same }

-- what the profile does, with its value in the same word or without
abbrev profile_met : List Rule → Option Text → Held → Held × Step
profile_met c (Some text) h = (reacted c built_profile (text ∷ []) h, next idle)
profile_met c None h = (record (settled c h) { pending = Some (profile_id, []) }, next (option profile_id))

module _ (s : Shape) (has : HasProfile s) where
  met_profile : (waiting : Waiting) (position : ℕ) (word : Text) (h : Held) (is : IsOption (codes "profile") word)
      → word_met s.rules [] false waiting position word h ≡ profile_met s.rules (long_is (codes "profile") word is).given h
  met_profile waiting position word h is =
      let long = long_is (codes "profile") word is in
      rw (no_command waiting word) (rw (not_end word (option_no_end (codes "profile") word is)) (rw long.is (rw has.by_long (go long.given))))
    where
      go : (given : Option Text) → after_flag s.rules waiting word (option_met s.rules built_profile given h).0 (option_met s.rules built_profile given h).1 ≡ profile_met s.rules given h
      go None = refl
      go (Some text) = refl

  fault_profile : (waiting : Waiting) (word : Text) (h : Held) (is : IsOption (codes "profile") word)
      → word_fault s [] false waiting word h ≡ option_fault s.rules s.args_override_self built_profile (long_is (codes "profile") word is).given h
  fault_profile waiting word h is =
      let long = long_is (codes "profile") word is in
      rw (no_command waiting word) (rw (not_end word (option_no_end (codes "profile") word is)) (rw long.is (rw has.by_long refl)))

  walked_profile : (w : Walk) (word : Text) (is : IsOption (codes "profile") word) → IsOpen w
      → walked s.rules [] w word ≡ after_step s.rules word w (profile_met s.rules (long_is (codes "profile") word is).given w.held).0 (profile_met s.rules (long_is (codes "profile") word is).given w.held).1
  unfolding walked
  walked_profile w word is stands =
      ap (λ (stop : Option (Text × List Text)). walked_from s.rules [] stop w word) stands.1
      ∙ (ap (λ (t : Bool). after_step s.rules word w (word_met s.rules [] t w.waiting w.position word w.held).0 (word_met s.rules [] t w.waiting w.position word w.held).1) stands.0
      ∙ ap (λ (m : Held × Step). after_step s.rules word w m.0 m.1) (met_profile w.waiting w.position word w.held is))

  -- after a profile it has a row, or will have one
  first_holds : (word : Text) (w : Walk) (given : Option Text) (h : Held)
      → holds_row s.rules profile_id (after_step s.rules word w (profile_met s.rules given h).0 (profile_met s.rules given h).1).held ≡ true
  first_holds word w (Some text) h = used_holds s.rules profile_id built_profile (text ∷ []) h refl
  first_holds word w None h = waits_holds s.rules profile_id profile_id built_profile [] h has.by_id refl

  -- after one more, it is being read once more, if that is no fault
  second_goes : (word : Text) (w : Walk) (given : Option Text) → w.stopped ≡ None → holds_row s.rules profile_id w.held ≡ true
      → option_fault s.rules s.args_override_self built_profile given w.held ≡ []
      → GoesTwice s has (after_step s.rules word w (profile_met s.rules given w.held).0 (profile_met s.rules given w.held).1)
  second_goes word w (Some text) goes holds none =
      absurd (use_twice s has (text ∷ []) (settled s.rules w.held) (settled_holds s.rules profile_id w.held holds) (no_second _ _ none))
  second_goes word w None goes holds none =
      (record { row = settled_holds s.rules profile_id w.held holds; values = []; pending = refl }, goes)

  walk_after : (w : Walk) (words others : List Text) → walk_fault s [] w (words ++ others) ≡ [] → walk_fault s [] (fold (walked s.rules []) w words) others ≡ []
  unfolding walk_fault
  walk_after w [] others none = none
  walk_after w (word ∷ words) others none = walk_after (walked s.rules [] w word) words others (no_second _ _ none)

  walk_first : (w : Walk) (word : Text) (words : List Text) → walk_fault s [] w (word ∷ words) ≡ [] → (turn_fault s [] w word ≡ []) × (walk_fault s [] (walked s.rules [] w word) words ≡ [])
  unfolding walk_fault
  walk_first w word words none = (no_first _ _ none, no_second _ _ none)

  -- a profile where options may follow, after another
  second_walked : (w : Walk) (word : Text) (is : IsOption (codes "profile") word) → IsOpen w → holds_row s.rules profile_id w.held ≡ true → turn_fault s [] w word ≡ []
      → GoesTwice s has (walked s.rules [] w word)
  second_walked w word is stands holds none =
      let met = word_met s.rules [] w.is_trailing w.waiting w.position word w.held in
      let both : or_else (word_fault s [] w.is_trailing w.waiting word w.held) (step_fault s w.position met.0 met.1) ≡ [] = rw stands.1 at none in
      let here : word_fault s [] w.is_trailing w.waiting word w.held ≡ [] = no_first _ _ both in
      let same : word_fault s [] false w.waiting word w.held ≡ [] = subst (λ (t : Bool). word_fault s [] t w.waiting word w.held ≡ []) stands.0 here in
      subst (GoesTwice s has) (sym (walked_profile w word is stands))
      (second_goes word w (long_is (codes "profile") word is).given stands.1 holds (sym (fault_profile w.waiting word w.held is) ∙ same))

  -- so words with two profiles have a fault
  pub two_profiles : (before : List Text) (first : Text) (between : List Text) (second : Text) (after : List Text) → All IsNoEnd before → All IsNoEnd between
      → IsOption (codes "profile") first → IsOption (codes "profile") second → walk_fault s [] (walk_from nothing_held) (before ++ first ∷ (between ++ second ∷ after)) ≡ []
      → settle_fault s.rules s.args_override_self (fold (walked s.rules []) (walk_from nothing_held) (before ++ first ∷ (between ++ second ∷ after))).held ≡ [] → ⊥
  two_profiles before first between second after no_end no_end_between is_first is_second none settles =
      let step = walked s.rules [] in
      let start = walk_from nothing_held in
      let rest = between ++ second ∷ after in
      let one = fold step start before in
      let stands : IsOpen one = fold_open s.rules start before has.takes_one (refl, refl) no_end in
      let none_one = walk_first one first rest (walk_after start before (first ∷ rest) none) in
      let two = step one first in
      let stands_two : IsOpen two = walked_open s.rules one first has.takes_one stands (option_no_end (codes "profile") first is_first) in
      let holds_two : holds_row s.rules profile_id two.held ≡ true =
      subst (λ (w : Walk). holds_row s.rules profile_id w.held ≡ true) (sym (walked_profile one first is_first stands)) (first_holds first one (long_is (codes "profile") first is_first).given one.held) in
      let three = fold step two between in
      let stands_three : IsOpen three = fold_open s.rules two between has.takes_one stands_two no_end_between in
      let none_three = walk_first three second after (walk_after two between (second ∷ after) none_one.1) in
      let goes : GoesTwice s has (step three second) = second_walked three second is_second stands_three (fold_holds s.rules profile_id two between holds_two) none_three.0 in
      let end : GoesTwice s has (fold step (step three second) after) = fold_twice s has (step three second) after goes none_three.1 in
      let same : fold step start (before ++ first ∷ rest) ≡ fold step (step three second) after = fold-append step start before (first ∷ rest) ∙ fold-append step two between (second ∷ after) in
      settle_twice s has _ end.0 (subst (λ (w : Walk). settle_fault s.rules s.args_override_self w.held ≡ []) same settles)

show_own : FaultsAreOwn (codes "show")
unfolding clap_on_literals
show_own program words = own (codes "show") words (words_stay top.rules top_names (walk_from nothing_held) (codes "show") words []) refl program

prepare_own : FaultsAreOwn (codes "prepare")
unfolding clap_on_literals
prepare_own program words = own (codes "prepare") words (words_stay top.rules top_names (walk_from nothing_held) (codes "prepare") words []) refl program

list_own : FaultsAreOwn (codes "list")
unfolding clap_on_literals
list_own program words = own (codes "list") words (words_stay top.rules top_names (walk_from nothing_held) (codes "list") words []) refl program

info_own : FaultsAreOwn (codes "info")
unfolding clap_on_literals
info_own program words = own (codes "info") words (words_stay top.rules top_names (walk_from nothing_held) (codes "info") words []) refl program

certify_own : FaultsAreOwn (codes "certify")
unfolding clap_on_literals
certify_own program words = own (codes "certify") words (words_stay top.rules top_names (walk_from nothing_held) (codes "certify") words []) refl program

-- a command that is given its rules has a profile
record IsRuled (command : Text) : Type 0 where
  pub faults : FaultsAreOwn command
  pub profile : HasProfile (built_shape command)

ruled : All IsRuled ruled_commands
ruled = all_of_list IsRuled ruled_commands (
  record { faults = show_own; profile = record { by_long = refl; by_id = refl; again = refl; takes_one = refl; others = refl } },
  (
    record { faults = prepare_own; profile = record { by_long = refl; by_id = refl; again = refl; takes_one = refl; others = refl } },
    (
      record { faults = list_own; profile = record { by_long = refl; by_id = refl; again = refl; takes_one = refl; others = refl } },
      (
        record { faults = info_own; profile = record { by_long = refl; by_id = refl; again = refl; takes_one = refl; others = refl } },
        (record { faults = certify_own; profile = record { by_long = refl; by_id = refl; again = refl; takes_one = refl; others = refl } }, tt),
      ),
    ),
  ),
)

profile_twice : (words : List Text) → GiveProfileTwice words → fault_of metaplay_app words ≡ [] → ⊥
profile_twice words wrong faultless =
    let found = wrong.ruled in
    let is : IsRuled wrong.command = subst IsRuled found.4 (subst IsRuled found.3 (ruled found.0 found.1 found.2)) in
    let arguments = wrong.before ++ wrong.first ∷ (wrong.between ++ wrong.second ∷ wrong.after) in
    let here : fault_of metaplay_app (wrong.program ∷ wrong.command ∷ arguments) ≡ [] = subst (λ (l : List Text). fault_of metaplay_app l ≡ []) wrong.are faultless in
    let none : own_fault wrong.command arguments ≡ [] = is.faults wrong.program arguments here in
    two_profiles (built_shape wrong.command) is.profile wrong.before wrong.first wrong.between wrong.second wrong.after wrong.no_end.0 wrong.no_end.1 wrong.are_profiles.0 wrong.are_profiles.1
    (no_first _ _ none) (no_first _ _ (no_second _ _ none))

-- words without a fault aren't wrong
pub none_wrong : (words : List Text) → fault_of metaplay_app words ≡ [] → AreWrongWords words → ⊥
none_wrong words faultless (inl wrong) = beside_certificate words wrong faultless
none_wrong words faultless (inr wrong) = profile_twice words wrong faultless
