-- clap finds a fault with wrong words.
use Rattle.std.proofs.Common.{◌≡◌, ◌∙◌, ◌++◌, ap, inl, inr, refl, subst, sym, Bool, List, [], ◌∷◌, false, true, Option, Some, None, codes, fold}
use Rattle.std.specs.List.{All, list_all}
use Rattle.std.proofs.lemmas.List.Elements.{All-head, All-tail}
use Rattle.clap.specs.Faults.{entered_fault, fault_of, flag_word_fault, level_fault, step_fault, turn_fault, walk_fault, word_fault}
use Rattle.clap.specs.Kinds.{Kinds, or_else}
use Rattle.clap.specs.Lexer.{long_of}
use Rattle.clap.specs.Simple.{Shape, built}
use Rattle.clap.specs.Walk.{Held, Text, Waiting, Walk, arg_by_long, nothing_held, walk_from, walked, word_met}
use Rattle.clap.specs.declared.error.kind.ErrorKind.TheVariants as kind
use Rattle.clap.proofs.OnLiterals.{clap_on_literals}
use Rattle.command_lines.specs.CommandLine.{metaplay_app}
use Rattle.command_lines.specs.WrongWords.{GiveRulesBesideCertificate, IsNoEnd, IsOption, IsRuleOption, certified_commands}
use Rattle.command_lines.proofs.BatchLemmas.{top, top_names, words_stay}
use Rattle.command_lines.proofs.KindLemmas.{no_command}
use Rattle.command_lines.proofs.OpenLemmas.{IsOpen, is_open_rule, not_end, walked_open}
use Rattle.command_lines.proofs.UsageLemmas.{all_of_list, built_shape}

-- faults of one step, then of the next
pub no_first : (a b : Kinds) → or_else a b ≡ [] → a ≡ []
no_first [] b none = refl
no_first (k ∷ ks) b none = cc

pub no_second : (a b : Kinds) → or_else a b ≡ [] → b ≡ []
no_second [] b none = none
no_second (k ∷ ks) b none = cc

-- an option isn't the word `--`
pub option_no_end : (name word : Text) → IsOption name word → IsNoEnd word
option_no_end name word is end =
    let bad : IsOption name (codes "--") = subst (IsOption name) end is in cc

-- an option that a command doesn't have
unknown_word : (s : Shape) (waiting : Waiting) (name word : Text) (h : Held) → arg_by_long s.rules name ≡ None → IsOption name word
    → word_fault s [] false waiting word h ≡ kind.UnknownArgument ∷ []
unknown_word s waiting name word h none is =
    rw (no_command waiting word) (rw (not_end word (option_no_end name word is)) (go (long_of word) refl))
  where
    go : (long : Option (Text × Option Text)) → long_of word ≡ long → flag_word_fault s.rules s.args_override_self long word h ≡ kind.UnknownArgument ∷ []
    go None long = let bad : None ≡ Some name = rw long at is in cc
    go (Some p) long =
        let named : Some p.0 ≡ Some name = rw long at is in
        let same : p.0 ≡ name = cc in
        let lacks : arg_by_long s.rules p.0 ≡ None = rw same none in
        rw lacks refl

-- such a word is a fault
unknown_turn : (s : Shape) (w : Walk) (name word : Text) → IsOpen w → arg_by_long s.rules name ≡ None → IsOption name word → turn_fault s [] w word ≡ [] → ⊥
unknown_turn s w name word stands none is faultless =
    let met = word_met s.rules [] w.is_trailing w.waiting w.position word w.held in
    let going : or_else (word_fault s [] w.is_trailing w.waiting word w.held) (step_fault s w.position met.0 met.1) ≡ [] = rw stands.1 at faultless in
    let here = no_first (word_fault s [] w.is_trailing w.waiting word w.held) (step_fault s w.position met.0 met.1) going in
    let bad : kind.UnknownArgument ∷ [] ≡ [] =
    sym (subst (λ (t : Bool). word_fault s [] t w.waiting word w.held ≡ kind.UnknownArgument ∷ []) (sym stands.0) (unknown_word s w.waiting name word w.held none is)) ∙ here in cc

-- and so are the words that have it before any `--`
unknown_walk : (s : Shape) (w : Walk) (before : List Text) (name word : Text) (after : List Text) → list_all is_open_rule s.rules ≡ true → IsOpen w → All IsNoEnd before
    → arg_by_long s.rules name ≡ None → IsOption name word → walk_fault s [] w (before ++ word ∷ after) ≡ [] → ⊥
unfolding walk_fault
unknown_walk s w [] name word after all stands others none is faultless =
    unknown_turn s w name word stands none is (no_first (turn_fault s [] w word) (walk_fault s [] (walked s.rules [] w word) after) faultless)
unknown_walk s w (first ∷ before) name word after all stands others none is faultless =
    unknown_walk s (walked s.rules [] w first) before name word after all (walked_open s.rules w first all stands (All-head IsNoEnd first before others))
    (All-tail IsNoEnd first before others) none is (no_second (turn_fault s [] w first) (walk_fault s [] (walked s.rules [] w first) (before ++ word ∷ after)) faultless)

-- the faults of a command's own words
abbrev pub own_fault : Text → List Text → Kinds
own_fault command words = level_fault (built_shape command) [] nothing_held words false []

-- a command's own words have no fault if the whole command line has none
abbrev pub FaultsAreOwn : Text → Type 0
FaultsAreOwn command = (program : Text) (words : List Text) → fault_of metaplay_app (program ∷ command ∷ words) ≡ [] → own_fault command words ≡ []

pub own : (command : Text) (words : List Text) → fold (walked top.rules top_names) (walk_from nothing_held) (command ∷ words) ≡ record (walk_from nothing_held) { stopped = Some (command, words) }
    → entered_fault (built metaplay_app) (Some (command, words)) ≡ own_fault command words → (program : Text) → fault_of metaplay_app (program ∷ command ∷ words) ≡ []
    → own_fault command words ≡ []
own command words stops is program faultless =
    let stop = (fold (walked top.rules top_names) (walk_from nothing_held) (command ∷ words)).stopped in
    let met : stop ≡ Some (command, words) = ap (λ (w : Walk). w.stopped) stops in
    let below : entered_fault (built metaplay_app) stop ≡ [] = no_first _ _ (no_second _ _ faultless) in
    sym is ∙ (ap (entered_fault (built metaplay_app)) (sym met) ∙ below)

check_own : FaultsAreOwn (codes "check")
unfolding clap_on_literals
check_own program words = own (codes "check") words (words_stay top.rules top_names (walk_from nothing_held) (codes "check") words []) refl program

play_own : FaultsAreOwn (codes "play")
unfolding clap_on_literals
play_own program words = own (codes "play") words (words_stay top.rules top_names (walk_from nothing_held) (codes "play") words []) refl program

over_own : FaultsAreOwn (codes "over")
unfolding clap_on_literals
over_own program words = own (codes "over") words (words_stay top.rules top_names (walk_from nothing_held) (codes "over") words []) refl program

-- a command has no option for the rules, and none of its arguments takes all words after it
record LacksRules (command : Text) : Type 0 where
  pub faults : FaultsAreOwn command
  pub takes_one : list_all is_open_rule (built_shape command).rules ≡ true
  pub no_profile : arg_by_long (built_shape command).rules (codes "profile") ≡ None
  pub no_allow : arg_by_long (built_shape command).rules (codes "allow") ≡ None

certified_lack : All LacksRules certified_commands
certified_lack = all_of_list LacksRules certified_commands (
  record { faults = check_own; takes_one = refl; no_profile = refl; no_allow = refl },
  (
    record { faults = play_own; takes_one = refl; no_profile = refl; no_allow = refl },
    (record { faults = over_own; takes_one = refl; no_profile = refl; no_allow = refl }, tt),
  ),
)

lacking : (command : Text) (before : List Text) (option : Text) (after : List Text) → LacksRules command → All IsNoEnd before → IsRuleOption option
    → own_fault command (before ++ option ∷ after) ≡ [] → ⊥
lacking command before option after lacks others (inl is) faultless =
    unknown_walk (built_shape command) (walk_from nothing_held) before (codes "profile") option after lacks.takes_one (refl, refl) others lacks.no_profile is (no_first _ _ faultless)
lacking command before option after lacks others (inr is) faultless =
    unknown_walk (built_shape command) (walk_from nothing_held) before (codes "allow") option after lacks.takes_one (refl, refl) others lacks.no_allow is (no_first _ _ faultless)

pub beside_certificate : (words : List Text) → GiveRulesBesideCertificate words → fault_of metaplay_app words ≡ [] → ⊥
beside_certificate words wrong faultless =
    let found = wrong.certified in
    let lacks : LacksRules wrong.command = subst LacksRules found.4 (subst LacksRules found.3 (certified_lack found.0 found.1 found.2)) in
    let here : fault_of metaplay_app (wrong.program ∷ wrong.command ∷ (wrong.before ++ wrong.option ∷ wrong.after)) ≡ [] =
    subst (λ (l : List Text). fault_of metaplay_app l ≡ []) wrong.are faultless in
    lacking wrong.command wrong.before wrong.option wrong.after lacks wrong.no_end wrong.is_option (lacks.faults wrong.program _ here)
