-- What clap's parsing does with words of known kinds.
use Rattle.std.proofs.Common.{◌≡◌, ◌∙◌, ◌&&◌, ◌||◌, ◌++◌, ap, ap₂, refl, ℕ, Bool, List, [], ◌∷◌, false, true, Option, Some, None, codes, fold, is_some}
use Rattle.std.proofs.lemmas.Bool.{ne_eqb}
use Rattle.std.specs.List.{list_all}
use Rattle.clap.specs.Lexer.{short_of}
use Rattle.clap.specs.Simple.{Shape}
use Rattle.clap.specs.Takes.{default_passes, is_valid, level_passes, settle_passes, step_passes, turn_passes, walk_passes, word_passes}
use Rattle.clap.specs.Walk.{Held, Rule, Step, Text, Waiting, Walk, after_step, finished, idle, nothing_held, option, plain_word, positional, rows_after, subcommand_met, value, walk_from, walked, walked_from, word_met}
use Rattle.command_lines.specs.CommandLine.{IsPlainWord}
use Rattle.command_lines.specs.RightWords.{AreOfKinds, ArgumentKind, IsOfKind, bands, exactly, fit, name, side}
use Rattle.command_lines.proofs.SideLemmas.{plain_side}

pub no_flags : (byte : ℕ) (rest : Text) → (byte ≡ 45 → ⊥) → short_of (byte ∷ rest) ≡ None
no_flags byte rest plain = rw (ne_eqb byte 45 plain) refl

-- a plain word, before it is assigned to a positional argument
abbrev plain_met : List Rule → Bool → Waiting → Text → Held → Held × Step
plain_met c true waiting word h = (h, value)
plain_met c false waiting word h = plain_word c waiting word h

pub no_command : (waiting : Waiting) (word : Text) → subcommand_met [] waiting word ≡ None
no_command idle word = refl
no_command (option id) word = refl
no_command positional word = refl

met_plain : (c : List Rule) (is_trailing : Bool) (waiting : Waiting) (position : ℕ) (word : Text) (h : Held) → IsPlainWord word
    → word_met c [] is_trailing waiting position word h ≡ plain_met c is_trailing waiting word h
met_plain c true waiting position word h plain = refl
met_plain c false waiting position [] h plain = rw (no_command waiting []) refl
met_plain c false waiting position (byte ∷ rest) h plain =
    rw (no_command waiting (byte ∷ rest)) (rw (ne_eqb byte 45 plain) (rw (no_flags byte rest plain) refl))

word_plain : (s : Shape) (is_trailing : Bool) (waiting : Waiting) (word : Text) (h : Held) → IsPlainWord word → word_passes s [] is_trailing waiting word h ≡ true
word_plain s true waiting word h plain = refl
word_plain s false waiting [] h plain = rw (no_command waiting []) refl
word_plain s false waiting (byte ∷ rest) h plain =
    rw (no_command waiting (byte ∷ rest)) (rw (ne_eqb byte 45 plain) (rw (no_flags byte rest plain) refl))

-- the parser's state after one more plain word
abbrev plain_from : List Rule → Option (Text × List Text) → Walk → Text → Walk
plain_from c (Some p) w word = record w { stopped = Some (p.0, p.1 ++ word ∷ []) }
plain_from c None w word =
    let met = plain_met c w.is_trailing w.waiting word w.held in
    after_step c word w met.0 met.1

walked_plain : (c : List Rule) (w : Walk) (word : Text) → IsPlainWord word → walked c [] w word ≡ plain_from c w.stopped w word
unfolding walked
walked_plain c w word plain = go w.stopped
  where
    go : (stop : Option (Text × List Text)) → walked_from c [] stop w word ≡ plain_from c stop w word
    go (Some p) = refl
    go None = ap (λ (m : Held × Step). after_step c word w m.0 m.1) (met_plain c w.is_trailing w.waiting w.position word w.held plain)

-- whether the parser accepts it
abbrev plain_passes : Shape → Walk → Text → Bool
plain_passes s w word =
    let met = plain_met s.rules w.is_trailing w.waiting word w.held in
    is_some w.stopped || step_passes s w.position met.0 met.1

turn_plain : (s : Shape) (w : Walk) (word : Text) → IsPlainWord word → turn_passes s [] w word ≡ plain_passes s w word
turn_plain s w word plain =
    ap₂ (λ (passes : Bool) (m : Held × Step). is_some w.stopped || (passes && step_passes s w.position m.0 m.1)) (word_plain s w.is_trailing w.waiting word w.held plain)
    (met_plain s.rules w.is_trailing w.waiting w.position word w.held plain)

-- one more word of some kind
abbrev kind_walked : List Rule → ArgumentKind → Walk → Text → Walk
kind_walked c name w word = plain_from c w.stopped w word
kind_walked c side w word = plain_from c w.stopped w word
kind_walked c bands w word = walked c [] w (codes "--bands")
kind_walked c fit w word = walked c [] w (codes "--fit")
kind_walked c (exactly text) w word = walked c [] w text

abbrev kind_passes : Shape → ArgumentKind → Walk → Text → Bool
kind_passes s name w word = plain_passes s w word
kind_passes s side w word = plain_passes s w word
kind_passes s bands w word = turn_passes s [] w (codes "--bands")
kind_passes s fit w word = turn_passes s [] w (codes "--fit")
kind_passes s (exactly text) w word = turn_passes s [] w text

walked_kind : (c : List Rule) (kind : ArgumentKind) (w : Walk) (word : Text) → IsOfKind kind word → walked c [] w word ≡ kind_walked c kind w word
walked_kind c name w word is = walked_plain c w word is
walked_kind c side w word is = walked_plain c w word (plain_side word is)
walked_kind c bands w word is = ap (walked c [] w) is
walked_kind c fit w word is = ap (walked c [] w) is
walked_kind c (exactly text) w word is = ap (walked c [] w) is

turn_kind : (s : Shape) (kind : ArgumentKind) (w : Walk) (word : Text) → IsOfKind kind word → turn_passes s [] w word ≡ kind_passes s kind w word
turn_kind s name w word is = turn_plain s w word is
turn_kind s side w word is = turn_plain s w word (plain_side word is)
turn_kind s bands w word is = ap (turn_passes s [] w) is
turn_kind s fit w word is = ap (turn_passes s [] w) is
turn_kind s (exactly text) w word is = ap (turn_passes s [] w) is

-- words of some kinds, one by one
abbrev pub kinds_walked : List Rule → List ArgumentKind → Walk → List Text → Walk
kinds_walked c [] w words = w
kinds_walked c (kind ∷ kinds) w [] = w
kinds_walked c (kind ∷ kinds) w (word ∷ words) = kinds_walked c kinds (kind_walked c kind w word) words

abbrev pub kinds_pass : Shape → List ArgumentKind → Walk → List Text → Bool
kinds_pass s [] w words = true
kinds_pass s (kind ∷ kinds) w [] = true
kinds_pass s (kind ∷ kinds) w (word ∷ words) = kind_passes s kind w word && kinds_pass s kinds (kind_walked s.rules kind w word) words

pub walked_kinds : (c : List Rule) (kinds : List ArgumentKind) (w : Walk) (words : List Text) → AreOfKinds kinds words → fold (walked c []) w words ≡ kinds_walked c kinds w words
walked_kinds c [] w [] are = refl
walked_kinds c [] w (word ∷ words) are = absurd are
walked_kinds c (kind ∷ kinds) w [] are = absurd are
walked_kinds c (kind ∷ kinds) w (word ∷ words) are =
    ap (λ (v : Walk). fold (walked c []) v words) (walked_kind c kind w word are.0) ∙ walked_kinds c kinds (kind_walked c kind w word) words are.1

pub passes_kinds : (s : Shape) (kinds : List ArgumentKind) (w : Walk) (words : List Text) → AreOfKinds kinds words → walk_passes s [] w words ≡ kinds_pass s kinds w words
unfolding walk_passes
passes_kinds s [] w [] are = refl
passes_kinds s [] w (word ∷ words) are = absurd are
passes_kinds s (kind ∷ kinds) w [] are = absurd are
passes_kinds s (kind ∷ kinds) w (word ∷ words) are =
    ap₂ (λ (passes : Bool) (v : Walk). passes && walk_passes s [] v words) (turn_kind s kind w word are.0) (walked_kind s.rules kind w word are.0)
    ∙ ap (λ (passes : Bool). kind_passes s kind w word && passes) (passes_kinds s kinds (kind_walked s.rules kind w word) words are.1)

-- where parsing these words ends
abbrev pub kinds_end : List Rule → List ArgumentKind → List Text → Held
kinds_end c kinds words = (kinds_walked c kinds (walk_from nothing_held) words).held

pub rows_kinds : (c : List Rule) (kinds : List ArgumentKind) (words : List Text) → AreOfKinds kinds words → rows_after c [] words ≡ finished c (kinds_end c kinds words)
rows_kinds c kinds words are = ap (λ (w : Walk). finished c w.held) (walked_kinds c kinds (walk_from nothing_held) words are)

-- whether a command accepts them
abbrev pub end_passes : Shape → Bool → Held → Bool
end_passes s walk_passed end =
    walk_passed && (settle_passes s.rules s.args_override_self end && (list_all default_passes s.rules && is_valid s (finished s.rules end) false))

abbrev pub horizontal_kinds : Shape → List ArgumentKind → List Text → Bool
horizontal_kinds s kinds words = end_passes s (kinds_pass s kinds (walk_from nothing_held) words) (kinds_end s.rules kinds words)

pub horizontal_is : (s : Shape) (kinds : List ArgumentKind) (words : List Text) → AreOfKinds kinds words → level_passes s [] nothing_held words false ≡ horizontal_kinds s kinds words
horizontal_is s kinds words are =
    ap₂ (λ (passes : Bool) (w : Walk). end_passes s passes w.held) (passes_kinds s kinds (walk_from nothing_held) words are) (walked_kinds s.rules kinds (walk_from nothing_held) words are)

and_last : (a b c : Bool) → (a && (b && c)) ≡ ((a && b) && c)
and_last true b c = refl
and_last false b c = refl

-- words of some kinds, and then words of others
pub are_on : (first last : List ArgumentKind) (front back : List Text) → AreOfKinds first front → AreOfKinds last back → AreOfKinds (first ++ last) (front ++ back)
are_on [] last [] back are others = others
are_on [] last (word ∷ front) back are others = absurd are
are_on (kind ∷ first) last [] back are others = absurd are
are_on (kind ∷ first) last (word ∷ front) back are others = (are.0, are_on first last front back are.1 others)

pub walked_on : (c : List Rule) (first last : List ArgumentKind) (w : Walk) (front back : List Text) → AreOfKinds first front
    → kinds_walked c (first ++ last) w (front ++ back) ≡ kinds_walked c last (kinds_walked c first w front) back
walked_on c [] last w [] back are = refl
walked_on c [] last w (word ∷ front) back are = absurd are
walked_on c (kind ∷ first) last w [] back are = absurd are
walked_on c (kind ∷ first) last w (word ∷ front) back are = walked_on c first last (kind_walked c kind w word) front back are.1

pub passes_on : (s : Shape) (first last : List ArgumentKind) (w : Walk) (front back : List Text) → AreOfKinds first front
    → kinds_pass s (first ++ last) w (front ++ back) ≡ (kinds_pass s first w front && kinds_pass s last (kinds_walked s.rules first w front) back)
passes_on s [] last w [] back are = refl
passes_on s [] last w (word ∷ front) back are = absurd are
passes_on s (kind ∷ first) last w [] back are = absurd are
passes_on s (kind ∷ first) last w (word ∷ front) back are =
    ap (λ (b : Bool). kind_passes s kind w word && b) (passes_on s first last (kind_walked s.rules kind w word) front back are.1)
    ∙ and_last (kind_passes s kind w word) (kinds_pass s first (kind_walked s.rules kind w word) front) _
