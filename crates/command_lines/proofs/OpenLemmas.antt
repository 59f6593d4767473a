-- Before the word `--`, any word may be an option.
use Rattle.std.proofs.Common.{◌≡◌, ◌||◌, not, refl, subst, sym, ℕ, Bool, List, [], ◌∷◌, false, true, Option, Some, None, find, fold}
use Rattle.std.specs.List.{All, list_all}
use Rattle.std.specs.Str.{bytes_eq}
use Rattle.std.proofs.lemmas.List.Elements.{All-head, All-tail}
use Rattle.std.proofs.lemmas.Slice.Eq.{bytes_eq-Decides}
use Rattle.clap.specs.Lexer.{long_of, short_of}
use Rattle.clap.specs.Walk.{Held, Outcome, Rule, Step, Text, Waiting, Walk, after_flag, after_step, arg_by_index, arg_by_long, bundle, done, idle, long_met, long_or_other, next, option, plain, plain_word, positional, refused, short_or_plain, subcommand, to_positional, trailing, value, waits, walked, walked_from, word_met}
use Rattle.command_lines.specs.WrongWords.{IsNoEnd}
use Rattle.command_lines.proofs.KindLemmas.{no_command}

-- where the walk stands, options may follow
abbrev pub IsOpen : Walk → Type 0
IsOpen w = (w.is_trailing ≡ false) × (w.stopped ≡ None)

-- no argument takes all words after it
abbrev pub is_open_rule : Rule → Bool
is_open_rule rule = not rule.trailing_var_arg

-- after such a step options may follow
abbrev StaysOpen : Step → Type 0
StaysOpen (next waiting) = Unit {0}
StaysOpen (trailing position) = ⊥
StaysOpen (subcommand name) = ⊥
StaysOpen value = Unit {0}

plain_open : (c : List Rule) (waiting : Waiting) (word : Text) (h : Held) → StaysOpen (plain_word c waiting word h).1
plain_open c idle word h = tt
plain_open c (option id) word h = tt
plain_open c positional word h = tt

flag_open : (c : List Rule) (waiting : Waiting) (word : Text) (h : Held) (outcome : Outcome) → StaysOpen (after_flag c waiting word h outcome).1
flag_open c waiting word h done = tt
flag_open c waiting word h (waits id) = tt
flag_open c waiting word h plain = plain_open c waiting word h
flag_open c waiting word h refused = plain_open c waiting word h

short_open : (c : List Rule) (waiting : Waiting) (word : Text) (flags : Option Text) (h : Held) → StaysOpen (short_or_plain c waiting word flags h).1
short_open c waiting word (Some flags) h = flag_open c waiting word (bundle c flags h).0 (bundle c flags h).1
short_open c waiting word None h = plain_open c waiting word h

long_open : (c : List Rule) (waiting : Waiting) (word : Text) (long : Option (Text × Option Text)) (h : Held) → StaysOpen (long_or_other c waiting word long h).1
long_open c waiting word (Some p) h = flag_open c waiting word (long_met c (arg_by_long c p.0) p.1 h).0 (long_met c (arg_by_long c p.0) p.1 h).1
long_open c waiting word None h = short_open c waiting word (short_of word) h

pub not_end : (word : Text) → IsNoEnd word → bytes_eq word (45 ∷ 45 ∷ []) ≡ false
not_end word other = go (bytes_eq word (45 ∷ 45 ∷ [])) refl
  where
    go : (same : Bool) → bytes_eq word (45 ∷ 45 ∷ []) ≡ same → bytes_eq word (45 ∷ 45 ∷ []) ≡ false
    go false is = is
    go true is = absurd (other ((bytes_eq-Decides word (45 ∷ 45 ∷ [])).0 is))

met_open : (c : List Rule) (waiting : Waiting) (position : ℕ) (word : Text) (h : Held) → IsNoEnd word → StaysOpen (word_met c [] false waiting position word h).1
met_open c waiting position word h other = rw (no_command waiting word) (rw (not_end word other) (long_open c waiting word (long_of word) h))

-- what is found passes a test that all pass
pub found_passes : {X : Type 0} (p q : X → Bool) (xs : List X) (x : X) → find p xs ≡ Some x → list_all q xs ≡ true → q x ≡ true
found_passes p q [] x is all = cc
found_passes p q (y ∷ ys) x is all = go (p y) refl (q y) refl (found_passes p q ys x)
  where
    go : (here : Bool) → p y ≡ here → (good : Bool) → q y ≡ good → (find p ys ≡ Some x → list_all q ys ≡ true → q x ≡ true) → q x ≡ true
    go here h false g after = let bad : false ≡ true = rw g at all in cc
    go true h true g after = let found : Some y ≡ Some x = rw h at is in let same : y ≡ x = cc in subst (λ (z : _). q z ≡ true) same g
    go false h true g after = after (rw h at is) (rw g at all)

-- and it passes the test that it was found by
pub found_is : {X : Type 0} (p : X → Bool) (xs : List X) (x : X) → find p xs ≡ Some x → p x ≡ true
found_is p [] x is = cc
found_is p (y ∷ ys) x is = go (p y) refl (found_is p ys x)
  where
    go : (here : Bool) → p y ≡ here → (find p ys ≡ Some x → p x ≡ true) → p x ≡ true
    go true h after = let found : Some y ≡ Some x = rw h at is in let same : y ≡ x = cc in subst (λ (z : _). p z ≡ true) same h
    go false h after = after (rw h at is)

both_false : (a b : Bool) → a ≡ false → not b ≡ true → (a || b) ≡ false
both_false a true is other = cc
both_false a false is other = rw is refl

after_open : (c : List Rule) (word : Text) (w : Walk) (h : Held) (step : Step) → list_all is_open_rule c ≡ true → IsOpen w → StaysOpen step → IsOpen (after_step c word w h step)
after_open c word w h (next waiting) all stands stays = stands
after_open c word w h (trailing position) all stands stays = absurd stays
after_open c word w h (subcommand name) all stands stays = absurd stays
after_open c word w h value all stands stays = go (arg_by_index c w.position) refl
  where
    go : (a : Option Rule) → arg_by_index c w.position ≡ a → IsOpen (to_positional c a word w h)
    go None is = stands
    go (Some a) is = (both_false w.is_trailing a.trailing_var_arg stands.0 (found_passes _ is_open_rule c a is all), refl)

pub walked_open : (c : List Rule) (w : Walk) (word : Text) → list_all is_open_rule c ≡ true → IsOpen w → IsNoEnd word → IsOpen (walked c [] w word)
unfolding walked
walked_open c w word all stands other =
    let met = word_met c [] w.is_trailing w.waiting w.position word w.held in
    let stays : StaysOpen met.1 = subst (λ (t : Bool). StaysOpen (word_met c [] t w.waiting w.position word w.held).1) (sym stands.0) (met_open c w.waiting w.position word w.held other) in
    subst (λ (stop : Option (Text × List Text)). IsOpen (walked_from c [] stop w word)) (sym stands.1) (after_open c word w met.0 met.1 all stands stays)

-- after words other than `--`, options may follow
pub fold_open : (c : List Rule) (w : Walk) (words : List Text) → list_all is_open_rule c ≡ true → IsOpen w → All IsNoEnd words → IsOpen (fold (walked c []) w words)
fold_open c w [] all stands others = stands
fold_open c w (word ∷ words) all stands others =
    fold_open c (walked c [] w word) words all (walked_open c w word all stands (All-head IsNoEnd word words others)) (All-tail IsNoEnd word words others)
