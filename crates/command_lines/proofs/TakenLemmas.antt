-- clap accepts right words, and they give a command the arguments that it takes.
use Rattle.std.proofs.Common.{◌≡◌, ◌∙◌, ◌&&◌, ◌||◌, ap, ap₂, not, sym, subst, refl, Bool, List, [], ◌∷◌, false, true, Some, codes, pos}
use Rattle.std.specs.List.{All, list_all}
use Rattle.std.specs.Str.{bytes_eq}
use Rattle.std.proofs.lemmas.List.Sums.{AllPass-from_list_all}
use Rattle.mapping.specs.Limits.{surface_side_limit}
use Rattle.clap.specs.ValueTests.{is_signed_in}
use Rattle.clap.specs.Walk.{Row, Text}
use Rattle.clap.specs.Words.{subcommand_of, takes}
use Rattle.clap.proofs.OnLiterals.{clap_on_literals}
use Rattle.command_lines.specs.CommandLine.{IsRightCommand, check_app, metaplay_app, over_app, play_app}
use Rattle.command_lines.specs.BatchWords.{IsNoBatch}
use Rattle.command_lines.specs.RightWords.{AreRightWords, ArgumentKind, bands, fit, name, side, usages}
use Rattle.command_lines.proofs.RuledLemmas.{ruled_taken}
use Rattle.command_lines.proofs.SideLemmas.{side_passes}
use Rattle.command_lines.proofs.UsageLemmas.{IsTaken, OfKinds, UsageIsTaken, all_of_list, core_right, of_kinds, of_usage, side_given}

-- Each usage is accepted. What clap returns for its words computes, except for the tests of numbers, each of which
-- stays where clap does it.
check_taken : OfKinds (name ∷ name ∷ []) (IsTaken (codes "check"))
unfolding clap_on_literals
check_taken file f certificate c =
    of_usage (codes "check") check_app.top (name ∷ name ∷ []) (file ∷ certificate ∷ []) (f, (c, tt)) refl
    (λ program passes. ap (λ (b : Bool). b && true) passes) (λ program. refl) refl (refl, (refl, tt)) (core_right _ refl refl refl)

play_taken : OfKinds (name ∷ name ∷ side ∷ side ∷ []) (IsTaken (codes "play"))
unfolding clap_on_literals
play_taken file f certificate c wide w high h =
    of_usage (codes "play") play_app.top (name ∷ name ∷ side ∷ side ∷ []) (file ∷ certificate ∷ wide ∷ high ∷ []) (f, (c, (w, (h, tt)))) refl
    (λ program passes. ap (λ (b : Bool). b && true) passes) (λ program. refl)
    (ap₂ (λ (a b : Bool). ((a && true) && true) && ((b && true) && true)) (side_passes wide w) (side_passes high h))
    (refl, (refl, (side_given _ (codes "W") wide refl w, (side_given _ (codes "H") high refl h, ((λ some. let bad : false ≡ true = some in cc), (tt, tt)))))) (core_right _ refl refl refl)

play_fit_taken : OfKinds (name ∷ name ∷ side ∷ side ∷ fit ∷ []) (IsTaken (codes "play"))
unfolding clap_on_literals
play_fit_taken file f certificate c wide w high h word t =
    of_usage (codes "play") play_app.top (name ∷ name ∷ side ∷ side ∷ fit ∷ []) (file ∷ certificate ∷ wide ∷ high ∷ word ∷ []) (f, (c, (w, (h, (t, tt))))) refl
    (λ program passes. ap (λ (b : Bool). b && true) passes) (λ program. refl)
    (ap₂ (λ (a b : Bool). ((a && true) && ((((b && true) && true) && true) && true)) && true) (side_passes wide w) (side_passes high h))
    (refl, (refl, (side_given _ (codes "W") wide refl w, (side_given _ (codes "H") high refl h, ((λ some. let bad : false ≡ true = some in cc), (tt, tt)))))) (core_right _ refl refl refl)

bands_taken : OfKinds (name ∷ name ∷ side ∷ side ∷ bands ∷ side ∷ []) (IsTaken (codes "play"))
unfolding clap_on_literals
bands_taken file f certificate c wide w high h word b rows r =
    of_usage (codes "play") play_app.top (name ∷ name ∷ side ∷ side ∷ bands ∷ side ∷ []) (file ∷ certificate ∷ wide ∷ high ∷ word ∷ rows ∷ []) (f, (c, (w, (h, (b, (r, tt)))))) refl
    (λ program passes. ap (λ (b : Bool). b && true) passes) (λ program. refl)
    (ap₂ (λ (a b : Bool). ((a && true) && (((b && true) && true) && true)) && ((is_signed_in (pos 1) (pos surface_side_limit) rows && true) && true)) (side_passes wide w) (side_passes high h)
    ∙ ap (λ (b : Bool). (b && true) && true) (side_passes rows r))
    (refl, (refl, (side_given _ (codes "W") wide refl w, (side_given _ (codes "H") high refl h, ((λ some. side_given _ (codes "ROWS") rows refl r), (tt, tt)))))) (core_right _ refl refl refl)

bands_fit_taken : OfKinds (name ∷ name ∷ side ∷ side ∷ bands ∷ side ∷ fit ∷ []) (IsTaken (codes "play"))
unfolding clap_on_literals
bands_fit_taken file f certificate c wide w high h word b rows r last t =
    of_usage (codes "play") play_app.top (name ∷ name ∷ side ∷ side ∷ bands ∷ side ∷ fit ∷ []) (file ∷ certificate ∷ wide ∷ high ∷ word ∷ rows ∷ last ∷ []) (f, (c, (w, (h, (b, (r, (t, tt))))))) refl
    (λ program passes. ap (λ (b : Bool). b && true) passes) (λ program. refl)
    (ap₂ (λ (a b : Bool). ((a && true) && (((b && true) && true) && ((((is_signed_in (pos 1) (pos surface_side_limit) rows && true) && true) && true) && true))) && true) (side_passes wide w) (side_passes high h)
    ∙ ap (λ (b : Bool). ((((b && true) && true) && true) && true) && true) (side_passes rows r))
    (refl, (refl, (side_given _ (codes "W") wide refl w, (side_given _ (codes "H") high refl h, ((λ some. side_given _ (codes "ROWS") rows refl r), (tt, tt)))))) (core_right _ refl refl refl)

fit_bands_taken : OfKinds (name ∷ name ∷ side ∷ side ∷ fit ∷ bands ∷ side ∷ []) (IsTaken (codes "play"))
unfolding clap_on_literals
fit_bands_taken file f certificate c wide w high h first t word b rows r =
    of_usage (codes "play") play_app.top (name ∷ name ∷ side ∷ side ∷ fit ∷ bands ∷ side ∷ []) (file ∷ certificate ∷ wide ∷ high ∷ first ∷ word ∷ rows ∷ []) (f, (c, (w, (h, (t, (b, (r, tt))))))) refl
    (λ program passes. ap (λ (b : Bool). b && true) passes) (λ program. refl)
    (ap₂ (λ (a b : Bool). ((a && true) && ((((b && true) && true) && true) && true)) && ((is_signed_in (pos 1) (pos surface_side_limit) rows && true) && true)) (side_passes wide w) (side_passes high h)
    ∙ ap (λ (b : Bool). (b && true) && true) (side_passes rows r))
    (refl, (refl, (side_given _ (codes "W") wide refl w, (side_given _ (codes "H") high refl h, ((λ some. side_given _ (codes "ROWS") rows refl r), (tt, tt)))))) (core_right _ refl refl refl)

over_taken : OfKinds (name ∷ name ∷ name ∷ []) (IsTaken (codes "over"))
unfolding clap_on_literals
over_taken file f certificate c image i =
    of_usage (codes "over") over_app.top (name ∷ name ∷ name ∷ []) (file ∷ certificate ∷ image ∷ []) (f, (c, (i, tt))) refl
    (λ program passes. ap (λ (b : Bool). b && true) passes) (λ program. refl) refl (refl, (refl, (refl, tt))) (core_right _ refl refl refl)

-- every usage is accepted
all_taken : All UsageIsTaken usages
all_taken = all_of_list UsageIsTaken usages
    (check_taken, (play_taken, (play_fit_taken, (bands_taken, (bands_fit_taken, (fit_bands_taken, (over_taken, ruled_taken)))))))

-- the command is one on several files
abbrev is_batch : Text → Bool
is_batch command = bytes_eq command (codes "info") || bytes_eq command (codes "certify")

-- the usage is that of a command on one file
abbrev is_of_one : Text × List ArgumentKind → Bool
is_of_one usage = not (is_batch usage.0)

all_of_one : list_all is_of_one usages ≡ true
all_of_one = refl

is_taken : (words : List Text) (right : AreRightWords words) → IsTaken right.command right.arguments
is_taken words right =
    let usage = right.right in
    let all : UsageIsTaken usage.1 = subst UsageIsTaken usage.3 (all_taken usage.0 usage.1 usage.2) in
    let named : IsTaken usage.1.0 right.arguments = of_kinds usage.1.1 right.arguments (IsTaken usage.1.0) all usage.4.1 in
    subst (λ (command : Text). IsTaken command right.arguments) usage.4.0 named

-- clap accepts right words
pub right_taken : (words : List Text) → AreRightWords words → takes metaplay_app words ≡ true
right_taken words right =
    subst (λ (l : List Text). takes metaplay_app l ≡ true) (sym right.are) ((is_taken words right).taken right.program)

-- the command that right words name is given the arguments that it takes
pub right_command : (words : List Text) → AreRightWords words → IsRightCommand (subcommand_of metaplay_app words)
right_command words right =
    subst (λ (l : List Text). IsRightCommand (subcommand_of metaplay_app l)) (sym right.are) ((is_taken words right).right right.program)

same_inside : {A : Type 0} {x y : A} → Some x ≡ Some y → x ≡ y
same_inside e = cc

-- right words name no command on several files
no_batch_named : (words : List Text) → AreRightWords words → (batch : Text) (given : List Row) → subcommand_of metaplay_app words ≡ Some (batch, given) → is_batch batch ≡ true → ⊥
no_batch_named words right batch given met is =
    let taken = is_taken words right in
    let command = taken.right right.program in
    let at : subcommand_of metaplay_app (right.program ∷ right.command ∷ right.arguments) ≡ Some (batch, given) = subst (λ (l : List Text). subcommand_of metaplay_app l ≡ Some (batch, given)) right.are met in
    let named : command.name ≡ batch = ap (λ (both : Text × List Row). both.0) (same_inside (sym command.command ∙ at)) in
    let usage = right.right in
    let of_one : is_of_one usage.1 ≡ true = subst (λ (u : Text × List ArgumentKind). is_of_one u ≡ true) usage.3 (AllPass-from_list_all is_of_one usages all_of_one usage.0 usage.1 usage.2) in
    let batched : is_batch usage.1.0 ≡ true = subst (λ (n : Text). is_batch n ≡ true) (sym (usage.4.0 ∙ (sym (taken.named right.program) ∙ named))) is in
    let bad : false ≡ true = sym (ap not batched) ∙ of_one in cc

pub no_batch : (words : List Text) → AreRightWords words → IsNoBatch (subcommand_of metaplay_app words)
no_batch words right = (λ given met. no_batch_named words right (codes "info") given met refl, λ given met. no_batch_named words right (codes "certify") given met refl)
