-- The names are the texts of the argument.
use Rattle.std.proofs.Common.{◌≡◌, ◌∙◌, ap, sym, codes, Some, List, ℕ, Bor, arith}
use Rattle.clap.specs.Words.{found_of}
use Rattle.clap.proofs.WalkLemmas.{raw_values-rows}
use Rattle.command_lines.specs.BatchWords.{HasInputs, names_in}
use Rattle.command_lines.proofs.batch.names_of.Goals as goal

same_inside : {A : Type 0} {x y : A} → Some x ≡ Some y → x ≡ y
same_inside e = cc

pub returns-in_default-clause-taken : goal.returns-in_default-clause-taken
returns-in_default-clause-taken c = λ given.
    let none = c.in_default.ensures ∙ raw_values-rows (found_of c.args.given.now) (codes "FILE") ∙ given.are in
    absurd cc

pub returns-then-inputs_in-most-clause-taken : goal.returns-then-inputs_in-most-clause-taken
returns-then-inputs_in-most-clause-taken c = λ given.
    let same : names_in c.in-Some.names.now ≡ given.names = same_inside (c.in-Some.ensures ∙ raw_values-rows (found_of c.args.given.now) (codes "FILE") ∙ given.are) in
    let few : HasInputs c.args.most (names_in c.in-Some.names.now) = rw same given.fact in
    let more = c.if-inputs_in-most.true in
    let is = c.inputs_in.ensures in
    absurd (omega (arith, few, more, is))

pub returns-clause-given : goal.returns-clause-given
returns-clause-given c =
    sym (raw_values-rows (found_of c.args.given.now) (codes "FILE")) ∙ sym c.in-Some.ensures
    ∙ ap (λ (names : List (Bor (List ℕ))). Some (names_in names)) (sym (c.in_ok-to_vec.ensures.items_if_clones_equal (λ x y is. is)))
