-- Where no name is the word for standard input, none is counted.
use Rattle.std.proofs.Common.{◌≡◌, IsSome, false, subst, true}
use Rattle.command_lines.proofs.InputLemmas.{none_counted}
use Rattle.command_lines.proofs.batch.asked_certify.Goals as goal

pub returns-in_default-2-clause-taken : goal.returns-in_default-2-clause-taken
returns-in_default-2-clause-taken c = λ right.
    let given = right.names in
    let bad : false ≡ true = subst IsSome c.in_default-2.is (c.in_ok-names.ensures.taken (record { names = given.names; are = given.are; fact = none_counted given.names given.fact })) in
    bad
