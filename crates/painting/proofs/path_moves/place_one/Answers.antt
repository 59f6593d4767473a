use Rattle.std.proofs.Common.{[]}
use Rattle.std.proofs.lemmas.List.Elements.{All-cons, All-nil}
use Rattle.span_fill.specs.Lines.{IsNearPoint}
use Rattle.painting.proofs.LandingLemmas.{projected_near}
use Rattle.painting.proofs.path_moves.place_one.Goals as goal

pub invariant_of-result : goal.invariant_of-result
invariant_of-result c =
    let near : IsNearPoint c.at.result = rw c.at.ensures (projected_near c.args.by c.args.point c.requires) in
    record { near = All-cons IsNearPoint c.at.result [] near (All-nil IsNearPoint) }
