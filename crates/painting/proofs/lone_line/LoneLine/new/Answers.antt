use Rattle.std.proofs.Common.{[], refl}
use Rattle.std.proofs.lemmas.List.Elements.{All-cons, All-nil}
use Rattle.mapping.specs.PlaceOf.{surface_of}
use Rattle.span_fill.specs.Lines.{HasNearEnds}
use Rattle.painting.proofs.LandingLemmas.{landed_fits, landed_near}
use Rattle.painting.proofs.lone_line.LoneLine.new.Goals as goal

pub at-requires : goal.at-requires
at-requires c = landed_fits (surface_of c.args.place) c.args.from c.requires.from

pub at-requires-2 : goal.at-requires-2
at-requires-2 c = landed_fits (surface_of c.args.place) c.args.to c.requires.to

pub invariant_of-result : goal.invariant_of-result
invariant_of-result c = record {
  near = All-cons HasNearEnds _ []
      (record {
        from = rw c.at.ensures (landed_near (surface_of c.args.place) c.args.from c.requires.from);
        to = rw c.at-2.ensures (landed_near (surface_of c.args.place) c.args.to c.requires.to);
      })
      (All-nil HasNearEnds);
}

pub returns : goal.returns
returns c = rw (c.at.ensures, c.at-2.ensures) refl
