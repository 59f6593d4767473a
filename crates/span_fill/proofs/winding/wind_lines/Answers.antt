-- One line more.
use Rattle.std.proofs.Common.{◌+◌, ◌*◌, ◌^◌, suc, pos, arith}
use Rattle.std.proofs.lemmas.Int.{ints}
use Rattle.span_fill.specs.declared.line.Line.{Line}
use Rattle.span_fill.proofs.WindingLemmas.{all_wider, line_wound, none_total}
use Rattle.span_fill.proofs.winding.wind_lines.Goals as goal

-- a line where there is none
abbrev none : Line
none = record { from = record { x = pos 0; y = pos 0 }; to = record { x = pos 0; y = pos 0 } }

pub wind_line-requires-clause-few : goal.wind_line-requires-clause-few
wind_line-requires-clause-few c =
    all_wider (2 * c.loop-line.line-index) (2 ^ 22) c.loop-line.changes (omega (arith, c.loop-line-test.true, c.requires.count)) c.loop-line.invariant.few

pub loop-line-init : goal.loop-line-init
loop-line-init c = record {
  windings = λ y h. let nothing = none_total c.args.changes.now (suc y) c.requires.none in omega (arith, ints, nothing);
  few = c.requires.none;
  length = omega arith;
}

pub loop-line-preserved : goal.loop-line-preserved
loop-line-preserved c =
    let at = c.loop-line.line-index in
    let wound = c.wind_line.ensures in
    record {
      windings = λ y h. line_wound c.args.lines.now at none c.args.column y _ _ _ c.loop-line-test.true (wound.windings y h) (c.loop-line.invariant.windings y h);
      few = all_wider (2 * at + 2) (2 * (at + 1)) c.wind_line.new.changes (omega arith) (wound.few (2 * at) c.loop-line.invariant.few);
      length = omega (arith, wound.length, c.loop-line.invariant.length);
    }
