-- The strip that begins in the range stands at its first row.
use Rattle.std.proofs.Common.{rules, FitsSigned}
use Rattle.std.specs.Int.{w32}
use Rattle.std.proofs.lemmas.Int.{to_z-of_z}
use Rattle.span_fill.proofs.WideLineLemmas.{all_rows, begun_line, no_rows, unseen_line}
use Rattle.span_fill.proofs.wide_line.WideLine.new.Goals as goal

pub invariant_of-t-8 : goal.invariant_of-t-8
invariant_of-t-8 c =
    let from : FitsSigned w32 c.args.from = c.ranges.from in
    let to : FitsSigned w32 c.args.to = c.ranges.to in
    let first : FitsSigned w32 c.in-Some.edge.seen.from = search rules in
    let begun = simp to_z-of_z at c.in-Some.ensures in
    simp to_z-of_z (begun_line c.args.nib c.args.from c.args.to c.args.line c.in-Some.edge c.requires.nib c.requires.low c.requires.high begun)

pub invariant_of-result : goal.invariant_of-result
invariant_of-result c =
    let from : FitsSigned w32 c.args.from = c.ranges.from in
    let first = simp to_z-of_z at c.unseen.ensures.from in
    let last = simp to_z-of_z at c.unseen.ensures.to in
    simp to_z-of_z (unseen_line c.args.nib c.args.from c.args.to c.unseen.result c.requires.nib c.requires.low c.requires.order c.requires.high first last)

pub returns-in-Some-clause-all : goal.returns-in-Some-clause-all
returns-in-Some-clause-all c =
    let from : FitsSigned w32 c.args.from = c.ranges.from in
    let to : FitsSigned w32 c.args.to = c.ranges.to in
    let first : FitsSigned w32 c.in-Some.edge.seen.from = search rules in
    let begun = simp to_z-of_z at c.in-Some.ensures in
    simp to_z-of_z (all_rows c.args.nib c.args.from c.args.to c.args.line c.in-Some.edge begun)

pub returns-in-None-clause-all : goal.returns-in-None-clause-all
returns-in-None-clause-all c =
    let from : FitsSigned w32 c.args.from = c.ranges.from in
    let to : FitsSigned w32 c.args.to = c.ranges.to in
    let past = simp to_z-of_z at c.in-None.ensures in
    let last = simp to_z-of_z at c.unseen.ensures.to in
    simp to_z-of_z (no_rows c.args.nib c.args.from c.args.to c.args.line c.unseen.result c.unseen.ensures.line past last c.requires.order)
