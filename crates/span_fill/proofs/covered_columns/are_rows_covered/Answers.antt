-- A nib with as many rows covers them at once.
use Rattle.std.proofs.Common.{◌≡◌, ◌≤ℤ◌, arith}
use Rattle.mapping.specs.Nibs.{IsNib}
use Rattle.span_fill.specs.MaskCovers.{tall_nib}
use Rattle.span_fill.specs.WideLines.{TakesRowAmong, all_columns}
use Rattle.span_fill.proofs.CoveredColumnLemmas.{tall_nothing, tall_reported}
use Rattle.span_fill.proofs.covered_columns.are_rows_covered.Goals as goal

pub returns-in_default : goal.returns-in_default
returns-in_default c = λ t x wide test.
    let some = c.if-count-eq0.false in
    let few = c.if-count-gt-MAX_NIB.false in
    let nib : IsNib (tall_nib c.args.frame c.args.count) = record { x = c.requires.frame.nib.x; y = record { not_empty = omega (arith, some); within = omega (arith, few) } } in
    let ended : (c.rows_at_once-rows.result.end ≤ℤ c.rows_at_once-rows.result.next) × (c.next.new.self ≡ c.rows_at_once-rows.result) = c.in_default.ensures in
    absurd (tall_nothing c.args.frame c.args.line c.rows_at_once-rows.result c.args.from c.args.count x nib c.rows_at_once-rows.ensures.all ended.0 c.rows_at_once-rows.ensures.line c.rows_at_once-rows.ensures.nib test)

pub returns : goal.returns
returns c = λ t x wide test.
    let some = c.if-count-eq0.false in
    let few = c.if-count-gt-MAX_NIB.false in
    let region = c.requires.frame.region in
    let nib : IsNib (tall_nib c.args.frame c.args.count) = record { x = c.requires.frame.nib.x; y = record { not_empty = omega (arith, some); within = omega (arith, few) } } in
    let takes : TakesRowAmong all_columns c.rows_at_once-rows.result c.next.new.self c.in-Some.all = c.in-Some.ensures in
    c.are_covered.ensures t x wide
    (tall_reported c.args.frame c.args.line c.rows_at_once-rows.result c.next.new.self c.in-Some.all c.args.from c.args.count x nib c.rows_at_once-rows.ensures.all takes
    c.rows_at_once-rows.ensures.line c.rows_at_once-rows.ensures.nib (omega (arith, wide, region)) test)
