-- The steps that are within the region are all, and the first is on the surface.
use Rattle.std.proofs.Common.{◌≡◌, ◌+◌, ◌^◌, ◌<◌, ◌≤◌, Bool, ℤ, arith}
use Rattle.std.proofs.lemmas.Int.{ints}
use Rattle.span_fill.specs.Axis.{IsPlace}
use Rattle.span_fill.specs.MajorLines.{AreStepsWithin, IsMajorLine, IsOn, across_span, along_span, length_of, major_of}
use Rattle.span_fill.specs.StepsInside.{IsUnderway}
use Rattle.span_fill.specs.Strokes.{far, is_y_major}
use Rattle.span_fill.specs.declared.line.Line.{Line}
use Rattle.span_fill.specs.declared.major_line.MajorLine.{MajorLine}
use Rattle.span_fill.specs.declared.span.Region.{Region}
use Rattle.span_fill.specs.declared.span.Span.{Span}
use Rattle.span_fill.specs.declared.walk.Walk.{Walk}
use Rattle.span_fill.proofs.FixedWalkLemmas.{few_at_first}
use Rattle.span_fill.proofs.StepsLemmas.{all_steps, begun, here_can_walk, here_within}
use Rattle.span_fill.proofs.steps.LineSteps.numbered.Goals as goal

-- places are near to each other
far_short : (a b : ℤ) → IsPlace a → IsPlace b → far a b ≤ 2 ^ 29 + 2
far_short a b p q = omega (arith, ints, p.low, p.high, q.low, q.high)

-- the first step is underway
way :
    (line : Line) (region : Region) (y_major : Bool) (steps : Span) (walk : Walk) (major : MajorLine)
    → y_major ≡ is_y_major line → major ≡ major_of y_major line → IsMajorLine (major_of y_major line)
    → AreStepsWithin major (along_span y_major region) (across_span y_major region) steps → steps.to ≤ length_of major
    → region.columns.to ≤ 8192 → region.rows.to ≤ 8192 → (steps.from < steps.to → IsOn major steps.from walk)
    → IsUnderway line region y_major steps.from steps.to walk
way line region y_major steps walk major axis value is exact bound columns rows on =
    begun line region y_major steps.from steps.to walk axis (far_short _ _ is.from_u is.to_u) (rw value at bound) columns rows (rw value at exact) (rw value at on)

pub fixed_within-position-requires : goal.fixed_within-position-requires
fixed_within-position-requires c = λ some.
    let y_major = c.runs_y_major-y_major.result in
    let steps = c.steps_within-clip.result in
    let walk = c.walk_within-walk.result in
    let underway = way c.args.line c.args.region y_major steps walk c.major_along-major.result c.runs_y_major-y_major.ensures c.major_along-major.ensures.value c.major_along-major.ensures.major c.steps_within-clip.ensures.exact c.steps_within-clip.ensures.bound c.requires.columns c.requires.rows c.walk_within-walk.ensures in
    here_can_walk c.args.line c.args.region y_major steps.from steps.to walk underway some

pub numbered_within-requires : goal.numbered_within-requires
numbered_within-requires c = λ some.
    let y_major = c.runs_y_major-y_major.result in
    let steps = c.steps_within-clip.result in
    let walk = c.walk_within-walk.result in
    let underway = way c.args.line c.args.region y_major steps walk c.major_along-major.result c.runs_y_major-y_major.ensures c.major_along-major.ensures.value c.major_along-major.ensures.major c.steps_within-clip.ensures.exact c.steps_within-clip.ensures.bound c.requires.columns c.requires.rows c.walk_within-walk.ensures in
    let on = here_within c.args.line c.args.region y_major steps.from steps.to walk underway some in
    let u = (c.fixed_within-position.ensures some).u in
    record { low = omega (arith, ints, u, on.u_low); high = omega (arith, ints, u, on.u_high) }

pub returns-clause-all : goal.returns-clause-all
returns-clause-all c =
    let clip = rw c.major_along-major.ensures.value at c.steps_within-clip.ensures.exact in
    all_steps c.args.line c.args.region c.args.grid c.runs_y_major-y_major.result c.steps_within-clip.result.from c.steps_within-clip.result.to c.runs_y_major-y_major.ensures clip

pub invariant_of-result : goal.invariant_of-result
invariant_of-result c =
    let y_major = c.runs_y_major-y_major.result in
    let steps = c.steps_within-clip.result in
    let walk = c.walk_within-walk.result in
    let underway = way c.args.line c.args.region y_major steps walk c.major_along-major.result c.runs_y_major-y_major.ensures c.major_along-major.ensures.value c.major_along-major.ensures.major c.steps_within-clip.ensures.exact c.steps_within-clip.ensures.bound c.requires.columns c.requires.rows c.walk_within-walk.ensures in
    record {
      walk = walk;
      taken = 1;
      way = underway;
      fixed = c.fixed_within-position.ensures;
      few = λ some. few_at_first walk (here_within c.args.line c.args.region y_major steps.from steps.to walk underway some);
      numbers = c.numbered_within.ensures;
    }
