-- The first extent of what is left is told, or looked for behind the first record.
use Rattle.std.proofs.Common.{◌≡◌, ◌-◌, arith, refl, rules}
use Rattle.draw_ops.specs.Framed.{framed_of}
use Rattle.draw_ops.specs.RecordOf.{record_of}
use Rattle.draw_ops.specs.Records.{record_limit}
use Rattle.wmf_records.proofs.ExtentLemmas.{ended, found, onward}
use Rattle.wmf_records.proofs.extent.first_extent.Goals as goal

pub loop-leading-init : goal.loop-leading-init
unfolding framed_of
loop-leading-init c = let all : record_limit - 0 ≡ record_limit = omega arith in record { within = omega arith; left = rw all refl }

pub returns-then-is_some-clause-value : goal.returns-then-is_some-clause-value
returns-then-is_some-clause-value c =
    found c.loop-leading.number c.loop-leading.rest.now (record_of c.in-Ok.leading) c.extent_in-extent.result _ c.in-Ok.ensures.below_limit c.in-Ok.ensures.fault c.in-Ok.ensures.leading c.loop-leading.invariant.left c.extent_in-extent.ensures.value (search rules)

pub returns-then-leading-eq-META_EOF-clause-value : goal.returns-then-leading-eq-META_EOF-clause-value
returns-then-leading-eq-META_EOF-clause-value c =
    ended c.loop-leading.number c.loop-leading.rest.now (record_of c.in-Ok.leading) c.extent_in-extent.result _ c.in-Ok.ensures.below_limit c.in-Ok.ensures.fault c.in-Ok.ensures.leading c.loop-leading.invariant.left c.extent_in-extent.ensures.value (search rules) c.if-leading-eq-META_EOF.true

pub overflow_add-number : goal.overflow_add-number
unfolding record_limit
overflow_add-number c = search rules

pub loop-leading-preserved : goal.loop-leading-preserved
loop-leading-preserved c = record {
  within = omega (arith, c.in-Ok.ensures.below_limit);
  left = onward c.loop-leading.number c.loop-leading.rest.now (record_of c.in-Ok.leading) c.extent_in-extent.result _ c.in-Ok.ensures.below_limit c.in-Ok.ensures.fault c.in-Ok.ensures.leading c.loop-leading.invariant.left c.extent_in-extent.ensures.value _ (search rules) c.if-leading-eq-META_EOF.false c.in-Ok.ensures.size;
}
