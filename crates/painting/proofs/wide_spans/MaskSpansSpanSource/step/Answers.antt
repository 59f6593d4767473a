use Rattle.painting.proofs.MaskSpanLemmas.{mask_gives}
use Rattle.painting.proofs.wide_spans.MaskSpansSpanSource.step.Goals as goal

pub returns-in-Some-clause-span : goal.returns-in-Some-clause-span
returns-in-Some-clause-span c = mask_gives c.args.self.now.mask.now c.next_span.new.self c.in-Some.span c.in-Some.ensures
