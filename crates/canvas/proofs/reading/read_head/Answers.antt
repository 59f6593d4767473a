use Rattle.std.proofs.Common.{refl, sym, ◌∙◌}
use Rattle.canvas.proofs.ReadingLemmas.{head_is}
use Rattle.canvas.proofs.reading.read_head.Goals as goal

pub returns : goal.returns
returns c =
    let w = c.number_after_gap-width in
    let h = c.number_after_gap-height in
    let m = c.number_after_gap-most in
    head_is c.args.bytes.now w.result h.result m.result w.ensures h.ensures m.ensures _ refl refl refl
    (sym c.has_magic.ensures.magic ∙ c.if-not-has_magic.false)
    (sym c.ends_head.ensures.tests ∙ c.if-not-ends_head.false)
    (c.ends_head.ensures.there c.if-not-ends_head.false)
