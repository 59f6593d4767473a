use Rattle.std.proofs.Common.{◌≡◌, ◌∷◌, arith, map, rules}
use Rattle.painting.proofs.TestLemmas.{is_column}
use Rattle.painting.proofs.StripLemmas.{empty_column, may_paint_before, may_paint_after, no_columns, uncut_painted}
use Rattle.painting.proofs.strips.+put_uncut.Goals as goal

pub returns-then-from-to-clause-pixels : goal.returns-then-from-to-clause-pixels
returns-then-from-to-clause-pixels t c =
    no_columns c.writing_law.ensures c.args.row_op.now (map (λ b. b.placed) c.args.cuts.now) c.args.y (is_column c.args.columns.from c.args.columns.to) c.args.canvas.now c.requires.whole (λ x. empty_column c.args.columns.from c.args.columns.to x (omega arith))

pub returns-clause-pixels : goal.returns-clause-pixels
returns-clause-pixels t c =
    let cut : c.args.cuts.now ≡ c.in-Some.first.now ∷ c.in-Some.rest.now = c.in-Some.ensures.cases.0 in
    let hides = c.hidden-hidden.ensures in
    rw cut
    (uncut_painted c.writing_law.ensures c.args.row_op.now c.in-Some.first.now.placed (map (λ b. b.placed) c.in-Some.rest.now) c.args.y c.args.columns.from c.hidden-hidden.result.from c.hidden-hidden.result.to c.args.columns.to c.args.canvas.now c.put_uncut.new.canvas c.put_uncut-2.new.canvas c.requires.whole hides.first hides.order hides.last hides.hidden c.put_uncut.ensures.pixels c.put_uncut-2.ensures.pixels)

pub put_uncut-requires : goal.put_uncut-requires
put_uncut-requires t c =
    let hides = c.hidden-hidden.ensures in
    let order = hides.order in
    let last = hides.last in
    (search rules, may_paint_before c.args.canvas.now c.args.y c.hidden-hidden.result.from c.args.columns c.requires hides.first (omega (arith, order, last)))

pub put_uncut-requires-2 : goal.put_uncut-requires-2
put_uncut-requires-2 t c =
    let hides = c.hidden-hidden.ensures in
    (search rules, may_paint_after c.writing_law.ensures _ _ c.args.canvas.now c.put_uncut.new.canvas c.args.y c.hidden-hidden.result.from c.hidden-hidden.result.to c.args.columns c.requires hides.first hides.order hides.last c.put_uncut.ensures.pixels c.put_uncut.ensures.count)
