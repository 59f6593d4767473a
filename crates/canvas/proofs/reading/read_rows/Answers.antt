use Rattle.std.proofs.Common.{◌≡◌, ◌*◌, sym, subst, take, ℕ, ◌∙◌, arith}
use Rattle.std.proofs.lemmas.List.{take_all}
use Rattle.canvas.specs.PpmReading.{colours_at}
use Rattle.canvas.specs.Rows.{row_colours}
use Rattle.canvas.proofs.RowLemmas.{length-row_colours}
use Rattle.canvas.proofs.RowReading.{one_row_more}
use Rattle.canvas.proofs.reading.read_rows.Goals as goal

pub loop-row-preserved : goal.loop-row-preserved
loop-row-preserved c =
    let kept = c.loop-row.auto.colours in
    one_row_more c.args.rows c.args.width c.args.stride c.loop-row.row c.place-start.result c.place-at.result _ c.read_colours.new.colours c.loop-row.colours c.args.samples.now
    c.requires.wide c.requires.apart (omega arith) c.loop-row-test.true
    c.place-start.ensures c.place-at.ensures (omega arith)
    c.read_colours.ensures
    c.loop-row.invariant

-- behind the last row all are read
pub returns : goal.returns
returns c =
    let kept = c.loop-row.auto.colours in
    let ends : c.loop-row.row ≡ c.args.rows = omega arith in
    let rows = row_colours c.args.rows c.args.width c.args.stride c.loop-row.colours in
    let held = length-row_colours c.args.rows c.args.width c.args.stride c.loop-row.colours c.requires.apart (omega arith) in
    let all = take_all (c.args.rows * c.args.width) rows (omega (arith, held)) in
    sym all ∙ subst (λ (n : ℕ). take (n * c.args.width) rows ≡ colours_at (n * c.args.width) c.args.samples.now) ends c.loop-row.invariant
