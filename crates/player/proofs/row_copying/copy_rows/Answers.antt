use Rattle.std.proofs.Common.{◌≡◌, ℕ, ◌+◌, ◌-◌, ◌*◌, ◌≤◌, length, drop, arith}
use Rattle.std.proofs.lemmas.List.{length-drop, length-take-le}
use Rattle.canvas.specs.Ppm.{raster}
use Rattle.canvas.specs.Samples.{row_in}
use Rattle.player.specs.Rows.{row_place}
use Rattle.player.proofs.CopyLemmas.{copies_more, copies_none, copies_one}
use Rattle.player.proofs.row_copying.copy_rows.Goals as goal

pub loop-y-init : goal.loop-y-init
loop-y-init c = record {
  order = omega arith;
  copied = copies_none _ c.args.layout _ _ _;
}

pub loop-y-preserved : goal.loop-y-preserved
loop-y-preserved c =
    let canvas = c.args.canvas.now in
    let layout = c.args.layout in
    let y = c.loop-y.y in
    let size : ℕ = 3 * canvas.width in
    let out = c.loop-y.out in
    let place = c.row_place-at.result in
    let at : place ≡ row_place layout y = c.row_place-at.ensures in
    let order = c.loop-y.invariant.order in
    let copied = c.loop-y.invariant.copied in
    let width : c.width.result ≡ canvas.width = c.width.ensures.width in
    let capacity : row_place layout y + size ≤ length c.args.out.now = c.requires.capacity y order c.loop-y-test.true in
    let same = copied.same_size in
    let fits : row_place layout y + size ≤ length out = omega (arith, capacity, same) in
    let count : place + 3 * c.width.result - place ≡ size = omega (arith, width) in
    let left = length-drop place out in
    let part = length-take-le (place + 3 * c.width.result - place) (drop place out) (omega (arith, left, fits, at, count)) in
    let kept = c.copy_row.auto.out in
    let long : length c.copy_row.new.out ≡ size = omega (arith, kept, part, count) in
    record {
      order = omega (arith, order);
      copied =
          copies_more (λ (row : ℕ). raster (row_in canvas row)) layout size c.args.from y (y + 1) c.args.out.now out _ c.requires.first order (omega arith) c.requires.apart
          copied
          (copies_one (λ (row : ℕ). raster (row_in canvas row)) layout size y place _ c.copy_row.new.out out at count c.copy_row.ensures long fits);
    }
