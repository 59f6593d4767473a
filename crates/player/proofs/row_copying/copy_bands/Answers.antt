use Rattle.std.proofs.Common.{◌≡◌, ◌∙◌, ℕ, ◌+◌, ◌*◌, ◌<◌, ◌≤◌, ◌^◌, arith, subst, sym}
use Rattle.canvas.specs.Ppm.{raster}
use Rattle.canvas.specs.Samples.{row_in}
use Rattle.meta_headers.specs.OpenedOf.{opened_of}
use Rattle.dc_stack.specs.State.{start_of}
use Rattle.preflight_cert.specs.Drawings.{drawings_of}
use Rattle.player.specs.Bands.{plan_surface, rows_played}
use Rattle.player.specs.Rows.{CopiesPlayed, CopiesRows, HasCapacityForRows, row_samples}
use Rattle.player.proofs.BandRowLemmas.{row_of_band}
use Rattle.player.proofs.CopyLemmas.{capacity_for_rows, copies_more, copies_none, copies_same}
use Rattle.player.proofs.ReadyLemmas.{few_rows}
use Rattle.player.proofs.row_copying.copy_bands.Goals as goal

pub loop-next-init : goal.loop-next-init
loop-next-init c =
    let none = c.requires.unwritten in
    record {
      first = omega arith;
      within = omega arith;
      ready = c.requires.ready;
      blank = λ below. c.requires.blank;
      few = omega (arith, none);
      copied = λ content holds. copies_none _ c.args.layout _ c.args.layout.first c.args.out.now;
    }

pub show_band-rows-requires : goal.show_band-rows-requires
show_band-rows-requires c =
    let loop = c.loop-next in
    let few = loop.invariant.few in
    let within = loop.invariant.within in
    let inside = c.requires.within in
    let test = c.loop-next-test.true in
    let blank = loop.invariant.blank test in
    let rows = few_rows c.args.cleared.now c.args.plan c.args.scratch.now c.requires.ready in
    let countable : loop.scratch.canvas.writes ≤ 2 ^ 63 = omega (arith, few, within, inside, rows) in
    let below : loop.next < c.args.plan.height = omega (arith, test, inside) in
    record { ready = loop.invariant.ready; below = below; blank = blank; countable = countable }

pub returns : goal.returns
returns c =
    let within = c.loop-next.invariant.within in
    let ended = c.loop-next-test.false in
    let all : c.loop-next.next ≡ c.args.layout.first + c.args.layout.count = omega (arith, within, ended) in
    subst (λ (n : ℕ). CopiesPlayed c.args.cleared.now c.args.plan c.args.layout n c.args.out.now c.loop-next.out) all c.loop-next.invariant.copied

pub copy_rows-requires : goal.copy_rows-requires
copy_rows-requires c =
    let loop = c.loop-next in
    let first = loop.invariant.first in
    let layout = c.args.layout in
    let shown = c.show_band-rows.ensures in
    let top = shown.top in
    let rows = shown.rows in
    let some = shown.some in
    let test = c.loop-next-test.true in
    let width : c.show_band-rows.new.scratch.canvas.width ≡ c.args.plan.width = shown.ready.width in
    let enough = c.requires.capacity in
    let kept = loop.auto.out in
    let apart = c.requires.apart in
    let last : c.min-after.result ≤ layout.first + layout.count = omega arith in
    let capacity = capacity_for_rows layout c.args.plan.width loop.next c.min-after.result loop.out first last (omega (arith, enough, kept)) in
    record {
      first = first;
      order = omega (arith, some, test);
      top = omega (arith, top);
      bottom = omega (arith, top, rows);
      apart = omega (arith, width, apart);
      capacity = subst (λ (n : ℕ). HasCapacityForRows layout (3 * n) loop.next c.min-after.result loop.out) (sym width) capacity;
    }

pub loop-next-smaller : goal.loop-next-smaller
loop-next-smaller c =
    let some = c.show_band-rows.ensures.some in
    let test = c.loop-next-test.true in
    omega (arith, some, test)

pub loop-next-preserved : goal.loop-next-preserved
loop-next-preserved c =
    let laws = c.rows_law.ensures in
    let cleared = c.args.cleared.now in
    let o = opened_of cleared.opened in
    let plan = c.args.plan in
    let s = plan_surface cleared plan in
    let layout = c.args.layout in
    let loop = c.loop-next in
    let inv = loop.invariant in
    let canvas = c.show_band-rows.new.scratch.canvas in
    let shown = c.show_band-rows.ensures in
    let begun = c.begin_band.ensures in
    let first = inv.first in
    let few = inv.few in
    let bounded = shown.bounded in
    let writes = begun.writes in
    let some = shown.some in
    let within = shown.within in
    let test = c.loop-next-test.true in
    let after = c.min-after.result in
    let width : canvas.width ≡ plan.width = shown.ready.width in
    let copied = subst (λ (n : ℕ). CopiesRows (λ (y : ℕ). raster (row_in canvas y)) layout (3 * n) loop.next after loop.out c.copy_rows.new.out) width c.copy_rows.ensures in
    record {
      first = omega (arith, first, some, test);
      within = omega arith;
      ready = record {
        ready = shown.ready.ready;
        surface = shown.ready.surface;
        width = begun.width ∙ width;
        some = subst (λ (n : ℕ). 1 ≤ n) (sym begun.most) shown.ready.some;
      };
      blank = begun.blank;
      few = omega (arith, few, bounded, some, writes, test);
      copied = λ content holds.
          let drawings = drawings_of content.steps (start_of o) in
          let whole = rows_played o content s plan.start 0 plan.height in
          copies_more (row_samples whole) layout (3 * plan.width) layout.first loop.next after c.args.out.now loop.out c.copy_rows.new.out (omega arith) first (omega (arith, some, test)) c.requires.apart
          (inv.copied content holds)
          (copies_same (λ (y : ℕ). raster (row_in canvas y)) layout (3 * plan.width) (row_samples whole) loop.next after loop.out c.copy_rows.new.out
          (λ y begins ends. row_of_band laws drawings s plan.start plan.wide loop.next c.show_band-rows.result plan.height y canvas (shown.played.image content holds) shown.top begins (omega (arith, ends)) within)
          copied);
    }
