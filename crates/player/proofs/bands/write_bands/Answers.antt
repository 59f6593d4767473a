use Rattle.std.proofs.Common.{◌≡◌, ℕ, ◌+◌, ◌≤◌, ◌^◌, ◌∙◌, arith, rules, subst, sym}
use Rattle.std.proofs.lemmas.Result.{err_from_is_err_and}
use Rattle.meta_headers.specs.OpenedOf.{opened_of}
use Rattle.player.specs.Bands.{CountsRows, WritesRows, plan_surface}
use Rattle.player.proofs.BandTextLemmas.{band_counted, band_written, prefix_of_header, prefix_written, none_counted, none_written}
use Rattle.player.proofs.ReadyLemmas.{few_rows}
use Rattle.player.proofs.bands.write_bands.Goals as goal

pub loop-first-init : goal.loop-first-init
loop-first-init g c =
    let laws = c.rows_law.ensures in
    let cleared = c.args.cleared.now in
    let o = opened_of cleared.opened in
    let plan = c.args.plan in
    let s = plan_surface cleared plan in
    let none = c.requires.unwritten in
    record {
      within = omega arith;
      ready = c.requires.ready;
      blank = λ below. c.requires.blank;
      few = omega (arith, none);
      written = none_written laws o cleared.opened.records.now s plan.start plan.wide _ _ c.in_ok-write_header.ensures.ok;
      counted = none_counted laws o cleared.opened.records.now s plan.start plan.wide _ none;
      capacity = c.in_ok-write_header.ensures.capacity;
      faults = c.write_header.ensures.count;
    }

pub show_band-rows-requires : goal.show_band-rows-requires
show_band-rows-requires g c =
    let loop = c.loop-first in
    let few = loop.invariant.few in
    let within = loop.invariant.within in
    let rows = few_rows c.args.cleared.now c.args.plan c.args.scratch.now c.requires.ready in
    let countable : loop.scratch.canvas.writes ≤ 2 ^ 63 = omega (arith, few, within, rows) in
    search (countable, rules)

pub loop-first-preserved : goal.loop-first-preserved
loop-first-preserved g c =
    let laws = c.rows_law.ensures in
    let cleared = c.args.cleared.now in
    let o = opened_of cleared.opened in
    let records = cleared.opened.records.now in
    let plan = c.args.plan in
    let s = plan_surface cleared plan in
    let loop = c.loop-first in
    let inv = loop.invariant in
    let shown = c.show_band-rows.new.scratch.canvas in
    let played = c.show_band-rows.ensures.played in
    let ready = c.show_band-rows.ensures.ready in
    let begun = c.begin_band.ensures in
    let writes = begun.writes in
    let few = inv.few in
    let bounded = c.show_band-rows.ensures.bounded in
    let some = c.show_band-rows.ensures.some in
    let faults = inv.faults in
    let more = c.write_rows.ensures.count in
    let counted = band_counted laws o records s plan.start plan.wide loop.first c.show_band-rows.result loop.scratch.canvas shown played inv.counted in
    record {
      within = c.show_band-rows.ensures.within;
      ready = record {
        ready = ready.ready;
        surface = ready.surface;
        width = begun.width ∙ ready.width;
        some = subst (λ (n : ℕ). 1 ≤ n) (sym begun.most) ready.some;
      };
      blank = begun.blank;
      few = omega (arith, few, bounded, some, writes);
      written = band_written laws o records s plan.start plan.wide loop.first c.show_band-rows.result loop.scratch.canvas shown played _ _ _ inv.written c.in_ok-write_rows.ensures.ok;
      counted = subst (λ (n : ℕ). CountsRows cleared plan (loop.first + c.show_band-rows.result) n) (sym writes) counted;
      capacity = c.in_ok-write_rows.ensures.capacity;
      faults = omega (arith, faults, more);
    }

pub returns-in_err-write_header-clause-prefix : goal.returns-in_err-write_header-clause-prefix
returns-in_err-write_header-clause-prefix g c =
    let cleared = c.args.cleared.now in
    let plan = c.args.plan in
    let p = err_from_is_err_and c.from_residual.result c.from_residual.ensures.1 in
    rw p.1 (prefix_of_header c.rows_law.ensures (opened_of cleared.opened) cleared.opened.records.now (plan_surface cleared plan) plan.start plan.wide _ _ c.in_err-write_header.ensures.err)

pub returns-in_err-write_rows-clause-prefix : goal.returns-in_err-write_rows-clause-prefix
returns-in_err-write_rows-clause-prefix g c =
    let cleared = c.args.cleared.now in
    let plan = c.args.plan in
    let loop = c.loop-first in
    let p = err_from_is_err_and c.from_residual-in_err-write_rows.result c.from_residual-in_err-write_rows.ensures.1 in
    rw p.1 (prefix_written c.rows_law.ensures (opened_of cleared.opened) cleared.opened.records.now (plan_surface cleared plan) plan.start plan.wide loop.first c.show_band-rows.result loop.scratch.canvas c.show_band-rows.new.scratch.canvas c.show_band-rows.ensures.played _ _ _ c.show_band-rows.ensures.within loop.invariant.written c.in_err-write_rows.ensures.err)

pub returns-clause-text : goal.returns-clause-text
returns-clause-text g c =
    let inv = c.loop-first.invariant in
    let within = inv.within in
    let ended = c.loop-first-test.false in
    let all : c.loop-first.first ≡ c.args.plan.height = omega (arith, within, ended) in
    subst (λ (n : ℕ). WritesRows c.args.cleared.now c.args.plan n g.W.Write.contents c.args.out.now c.loop-first.out) all inv.written

pub returns-clause-counted : goal.returns-clause-counted
returns-clause-counted g c =
    let inv = c.loop-first.invariant in
    let within = inv.within in
    let ended = c.loop-first-test.false in
    let all : c.loop-first.first ≡ c.args.plan.height = omega (arith, within, ended) in
    subst (λ (n : ℕ). CountsRows c.args.cleared.now c.args.plan n c.loop-first.scratch.canvas.writes) all inv.counted
