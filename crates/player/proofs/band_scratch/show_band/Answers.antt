use Rattle.std.proofs.Common.{ℕ, ◌∙◌, ap, refl, sym}
use Rattle.mapping.specs.Image.{blank}
use Rattle.mapping.specs.PageMap.{map_numbers}
use Rattle.meta_headers.specs.OpenedOf.{opened_of}
use Rattle.dc_stack.specs.State.{start_state}
use Rattle.player.specs.Bands.{plan_surface}
use Rattle.player.proofs.BandTextLemmas.{band_played}
use Rattle.player.proofs.band_scratch.show_band.Goals as goal

pub returns-clause-played : goal.returns-clause-played
returns-clause-played c =
    let opened = c.args.cleared.now.opened in
    let o = opened_of opened in
    let plan = c.args.plan in
    let canvas = c.args.scratch.now.canvas in
    let ready = c.requires.ready in
    let state = c.restart.ensures.state ∙ ap (start_state opened.rules (map_numbers opened.start_map)) ready.ready.kind in
    let image = c.requires.blank.image ∙ ap (λ (n : ℕ). blank plan.width n plan.start) (sym c.rows-rows.ensures.rows) in
    band_played c.content_law.ensures o opened.records.now (plan_surface c.args.cleared.now plan) plan.start c.args.first c.rows-rows.result c.restart.new.self canvas canvas c.play_rows.new.canvas
    state (c.restart.ensures.goes_on.surface ∙ ready.surface) image c.requires.blank.top refl c.play_rows.ensures.played
