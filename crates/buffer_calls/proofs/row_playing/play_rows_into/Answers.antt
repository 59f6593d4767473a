use Rattle.std.proofs.Common.{Bool, subst}
use Rattle.player.specs.Rows.{layout_size}
use Rattle.buffer_calls.specs.Plays.{IsClearedFor, StopsPlaying, WritesRows, are_placed}
use Rattle.buffer_calls.proofs.PlayLemmas.{ends_cleared, ends_stopped}
use Rattle.buffer_calls.proofs.row_playing.play_rows_into.Goals as goal

pub returns-in-Ok : goal.returns-in-Ok
returns-in-Ok c =
    let rows = c.args.rows in
    let width = rows.surface.width in
    let height = rows.surface.height in
    let cleared = subst (λ (b : Bool). IsClearedFor b c.args.file.now c.args.certificate.now width height c.in-Ok.cleared) c.are_placed.ensures c.in-Ok.ensures.cleared in
    ends_cleared (are_placed rows) c.args.file.now c.args.certificate.now width height (layout_size rows.layout width) (WritesRows rows) c.in-Ok.cleared
    cleared _ _ c.play_cleared_rows.result c.play_cleared_rows.ensures

pub returns-in-Err : goal.returns-in-Err
returns-in-Err c =
    let rows = c.args.rows in
    let width = rows.surface.width in
    let height = rows.surface.height in
    let stopped = subst (λ (b : Bool). StopsPlaying b c.args.file.now c.args.certificate.now width height c.in-Err.outcome) c.are_placed.ensures c.in-Err.ensures.stopped in
    ends_stopped (are_placed rows) c.args.file.now c.args.certificate.now width height (layout_size rows.layout width) (WritesRows rows) _ c.in-Err.outcome stopped
