use Rattle.std.proofs.Common.{Bool, subst}
use Rattle.preflight_cert.specs.Preparation.{is_bound}
use Rattle.preflight_cert.specs.Run.{white}
use Rattle.buffer_calls.specs.Plays.{IsClearedFor, StopsPlaying, WritesSamples, sample_count}
use Rattle.buffer_calls.proofs.PlayLemmas.{ends_cleared, ends_stopped}
use Rattle.buffer_calls.proofs.playing.play_into.Goals as goal

pub returns-in-Ok : goal.returns-in-Ok
returns-in-Ok c =
    let width = c.args.surface.width in
    let height = c.args.surface.height in
    let cleared = subst (λ (b : Bool). IsClearedFor b c.args.file.now c.args.certificate.now width height c.in-Ok.cleared) c.is_bound.ensures c.in-Ok.ensures.cleared in
    ends_cleared (is_bound width height) c.args.file.now c.args.certificate.now width height (sample_count width height) (WritesSamples width height (white width height)) c.in-Ok.cleared
    cleared _ _ c.play_cleared.result c.play_cleared.ensures

pub returns-in-Err : goal.returns-in-Err
returns-in-Err c =
    let width = c.args.surface.width in
    let height = c.args.surface.height in
    let stopped = subst (λ (b : Bool). StopsPlaying b c.args.file.now c.args.certificate.now width height c.in-Err.outcome) c.is_bound.ensures c.in-Err.ensures.stopped in
    ends_stopped (is_bound width height) c.args.file.now c.args.certificate.now width height (sample_count width height) (WritesSamples width height (white width height)) _ c.in-Err.outcome stopped
