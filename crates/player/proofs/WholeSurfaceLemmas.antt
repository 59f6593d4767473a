-- Records that are played on a whole surface from their start.
use Rattle.std.proofs.Common.{◌≡◌, ℕ, ◌+◌, List, None, refl, subst, sym}
use Rattle.draw_ops.specs.Content.{Content}
use Rattle.mapping.specs.Surface.{Surface}
use Rattle.canvas.specs.CanvasState.{CanvasState, image_of}
use Rattle.meta_headers.specs.Headers.{OpenedValue}
use Rattle.meta_headers.specs.Opening.{surface_for}
use Rattle.dc_stack.specs.MachineState.{MachineState}
use Rattle.dc_stack.specs.State.{State, start_of}
use Rattle.preflight_cert.specs.Apply.{image_after, rows_after}
use Rattle.preflight_cert.specs.Drawings.{drawings_of}
use Rattle.preflight_cert.specs.Stop.{stop_of}
use Rattle.preflight_cert.specs.Writes.{writes_after, writes_of_drawings}
use Rattle.player.specs.Plays.{PlaysContent, PlaysOpened, PlaysRecords}

-- a canvas whose first row is 0 and that has all rows of its surface counts the writes of the whole surface
whole_count : (content : Content) (state : State) (s : Surface) (old new : CanvasState) → old.first ≡ 0 → s.height ≡ old.rows → new.writes ≡ old.writes + writes_of_drawings (drawings_of content.steps state) s old.first old.rows → new.writes ≡ old.writes + writes_after (drawings_of content.steps state) s
whole_count content state s old new first height count =
    let top : new.writes ≡ old.writes + writes_of_drawings (drawings_of content.steps state) s 0 old.rows = subst (λ (n : ℕ). new.writes ≡ old.writes + writes_of_drawings (drawings_of content.steps state) s n old.rows) first count in
    subst (λ (n : ℕ). new.writes ≡ old.writes + writes_of_drawings (drawings_of content.steps state) s 0 n) (sym height) top

whole_image : (content : Content) (state : State) (s : Surface) (old new : CanvasState) → old.first ≡ 0 → image_of new ≡ rows_after (drawings_of content.steps state) s old.first (image_of old) → image_of new ≡ image_after (drawings_of content.steps state) s (image_of old)
whole_image content state s old new first image = subst (λ (n : ℕ). image_of new ≡ rows_after (drawings_of content.steps state) s n (image_of old)) first image

pub whole_played : (o : OpenedValue) (records : List ℕ) (start : MachineState) (old new : CanvasState) (played : PlaysRecords o.format records start old new)
    → stop_of played.content (start_of o) start.surface ≡ None → old.first ≡ 0 → start.state ≡ start_of o → start.surface ≡ surface_for o old.width old.rows → PlaysOpened o records old new
whole_played o records start old new played never first state surface =
    let plays : PlaysContent played.content start old new = played.plays in
    record {
      content = played.content;
      of_records = played.of_records;
      unstopped = rw surface at never;
      image = whole_image played.content (start_of o) (surface_for o old.width old.rows) old new first (rw (state, surface) at plays.image);
      writes = whole_count played.content (start_of o) (surface_for o old.width old.rows) old new first refl (rw (state, surface) at plays.writes);
    }
