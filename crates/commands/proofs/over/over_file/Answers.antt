-- What was accepted is played over the image, or rejected after the check.
use Rattle.std.proofs.Common.{rules}
use Rattle.commands.proofs.PlayLemmas.{no_image_rejects, over_check_rejects, over_surface_rejects, played_over}
use Rattle.commands.proofs.PreparedLemmas.{accepted_opens}
use Rattle.commands.proofs.over.over_file.Goals as goal

pub returns-in-Err-clause-refusal : goal.returns-in-Err-clause-refusal
returns-in-Err-clause-refusal c = over_check_rejects _ _ _ c.in-Err.refusal c.in-Err.ensures.refusal

pub returns-in-Err-BadImage-clause-refusal : goal.returns-in-Err-BadImage-clause-refusal
returns-in-Err-BadImage-clause-refusal c =
    no_image_rejects _ _ _ _ c.in-Ok.ensures.accepted (c.in-Err-BadImage.ensures.bad.0 c.in-Err-BadImage.field-0-is) (search rules) (search rules)

pub returns-in-Ok-play_over-clause-image : goal.returns-in-Ok-play_over-clause-image
returns-in-Ok-play_over-clause-image c =
    played_over _ _ _ _ _ c.in-Ok.cleared c.in-Ok.ensures.accepted c.in-Ok.ensures.opened c.in-Ok.ensures.read c.in-Ok-from_ppm.ensures.image c.in-Ok-play_over.ensures.within c.in-Ok.ensures.rules c.in-Ok-play_over.ensures.image

pub returns-in-Err-play_over-clause-refusal : goal.returns-in-Err-play_over-clause-refusal
returns-in-Err-play_over-clause-refusal c =
    over_surface_rejects _ _ _ _ c.in-Ok.cleared c.in-Err-play_over.fault _ c.in-Ok.ensures.accepted c.in-Ok.ensures.read c.in-Ok-from_ppm.ensures.image c.in-Err-play_over.ensures.refusal (search rules) (search rules)

pub returns-in-Err-BadImage-clause-memory : goal.returns-in-Err-BadImage-clause-memory
returns-in-Err-BadImage-clause-memory c = λ e. accepted_opens _ _ c.in-Ok.ensures.accepted

pub returns-in-Err-OutOfMemory-clause-memory : goal.returns-in-Err-OutOfMemory-clause-memory
returns-in-Err-OutOfMemory-clause-memory c = λ e. accepted_opens _ _ c.in-Ok.ensures.accepted

pub returns-in-Err-play_over-clause-memory : goal.returns-in-Err-play_over-clause-memory
returns-in-Err-play_over-clause-memory c = λ e. accepted_opens _ _ c.in-Ok.ensures.accepted
