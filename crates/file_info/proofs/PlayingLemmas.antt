-- A file whose run on the largest surface has no fault plays on every surface, and no other does.
use Rattle.std.proofs.Common.{◌≡◌, ◌⊎◌, inl, inr, ℕ, List, Option, Result, Ok, Err, refl, sym, ◌∙◌, arith}
use Rattle.mapping.specs.Limits.{surface_side_limit}
use Rattle.draw_ops.specs.declared.fault.Fault.{Fault}
use Rattle.draw_ops.specs.declared.fault.Fault.TheVariants.{OutOfMemory}
use Rattle.draw_ops.specs.declared.rules.Rules.{Rules}
use Rattle.meta_headers.specs.Headers.{OpenedValue}
use Rattle.meta_headers.specs.Opening.{surface_for}
use Rattle.meta_headers.specs.OpeningRules.{opened_by}
use Rattle.meta_headers.specs.OpeningLaws.{OpeningLaws}
use Rattle.dc_stack.specs.State.{start_of}
use Rattle.preflight_cert.specs.Apply.{image_after}
use Rattle.preflight_cert.specs.Drawings.{drawings_of}
use Rattle.preflight_cert.specs.Preparation.{Prepares, PreparesIfOpened, StopsPreparing}
use Rattle.preflight_cert.specs.Refusal.{IsWantOfMemory}
use Rattle.preflight_cert.specs.Run.{Rejected, RunEndsInOneWay, rejected, shown, white}
use Rattle.preflight_cert.specs.SizeLaws.{SizeLaws}
use Rattle.preflight_cert.specs.declared.refusal.Refusal.{Refusal}
use Rattle.file_info.specs.Info.{PlaysEverywhere}

-- a file for which a certificate is prepared at the largest bound plays everywhere
pub plays_everywhere : SizeLaws → OpeningLaws → (rules : Rules) (file bytes : List ℕ) → Prepares rules file surface_side_limit surface_side_limit bytes → PlaysEverywhere rules file
plays_everywhere sizes openings rules file bytes prepares = go (opened_by rules file) refl prepares
  where
    go : (r : Result OpenedValue Fault) → opened_by rules file ≡ r → PreparesIfOpened r file surface_side_limit surface_side_limit bytes → PlaysEverywhere rules file
    go (Err fault) is absent = absurd absent
    go (Ok o) is p = λ width height image wide high.
        let largest = surface_for o surface_side_limit surface_side_limit in
        let here = surface_for o width height in
        record {
          after = image_after (drawings_of p.content.steps (start_of o)) here image;
          ends = record {
            headers = o;
            content = p.content;
            of_file = record { opens = is; records = p.of_records };
            unstopped = sizes.unstopped p.content (start_of o) here largest (openings.frame rules file o surface_side_limit surface_side_limit is)
                (record { width = wide; height = high; frame_width = refl; frame_height = refl }) p.unstopped;
            shows = refl;
          };
        }

-- a refusal that isn't a failed allocation is that of the run
pub rejects : (rules : Rules) (file : List ℕ) (r : Refusal) → (StopsPreparing rules file surface_side_limit surface_side_limit r ⊎ IsWantOfMemory r) → (r.fault ≡ OutOfMemory → ⊥)
    → Rejected rules file surface_side_limit surface_side_limit r.number r.fault
rejects rules file r (inl stops) other = stops
rejects rules file r (inr want) other = absurd (other want.fault)

-- a file whose run is rejected there doesn't play everywhere
pub plays_not_everywhere : RunEndsInOneWay → (rules : Rules) (file : List ℕ) (number : Option ℕ) (fault : Fault) → Rejected rules file surface_side_limit surface_side_limit number fault → PlaysEverywhere rules file → ⊥
plays_not_everywhere ends rules file number fault stops plays =
    let image = white surface_side_limit surface_side_limit in
    let one = ends rules file surface_side_limit surface_side_limit image in
    let shows = plays surface_side_limit surface_side_limit image (omega arith) (omega arith) in
    let same : shown shows.after ≡ rejected number fault = one.only (shown shows.after) shows.ends ∙ sym (one.only (rejected number fault) stops) in
    cc
