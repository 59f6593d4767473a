use Rattle.std.proofs.Common.{◌∙◌}
use Rattle.mapping.specs.PixelBoxes.{in_box}
use Rattle.dc_stack.specs.Values.{cuts_of}
use Rattle.dc_stack.proofs.BoxLemmas.{any_map}
use Rattle.dc_stack.specs.declared.clip.ClipBox.{ClipBox}
use Rattle.dc_stack.proofs.clip.Clip.cuts_out.Goals as goal

pub returns : goal.returns
returns c = c.any_contains.ensures ∙ any_map (λ (cut : ClipBox). cut.placed) (λ cut. in_box cut c.args.x c.args.y) (cuts_of c.args.self.now)
