-- One state more lets go.
use Rattle.std.proofs.Common.{◌≡◌, ◌<◌, ◌∙◌, ap, arith, get_or, length, map, sym}
use Rattle.std.proofs.Math.ListN.{set}
use Rattle.std.proofs.Math.Seq.{map-set_same}
use Rattle.std.proofs.lemmas.List.{get_or-map, length-map, map-set}
use Rattle.mapping.proofs.ChangedLists.{changed_more}
use Rattle.dc_stack.specs.Deleting.{dc_without}
use Rattle.dc_stack.specs.Values.{dc_value}
use Rattle.dc_stack.specs.declared.clip.Clip.{Clip}
use Rattle.dc_stack.specs.declared.dc.Dc.{Dc}
use Rattle.dc_stack.proofs.machine.objects.all_let_go.Goals as goal

pub loop-dc-preserved : goal.loop-dc-preserved
loop-dc-preserved c =
    let at = c.loop-dc.dc-index in
    let one = c.dc-item.result in
    let before = map dc_value c.args.saved.now in
    let now_ = map dc_value c.loop-dc.saved in
    let new = c.let_go.new.self in
    let free = dc_without c.args.handle.0 in
    let clip : Dc → Clip = λ (dc : Dc). dc.clip in
    let many = length-map c.args.saved.now dc_value in
    let long : length now_ ≡ length before = length-map c.loop-dc.saved dc_value ∙ c.loop-dc.auto.saved ∙ sym many in
    let below = c.loop-dc-test.true in
    let same = c.loop-dc.auto.saved in
    let within : at < length before = omega (arith, below, many) in
    let inside : at < length c.loop-dc.saved = omega (arith, below, same) in
    let here = get_or-map dc_value c.loop-dc.saved at one (dc_value one) inside in
    let after : map dc_value (set c.loop-dc.saved at new) ≡ set now_ at (free (get_or now_ at (dc_value one))) =
    map-set dc_value c.loop-dc.saved at new ∙ ap (set now_ at) (c.let_go.ensures.value ∙ ap free (sym here))
    in
    let more = changed_more free at (dc_value one) before now_ (map dc_value (set c.loop-dc.saved at new)) within long c.loop-dc.invariant.done c.loop-dc.invariant.others after in
    record {
      done = more.0;
      others = more.1;
      clips = map-set_same clip c.loop-dc.saved at new one c.let_go.ensures.clip ∙ c.loop-dc.invariant.clips;
    }
