-- The clips stay placed on the surface.
use Rattle.std.proofs.Common.{◌≡◌, ◌∙◌, List, ap, length, map, subst, sym}
use Rattle.std.specs.List.{All}
use Rattle.mapping.specs.PlaceOf.{surface_of}
use Rattle.mapping.proofs.ChangedLists.{written_back}
use Rattle.dc_stack.specs.Values.{IsPlacedOn}
use Rattle.dc_stack.specs.declared.clip.Clip.{Clip}
use Rattle.dc_stack.specs.declared.dc.Dc.{Dc}
use Rattle.dc_stack.proofs.DeletionLemmas.{placed_same}
use Rattle.dc_stack.proofs.machine.Machine.let_go.Goals as goal

pub invariant_of-self : goal.invariant_of-self
invariant_of-self g c =
    let s = surface_of c.self.inside.place in
    let items = c.self.inside.saved.items in
    let after = c.all_let_go.new.saved in
    let clips = c.self.invariant.clips in
    let clip : Dc → Clip = λ (dc : Dc). dc.clip in
    let same : map clip after ≡ map clip items = c.all_let_go.ensures.clips ∙ ap (map clip) c.as_mut_slice.ensures.value in
    let long : length after ≡ length items = c.all_let_go.auto.saved ∙ ap length c.as_mut_slice.ensures.value in
    let whole = written_back after items c.self.inside.saved.len (long ∙ sym c.self.inside.saved.ok.0) in
    record {
      clips = record {
        now = subst (λ (k : Clip). IsPlacedOn s k) (sym c.let_go.ensures.clip) clips.now;
        saved = subst (λ (ds : List Dc). All (λ (d : Dc). IsPlacedOn s d.clip) ds) (sym whole) (placed_same s items after same clips.saved);
      };
      gathered = c.self.invariant.gathered;
      points = c.self.invariant.points;
    }
