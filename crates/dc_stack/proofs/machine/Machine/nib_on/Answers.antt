-- The mark of a draw has the nib of its drawing.
use Rattle.std.proofs.Common.{◌≡◌, SomeIff, is_some, refl, subst}
use Rattle.mapping.specs.Nibs.{IsNib, is_nib}
use Rattle.mapping.specs.PlaceOf.{surface_of}
use Rattle.mapping.specs.declared.nib.Nib.{Nib}
use Rattle.dc_stack.specs.Draws.{mark_of}
use Rattle.dc_stack.proofs.MarkingLemmas.{nib_of_mark}
use Rattle.dc_stack.proofs.machine.Machine.nib_on.Goals as goal

pub returns-clause-nib : goal.returns-clause-nib
returns-clause-nib g c =
    let m = c.args.self.now in
    let is = nib_of_mark m.painted c.args.draw.now.mark (mark_of m.painted c.args.draw.now) m (surface_of c.args.place) refl in
    subst (λ (nib : Nib). SomeIff c.mark_nib.result (IsNib nib) nib) is c.mark_nib.ensures.nib

pub returns-clause-test : goal.returns-clause-test
returns-clause-test g c =
    let m = c.args.self.now in
    let is = nib_of_mark m.painted c.args.draw.now.mark (mark_of m.painted c.args.draw.now) m (surface_of c.args.place) refl in
    subst (λ (nib : Nib). is_some c.mark_nib.result ≡ is_nib nib) is c.mark_nib.ensures.test
