-- The record in front is given, or its fault.
use Rattle.std.proofs.Common.{◌≡◌, ℕ, suc, ◌+◌, Bool, false, eqb, length, drop, sym, ap, ◌∙◌, refl, rules, add-one}
use Rattle.draw_ops.specs.RecordOf.{record_of}
use Rattle.draw_ops.specs.Records.{Framed, record_limit, rest_of}
use Rattle.listing.specs.WalkState.{Walk, framed_left}
use Rattle.listing.proofs.WalkLemmas.{after_end, fault_ahead, record_ahead}
use Rattle.listing.proofs.record_walk.RecordWalk.next_record.Goals as goal

pub overflow_add-self : goal.overflow_add-self
unfolding record_limit
overflow_add-self g c = search rules

pub returns-in-Err : goal.returns-in-Err
returns-in-Err g c =
    let f = g.F.Format.framing in
    let number = c.self.inside.number in
    let rest = c.self.inside.rest.now in
    let unended : c.self.inside.has_ended ≡ false = search rules in
    let was : c.args.self.now.framed ≡ framed_left f false number rest =
    ap (λ (w : Walk). w.framed) (sym c.self.view_is) ∙ ap (λ (b : Bool). framed_left f b number rest) unended in
    record { broken_here = was ∙ fault_ahead f number rest c.in-Err.fault c.in-Err.ensures.fault; stays = refl }

pub returns-in-Ok : goal.returns-in-Ok
returns-in-Ok g c =
    let f = g.F.Format.framing in
    let r = record_of c.in-Ok.record in
    let number = c.self.inside.number in
    let rest = c.self.inside.rest.now in
    let after = c.split_at.result.1.now in
    let unended : c.self.inside.has_ended ≡ false = search rules in
    let was : c.args.self.now.framed ≡ framed_left f false number rest =
    ap (λ (w : Walk). w.framed) (sym c.self.view_is) ∙ ap (λ (b : Bool). framed_left f b number rest) unended in
    let back : after ≡ rest_of f rest = c.split_at.ensures.back ∙ ap (λ (n : ℕ). drop n rest) c.in-Ok.ensures.size in
    let ends : eqb r.kind f.end_kind ≡ eqb r.kind c.end_kind.result = ap (λ (n : ℕ). eqb r.kind n) (sym c.end_kind.ensures) in
    record {
      number = ap (λ (w : Walk). w.number) c.self.view_is;
      place = ap (λ (w : Walk). w.place) c.self.view_is;
      leading = was ∙ record_ahead f number rest r after c.in-Ok.ensures.below_limit c.in-Ok.ensures.fault c.in-Ok.ensures.leading back (eqb r.kind c.end_kind.result) ends;
      after_the_end = λ last.
          after_end f number rest r after c.in-Ok.ensures.below_limit c.in-Ok.ensures.fault c.in-Ok.ensures.leading back last
          ∙ ap (λ (d : Framed). d.after) (sym was);
      next_number = rw add-one (ap suc (ap (λ (w : Walk). w.number) c.self.view_is));
      next_place = ap (λ (w : Walk). w.place + length c.in-Ok.record.bytes.now) c.self.view_is;
    }
