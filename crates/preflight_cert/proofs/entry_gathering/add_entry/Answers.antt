-- The entry that is appended has the least box and the drawing's nib.
use Rattle.std.proofs.Common.{◌≡◌, [], ◌∷◌, subst, ◌∙◌}
use Rattle.std.proofs.lemmas.List.Elements.{All-cons, All-nil}
use Rattle.dc_stack.specs.Draws.{IsPlacedDraw}
use Rattle.dc_stack.specs.MachineState.{HasNib, drawing_with}
use Rattle.preflight_cert.specs.Budget.{drawing_cells}
use Rattle.preflight_cert.specs.DraftOf.{Adds}
use Rattle.preflight_cert.specs.TextLaws.{IsEntry}
use Rattle.preflight_cert.specs.declared.certificate_entry.Entry.{Entry}
use Rattle.preflight_cert.specs.declared.version.Version.TheVariants.{Mpc2}
use Rattle.preflight_cert.proofs.GatheredLemmas.{reported_entry, reported_is_least}
use Rattle.preflight_cert.proofs.entry_gathering.add_entry.Goals as goal

pub returns-in-Ok-clause-entries : goal.returns-in-Ok-clause-entries
returns-in-Ok-clause-entries g c =
    let d = c.in-Some.drawn in
    let m = c.args.machine.now in
    let placed : IsPlacedDraw m.surface m.painted d = rw c.in-Some.is at c.requires.placed in
    let nib : HasNib m.surface m d = rw c.in-Some.is at c.requires.nib in
    rw c.in-Some.is
    (subst (λ (entry : Entry). Adds c.args.draft.now c.push.new.self (entry ∷ []))
    (c.entry_of-entry.ensures.parts ∙ reported_is_least c.box_law.ensures c.args.number m d placed nib) c.in-Ok.ensures)

pub returns-in-Ok-clause-fits : goal.returns-in-Ok-clause-fits
returns-in-Ok-clause-fits g c =
    let d = c.in-Some.drawn in
    let m = c.args.machine.now in
    let placed : IsPlacedDraw m.surface m.painted d = rw c.in-Some.is at c.requires.placed in
    let nib : HasNib m.surface m d = rw c.in-Some.is at c.requires.nib in
    let reported : IsEntry Mpc2 (reported_entry c.args.number d) = subst (IsEntry Mpc2) c.entry_of-entry.ensures.parts c.entry_of-entry.ensures.fits in
    let fits = subst (IsEntry Mpc2) (reported_is_least c.box_law.ensures c.args.number m d placed nib) reported in
    rw c.in-Some.is (All-cons (IsEntry Mpc2) _ [] fits (All-nil (IsEntry Mpc2)))

pub returns-in-Ok-clause-budget : goal.returns-in-Ok-clause-budget
returns-in-Ok-clause-budget g c =
    let d = c.in-Some.drawn in
    let m = c.args.machine.now in
    let placed : IsPlacedDraw m.surface m.painted d = rw c.in-Some.is at c.requires.placed in
    let nib : HasNib m.surface m d = rw c.in-Some.is at c.requires.nib in
    rw c.in-Some.is
    (subst (λ (entry : Entry). c.drawing_budget.result ≡ drawing_cells (drawing_with m d) entry.nib entry.bounds m.surface)
    (reported_is_least c.box_law.ensures c.args.number m d placed nib) (rw c.entry_of-entry.ensures.parts at c.drawing_budget.ensures.layers))
