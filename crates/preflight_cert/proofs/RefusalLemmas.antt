-- A step that is refused is where its records stop, or memory was wanted.
use Rattle.std.proofs.Common.{◌≡◌, ◌⊎◌, ℕ, ◌+◌, List, length, inl, inr, Option, Some, None, refl, sym, ap, ◌∙◌, arith}
use Rattle.std.specs.Option.{option_map, option_or}
use Rattle.mapping.specs.Surface.{Surface}
use Rattle.draw_ops.specs.Content.{Content, StepValue, broken_by, with_step}
use Rattle.draw_ops.specs.declared.fault.Fault.{Fault}
use Rattle.draw_ops.specs.declared.fault.Fault.TheVariants.{Record}
use Rattle.draw_ops.specs.declared.record_fault.RecordFault.{RecordFault}
use Rattle.dc_stack.specs.MachineState.{MachineState, RejectsStep}
use Rattle.dc_stack.specs.OperationFault.{fault_of}
use Rattle.dc_stack.specs.State.{State}
use Rattle.preflight_cert.specs.Checked.{checked, left_over}
use Rattle.preflight_cert.specs.NextStep.{ReportsBroken, ReportsRejectedStep}
use Rattle.preflight_cert.specs.Refusal.{IsWantOfMemory, ReportsStop, number_reported}
use Rattle.preflight_cert.specs.Stop.{Stop, end_of, stop_at, stopped}
use Rattle.preflight_cert.specs.declared.certificate_entry.Entry.{Entry}
use Rattle.preflight_cert.specs.declared.refusal.Refusal.{Refusal}

-- the fault that was found is told, in the record with this number
record ReportedAt (found : Option RecordFault) (n : ℕ) (r : Refusal) : Type 0 where
  here : RecordFault
  there : found ≡ Some here
  number : r.number ≡ Some n
  fault : r.fault ≡ Record here

reported_at : (found : Option RecordFault) (fault : Fault) (number : ℕ) (r : Refusal) → option_map Record found ≡ Some fault → r.number ≡ number_reported number fault → r.fault ≡ fault → ReportedAt found number r
reported_at None fault number r h numbered by = cc
reported_at (Some here) fault number r h numbered by =
    let same : fault ≡ Record here = cc in record { here = here; there = refl; number = rw same at numbered; fault = by ∙ same }

reported_or_wanted : (step : StepValue) (m : MachineState) (fault : Fault) (r : Refusal) → RejectsStep step.operation m fault → r.number ≡ number_reported step.number fault → r.fault ≡ fault
    → ReportedAt (fault_of step.operation m.state m.surface) step.number r ⊎ IsWantOfMemory r
reported_or_wanted step m fault r (inl found) numbered by = inl (reported_at (fault_of step.operation m.state m.surface) fault step.number r found numbered by)
reported_or_wanted step m fault r (inr wants) numbered by = inr (record { number = rw wants.memory at numbered; fault = by ∙ wants.memory })

-- where entries are checked
check_rejected : (whole after : Option Stop) (count : ℕ) (left rest : Content) (step : StepValue) (m : MachineState) (entries : List Entry) (fault : Fault) (r : Refusal)
    → whole ≡ checked left.steps after count m.state m.surface entries → left ≡ with_step step rest
    → RejectsStep step.operation m fault → r.number ≡ number_reported step.number fault → r.fault ≡ fault → ReportsStop whole r ⊎ IsWantOfMemory r
check_rejected whole after count left rest step m entries fault r order begins rejected numbered by = elim (reported_or_wanted step m fault r rejected numbered by) [
  | inl reported ↦ inl (record { at = stop_at step.number reported.here; stops = order ∙ rw (begins, reported.there) refl; number = reported.number; fault = reported.fault })
  | inr wants ↦ inr wants
]

-- and where they are gathered
gathering_rejected : (whole after : Option Stop) (left rest : Content) (step : StepValue) (m : MachineState) (fault : Fault) (r : Refusal)
    → whole ≡ stopped left.steps after m.state m.surface → left ≡ with_step step rest
    → RejectsStep step.operation m fault → r.number ≡ number_reported step.number fault → r.fault ≡ fault → ReportsStop whole r ⊎ IsWantOfMemory r
gathering_rejected whole after left rest step m fault r order begins rejected numbered by = elim (reported_or_wanted step m fault r rejected numbered by) [
  | inl reported ↦ inl (record { at = stop_at step.number reported.here; stops = order ∙ rw (begins, reported.there) refl; number = reported.number; fault = reported.fault })
  | inr wants ↦ inr wants
]

-- where records break of which these are left, so many having come before
broken_here : (start : State) (whole left : Content) (before : ℕ) (fault : RecordFault) → left ≡ broken_by fault → before + length left.steps ≡ length whole.steps → left.fault ≡ whole.fault
    → end_of whole start ≡ Some (stop_at before fault)
broken_here start whole left before fault is count same =
    let none : length left.steps ≡ 0 = ap (λ (c : Content). length c.steps) is in
    let all : length whole.steps ≡ before = omega (arith, none, count) in
    let there : whole.fault ≡ Some fault = sym same ∙ ap (λ (c : Content). c.fault) is in
    rw (all, there) refl

gathering_broken : (start : State) (stop : Option Stop) (whole left : Content) (before : ℕ) (state : State) (s : Surface) (fault : RecordFault) (r : Refusal)
    → stop ≡ stopped left.steps (end_of whole start) state s → left ≡ broken_by fault → before + length left.steps ≡ length whole.steps → left.fault ≡ whole.fault
    → r.number ≡ Some before → r.fault ≡ Record fault → ReportsStop stop r
gathering_broken start stop whole left before state s fault r order is count same number by = record {
  at = stop_at before fault;
  stops = order ∙ ap (λ (c : Content). stopped c.steps (end_of whole start) state s) is ∙ broken_here start whole left before fault is count same;
  number = number;
  fault = by;
}

check_broken : (start : State) (stop : Option Stop) (whole left : Content) (before : ℕ) (state : State) (s : Surface) (entries : List Entry) (fault : RecordFault) (r : Refusal)
    → stop ≡ checked left.steps (end_of whole start) (length whole.steps) state s entries → left ≡ broken_by fault → before + length left.steps ≡ length whole.steps
    → left.fault ≡ whole.fault → r.number ≡ Some before → r.fault ≡ Record fault → ReportsStop stop r
check_broken start stop whole left before state s entries fault r order is count same number by = record {
  at = stop_at before fault;
  stops =
      order ∙ ap (λ (c : Content). checked c.steps (end_of whole start) (length whole.steps) state s entries) is
      ∙ ap (λ (b : Option Stop). option_or b (left_over (length whole.steps) entries)) (broken_here start whole left before fault is count same);
  number = number;
  fault = by;
}

-- so the refusal of what is played next tells where the whole stops
module _ (start : State) (stop : Option Stop) (whole left : Content) (before : ℕ) (m : MachineState) (r : Refusal) (count : before + length left.steps ≡ length whole.steps) (same : left.fault ≡ whole.fault)
    (rejected : ReportsBroken left before r ⊎ ReportsRejectedStep left m r) where
  pub check_stops : (entries : List Entry) → stop ≡ checked left.steps (end_of whole start) (length whole.steps) m.state m.surface entries → ReportsStop stop r ⊎ IsWantOfMemory r
  check_stops entries order = elim rejected [
    | inl h ↦ inl (check_broken start stop whole left before m.state m.surface entries h.fault r order h.broken count same h.number h.reported)
    | inr h ↦ check_rejected stop (end_of whole start) (length whole.steps) left h.rest h.step m entries h.fault r order h.first h.rejected h.number h.reported
  ]

  pub gathering_stops : stop ≡ stopped left.steps (end_of whole start) m.state m.surface → ReportsStop stop r ⊎ IsWantOfMemory r
  gathering_stops order = elim rejected [
    | inl h ↦ inl (gathering_broken start stop whole left before m.state m.surface h.fault r order h.broken count same h.number h.reported)
    | inr h ↦ gathering_rejected stop (end_of whole start) left h.rest h.step m h.fault r order h.first h.rejected h.number h.reported
  ]
