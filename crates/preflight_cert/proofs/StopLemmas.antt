-- Where nothing stops, there is no fault.
use Rattle.std.proofs.Common.{◌≡◌, ℕ, Bool, true, false, cond, Option, Some, None, refl}
use Rattle.std.specs.Option.{option_or}
use Rattle.draw_ops.specs.declared.record_fault.RecordFault.{RecordFault}
use Rattle.preflight_cert.specs.Stop.{Stop, stopped_or}

-- neither here, nor later
pub none_here : (number : ℕ) (fault : Option RecordFault) (later : Option Stop) → stopped_or number fault later ≡ None → fault ≡ None
none_here number None later h = refl
none_here number (Some fault) later h = absurd (cc)

pub none_later : (number : ℕ) (fault : Option RecordFault) (later : Option Stop) → stopped_or number fault later ≡ None → later ≡ None
none_later number None later h = h
none_later number (Some fault) later h = absurd (cc)

-- neither of two
pub none_first : (first second : Option RecordFault) → option_or first second ≡ None → first ≡ None
none_first None second h = refl
none_first (Some fault) second h = absurd (cc)

pub none_second : (first second : Option RecordFault) → option_or first second ≡ None → second ≡ None
none_second None second h = h
none_second (Some fault) second h = absurd (cc)

-- a test that a fault would be without
pub passed : (test : Bool) (fault : RecordFault) → cond test None (Some fault) ≡ None → test ≡ true
passed true fault h = refl
passed false fault h = absurd (cc)
