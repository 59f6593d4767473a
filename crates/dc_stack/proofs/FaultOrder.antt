-- Which fault of a drawing comes first.
use Rattle.std.proofs.Common.{◌≡◌, Option, Some, None, refl}
use Rattle.std.specs.Option.{option_or}
use Rattle.draw_ops.specs.declared.record_fault.RecordFault.{RecordFault}

pub or_none : (fault : Option RecordFault) → option_or fault None ≡ fault
or_none None = refl
or_none (Some fault) = refl

pub none_of_both : (first second : Option RecordFault) → first ≡ None → second ≡ None → option_or first second ≡ None
none_of_both first second h k = rw (h, k) refl

-- points off the plane come before too wide a nib
pub first_of_both : (fault : RecordFault) (first second : Option RecordFault) → first ≡ Some fault → option_or first second ≡ Some fault
first_of_both fault first second h = rw h refl

-- so do more points than one drawing may have
pub points_first :
    (fault : RecordFault) (edges off nib : Option RecordFault) → option_or edges off ≡ Some fault → option_or edges (option_or off nib) ≡ Some fault
points_first fault (Some g) off nib h = h
points_first fault None off nib h = first_of_both fault off nib h
