-- A record has the same step, whatever follows the end record.
use Rattle.std.proofs.Common.{◌≡◌, ℕ, Bool, true, false, eqb, List, Result, Ok, Err, refl, ap}
use Rattle.std.proofs.lemmas.Bool.{eqb-true}
use Rattle.draw_ops.specs.Meaning.{DecodedValue, Meaning, step_decoded, step_of}
use Rattle.draw_ops.specs.Records.{Framing, Record}
use Rattle.draw_ops.specs.Results.{result_map}
use Rattle.draw_ops.specs.declared.record_fault.RecordFault.{RecordFault}
use Rattle.meta_headers.specs.Opening.{framing_of, meaning_of}
use Rattle.meta_headers.specs.declared.opened.FileFormat.{FileFormat}
use Rattle.listing.specs.Listing.{step_in}

-- a record that doesn't end the file has the same step, whatever lies behind the end
by_last : (b : Bool) (one other : List ℕ) (number : ℕ) (decoded : Result DecodedValue RecordFault) → (b ≡ true → one ≡ other) → result_map (step_decoded b one number) decoded ≡ result_map (step_decoded b other number) decoded
by_last true one other number decoded same = ap (λ (after : List ℕ). result_map (step_decoded true after number) decoded) (same refl)
by_last false one other number (Ok decoded) same = refl
by_last false one other number (Err fault) same = refl

same_step : (f : Framing) (meaning : Meaning) (one other : List ℕ) (number : ℕ) (r : Record) → (r.kind ≡ f.end_kind → one ≡ other) → step_of f meaning one number r ≡ step_of f meaning other number r
same_step f meaning one other number r same = by_last (eqb r.kind f.end_kind) one other number (meaning number r) (λ last. same (eqb-true _ _ last))

pub same_step_in : (format : FileFormat) (one other : List ℕ) (number : ℕ) (r : Record) → (r.kind ≡ (framing_of format).end_kind → one ≡ other) → step_in format one number r ≡ step_in format other number r
same_step_in format one other number r same = same_step (framing_of format) (meaning_of format) one other number r same
