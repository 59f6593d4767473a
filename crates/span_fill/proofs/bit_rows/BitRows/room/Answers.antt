use Rattle.std.proofs.Common.{◌≡◌, ◌*◌, ◌≤◌, arith, inl, inr}
use Rattle.std.specs.Int.{div_ceil}
use Rattle.std.proofs.lemmas.Bool.{cases_eq, leb-true}
use Rattle.std.proofs.lemmas.Nat.{le-div}
use Rattle.span_fill.specs.BitRows.{word_limit}
use Rattle.span_fill.proofs.bit_rows.BitRows.room.Goals as goal

pub returns-clause-most : goal.returns-clause-most
returns-clause-most c = λ rows limit fits.
    let room = leb-true (rows * div_ceil c.args.columns 64) word_limit fits in
    let words : rows * c.max-stride.result ≤ c.len.result = elim (cases_eq c.args.columns 0) [
      | inl none ↦ let one : c.max-stride.result ≡ 1 = omega arith in rw one (omega arith)
      | inr some ↦ let same : div_ceil c.args.columns 64 ≡ c.max-stride.result = omega arith in rw (← same) (omega (arith, room))
    ] in
    le-div rows c.len.result c.max-stride.result (omega arith) words
