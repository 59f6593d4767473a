-- Tables of flags, column by column.
use Rattle.std.proofs.Common.{◌≡◌, inl, inr, ℕ, zero, suc, ◌+◌, ◌-◌, ◌*◌, ◌^◌, ◌<◌, ◌≤◌, ℤ, ◌+ℤ◌, false, Bool, List, [], ◌∷◌, ◌++◌, length, get_or, take, add-one, refl, sym, ap, ◌∙◌, arith}
use Rattle.std.proofs.Math.ListN.{get_or-append}
use Rattle.std.proofs.Math.Seq.{get_or-append_seam}
use Rattle.std.proofs.lemmas.Bool.{cases_lt}
use Rattle.std.proofs.lemmas.Bool.Decides.{nat_tests}
use Rattle.std.proofs.lemmas.Int.{ints}
use Rattle.span_fill.specs.ColumnTables.{AddsColumn, AnswersWinding, AreSmallSums, flag_at}
use Rattle.span_fill.specs.Fill.{crossed_downwards, crossed_upwards, in_fill}
use Rattle.span_fill.specs.Windings.{HasWindings, total}
use Rattle.span_fill.specs.declared.fill_rule.FillRule.{FillRule}
use Rattle.span_fill.specs.declared.line.Line.{Line}

-- one change more is added up
pub total_after : (changes : List ℤ) (k : ℕ) (d : ℤ) → k < length changes → total (take (suc k) changes) ≡ total (take k changes) +ℤ get_or changes k d
total_after [] k d below = absurd (omega (arith, below))
total_after (c ∷ cs) zero d below = omega (arith, ints)
total_after (c ∷ cs) (suc k) d below =
    let rest = total_after cs k d (omega (arith, below)) in
    let long : total (take (suc (suc k)) (c ∷ cs)) ≡ c +ℤ total (take (suc k) cs) = refl in
    let short : total (take (suc k) (c ∷ cs)) ≡ c +ℤ total (take k cs) = refl in
    let here : get_or (c ∷ cs) (suc k) d ≡ get_or cs k d = refl in
    omega (arith, ints, rest, long, short, here)

pub total_more : (changes : List ℤ) (k : ℕ) (d : ℤ) → k < length changes → total (take (k + 1) changes) ≡ total (take k changes) +ℤ get_or changes k d
total_more changes k d below = rw add-one (total_after changes k d below)

-- no more lines lie to the left than there are
few_downwards : (lines : List Line) (x y : ℕ) → crossed_downwards lines x y ≤ length lines
few_downwards [] x y = omega arith
few_downwards (line ∷ lines) x y = let rest = few_downwards lines x y in grind (arith, nat_tests)

few_upwards : (lines : List Line) (x y : ℕ) → crossed_upwards lines x y ≤ length lines
few_upwards [] x y = omega arith
few_upwards (line ∷ lines) x y = let rest = few_upwards lines x y in grind (arith, nat_tests)

pub small_sums : (lines : List Line) (x : ℕ) (changes : List ℤ) → length lines ≤ 2 ^ 20 → HasWindings lines x changes → AreSmallSums changes
small_sums lines x changes few windings zero h = record { low = omega (arith, ints); high = omega (arith, ints) }
small_sums lines x changes few windings (suc y) h =
    let sum = windings y (omega (arith, h)) in
    let downs = few_downwards lines x y in
    let ups = few_upwards lines x y in
    record { low = omega (arith, ints, sum, downs, ups, few); high = omega (arith, ints, sum, downs, ups, few) }

-- the flag of one row more
pub row_added : (rule : FillRule) (changes : List ℤ) (old now_ : List Bool) (row : ℕ) (answer : Bool) → length now_ ≡ length old + row → ((y : ℕ) → y < row → AnswersWinding rule (total (take (suc y) changes)) (get_or now_ (length old + y) false)) → AnswersWinding rule (total (take (suc row) changes)) answer → (y : ℕ) → y < row + 1 → AnswersWinding rule (total (take (suc y) changes)) (get_or (now_ ++ answer ∷ []) (length old + y) false)
row_added rule changes old now_ row answer long before is y below downs ups sum =
    elim (cases_lt y row) [
      | inl there ↦ get_or-append now_ (answer ∷ []) false (length old + y) (omega (arith, long, there)) ∙ before y there downs ups sum
      | inr here ↦ let same : y ≡ row = omega (arith, here, below) in
          let place : length old + y ≡ length now_ = omega (arith, long, same) in
          ap (λ n. get_or (now_ ++ answer ∷ []) n false) place ∙ get_or-append_seam now_ answer [] false ∙ is downs ups (ap (λ n. total (take (suc n) changes)) (sym same) ∙ sum)
    ]

-- the flags of one column more
pub column_added : (rule : FillRule) (lines : List Line) (first column : ℕ) (changes : List ℤ) (old new : List Bool) → first ≤ column → length old ≡ (column - first) * 8192 → HasWindings lines column changes → AddsColumn rule changes old new → ((x y : ℕ) → first ≤ x → x < column → y < 8192 → flag_at old first x y ≡ in_fill rule lines x y) → (x y : ℕ) → first ≤ x → x < column + 1 → y < 8192 → flag_at new first x y ≡ in_fill rule lines x y
column_added rule lines first column changes old new order long windings adds before x y low high row =
    elim (cases_lt x column) [
      | inl there ↦ adds.kept ((x - first) * 8192 + y) (omega (arith, low, there, row, long)) ∙ before x y low there row
      | inr here ↦ let same : column ≡ x = omega (arith, here, high) in
          let place : (x - first) * 8192 + y ≡ length old + y = omega (arith, long, same) in
          let answer = adds.added y row (crossed_downwards lines column y) (crossed_upwards lines column y) (windings y row) in
          ap (λ n. get_or new n false) place ∙ answer ∙ ap (λ n. in_fill rule lines n y) same
    ]
