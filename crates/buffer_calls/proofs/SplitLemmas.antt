-- How a text grows whose first bytes are in an array and the others in a buffer.
use Rattle.std.proofs.Common.{◌≡◌, ◌≤◌, ◌∙◌, ℕ, ◌+◌, ◌-◌, List, ◌++◌, length, take, drop, ap, append_assoc, arith, subst, sym, length-append}
use Rattle.std.proofs.lemmas.List.{drop-drop, length-take-le, take-append-drop, take_at}

-- what was written is header and the buffer's first bytes
split_at : (head samples : List ℕ) (at written : ℕ) → written ≡ length head + at → at ≤ length samples → take written (head ++ samples) ≡ head ++ take at samples
split_at head samples at written place within =
    let short = length-take-le at samples within in
    let count = length-append head (take at samples) in
    let parts : head ++ samples ≡ (head ++ take at samples) ++ drop at samples =
    ap (λ (xs : List ℕ). head ++ xs) (sym (take-append-drop at samples)) ∙ sym (append_assoc head (take at samples) (drop at samples)) in
    ap (take written) parts ∙ take_at (head ++ take at samples) (drop at samples) written (omega (arith, short, count, place))

-- more bytes were put after those of the buffer
pub samples_more : (head old new bytes : List ℕ) (at written count : ℕ) → written ≡ length head + at → at ≤ length old → length bytes ≡ count
    → new ≡ take at old ++ bytes ++ drop (at + count) old → take (written + count) (head ++ new) ≡ take written (head ++ old) ++ bytes
samples_more head old new bytes at written count place within size put =
    let rest = drop (at + count) old in
    let short = length-take-le at old within in
    let before = length-append head (take at old) in
    let all = length-append (head ++ take at old) bytes in
    let parts : head ++ new ≡ ((head ++ take at old) ++ bytes) ++ rest =
    ap (λ (xs : List ℕ). head ++ xs) put ∙ sym (append_assoc head (take at old ++ bytes) rest)
    ∙ ap (λ (xs : List ℕ). xs ++ rest) (sym (append_assoc head (take at old) bytes)) in
    ap (take (written + count)) parts
    ∙ take_at ((head ++ take at old) ++ bytes) rest (written + count) (omega (arith, short, before, all, place, size))
    ∙ ap (λ (xs : List ℕ). xs ++ bytes) (sym (split_at head old at written place within))

-- bytes that weren't written are still as they were at the start
pub still_kept : (old start new : List ℕ) (from to : ℕ) → from ≤ to → drop from old ≡ drop from start → new ≡ drop to old → new ≡ drop to start
still_kept old start new from to later kept next =
    let same : from + (to - from) ≡ to = omega (arith, later) in
    next ∙ sym (subst (λ (n : ℕ). drop (to - from) (drop from old) ≡ drop n old) same (drop-drop (to - from) from old))
    ∙ ap (drop (to - from)) kept ∙ subst (λ (n : ℕ). drop (to - from) (drop from start) ≡ drop n start) same (drop-drop (to - from) from start)
