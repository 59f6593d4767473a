-- The first extent of records, one record after another.
use Rattle.std.proofs.Common.{◌≡◌, ◌≢◌, ℕ, suc, ◌+◌, ◌-◌, ◌<◌, ℤ, Bool, true, false, cond, eqb, List, take, drop, length, Option, Some, None, is_some, refl, sym, ap, ◌∙◌, arith, add-one}
use Rattle.std.specs.Option.{option_or}
use Rattle.std.proofs.lemmas.Bool.{eq-eqb, ne_eqb}
use Rattle.std.proofs.lemmas.List.{take_rest}
use Rattle.draw_ops.specs.Framed.{framed_from, from_record}
use Rattle.draw_ops.specs.Records.{Framed, Record, framing_fault, leading_of, kind_of, record_limit, rest_of, size_of}
use Rattle.wmf_records.specs.FirstExtent.{extent_in, first_extent_in}
use Rattle.wmf_records.specs.Framing.{wmf_framing}

-- the first extent of the records from the one with this number on
abbrev pub extent_from : ℕ → List ℕ → Option (ℤ × ℤ)
extent_from number bytes = first_extent_in (framed_from wmf_framing (record_limit - number) number bytes).records

by_record : (b : Bool) (r : Record) (rest : List ℕ) (framed : Framed) → first_extent_in (from_record b r rest framed).records ≡ option_or (extent_in r) (cond b None (first_extent_in framed.records))
by_record true r rest framed = refl
by_record false r rest framed = refl

-- it is the first record's, or that of the records behind it
pub stepped : (number : ℕ) (bytes : List ℕ) → number < record_limit → framing_fault wmf_framing number bytes ≡ None → extent_from number bytes ≡ option_or (extent_in (leading_of wmf_framing bytes)) (cond (eqb (kind_of wmf_framing bytes) 0) None (extent_from (suc number) (rest_of wmf_framing bytes)))
stepped number bytes below good =
    let capacity : record_limit - number ≡ suc (record_limit - suc number) = omega arith in
    let later = framed_from wmf_framing (record_limit - suc number) (suc number) (rest_of wmf_framing bytes) in
    rw (capacity, good) (by_record (eqb (kind_of wmf_framing bytes) 0) (leading_of wmf_framing bytes) (rest_of wmf_framing bytes) later)

some_first : (x later : Option (ℤ × ℤ)) → is_some x ≡ true → x ≡ option_or x later
some_first (Some e) later found = refl
some_first None later found = cc

none_first : (x later : Option (ℤ × ℤ)) → is_some x ≡ false → option_or x later ≡ later
none_first (Some e) later none = cc
none_first None later none = refl

module _ (number : ℕ) (bytes : List ℕ) (leading : Record) (x whole : Option (ℤ × ℤ)) (below : number < record_limit) (good : framing_fault wmf_framing number bytes ≡ None) (is : leading ≡ leading_of wmf_framing bytes) (left : extent_from number bytes ≡ whole) (here : x ≡ extent_in leading) where
  by_leading : whole ≡ option_or x (cond (eqb (kind_of wmf_framing bytes) 0) None (extent_from (suc number) (rest_of wmf_framing bytes)))
  by_leading = sym left ∙ rw (here, is) (stepped number bytes below good)

  same_kind : leading.kind ≡ kind_of wmf_framing bytes
  same_kind = ap (λ (r : Record). r.kind) is

  pub found : is_some x ≡ true → x ≡ whole
  found some = some_first x _ some ∙ sym by_leading

  pub ended : is_some x ≡ false → leading.kind ≡ 0 → None ≡ whole
  ended none last =
      let end = eq-eqb _ _ (sym same_kind ∙ last) in
      sym (by_leading ∙ rw end (none_first x None none))

  pub onward : (n : ℕ) → is_some x ≡ false → leading.kind ≢ 0 → n ≡ size_of wmf_framing bytes → extent_from (number + 1) (take (length bytes - n) (drop n bytes)) ≡ whole
  onward n none not_last size =
      let goes_on = ne_eqb _ _ (λ p. not_last (same_kind ∙ p)) in
      rw (take_rest bytes n, size, add-one) (sym (by_leading ∙ rw goes_on (none_first x _ none)))
