-- The records that a walk through a listing has behind it and in front of it.
use Rattle.std.proofs.Common.{◌≡◌, ℕ, suc, ◌+◌, List, [], ◌∷◌, ◌++◌, length, take, drop, Option, Some, None, codes, refl, sym, ap, subst, ◌∙◌, arith}
use Rattle.std.specs.List.{All}
use Rattle.std.proofs.lemmas.Grind.{flat_map-append}
use Rattle.std.proofs.lemmas.List.{append_assoc, append-nil, drop-drop, length-append, take-append-drop}
use Rattle.std.proofs.Math.Seq.{drop-append_seam, take-append_seam}
use Rattle.std.proofs.lemmas.List.Elements.{All-push}
use Rattle.draw_ops.specs.Framed.{FramedByFunction}
use Rattle.draw_ops.specs.Records.{Broken, Framing, IsSpelledOrBroken, Record, Spells, leading_of, rest_of, size_of}
use Rattle.draw_ops.specs.declared.record_fault.RecordFault.{RecordFault}
use Rattle.draw_ops.specs.declared.rules.Rules.{Rules}
use Rattle.meta_headers.specs.Formats.{format_of}
use Rattle.meta_headers.specs.Opening.{framing_of, record_bytes}
use Rattle.meta_headers.specs.declared.opened.FileFormat.{FileFormat}
use Rattle.meta_headers.specs.declared.opened.FileFormat.TheVariants.{Placeable, Plain, Emf}
use Rattle.listing.specs.FileRecords.{BreaksAt, HasRecord, bytes_of, place_after}
use Rattle.listing.specs.Formats.{first_place}
use Rattle.listing.specs.Listing.{framed_records, listing_of}
use Rattle.listing.specs.ListingLaws.{HasLine, IsOneLine, text_of_lines}

-- the bytes begin with those of records
record BeginsWith (bytes : List ℕ) (records : List Record) : Type 0 where
  rest : List ℕ
  same : bytes ≡ bytes_of records ++ rest

ahead_of : (f : Framing) (bytes : List ℕ) (r : Record) (rs : List Record) → r ≡ leading_of f bytes → BeginsWith (rest_of f bytes) rs → BeginsWith bytes (r ∷ rs)
ahead_of f bytes r rs leading onward = record {
  rest = onward.rest;
  same =
      sym (take-append-drop (size_of f bytes) bytes)
      ∙ ap (λ (more : List ℕ). take (size_of f bytes) bytes ++ more) onward.same
      ∙ ap (λ (q : Record). q.bytes ++ (bytes_of rs ++ onward.rest)) (sym leading)
      ∙ sym (append_assoc r.bytes (bytes_of rs) onward.rest);
}

spelled : (f : Framing) (number : ℕ) (bytes : List ℕ) (rs : List Record) (after : List ℕ) → Spells f number bytes rs after → BeginsWith bytes rs
spelled f number bytes [] after h = absurd h
spelled f number bytes (r ∷ []) after h = ahead_of f bytes r [] h.leading (record { rest = rest_of f bytes; same = refl })
spelled f number bytes (r ∷ s ∷ rs) after h = ahead_of f bytes r (s ∷ rs) h.leading (spelled f (suc number) (rest_of f bytes) (s ∷ rs) after h.onward)

broken : (f : Framing) (number : ℕ) (bytes : List ℕ) (rs : List Record) (fault : RecordFault) → Broken f number bytes rs fault → BeginsWith bytes rs
broken f number bytes [] fault h = record { rest = bytes; same = refl }
broken f number bytes (r ∷ rs) fault h = ahead_of f bytes r rs h.leading (broken f (suc number) (rest_of f bytes) rs fault h.onward)

by_fault : (f : Framing) (bytes : List ℕ) (rs : List Record) (fault : Option RecordFault) (after : List ℕ) → IsSpelledOrBroken f 0 bytes rs fault after → BeginsWith bytes rs
by_fault f bytes rs None after h = spelled f 0 bytes rs after h
by_fault f bytes rs (Some fault) after h = broken f 0 bytes rs fault h.broken

-- they stand behind the headers
after_headers : (format : FileFormat) (file : List ℕ) → record_bytes format file ≡ drop (first_place format) file
after_headers Placeable file = refl
after_headers Plain file = refl
after_headers Emf file = refl

-- so a record's bytes lie behind those before it
there : (by_function : FramedByFunction) (file : List ℕ) (format : FileFormat) (before : List Record) (r : Record) (after : List Record) → (framed_records format file).records ≡ before ++ r ∷ after → take (length r.bytes) (drop (place_after format before) file) ≡ r.bytes
there by_function file format before r after among =
    let f = framing_of format in
    let bytes = record_bytes format file in
    let framed = framed_records format file in
    let all : BeginsWith bytes framed.records = by_fault f bytes framed.records framed.fault framed.after (by_function f bytes) in
    let more = bytes_of after ++ all.rest in
    let parted : bytes ≡ bytes_of before ++ (r.bytes ++ more) =
    all.same
    ∙ ap (λ (rs : List Record). bytes_of rs ++ all.rest) among
    ∙ ap (λ (text : List ℕ). text ++ all.rest) (flat_map-append (λ (q : Record). q.bytes) before (r ∷ after))
    ∙ append_assoc (bytes_of before) (r.bytes ++ bytes_of after) all.rest
    ∙ ap (λ (text : List ℕ). bytes_of before ++ text) (append_assoc r.bytes (bytes_of after) all.rest) in
    let at_place : drop (place_after format before) file ≡ r.bytes ++ more =
    sym (drop-drop (length (bytes_of before)) (first_place format) file)
    ∙ ap (λ (text : List ℕ). drop (length (bytes_of before)) text) (sym (after_headers format file) ∙ parted)
    ∙ drop-append_seam (bytes_of before) (r.bytes ++ more) in
    ap (λ (text : List ℕ). take (length r.bytes) text) at_place ∙ take-append_seam r.bytes more

-- A listing up to the record with this number, which begins at this place, and what is left: lines, and the records that they tell; the records
-- and the fault behind them, and their text.
pub record IsReached (rules : Rules) (file : List ℕ) (format : FileFormat) (number place : ℕ) (rs : List Record) (ending : Option RecordFault) (left : List ℕ) : Type 0 where
  pub of_format : format_of file ≡ Some format
  pub lines : List (List ℕ)
  pub earlier : List Record
  pub reported : length lines ≡ number
  pub plain : All IsOneLine lines
  pub counted : length earlier ≡ number
  pub begins : place ≡ place_after format earlier
  pub among : (framed_records format file).records ≡ earlier ++ rs
  pub ends : (framed_records format file).fault ≡ ending
  pub text : listing_of rules file ≡ text_of_lines lines ++ left

-- the record in front of others is the file's own
pub own_record : (by_function : FramedByFunction) {rules : Rules} {file left : List ℕ} {format : FileFormat} {number place : ℕ} {r : Record} {rs : List Record} {ending : Option RecordFault} → IsReached rules file format number place (r ∷ rs) ending left → HasRecord file format number place r
own_record by_function {file = file} {format = format} {r = r} {rs = rs} reached = record {
  of_format = reached.of_format;
  before = reached.earlier;
  after = rs;
  framed = reached.among;
  count = reached.counted;
  begins = reached.begins;
  there =
      ap (λ (at : ℕ). take (length r.bytes) (drop at file)) reached.begins
      ∙ there by_function file format reached.earlier r rs reached.among;
}

-- where none is left, the break is
pub own_break : {rules : Rules} {file left : List ℕ} {format : FileFormat} {number place : ℕ} {fault : RecordFault} → IsReached rules file format number place [] (Some fault) left → BreaksAt file format number place fault
own_break {format = format} reached =
    let all = reached.among ∙ append-nil reached.earlier in
    record {
      of_format = reached.of_format;
      broken = reached.ends;
      count = ap (λ (rs : List Record). length rs) all ∙ reached.counted;
      begins = reached.begins ∙ ap (place_after format) (sym all);
    }

-- the line in front of the text that is left, and the last one
pub line_here : {rules : Rules} {file : List ℕ} {format : FileFormat} {number place : ℕ} {rs : List Record} {ending : Option RecordFault} (line rest there : List ℕ) (other : ℕ) → IsReached rules file format number place rs ending (line ++ rest) → number ≡ other → line ≡ there → HasLine (listing_of rules file) other there
line_here line rest there other reached count same = record {
  before = reached.lines;
  count = reached.reported ∙ count;
  plain = reached.plain;
  after = rest;
  here =
      reached.text ∙ ap (λ (l : List ℕ). text_of_lines reached.lines ++ (l ++ rest)) same
      ∙ sym (append_assoc (text_of_lines reached.lines) there rest);
}

pub line_last : {rules : Rules} {file : List ℕ} {format : FileFormat} {number place : ℕ} {rs : List Record} {ending : Option RecordFault} (line there : List ℕ) (other : ℕ) → IsReached rules file format number place rs ending line → number ≡ other → line ≡ there → HasLine (listing_of rules file) other there
line_last line there other reached count same = record {
  before = reached.lines;
  count = reached.reported ∙ count;
  plain = reached.plain;
  after = [];
  here =
      reached.text ∙ ap (λ (l : List ℕ). text_of_lines reached.lines ++ l) same
      ∙ sym (append-nil (text_of_lines reached.lines ++ there));
}

-- a line more
one_more : (before : List (List ℕ)) (line rest : List ℕ) → text_of_lines before ++ ((line ++ codes "\n") ++ rest) ≡ text_of_lines (before ++ line ∷ []) ++ rest
one_more before line rest =
    sym (append_assoc (text_of_lines before) (line ++ codes "\n") rest)
    ∙ ap (λ (text : List ℕ). text_of_lines before ++ text ++ rest) (sym (append-nil (line ++ codes "\n")))
    ∙ ap (λ (text : List ℕ). text ++ rest) (sym (flat_map-append (λ (l : List ℕ). l ++ codes "\n") before (line ∷ [])))

-- so the record behind this one is reached
pub reached_next : {rules : Rules} {file : List ℕ} {format : FileFormat} {number place : ℕ} {r : Record} {rs : List Record} {ending : Option RecordFault} (line rest : List ℕ) → IsOneLine line → IsReached rules file format number place (r ∷ rs) ending ((line ++ codes "\n") ++ rest) → IsReached rules file format (suc number) (place + length r.bytes) rs ending rest
reached_next {format = format} {number = number} {place = place} {r = r} {rs = rs} line rest plain reached =
    let lines_sum = length-append reached.lines (line ∷ []) in
    let records_sum = length-append reached.earlier (r ∷ []) in
    let bytes_sum : length (bytes_of (reached.earlier ++ r ∷ [])) ≡ length (bytes_of reached.earlier) + length r.bytes =
    ap (λ (bytes : List ℕ). length bytes) (flat_map-append (λ (q : Record). q.bytes) reached.earlier (r ∷ []))
    ∙ length-append (bytes_of reached.earlier) (bytes_of (r ∷ []))
    ∙ ap (λ (bytes : List ℕ). length (bytes_of reached.earlier) + length bytes) (append-nil r.bytes) in
    let reported = reached.reported in
    let begins = reached.begins in
    let counted = reached.counted in
    record {
      of_format = reached.of_format;
      lines = reached.lines ++ line ∷ [];
      earlier = reached.earlier ++ r ∷ [];
      reported = omega (arith, lines_sum, reported);
      plain = All-push IsOneLine reached.lines line reached.plain plain;
      counted = omega (arith, records_sum, counted);
      begins = omega (arith, begins, bytes_sum);
      among = reached.among ∙ sym (append_assoc reached.earlier (r ∷ []) rs);
      ends = reached.ends;
      text = reached.text ∙ one_more reached.lines line rest;
    }

-- the last of records that are spelled is the end record, where it stands behind others
last_of : (f : Framing) (number : ℕ) (bytes : List ℕ) (rs : List Record) (after : List ℕ) → Spells f number bytes rs after
    → (earlier : List Record) (r : Record) → rs ≡ earlier ++ r ∷ [] → r.kind ≡ f.end_kind
last_of f number bytes [] after h earlier r e = absurd h
last_of f number bytes (q ∷ []) after h [] r e = let same : q ≡ r = cc in ap (λ (p : Record). p.kind) (sym same) ∙ h.last
last_of f number bytes (q ∷ []) after h (p ∷ []) r e = absurd (cc)
last_of f number bytes (q ∷ []) after h (p ∷ o ∷ ps) r e = absurd (cc)
last_of f number bytes (q ∷ s ∷ rs) after h [] r e = absurd (cc)
last_of f number bytes (q ∷ s ∷ rs) after h (p ∷ ps) r e =
    last_of f (suc number) (rest_of f bytes) (s ∷ rs) after h.onward ps r (cc)

-- so the record behind which nothing is left ends the file
pub end_reached : (by_function : FramedByFunction) {rules : Rules} {file left : List ℕ} {format : FileFormat} {number place : ℕ} {r : Record} → IsReached rules file format number place (r ∷ []) None left → r.kind ≡ (framing_of format).end_kind
end_reached by_function {file = file} {format = format} {r = r} reached =
    let f = framing_of format in
    let bytes = record_bytes format file in
    let framed = framed_records format file in
    let spells : Spells f 0 bytes framed.records framed.after =
    subst (λ (fault : Option RecordFault). IsSpelledOrBroken f 0 bytes framed.records fault framed.after) reached.ends (by_function f bytes) in
    last_of f 0 bytes framed.records framed.after spells reached.earlier r reached.among
