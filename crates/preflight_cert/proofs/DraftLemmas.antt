-- A draft with one entry more, with all nibs, and with its head.
use Rattle.std.proofs.Common.{◌≡◌, Bool, true, false, ◌&&◌, not, ◌==◌, if◌then◌else◌, ℕ, zero, suc, ◌+◌, ◌-◌, ◌*◌, ◌/◌, ◌<◌, ◌≤◌, ◌^◌, List, [], ◌∷◌, ◌++◌, length, drop, take, replicate, refl, ap, sym, subst, ◌∙◌, arith}
use Rattle.std.specs.List.{flat_map}
use Rattle.std.proofs.Math.Nat.{mul-div_cancel_left}
use Rattle.std.proofs.lemmas.Bool.{and_parts, eqb-true}
use Rattle.std.proofs.lemmas.List.{append_assoc, append-nil, drop-append-le, drop-drop, drop-take, drop_all, drop_at, flat_map_more, length-append, length-drop, length-take-le, take-take, take_all}
use Rattle.std.proofs.lemmas.List.Folds.{list_all-append}
use Rattle.mapping.specs.declared.nib.Nib.{Nib}
use Rattle.draw_ops.specs.RuleSets.{allowance_bits, is_print}
use Rattle.draw_ops.specs.declared.rules.Rules.{Rules}
use Rattle.span_fill.specs.WideStrokes.{one_pixel}
use Rattle.preflight_cert.specs.CertificateReading.{entry_size, signature_of, print_signature}
use Rattle.preflight_cert.specs.CertificateText.{HeadValue, entry_text, nib_text, number_text, text_with}
use Rattle.preflight_cert.specs.DraftOf.{Adds, Holds, StandIn, space_for}
use Rattle.preflight_cert.specs.Preparation.{have_single_pixels, version_for}
use Rattle.preflight_cert.specs.TextParts.{bound_text, head_text, totals_text}
use Rattle.preflight_cert.specs.declared.draft.Draft.{Draft}
use Rattle.preflight_cert.specs.declared.certificate_entry.Entry.{Entry}
use Rattle.preflight_cert.specs.declared.version.Version.{Version}
use Rattle.preflight_cert.specs.declared.version.Version.TheVariants.{Mpc1, Mpc2}
use Rattle.preflight_cert.proofs.CertificateTextLemmas.{length-entries}
use Rattle.preflight_cert.proofs.EntryLemmas.{entry_least}
use Rattle.preflight_cert.proofs.TextPartLemmas.{parts_with}
use borrow.Rule.Slice.PartMut.{post_of, put_mid}

-- a nib of one pixel
abbrev a_nib : ℕ → ℕ → Nib
a_nib x y = record { x = x; y = y }

pub one_is : (nib : Nib) → (nib.x == 1 && nib.y == 1) ≡ true → nib ≡ one_pixel
one_is nib t =
    let parts = and_parts (nib.x == 1) (nib.y == 1) t in
    ap (λ (x : ℕ). a_nib x nib.y) (eqb-true _ _ parts.0) ∙ ap (λ (y : ℕ). a_nib 1 y) (eqb-true _ _ parts.1)

-- the version of entries, and of one more
abbrev version_by : Rules → Bool → Version
version_by rules single = if not (is_print rules) && single then Mpc1 else Mpc2

both : (first second : Bool) → (first && (second && true)) ≡ (first && second)
both first true = refl
both first false = refl

with_true : (first : Bool) → (first && true) ≡ first
with_true true = refl
with_true false = refl

with_false : (first : Bool) → (first && false) ≡ false
with_false true = refl
with_false false = refl

singles_then : (entries : List Entry) (entry : Entry) (test : Bool) → (entry.nib.x == 1 && entry.nib.y == 1) ≡ test
    → have_single_pixels (entries ++ (entry ∷ [])) ≡ (have_single_pixels entries && test)
singles_then entries entry test e =
    list_all-append (λ (one : Entry). one.nib.x == 1 && one.nib.y == 1) entries (entry ∷ [])
    ∙ both (have_single_pixels entries) (entry.nib.x == 1 && entry.nib.y == 1) ∙ ap (λ (t : Bool). have_single_pixels entries && t) e

pub plain_then : (rules : Rules) (entries : List Entry) (entry : Entry) → (entry.nib.x == 1 && entry.nib.y == 1) ≡ true
    → version_for rules (entries ++ (entry ∷ [])) ≡ version_for rules entries
plain_then rules entries entry e = ap (version_by rules) (singles_then entries entry true e ∙ with_true (have_single_pixels entries))

without_single : (fine : Bool) → (if not fine && false then Mpc1 else Mpc2) ≡ Mpc2
without_single true = refl
without_single false = refl

pub wide_then : (rules : Rules) (entries : List Entry) (entry : Entry) → (entry.nib.x == 1 && entry.nib.y == 1) ≡ false
    → version_for rules (entries ++ (entry ∷ [])) ≡ Mpc2
wide_then rules entries entry e =
    ap (version_by rules) (singles_then entries entry false e ∙ with_false (have_single_pixels entries)) ∙ without_single (is_print rules)

-- a draft of the first version is one of the core profile, and each of its nibs is one pixel
pub first_is_core : (fine single : Bool) → (if not fine && single then Mpc1 else Mpc2) ≡ Mpc1 → (fine ≡ false) × (single ≡ true)
first_is_core true single e = absurd (cc)
first_is_core false true e = (refl, refl)
first_is_core false false e = absurd (cc)

-- one entry more
pub stand_then : (space : ℕ) (version : Version) (old new : List ℕ) (entries : List Entry) (entry : Entry) → StandIn space version old entries
    → new ≡ old ++ entry_text version entry → StandIn space version new (entries ++ (entry ∷ []))
stand_then space version old new entries entry h e =
    let capacity = h.capacity in
    let size : length new ≡ length old + length (entry_text version entry) = ap length e ∙ length-append old (entry_text version entry) in
    record {
      capacity = omega (arith, capacity, size);
      after = ap (λ (bytes : List ℕ). drop space bytes) e ∙ drop-append-le space old (entry_text version entry) capacity
          ∙ ap (λ (bytes : List ℕ). bytes ++ entry_text version entry) h.after ∙ flat_map_more (entry_text version) [] entries entry;
    }

-- entries in a row of additions
pub adds_none : (draft : Draft) → Adds draft draft []
adds_none draft rules before h = subst (Holds rules draft) (sym (append-nil before)) h

pub adds_then : (old draft new : Draft) (first second : List Entry) → Adds old draft first → Adds draft new second → Adds old new (first ++ second)
adds_then old draft new first second f g rules before h = subst (Holds rules new) (append_assoc before first second) (g rules (before ++ first) (f rules before h))

-- the entry at an index, whose nib is one pixel if each is
record IsAt (index : ℕ) (entries : List Entry) : Type 0 where
  pub entry : Entry
  pub first : drop index entries ≡ entry ∷ drop (suc index) entries
  pub plain : have_single_pixels entries ≡ true → entry.nib ≡ one_pixel

at : (index : ℕ) (entries : List Entry) → index < length entries → IsAt index entries
at index [] h = absurd (omega (arith, h))
at zero (entry ∷ entries) h = record {
  entry = entry;
  first = refl;
  plain = λ t. one_is entry.nib (and_parts (entry.nib.x == 1 && entry.nib.y == 1) (have_single_pixels entries) t).0;
}
at (suc index) (entry ∷ entries) h =
    let later = at index entries (omega (arith, h)) in
    record {
      entry = later.entry;
      first = later.first;
      plain = λ t. later.plain (and_parts (entry.nib.x == 1 && entry.nib.y == 1) (have_single_pixels entries) t).1;
    }

abbrev plain_text : List Entry → List ℕ
plain_text entries = flat_map (entry_text Mpc1) entries

abbrev wide_text : List Entry → List ℕ
wide_text entries = flat_map (entry_text Mpc2) entries

-- the bytes from the entry at an index on
from_entry : (index : ℕ) (entries : List Entry) (after : List ℕ) → index ≤ length entries
    → drop (20 * index) (plain_text entries ++ after) ≡ plain_text (drop index entries) ++ after
from_entry zero entries after h = refl
from_entry (suc index) [] after h = absurd (omega (arith, h))
from_entry (suc index) (entry ∷ entries) after h =
    let e : 20 * suc index ≡ 20 + 20 * index = omega arith in
    ap (λ (n : ℕ). drop n (plain_text (entry ∷ entries) ++ after)) e
    ∙ sym (drop-drop (20 * index) 20 (plain_text (entry ∷ entries) ++ after))
    ∙ from_entry index entries after (omega (arith, h))

first_entry_text : (entry : Entry) (rest after : List ℕ) → take 20 ((entry_text Mpc1 entry ++ rest) ++ after) ≡ entry_text Mpc1 entry
first_entry_text entry rest after = refl

with_nib : (entry : Entry) (rest : List ℕ) → entry.nib ≡ one_pixel → entry_text Mpc1 entry ++ (nib_text Mpc2 one_pixel ++ rest) ≡ entry_text Mpc2 entry ++ rest
with_nib entry rest e = ap (λ (nib : Nib). entry_text Mpc1 entry ++ (nib_text Mpc2 nib ++ rest)) (sym e)

-- what stands where an entry is to be moved from
piece_at : (n : ℕ) (start old : List ℕ) → take (n + 20) old ≡ take (n + 20) start → take 20 (drop n old) ≡ take 20 (drop n start)
piece_at n start old e = sym (drop-take n 20 old) ∙ ap (λ (bytes : List ℕ). drop n bytes) e ∙ drop-take n 20 start

-- one entry more has been moved
pub moved : (index : ℕ) (start old new : List ℕ) (entries : List Entry) (after : List ℕ) → index < length entries → have_single_pixels entries ≡ true
    → start ≡ plain_text entries ++ after → take (20 * index + 20) old ≡ take (20 * index + 20) start
    → drop (24 * index) new ≡ take 20 (drop (20 * index) old) ++ (nib_text Mpc2 one_pixel ++ drop (24 * index + 24) old)
    → drop (24 * index + 24) old ≡ wide_text (drop (suc index) entries) → drop (24 * index) new ≡ wide_text (drop index entries)
moved index start old new entries after inside single whole same put later =
    let one = at index entries inside in
    let here : take 20 (drop (20 * index) start) ≡ entry_text Mpc1 one.entry =
    ap (λ (bytes : List ℕ). take 20 (drop (20 * index) bytes)) whole
    ∙ ap (λ (bytes : List ℕ). take 20 bytes) (from_entry index entries after (omega (arith, inside)))
    ∙ ap (λ (left : List Entry). take 20 (plain_text left ++ after)) one.first in
    put ∙ ap (λ (bytes : List ℕ). bytes ++ (nib_text Mpc2 one_pixel ++ drop (24 * index + 24) old)) (piece_at (20 * index) start old same ∙ here)
    ∙ ap (λ (bytes : List ℕ). entry_text Mpc1 one.entry ++ (nib_text Mpc2 one_pixel ++ bytes)) later
    ∙ with_nib one.entry (wide_text (drop (suc index) entries)) (one.plain single)
    ∙ ap wide_text (sym one.first)

-- the same, where so many are left that one less is the index
pub prefix_less : (m n : ℕ) (old start : List ℕ) → m ≤ n → take n old ≡ take n start → take m old ≡ take m start
prefix_less m n old start h e = sym (take-take m n old h) ∙ ap (λ (bytes : List ℕ). take m bytes) e ∙ take-take m n start h

pub moved_next : (left : ℕ) (start old new : List ℕ) (entries : List Entry) (after : List ℕ) → 0 < left → left ≤ length entries
    → have_single_pixels entries ≡ true → start ≡ plain_text entries ++ after → take (20 * left) old ≡ take (20 * left) start
    → drop (24 * (left - 1)) new ≡ take 20 (drop (20 * (left - 1)) old) ++ (nib_text Mpc2 one_pixel ++ drop (24 * (left - 1) + 24) old)
    → drop (24 * left) old ≡ wide_text (drop left entries) → drop (24 * (left - 1)) new ≡ wide_text (drop (left - 1) entries)
moved_next left start old new entries after some few single whole same put later =
    let place : 20 * left ≡ 20 * (left - 1) + 20 = omega (arith, some) in
    let wide : 24 * left ≡ 24 * (left - 1) + 24 = omega (arith, some) in
    let next : left ≡ suc (left - 1) = omega (arith, some) in
    moved (left - 1) start old new entries after (omega (arith, some, few)) single whole
    (subst (λ (n : ℕ). take n old ≡ take n start) place same) put
    (subst (λ (n : ℕ). drop n old ≡ wide_text (drop (suc (left - 1)) entries)) wide
    (subst (λ (n : ℕ). drop (24 * left) old ≡ wide_text (drop n entries)) next later))

-- what stands behind a head, in bytes that were put there
pub put_after : (now bytes : List ℕ) → 40 ≤ length now → length bytes ≡ length now - 40
    → drop 40 (put_mid 40 (length now - 40) now bytes) ≡ bytes
put_after now bytes capacity size =
    let none : post_of 40 (length now - 40) now ≡ [] = drop_all (length now - 40) (drop 40 now) (let e = length-drop 40 now in omega (arith, e)) in
    drop_at (take 40 now) (bytes ++ post_of 40 (length now - 40) now) 40 (length-take-le 40 now capacity)
    ∙ ap (λ (rest : List ℕ). bytes ++ rest) none ∙ append-nil bytes

pub length_put : (now bytes : List ℕ) → 40 ≤ length now → length bytes ≡ length now - 40
    → length (put_mid 40 (length now - 40) now bytes) ≡ length now
length_put now bytes capacity size =
    let none : post_of 40 (length now - 40) now ≡ [] = drop_all (length now - 40) (drop 40 now) (let e = length-drop 40 now in omega (arith, e)) in
    let prefix = length-take-le 40 now capacity in
    let all = length-append (take 40 now) (bytes ++ post_of 40 (length now - 40) now) in
    let most = ap (λ (rest : List ℕ). length (bytes ++ rest)) none ∙ ap length (append-nil bytes) in
    omega (arith, prefix, all, most, capacity, size)

-- what was made longer by noughts
pub longer : (bytes : List ℕ) (entries : List Entry) (n more : ℕ) → StandIn 40 Mpc1 bytes entries → length bytes ≤ n
    → drop 40 (take n bytes ++ replicate more 0) ≡ plain_text entries ++ replicate more 0
longer bytes entries n more h long =
    ap (λ (kept : List ℕ). drop 40 (kept ++ replicate more 0)) (take_all n bytes long)
    ∙ drop-append-le 40 bytes (replicate more 0) h.capacity ∙ ap (λ (kept : List ℕ). kept ++ replicate more 0) h.after

pub nibs_stand : (now bytes : List ℕ) (entries : List Entry) → 40 ≤ length now → length bytes ≡ length now - 40 → bytes ≡ wide_text entries
    → StandIn 40 Mpc2 (put_mid 40 (length now - 40) now bytes) entries
nibs_stand now bytes entries capacity size e =
    let all = length_put now bytes capacity size in
    record { capacity = omega (arith, all, capacity); after = put_after now bytes capacity size ∙ e }

-- how many entries stand in bytes
pub sized : (space : ℕ) (version : Version) (bytes : List ℕ) (entries : List Entry) → StandIn space version bytes entries
    → length bytes - space ≡ entry_size version * length entries
sized space version bytes entries h = sym (length-drop space bytes) ∙ ap length h.after ∙ length-entries version entries

pub counted : (space : ℕ) (version : Version) (bytes : List ℕ) (entries : List Entry) → StandIn space version bytes entries
    → (length bytes - space) / entry_size version ≡ length entries
counted space version bytes entries h =
    let least = entry_least version in
    let some : zero < entry_size version = omega (arith, least) in
    rw (sized space version bytes entries h) (mul-div_cancel_left (length entries) some)

pub short_text : (space : ℕ) (version : Version) (bytes : List ℕ) (entries : List Entry) → space ≤ 44 → StandIn space version bytes entries → length entries ≤ 2 ^ 20 → length bytes < 2 ^ 32
short_text space Mpc1 bytes entries small h few = let size = sized space Mpc1 bytes entries h in omega (arith, small, size, few)
short_text space Mpc2 bytes entries small h few = let size = sized space Mpc2 bytes entries h in omega (arith, small, size, few)

pub small_space : (rules : Rules) → space_for rules ≤ 44
small_space rules = by_profile (is_print rules)
  where
    by_profile : (fine : Bool) → (if fine then 44 else 40) ≤ 44
    by_profile true = omega arith
    by_profile false = omega arith

-- the head in front of the entries
pub finished : (rules : Rules) (version : Version) (head : HeadValue) (count : ℕ) (bytes prefix : List ℕ) (entries : List Entry) → StandIn (space_for rules) version bytes entries
    → prefix ≡ head_text rules version head count → count ≡ length entries
    → prefix ++ drop (space_for rules) bytes ≡ text_with rules version head (length entries) (flat_map (entry_text version) entries)
finished rules version head count bytes prefix entries h e same =
    parts_with rules version head (length entries) (flat_map (entry_text version) entries) (bound_text rules version head.max_width head.max_height)
    (head_text rules version head (length entries)) (prefix ++ drop (space_for rules) bytes) refl refl
    (ap (λ (first : List ℕ). first ++ drop (space_for rules) bytes) (e ∙ ap (head_text rules version head) same)
    ∙ ap (λ (bytes : List ℕ). head_text rules version head (length entries) ++ bytes) h.after)

-- and it takes the room that there was
pub length-head : (rules : Rules) (version : Version) (head : HeadValue) (count : ℕ) → length (head_text rules version head count) ≡ space_for rules
length-head rules version head count = by_profile (is_print rules)
  where
    by_profile : (fine : Bool)
        → length (((if fine then number_text print_signature ++ number_text (allowance_bits rules.allowed) else number_text (signature_of version)) ++ (number_text head.max_width ++ number_text head.max_height)) ++ totals_text head.writes head.needs count)
        ≡ (if fine then 44 else 40)
    by_profile true = omega arith
    by_profile false = omega arith
