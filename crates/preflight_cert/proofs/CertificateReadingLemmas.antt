-- Bytes that are read as a certificate are its text.
use Rattle.std.proofs.Common.{◌≡◌, Bool, true, false, ◌&&◌, cond, Option, Some, None, Result, Ok, Err, ℕ, zero, suc, ◌*◌, ◌<◌, ◌≤◌, ◌^◌, List, [], ◌∷◌, ◌++◌, length, drop, refl, ap, sym, subst, ◌∙◌, arith}
use Rattle.std.specs.List.{All, flat_map}
use Rattle.std.specs.Prelude.{◌==◌, codes, nat_le, nat_lt, not}
use Rattle.std.proofs.Math.Nat.{mul-suc, mul-zero}
use Rattle.std.proofs.lemmas.Bool.{and_parts, eqb-true, leb-true, ltb-false, ltb-true, true≢false}
use Rattle.std.proofs.lemmas.List.{drop-drop, length-drop}
use Rattle.std.proofs.lemmas.List.Elements.{All-cons, All-drop, All-nil}
use Rattle.mapping.specs.Limits.{is_surface_side}
use Rattle.mapping.specs.Nibs.{is_nib, nib_true}
use Rattle.mapping.proofs.LimitLemmas.{tests_are_limits}
use Rattle.draw_ops.specs.RuleSets.{allowance_bits, allowances_in, allowances_of, is_print}
use Rattle.draw_ops.specs.declared.rules.Allowances.{Allowances}
use Rattle.draw_ops.specs.declared.fault.Fault.{Fault}
use Rattle.draw_ops.specs.declared.fault.Fault.TheVariants.{BadBound, NotCertificate, ShortCertificate, TrailingBytes}
use Rattle.point_views.specs.Numbers.{number_at}
use Rattle.dc_stack.specs.Drawing.{edge_limit}
use Rattle.dc_stack.specs.Path.{piece_limit}
use Rattle.preflight_cert.specs.CertificateReading.{CertificateValue, are_bounded_needs, count_in, entries_in, entry_limit, entry_size, first_entry, have_nibs, is_bounded, is_by_print, signature_of, needs_in, nib_in, print_signature, read_allowed, read_certificate, read_print, read_version, read_whole, rules_in, value_in, version_of, whole_size}
use Rattle.preflight_cert.specs.CertificateText.{certificate_text, entry_text, head_of, version_signature, nib_text, number_text, numbers_with}
use Rattle.preflight_cert.specs.TextLaws.{AreBytes, HasNibOf, IsCertificate, IsCertificateUnder, IsEntry}
use Rattle.preflight_cert.specs.declared.version.Version.{Version}
use Rattle.preflight_cert.specs.declared.version.Version.TheVariants.{Mpc1, Mpc2}
use Rattle.preflight_cert.proofs.CertificateTextLemmas.{core_text, numbers_of}
use Rattle.preflight_cert.proofs.EntryLemmas.{entry_least, length-entries_in}
use Rattle.preflight_cert.proofs.NumberTextLemmas.{long_again, long_small, number_again, number_small, short_again, signed_fits, signed_number_again}
use Rattle.preflight_cert.proofs.TextPartLemmas.{number_is_signature}

-- bytes of a nib
nib_again : (version : Version) (bytes rest : List ℕ) → AreBytes bytes → entry_size version ≤ length bytes → rest ≡ drop (entry_size version) bytes
    → nib_text version (nib_in version bytes) ++ rest ≡ drop 20 bytes
nib_again Mpc1 bytes rest all some e = e
nib_again Mpc2 bytes rest all some e = short_again 20 bytes _ all (omega (arith, some)) (short_again 22 bytes rest all (omega (arith, some)) e)

nib_read : (version : Version) (bytes : List ℕ) → is_nib (nib_in version bytes) ≡ true → HasNibOf version (nib_in version bytes)
nib_read Mpc1 bytes test = refl
nib_read Mpc2 bytes test = nib_true (nib_in Mpc2 bytes) test

module _ (version : Version) where
  abbrev size : ℕ
  size = entry_size version

  -- bytes of one entry
  entry_again : (bytes rest : List ℕ) → AreBytes bytes → size ≤ length bytes → rest ≡ drop size bytes → entry_text version (first_entry version bytes) ++ rest ≡ bytes
  entry_again bytes rest all some e =
      let least = entry_least version in
      number_again 0 bytes all _ (omega (arith, some, least))
      (signed_number_again 4 bytes all _ (omega (arith, some, least))
      (signed_number_again 8 bytes all _ (omega (arith, some, least))
      (signed_number_again 12 bytes all _ (omega (arith, some, least))
      (signed_number_again 16 bytes all _ (omega (arith, some, least)) (nib_again version bytes rest all some e)))))

  -- bytes of so many entries are none, or one entry's and those of the others
  none_left : (bytes : List ℕ) → length bytes ≡ size * zero → length bytes ≡ 0
  none_left bytes whole = whole ∙ mul-zero size

  one_left : (n : ℕ) (bytes : List ℕ) → length bytes ≡ size * suc n → size ≤ length bytes
  one_left n bytes whole = let e = mul-suc size n in omega (arith, whole, e)

  others_left : (n : ℕ) (bytes : List ℕ) → length bytes ≡ size * suc n → length (drop size bytes) ≡ size * n
  others_left n bytes whole = let e = mul-suc size n in let len = length-drop size bytes in omega (arith, whole, e, len)

  entries_again : (n : ℕ) (bytes : List ℕ) → AreBytes bytes → length bytes ≡ size * n → flat_map (entry_text version) (entries_in version n bytes) ≡ bytes
  entries_again zero [] all whole = refl
  entries_again zero (b ∷ bytes) all whole = let none = none_left (b ∷ bytes) whole in absurd (omega (arith, none))
  entries_again (suc n) bytes all whole =
      entry_again bytes _ all (one_left n bytes whole)
      (entries_again n (drop size bytes) (All-drop (λ byte. byte < 2 ^ 8) size bytes all) (others_left n bytes whole))

  entry_read : (bytes : List ℕ) → AreBytes bytes → size ≤ length bytes → is_nib (nib_in version bytes) ≡ true → IsEntry version (first_entry version bytes)
  entry_read bytes all some nib =
      let least = entry_least version in
      record {
        number = number_small 0 bytes all (omega (arith, some, least));
        left = signed_fits (number_at bytes 4 4) (number_small 4 bytes all (omega (arith, some, least)));
        top = signed_fits (number_at bytes 8 4) (number_small 8 bytes all (omega (arith, some, least)));
        right = signed_fits (number_at bytes 12 4) (number_small 12 bytes all (omega (arith, some, least)));
        bottom = signed_fits (number_at bytes 16 4) (number_small 16 bytes all (omega (arith, some, least)));
        nib = nib_read version bytes nib;
      }

  entries_read : (n : ℕ) (bytes : List ℕ) → AreBytes bytes → length bytes ≡ size * n → have_nibs (entries_in version n bytes) ≡ true
      → All (IsEntry version) (entries_in version n bytes)
  entries_read zero bytes all whole nibs = All-nil (IsEntry version)
  entries_read (suc n) bytes all whole nibs =
      let parts = and_parts (is_nib (nib_in version bytes)) (have_nibs (entries_in version n (drop size bytes))) nibs in
      All-cons (IsEntry version) (first_entry version bytes) (entries_in version n (drop size bytes)) (entry_read bytes all (one_left n bytes whole) parts.0)
      (entries_read n (drop size bytes) (All-drop (λ byte. byte < 2 ^ 8) size bytes all) (others_left n bytes whole) parts.1)

-- a fault is no certificate
is_value : Result CertificateValue Fault → Bool
is_value (Ok c) = true
is_value (Err fault) = false

no_fault : (fault : Fault) (c : CertificateValue) → Err fault ≡ Ok c → ⊥
unfolding is_value
no_fault fault c e = true≢false (sym (ap is_value e))

-- bytes behind a mark that pass each test
passed : (short bounded : Bool) (rest : Result CertificateValue Fault) (c : CertificateValue)
    → cond short (Err ShortCertificate) (cond (not bounded) (Err BadBound) rest) ≡ Ok c
    → (short ≡ false) × (bounded ≡ true) × (rest ≡ Ok c)
passed true bounded rest c e = absurd (no_fault ShortCertificate c e)
passed false false rest c e = absurd (no_fault BadBound c e)
passed false true rest c e = (refl, refl, e)

value_or : CertificateValue → Result CertificateValue Fault → CertificateValue
value_or other (Ok c) = c
value_or other (Err fault) = other

ended : (short trailing nibs : Bool) (value c : CertificateValue)
    → cond short (Err ShortCertificate) (cond trailing (Err TrailingBytes) (cond nibs (Ok value) (Err BadBound))) ≡ Ok c
    → (short ≡ false) × (trailing ≡ false) × (nibs ≡ true) × (value ≡ c)
unfolding value_or
ended true trailing nibs value c e = absurd (no_fault ShortCertificate c e)
ended false true nibs value c e = absurd (no_fault TrailingBytes c e)
ended false false false value c e = absurd (no_fault BadBound c e)
ended false false true value c e = (refl, refl, refl, ap (value_or value) e)

between : (a b : ℕ) → nat_lt a b ≡ false → nat_lt b a ≡ false → a ≡ b
between a b e f = let g = ltb-false a b e in let h = ltb-false b a f in omega (arith, g, h)

-- the mark of the version that is found
marked_by : (n : ℕ) (first second : Bool) (version : Version) → (first ≡ true → n ≡ signature_of Mpc1) → (second ≡ true → n ≡ signature_of Mpc2)
    → cond first (Some Mpc1) (cond second (Some Mpc2) None) ≡ Some version → n ≡ signature_of version
marked_by n true second Mpc1 f g e = f refl
marked_by n true second Mpc2 f g e = cc
marked_by n false true Mpc1 f g e = cc
marked_by n false true Mpc2 f g e = g refl
marked_by n false false version f g e = cc

is_marked : (n : ℕ) (version : Version) → version_of n ≡ Some version → n ≡ signature_of version
is_marked n version e = marked_by n (n == signature_of Mpc1) (n == signature_of Mpc2) version (eqb-true n (signature_of Mpc1)) (eqb-true n (signature_of Mpc2)) e

marked_prefix : (version : Version) (bytes rest : List ℕ) → number_at bytes 0 4 ≡ signature_of version → number_text (number_at bytes 0 4) ++ rest ≡ bytes
    → version_signature version ++ rest ≡ bytes
marked_prefix version bytes rest marked e =
    ap (λ (text : List ℕ). text ++ rest) (sym (number_is_signature version)) ∙ ap (λ (n : ℕ). number_text n ++ rest) (sym marked) ∙ e

-- what was found of bytes that are read
pub record IsRead (bytes : List ℕ) (found : Option Version) (c : CertificateValue) : Type 0 where
  pub version : Version
  pub marked : found ≡ Some version
  pub head : 40 ≤ length bytes
  pub bounded : is_bounded bytes ≡ true
  pub whole : length bytes ≡ whole_size version bytes
  pub nibs : have_nibs (value_in version bytes).entries ≡ true
  pub value : value_in version bytes ≡ c

read_by : (found : Option Version) (bytes : List ℕ) (c : CertificateValue) → read_version found bytes ≡ Ok c → IsRead bytes found c
read_by None bytes c e = absurd (no_fault NotCertificate c e)
read_by (Some version) bytes c e =
    let p = passed (nat_lt (length bytes) 40) (is_bounded bytes) (read_whole version bytes) c e in
    let q =
    ended (nat_lt (length bytes) (whole_size version bytes)) (nat_lt (whole_size version bytes) (length bytes)) (have_nibs (value_in version bytes).entries)
    (value_in version bytes) c p.2 in
    record {
      version = version;
      marked = refl;
      head = ltb-false (length bytes) 40 p.0;
      bounded = p.1;
      whole = between (length bytes) (whole_size version bytes) q.0 q.1;
      nibs = q.2;
      value = q.3;
    }

-- which of the profiles reads the bytes
by_core : (few print : Bool) (fine rest : Result CertificateValue Fault) (c : CertificateValue) → print ≡ false → cond few (Err NotCertificate) (cond print fine rest) ≡ Ok c → rest ≡ Ok c
by_core true print fine rest c p e = absurd (no_fault NotCertificate c e)
by_core false true fine rest c p e = absurd (cc p)
by_core false false fine rest c p e = e

by_print : (few print : Bool) (fine rest : Result CertificateValue Fault) (c : CertificateValue) → print ≡ true → cond few (Err NotCertificate) (cond print fine rest) ≡ Ok c → fine ≡ Ok c
by_print true print fine rest c p e = absurd (no_fault NotCertificate c e)
by_print false false fine rest c p e = absurd (cc p)
by_print false true fine rest c p e = e

-- what was found of bytes of the print profile
pub record IsReadUnderPrint (bytes : List ℕ) (c : CertificateValue) : Type 0 where
  pub head : 44 ≤ length bytes
  pub allowed : number_at bytes 4 4 < 4
  pub read : IsRead (drop 4 bytes) (Some Mpc2) c

print_parts : (short few : Bool) (allowed : Allowances) (bytes : List ℕ) (c : CertificateValue) → cond short (Err ShortCertificate) (read_allowed (cond few (Some allowed) None) bytes) ≡ Ok c → (short ≡ false) × (few ≡ true) × (read_version (Some Mpc2) (drop 4 bytes) ≡ Ok c)
print_parts true few allowed bytes c e = absurd (no_fault ShortCertificate c e)
print_parts false true allowed bytes c e = (refl, refl, e)
print_parts false false allowed bytes c e = absurd (no_fault BadBound c e)

read_under_core : (bytes : List ℕ) (c : CertificateValue) → is_by_print bytes ≡ false → read_certificate bytes ≡ Ok c → IsRead bytes (version_of (number_at bytes 0 4)) c
read_under_core bytes c core e = read_by (version_of (number_at bytes 0 4)) bytes c (by_core (nat_lt (length bytes) 4) (is_by_print bytes) (read_print bytes) _ c core e)

read_under_print : (bytes : List ℕ) (c : CertificateValue) → is_by_print bytes ≡ true → read_certificate bytes ≡ Ok c → IsReadUnderPrint bytes c
read_under_print bytes c print e =
    let fine = by_print (nat_lt (length bytes) 4) (is_by_print bytes) (read_print bytes) _ c print e in
    let parts = print_parts (nat_lt (length bytes) 44) (nat_lt (number_at bytes 4 4) 4) (allowances_in (number_at bytes 4 4)) bytes c fine in
    record {
      head = ltb-false (length bytes) 44 parts.0;
      allowed = ltb-true (number_at bytes 4 4) 4 parts.1;
      read = read_by (Some Mpc2) (drop 4 bytes) c parts.2;
    }

module _ (bytes : List ℕ) (found : Option Version) (c : CertificateValue) (all : AreBytes bytes) (h : IsRead bytes found c) where
  abbrev version : Version
  version = h.version

  after : length (drop 40 bytes) ≡ entry_size version * count_in bytes
  after = let len = length-drop 40 bytes in let whole = h.whole in omega (arith, len, whole)

  -- the numbers in front of the entries, behind the first four bytes
  numbers_again : (rest : List ℕ) → rest ≡ drop 40 bytes → numbers_with (head_of (value_in version bytes)) (count_in bytes) rest ≡ drop 4 bytes
  numbers_again rest e =
      let head = h.head in
      number_again 4 bytes all _ (omega (arith, head))
      (number_again 8 bytes all _ (omega (arith, head))
      (long_again 12 bytes all (omega (arith, head)) _
      (number_again 20 bytes all _ (omega (arith, head))
      (number_again 24 bytes all _ (omega (arith, head))
      (number_again 28 bytes all _ (omega (arith, head))
      (number_again 32 bytes all _ (omega (arith, head))
      (number_again 36 bytes all rest (omega (arith, head)) e)))))))

  after_bytes : AreBytes (drop 40 bytes)
  after_bytes = All-drop (λ byte. byte < 2 ^ 8) 40 bytes all

  value_numbers : numbers_with (head_of (value_in version bytes)) (length (value_in version bytes).entries) (flat_map (entry_text version) (value_in version bytes).entries) ≡ drop 4 bytes
  value_numbers =
      ap (λ (n : ℕ). numbers_with (head_of (value_in version bytes)) n (flat_map (entry_text version) (value_in version bytes).entries))
      (length-entries_in version (count_in bytes) (drop 40 bytes))
      ∙ numbers_again _ (entries_again version (count_in bytes) (drop 40 bytes) after_bytes after)

  value_is_certificate : IsCertificate (value_in version bytes)
  value_is_certificate =
      let head = h.head in
      let count = and_parts (is_surface_side (number_at bytes 4 4) && is_surface_side (number_at bytes 8 4) && are_bounded_needs (needs_in bytes)) (nat_le (count_in bytes) entry_limit) h.bounded in
      let needs = and_parts (is_surface_side (number_at bytes 4 4) && is_surface_side (number_at bytes 8 4)) (are_bounded_needs (needs_in bytes)) count.0 in
      let dimensions = and_parts (is_surface_side (number_at bytes 4 4)) (is_surface_side (number_at bytes 8 4)) needs.0 in
      let pieces = and_parts (nat_le (number_at bytes 20 4) 256 && nat_le (number_at bytes 24 4) 65535 && nat_le (number_at bytes 28 4) edge_limit) (nat_le (number_at bytes 32 4) piece_limit) needs.1 in
      let edges = and_parts (nat_le (number_at bytes 20 4) 256 && nat_le (number_at bytes 24 4) 65535) (nat_le (number_at bytes 28 4) edge_limit) pieces.0 in
      let depth = and_parts (nat_le (number_at bytes 20 4) 256) (nat_le (number_at bytes 24 4) 65535) edges.0 in
      record {
        wide = (tests_are_limits.surface_side (number_at bytes 4 4)).0 dimensions.0;
        high = (tests_are_limits.surface_side (number_at bytes 8 4)).0 dimensions.1;
        writes = long_small 12 bytes all (omega (arith, head));
        depth = leb-true _ _ depth.0;
        slots = leb-true _ _ depth.1;
        edges = leb-true _ _ edges.1;
        pieces = leb-true _ _ pieces.1;
        few = subst (λ (n : ℕ). n ≤ entry_limit) (sym (length-entries_in version (count_in bytes) (drop 40 bytes))) (leb-true _ _ count.1);
        entries = entries_read version (count_in bytes) (drop 40 bytes) after_bytes after h.nibs;
      }

-- the bytes of the core profile
core_bytes : (bytes : List ℕ) (c : CertificateValue) → AreBytes bytes → IsRead bytes (version_of (number_at bytes 0 4)) c → bytes ≡ core_text c
core_bytes bytes c all h =
    let head = h.head in
    let found = version_of (number_at bytes 0 4) in
    let whole = marked_prefix h.version bytes _ (is_marked (number_at bytes 0 4) h.version h.marked) (number_again 0 bytes all _ (omega (arith, head)) (value_numbers bytes found c all h)) in
    sym whole ∙ ap core_text h.value

-- what is allowed, as its number
number_allowed : (n : ℕ) → n < 4 → allowance_bits (allowances_in n) ≡ n
number_allowed zero few = refl
number_allowed (suc zero) few = refl
number_allowed (suc (suc zero)) few = refl
number_allowed (suc (suc (suc zero))) few = refl
number_allowed (suc (suc (suc (suc n)))) few = absurd (omega (arith, few))

print_prefix : (bytes : List ℕ) → number_at bytes 0 4 ≡ print_signature → number_text (number_at bytes 0 4) ++ drop 4 bytes ≡ bytes → codes "MPC3" ++ drop 4 bytes ≡ bytes
unfolding print_signature
print_prefix bytes marked e = ap (λ (n : ℕ). number_text n ++ drop 4 bytes) (sym marked) ∙ e

-- the bytes of the print profile
print_bytes : (bytes : List ℕ) (c : CertificateValue) → AreBytes bytes → is_by_print bytes ≡ true → IsReadUnderPrint bytes c → bytes ≡ codes "MPC3" ++ (number_text (number_at bytes 4 4) ++ numbers_of c)
print_bytes bytes c all print h =
    let head = h.head in
    let plain = All-drop (λ byte. byte < 2 ^ 8) 4 bytes all in
    let numbers = value_numbers (drop 4 bytes) (Some Mpc2) c plain h.read in
    let behind : numbers_of c ≡ drop 8 bytes = ap numbers_of (sym h.read.value) ∙ numbers ∙ drop-drop 4 4 bytes in
    let again = number_again 4 bytes all _ (omega (arith, head)) behind in
    sym (ap (λ (rest : List ℕ). codes "MPC3" ++ rest) again
    ∙ print_prefix bytes (eqb-true (number_at bytes 0 4) print_signature print) (number_again 0 bytes all (drop 4 bytes) (omega (arith, head)) refl))

pub is_text : (bytes : List ℕ) (c : CertificateValue) → AreBytes bytes → read_certificate bytes ≡ Ok c → bytes ≡ certificate_text (rules_in bytes) c
is_text bytes c all e = by_profile (is_by_print bytes) refl
  where
    by_profile : (print : Bool) → is_by_print bytes ≡ print → bytes ≡ certificate_text (rules_in bytes) c
    by_profile false core = rw core (core_bytes bytes c all (read_under_core bytes c core e))
    by_profile true print =
        let h = read_under_print bytes c print e in
        rw (print, number_allowed (number_at bytes 4 4) h.allowed) (print_bytes bytes c all print h)

within : (bytes : List ℕ) (c : CertificateValue) → AreBytes bytes → read_certificate bytes ≡ Ok c → IsCertificate c
within bytes c all e = by_profile (is_by_print bytes) refl
  where
    by_profile : (print : Bool) → is_by_print bytes ≡ print → IsCertificate c
    by_profile false core =
        let h = read_under_core bytes c core e in
        subst IsCertificate h.value (value_is_certificate bytes (version_of (number_at bytes 0 4)) c all h)
    by_profile true print =
        let h = (read_under_print bytes c print e).read in
        subst IsCertificate h.value (value_is_certificate (drop 4 bytes) (Some Mpc2) c (All-drop (λ byte. byte < 2 ^ 8) 4 bytes all) h)

later : (found : Option Version) (version : Version) → found ≡ Some Mpc2 → found ≡ Some version → version ≡ Mpc2
later found version e f = cc

has_version : (bytes : List ℕ) (c : CertificateValue) → read_certificate bytes ≡ Ok c → is_print (rules_in bytes) ≡ true → c.version ≡ Mpc2
has_version bytes c e fine = by_profile (is_by_print bytes) refl fine
  where
    by_profile : (print : Bool) → is_by_print bytes ≡ print → is_print (rules_in bytes) ≡ true → c.version ≡ Mpc2
    by_profile false core fine = absurd (true≢false (sym fine ∙ rw core refl))
    by_profile true print fine =
        let h = (read_under_print bytes c print e).read in
        ap (λ (v : CertificateValue). v.version) (sym h.value) ∙ later (Some Mpc2) h.version refl h.marked

pub is_certificate : (bytes : List ℕ) (c : CertificateValue) → AreBytes bytes → read_certificate bytes ≡ Ok c → IsCertificateUnder (rules_in bytes) c
is_certificate bytes c all e = record { within = within bytes c all e; version = has_version bytes c e }
