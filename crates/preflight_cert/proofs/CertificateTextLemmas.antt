-- What is written as a certificate's text is read.
use Rattle.std.proofs.Common.{◌≡◌, Bool, true, false, cond, Option, Some, Result, Ok, Err, ℕ, ◌+◌, ◌*◌, ◌<◌, ◌^◌, ℤ, List, [], ◌∷◌, ◌++◌, length, drop, refl, ap, sym, subst, ◌∙◌, arith, w16, w32, w64}
use Rattle.std.specs.Int.{cast_unsigned, to_le_bytes}
use Rattle.std.specs.List.{All, flat_map}
use Rattle.std.specs.Prelude.{◌≤◌, ◌==◌, codes, nat_le, nat_lt, if◌then◌else◌, not}
use Rattle.std.proofs.Math.Nat.{mul-suc, mul-zero}
use Rattle.std.proofs.lemmas.Bool.{and_from, le-leb, le-ltb, lt-ltb}
use Rattle.std.proofs.lemmas.List.Elements.{All-head, All-tail}
use Rattle.mapping.specs.Limits.{is_surface_side}
use Rattle.mapping.specs.Nibs.{is_nib, nib_from}
use Rattle.mapping.specs.declared.nib.Nib.{Nib}
use Rattle.mapping.proofs.LimitLemmas.{tests_are_limits}
use Rattle.draw_ops.specs.RuleSets.{allowance_bits, allowances_in, allowances_of, core_rules, in_force, is_print, is_print_profile, print_rules}
use Rattle.draw_ops.specs.declared.fault.Fault.{Fault}
use Rattle.draw_ops.specs.declared.fault.Fault.TheVariants.{BadBound, NotCertificate, ShortCertificate}
use Rattle.draw_ops.specs.declared.rules.Allowances.{Allowances}
use Rattle.draw_ops.specs.declared.rules.Profile.{Profile}
use Rattle.draw_ops.specs.declared.rules.Profile.TheVariants.{Core, Print}
use Rattle.draw_ops.specs.declared.rules.Rules.{Rules}
use Rattle.point_views.specs.Numbers.{number_at}
use Rattle.dc_stack.specs.Drawing.{edge_limit}
use Rattle.dc_stack.specs.Path.{piece_limit}
use Rattle.preflight_cert.specs.CertificateReading.{CertificateValue, are_bounded_needs, count_in, entries_in, entry_limit, entry_size, first_entry, have_nibs, is_bounded, is_by_print, signature_of, needs_in, nib_in, print_signature, read_certificate, read_print, read_version, read_whole, rules_in, value_in, version_of, whole_size, with_nibs}
use Rattle.preflight_cert.specs.CertificateText.{certificate_text, entry_text, version_signature, needs_text, nib_text, number_text}
use Rattle.preflight_cert.specs.TextLaws.{HasNibOf, IsCertificate, IsCertificateUnder, IsEntry}
use Rattle.preflight_cert.specs.declared.certificate_entry.Entry.{Entry}
use Rattle.preflight_cert.specs.declared.version.Version.{Version}
use Rattle.preflight_cert.specs.declared.version.Version.TheVariants.{Mpc1, Mpc2}
use Rattle.preflight_cert.proofs.EntryLemmas.{ends_with_entries}
use Rattle.preflight_cert.proofs.NumberTextLemmas.{number_back, short_back, signed_back}
use Rattle.preflight_cert.proofs.TextPartLemmas.{number_is_signature}

abbrev a_nib : ℕ → ℕ → Nib
a_nib x y = record { x = x; y = y }

same_nib : (x y u v : ℕ) → x ≡ u → y ≡ v → a_nib x y ≡ a_nib u v
same_nib x y u v e f = ap (λ (n : ℕ). a_nib n y) e ∙ ap (λ (n : ℕ). a_nib u n) f

abbrev an_entry : ℕ → ℤ → ℤ → ℤ → ℤ → Nib → Entry
an_entry n l t r b nib = record { number = n; bounds = record { l = l; t = t; r = r; b = b }; nib = nib }

same_entry : (a c : ℕ) (l m t u r s b v : ℤ) (x y : Nib) → a ≡ c → l ≡ m → t ≡ u → r ≡ s → b ≡ v → x ≡ y → an_entry a l t r b x ≡ an_entry c m u s v y
same_entry a c l m t u r s b v x y n e f g h i =
    ap (λ (k : ℕ). an_entry k l t r b x) n ∙ ap (λ (k : ℤ). an_entry c k t r b x) e ∙ ap (λ (k : ℤ). an_entry c m k r b x) f ∙ ap (λ (k : ℤ). an_entry c m u k b x) g
    ∙ ap (λ (k : ℤ). an_entry c m u s k x) h ∙ ap (λ (k : Nib). an_entry c m u s v k) i

same_list : {x y : Entry} {xs ys : List Entry} → x ≡ y → xs ≡ ys → (x ∷ xs) ≡ (y ∷ ys)
same_list e f = cc

-- a coordinate of a box
abbrev coordinate_text : ℤ → List ℕ
coordinate_text v = number_text (cast_unsigned w32 v)

-- the nib that is written is read
nib_back : (version : Version) (entry : Entry) (rest : List ℕ) → HasNibOf version entry.nib → nib_in version (entry_text version entry ++ rest) ≡ entry.nib
nib_back Mpc1 entry rest h = sym h
nib_back Mpc2 entry rest h =
    let x = h.x.within in
    let y = h.y.within in
    same_nib _ _ entry.nib.x entry.nib.y (short_back entry.nib.x (to_le_bytes w16 entry.nib.y ++ rest) (omega (arith, x))) (short_back entry.nib.y rest (omega (arith, y)))

nib_passes : (version : Version) (nib : Nib) → HasNibOf version nib → is_nib nib ≡ true
nib_passes Mpc1 nib h = ap is_nib h
nib_passes Mpc2 nib h = nib_from nib h

-- an entry's bytes are as many as its version has
after_entry : (version : Version) (entry : Entry) (rest : List ℕ) → drop (entry_size version) (entry_text version entry ++ rest) ≡ rest
after_entry Mpc1 entry rest = refl
after_entry Mpc2 entry rest = refl

length-entry : (version : Version) (entry : Entry) (rest : List ℕ) → length (entry_text version entry ++ rest) ≡ entry_size version + length rest
length-entry Mpc1 entry rest = omega arith
length-entry Mpc2 entry rest = omega arith

module _ (version : Version) where
  abbrev written : List Entry → List ℕ
  written entries = flat_map (entry_text version) entries

  entry_back : (entry : Entry) (rest : List ℕ) → IsEntry version entry → first_entry version (entry_text version entry ++ rest) ≡ entry
  entry_back entry rest h =
      let nib = nib_text version entry.nib ++ rest in
      let n = number_back entry.number (coordinate_text entry.bounds.l ++ (coordinate_text entry.bounds.t ++ (coordinate_text entry.bounds.r ++ (coordinate_text entry.bounds.b ++ nib)))) h.number in
      let l = signed_back entry.bounds.l (coordinate_text entry.bounds.t ++ (coordinate_text entry.bounds.r ++ (coordinate_text entry.bounds.b ++ nib))) h.left in
      let t = signed_back entry.bounds.t (coordinate_text entry.bounds.r ++ (coordinate_text entry.bounds.b ++ nib)) h.top in
      let r = signed_back entry.bounds.r (coordinate_text entry.bounds.b ++ nib) h.right in
      let b = signed_back entry.bounds.b nib h.bottom in
      same_entry _ entry.number _ entry.bounds.l _ entry.bounds.t _ entry.bounds.r _ entry.bounds.b _ entry.nib n l t r b (nib_back version entry rest h.nib)

  entries_back : (entries : List Entry) → All (IsEntry version) entries → entries_in version (length entries) (written entries) ≡ entries
  entries_back [] all = refl
  entries_back (entry ∷ entries) all =
      same_list (entry_back entry (written entries) (All-head (IsEntry version) entry entries all))
      (ap (λ (bytes : List ℕ). entries_in version (length entries) bytes) (after_entry version entry (written entries))
      ∙ entries_back entries (All-tail (IsEntry version) entry entries all))

  nibs_pass : (entries : List Entry) → All (IsEntry version) entries → have_nibs entries ≡ true
  nibs_pass [] all = refl
  nibs_pass (entry ∷ entries) all =
      and_from (is_nib entry.nib) (have_nibs entries) (nib_passes version entry.nib (All-head (IsEntry version) entry entries all).nib)
      (nibs_pass entries (All-tail (IsEntry version) entry entries all))

  -- the bytes of entries
  pub length-entries : (entries : List Entry) → length (written entries) ≡ entry_size version * length entries
  length-entries [] = sym (mul-zero (entry_size version))
  length-entries (entry ∷ entries) =
      let one = length-entry version entry (written entries) in
      let others = length-entries entries in
      let e = mul-suc (entry_size version) (length entries) in omega (arith, one, others, e)

-- the bytes of a certificate behind the first four, and all of them with a number in place of those
abbrev pub numbers_of : CertificateValue → List ℕ
numbers_of c =
    number_text c.max_width ++ (number_text c.max_height
    ++ (to_le_bytes w64 c.writes ++ needs_text c.needs (number_text (length c.entries) ++ flat_map (entry_text c.version) c.entries)))

abbrev numbered_text : ℕ → CertificateValue → List ℕ
numbered_text n c = number_text n ++ numbers_of c

abbrev marked_text : CertificateValue → List ℕ
marked_text c = numbered_text (signature_of c.version) c

-- the bytes of a certificate of the core profile
abbrev pub core_text : CertificateValue → List ℕ
core_text c = version_signature c.version ++ numbers_of c

marked_is_text : (c : CertificateValue) → marked_text c ≡ core_text c
marked_is_text c = ap (λ (mark : List ℕ). mark ++ numbers_of c) (number_is_signature c.version)

length-numbered : (n : ℕ) (c : CertificateValue) → length (numbered_text n c) ≡ 40 + entry_size c.version * length c.entries
length-numbered n c = let e = length-entries c.version c.entries in omega (arith, e)

pub length-text : (c : CertificateValue) → length (core_text c) ≡ 40 + entry_size c.version * length c.entries
length-text c = ap length (sym (marked_is_text c)) ∙ length-numbered (signature_of c.version) c

-- a version is found by its mark
found_by_signature : (version : Version) → version_of (signature_of version) ≡ Some version
unfolding signature_of
found_by_signature Mpc1 = refl
found_by_signature Mpc2 = refl

signature_small : (version : Version) → signature_of version < 2 ^ 32
unfolding signature_of
signature_small Mpc1 = omega arith
signature_small Mpc2 = omega arith

passes : (short bounded : Bool) (rest : Result CertificateValue Fault) → short ≡ false → bounded ≡ true
    → cond short (Err ShortCertificate) (cond (not bounded) (Err BadBound) rest) ≡ rest
passes short bounded rest b d = rw (b, d) refl

-- which of the profiles reads the bytes
goes_on : (few print : Bool) (fine rest : Result CertificateValue Fault) → few ≡ false → print ≡ false → cond few (Err NotCertificate) (cond print fine rest) ≡ rest
goes_on few print fine rest a b = rw (a, b) refl

-- no version has the mark of the print profile
no_print : (version : Version) → (signature_of version == print_signature) ≡ false
unfolding signature_of print_signature
no_print Mpc1 = refl
no_print Mpc2 = refl

limits_small : (edge_limit < 2 ^ 32) × (piece_limit < 2 ^ 32) × (entry_limit < 2 ^ 32)
unfolding edge_limit piece_limit entry_limit
limits_small = (omega arith, omega arith, omega arith)

module _ (n : ℕ) (c : CertificateValue) (h : IsCertificate c) where
  abbrev text : List ℕ
  text = numbered_text n c

  wide_back : number_at text 4 4 ≡ c.max_width
  wide_back = let one = h.wide.within in omega (arith, one)

  high_back : number_at text 8 4 ≡ c.max_height
  high_back = let one = h.high.within in omega (arith, one)

  writes_back : number_at text 12 8 ≡ c.writes
  writes_back = let one = h.writes in omega (arith, one)

  depth_back : number_at text 20 4 ≡ c.needs.depth
  depth_back = let one = h.depth in omega (arith, one)

  slots_back : number_at text 24 4 ≡ c.needs.slots
  slots_back = let one = h.slots in omega (arith, one)

  edges_back : number_at text 28 4 ≡ c.needs.edges
  edges_back = let one = h.edges in let two = limits_small.0 in omega (arith, one, two)

  pieces_back : number_at text 32 4 ≡ c.needs.pieces
  pieces_back = let one = h.pieces in let two = limits_small.1 in omega (arith, one, two)

  count_back : count_in text ≡ length c.entries
  count_back = let one = h.few in let two = limits_small.2 in omega (arith, one, two)

  entries_are : entries_in c.version (count_in text) (drop 40 text) ≡ c.entries
  entries_are = ap (λ (k : ℕ). entries_in c.version k (flat_map (entry_text c.version) c.entries)) count_back ∙ entries_back c.version c.entries h.entries

  needs_back : needs_in text ≡ c.needs
  needs_back = rw (depth_back, slots_back, edges_back, pieces_back) refl

  needs_bounded : are_bounded_needs c.needs ≡ true
  needs_bounded =
      and_from _ (nat_le c.needs.pieces piece_limit) (and_from _ (nat_le c.needs.edges edge_limit) (and_from (nat_le c.needs.depth 256) (nat_le c.needs.slots 65535)
      (le-leb _ _ h.depth) (le-leb _ _ h.slots)) (le-leb _ _ h.edges)) (le-leb _ _ h.pieces)

  bounded_back : is_bounded text ≡ true
  bounded_back =
      rw (wide_back, high_back, depth_back, slots_back, edges_back, pieces_back, count_back)
      (and_from _ (nat_le (length c.entries) entry_limit) (and_from _ (are_bounded_needs c.needs) (and_from (is_surface_side c.max_width) (is_surface_side c.max_height)
      ((tests_are_limits.surface_side c.max_width).1 h.wide) ((tests_are_limits.surface_side c.max_height).1 h.high)) needs_bounded) (le-leb _ _ h.few))

  value_back : value_in c.version text ≡ c
  value_back = rw (wide_back, high_back, writes_back, needs_back, entries_are) refl

  is_whole : length text ≡ whole_size c.version text
  is_whole = let len = length-numbered n c in rw count_back len

  with_nibs_back : with_nibs c ≡ Ok c
  with_nibs_back = ap (λ (passed : Bool). if passed then Ok c else Err BadBound) (nibs_pass c.version c.entries h.entries)

  version_back : read_version (Some c.version) text ≡ Ok c
  version_back =
      let len = length-numbered n c in
      let short : nat_lt (length text) 40 ≡ false = le-ltb (length text) 40 (omega (arith, len)) in
      passes _ _ (read_whole c.version text) short bounded_back ∙ ends_with_entries c.version text is_whole ∙ ap with_nibs value_back ∙ with_nibs_back

module _ (c : CertificateValue) (h : IsCertificate c) where
  signature_back : number_at (marked_text c) 0 4 ≡ signature_of c.version
  signature_back = let one = signature_small c.version in omega (arith, one)

  marked_back : read_certificate (marked_text c) ≡ Ok c
  marked_back =
      let len = length-numbered (signature_of c.version) c in
      let few : nat_lt (length (marked_text c)) 4 ≡ false = le-ltb (length (marked_text c)) 4 (omega (arith, len)) in
      let core : is_by_print (marked_text c) ≡ false = ap (λ (n : ℕ). n == print_signature) signature_back ∙ no_print c.version in
      goes_on _ _ (read_print (marked_text c)) _ few core
      ∙ ap (λ (found : Option Version). read_version found (marked_text c)) (ap version_of signature_back ∙ found_by_signature c.version)
      ∙ version_back (signature_of c.version) c h

  core_back : read_certificate (core_text c) ≡ Ok c
  core_back = subst (λ (bytes : List ℕ). read_certificate bytes ≡ Ok c) (marked_is_text c) marked_back

-- what is allowed, as a number and back
few_allowed : (allowed : Allowances) → allowance_bits allowed ≤ 3
few_allowed allowed = few allowed.held_deletion allowed.emf_plus
  where
    few : (held emf : Bool) → (if held then 1 else 0) + (if emf then 2 else 0) ≤ 3
    few true true = omega arith
    few true false = omega arith
    few false true = omega arith
    few false false = omega arith

abbrev allowing : Bool → Bool → Allowances
allowing held emf = record { held_deletion = held; emf_plus = emf }

allowed_back : (allowed : Allowances) → allowances_in (allowance_bits allowed) ≡ allowed
allowed_back allowed = back allowed.held_deletion allowed.emf_plus
  where
    back : (held emf : Bool) → allowances_in ((if held then 1 else 0) + (if emf then 2 else 0)) ≡ allowing held emf
    back true true = refl
    back true false = refl
    back false true = refl
    back false false = refl

allowed_of : (allowed : Allowances) → allowances_of (allowance_bits allowed) ≡ Some allowed
allowed_of allowed =
    let few : nat_lt (allowance_bits allowed) 4 ≡ true = let most = few_allowed allowed in lt-ltb (allowance_bits allowed) 4 (omega (arith, most)) in
    rw few (ap (λ (it : Allowances). Some it) (allowed_back allowed))

module _ (c : CertificateValue) (h : IsCertificate c) (wide : c.version ≡ Mpc2) (allowed : Allowances) where
  abbrev fine_text : List ℕ
  fine_text = codes "MPC3" ++ numbered_text (allowance_bits allowed) c

  print_marked : is_by_print fine_text ≡ true
  unfolding print_signature
  print_marked = refl

  allowed_here : number_at fine_text 4 4 ≡ allowance_bits allowed
  allowed_here = let few = few_allowed allowed in omega (arith, few)

  fine_back : read_certificate fine_text ≡ Ok c
  fine_back =
      let len = length-numbered (allowance_bits allowed) c in
      let few : nat_lt (length fine_text) 4 ≡ false = le-ltb (length fine_text) 4 (omega (arith, len)) in
      let short : nat_lt (length fine_text) 44 ≡ false = le-ltb (length fine_text) 44 (omega (arith, len)) in
      let there : allowances_of (number_at fine_text 4 4) ≡ Some allowed = ap allowances_of allowed_here ∙ allowed_of allowed in
      rw (few, print_marked, short, there)
      (ap (λ (version : Version). read_version (Some version) (numbered_text (allowance_bits allowed) c)) (sym wide) ∙ version_back (allowance_bits allowed) c h)

-- the bytes under rules are read back
abbrev text_where : Bool → Allowances → CertificateValue → List ℕ
text_where fine allowed c = (if fine then codes "MPC3" ++ number_text (allowance_bits allowed) else version_signature c.version) ++ numbers_of c

pub reads_back : (rules : Rules) (c : CertificateValue) → IsCertificateUnder rules c → read_certificate (certificate_text rules c) ≡ Ok c
reads_back rules c is = by_profile (is_print rules) refl
  where
    by_profile : (fine : Bool) → is_print rules ≡ fine → read_certificate (text_where fine rules.allowed c) ≡ Ok c
    by_profile true e = fine_back c is.within (is.version e) rules.allowed
    by_profile false e = core_back c is.within

-- the rules under which it was made
print_profile : (profile : Profile) → is_print_profile profile ≡ true → profile ≡ Print
print_profile Core e = absurd (cc e)
print_profile Print e = refl

abbrev ruled : Profile → Allowances → Rules
ruled profile allowed = record { profile = profile; allowed = allowed }

marked_core : (version : Version) (rest : List ℕ) → is_by_print (version_signature version ++ rest) ≡ false
unfolding print_signature
marked_core Mpc1 rest = refl
marked_core Mpc2 rest = refl

marked_print : (rest : List ℕ) → is_by_print (codes "MPC3" ++ rest) ≡ true
unfolding print_signature
marked_print rest = refl

allowed_in : (allowed : Allowances) (rest : List ℕ) → rules_in (codes "MPC3" ++ (number_text (allowance_bits allowed) ++ rest)) ≡ print_rules allowed
allowed_in allowed rest =
    let few = few_allowed allowed in
    let here : number_at (codes "MPC3" ++ (number_text (allowance_bits allowed) ++ rest)) 4 4 ≡ allowance_bits allowed = omega (arith, few) in
    let print : is_by_print (codes "MPC3" ++ (number_text (allowance_bits allowed) ++ rest)) ≡ true = marked_print (number_text (allowance_bits allowed) ++ rest) in
    rw (print, here) (ap print_rules (allowed_back allowed))

pub rules_back : (rules : Rules) (c : CertificateValue) → rules_in (certificate_text rules c) ≡ in_force rules
rules_back rules c = by_profile (is_print rules) refl
  where
    by_profile : (fine : Bool) → is_print rules ≡ fine → rules_in (text_where fine rules.allowed c) ≡ (if fine then rules else core_rules)
    by_profile true e = allowed_in rules.allowed (numbers_of c) ∙ ap (λ (profile : Profile). ruled profile rules.allowed) (sym (print_profile rules.profile e))
    by_profile false e = rw (marked_core c.version (numbers_of c)) refl
