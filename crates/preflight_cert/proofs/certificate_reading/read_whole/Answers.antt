-- What is read ends where the entries do.
use Rattle.std.proofs.Common.{◌≡◌, ◌+◌, ◌*◌, ◌≤◌, ℕ, List, length, ap, sym, ◌∙◌, arith}
use Rattle.preflight_cert.specs.CertificateReading.{count_in, entry_size, whole_size}
use Rattle.preflight_cert.specs.declared.version.Version.{Version}
use Rattle.preflight_cert.proofs.EntryLemmas.{is_read_whole, is_rejected}
use Rattle.preflight_cert.proofs.certificate_reading.read_whole.Goals as goal

-- the bytes end where the entries do, as their number is read
ends : (version : Version) (bytes : List ℕ) (count size : ℕ) → count ≡ count_in bytes → size ≡ entry_size version * count
    → 40 + size ≤ length bytes → length bytes ≤ 40 + size → length bytes ≡ whole_size version bytes
ends version bytes count size e f long short =
    let counted : size ≡ entry_size version * count_in bytes = f ∙ ap (λ (n : ℕ). entry_size version * n) e in omega (arith, counted, long, short)

pub returns-then-not-have_nibs-clause-value : goal.returns-then-not-have_nibs-clause-value
returns-then-not-have_nibs-clause-value c =
    let whole = ends c.args.version c.args.bytes.now _ _ c.u32_at.ensures c.entries_size-end.ensures.product c.if-bytes-end.false c.if-end-bytes.false in
    is_rejected c.args.version c.args.bytes.now whole (sym c.if-not-have_nibs.ensures)

pub returns-clause-value : goal.returns-clause-value
returns-clause-value c =
    let whole = ends c.args.version c.args.bytes.now _ _ c.u32_at.ensures c.entries_size-end.ensures.product c.if-bytes-end.false c.if-end-bytes.false in
    rw (c.u32_at-2.ensures, c.u32_at-3.ensures, c.u64_at.ensures, c.needs_in.ensures)
    (is_read_whole c.args.version c.args.bytes.now whole (sym c.if-not-have_nibs.ensures))
