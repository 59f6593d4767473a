-- The entries stand apart behind the head, each with its nib.
use Rattle.std.proofs.Common.{◌≡◌, ◌≤◌, ℕ, List, ◌+◌, ◌-◌, ◌*◌, ◌/◌, ◌++◌, length, drop, replicate, take, ap, sym, subst, ◌∙◌, arith, rules}
use Rattle.std.specs.List.{flat_map}
use Rattle.std.proofs.lemmas.List.{length-append, length-drop, take_all, take_rest, with_items_is}
use Rattle.preflight_cert.specs.CertificateText.{entry_text}
use Rattle.preflight_cert.specs.DraftOf.{StandIn}
use Rattle.preflight_cert.specs.declared.version.Version.TheVariants.{Mpc1, Mpc2}
use Rattle.preflight_cert.proofs.DraftLemmas.{counted, length_put, longer, nibs_stand, sized}
use Rattle.preflight_cert.proofs.widening.put_nibs.Goals as goal
use borrow.Rule.Slice.PartMut.{put_mid}

pub returns : goal.returns
returns c entries single stand =
    let old = c.args.text.now in
    let new = c.lengthen.new.text in
    let now = c.deref_mut.result.now in
    let apart = c.spread.new.bytes in
    let held : old.len ≡ length old.items = search rules in
    let count : c.saturating_sub-count.result / 20 ≡ length entries =
    ap (λ (n : ℕ). n / 20) c.saturating_sub-count.ensures ∙ ap (λ (n : ℕ). (n - 40) / 20) (c.len.ensures ∙ held) ∙ counted 40 Mpc1 old.items entries stand in
    let size = sized 40 Mpc1 old.items entries stand in
    let had = stand.capacity in
    let n = 40 + 24 * (c.saturating_sub-count.result / 20) in
    let noughts : List ℕ = replicate (n - length old.items) 0 in
    let long : length old.items ≤ n = omega (arith, count, size, had) in
    let items : now ≡ take n old.items ++ noughts = c.deref_mut.ensures.value ∙ c.in_ok-lengthen.ensures in
    let all = ap length (items ∙ ap (λ (kept : List ℕ). kept ++ noughts) (take_all n old.items long)) ∙ length-append old.items noughts in
    let capacity : 40 ≤ length now = omega (arith, all, had) in
    let slice : take (length now - 40) (drop 40 now) ≡ flat_map (entry_text Mpc1) entries ++ noughts =
    take_rest now 40 ∙ ap (λ (bytes : List ℕ). drop 40 bytes) items ∙ longer old.items entries n (n - length old.items) stand long in
    let part : length apart ≡ length now - 40 = c.spread.ensures.len ∙ ap length (take_rest now 40) ∙ length-drop 40 now in
    let wide = c.spread.ensures.entries entries noughts (sym count) single slice in
    subst (λ (bytes : List ℕ). StandIn 40 Mpc2 bytes entries)
    (sym (with_items_is new (put_mid 40 (length now - 40) now apart) (length_put now apart capacity part ∙ c.deref_mut.ensures.len)))
    (nibs_stand now apart entries capacity part wide)
