-- The head and the entries are the text.
use Rattle.std.proofs.Common.{◌≡◌, ℕ, ◌-◌, ◌/◌, List, ◌++◌, length, drop, ap, sym, ◌∙◌, arith}
use Rattle.std.proofs.lemmas.List.{length-append, length-drop, with_items_is}
use Rattle.preflight_cert.specs.DraftOf.{space_for}
use Rattle.preflight_cert.specs.TextParts.{head_value}
use Rattle.preflight_cert.proofs.DraftLemmas.{counted, finished, length-head}
use Rattle.preflight_cert.proofs.draft.Draft.finish.Goals as goal

-- the head takes no more than its room
pub put_prefix-requires : goal.put_prefix-requires
put_prefix-requires c =
    let rules = c.args.rules in
    let text = c.args.self.text in
    let first = ap length c.in_ok-prefix.ensures ∙ length-head rules c.args.self.version (head_value c.args.head) ((c.len.result - c.space_for.result) / c.entry_size.result) in
    let held = ap length c.deref_mut.ensures.value in
    let prefix = ap length c.deref.ensures.value in
    let capacity = c.requires.capacity in
    omega (arith, first, held, prefix, capacity)

pub returns : goal.returns
returns c entries h =
    let rules = c.args.rules in
    let space = space_for rules in
    let version = c.args.self.version in
    let text = c.args.self.text in
    let prefix = c.in_ok-prefix.prefix.items in
    let first = ap length c.in_ok-prefix.ensures ∙ length-head rules version (head_value c.args.head) ((c.len.result - c.space_for.result) / c.entry_size.result) in
    let put : c.put_prefix.new.text ≡ prefix ++ drop (length prefix) text.items = rw (c.deref.ensures.value, c.deref_mut.ensures.value) at c.put_prefix.ensures in
    let made : c.put_prefix.new.text ≡ prefix ++ drop space text.items = put ∙ ap (λ (n : ℕ). prefix ++ drop n text.items) first in
    let held : length text.items ≡ text.len = ap length (sym c.deref_mut.ensures.value) ∙ c.deref_mut.ensures.len in
    let all = ap length made ∙ length-append prefix (drop space text.items) in
    let rest = length-drop space text.items in
    let capacity = c.requires.capacity in
    let long : length c.put_prefix.new.text ≡ text.len = omega (arith, held, first, all, rest, capacity) in
    let count : (c.len.result - c.space_for.result) / c.entry_size.result ≡ length entries =
    ap (λ (n : ℕ). (n - c.space_for.result) / c.entry_size.result) (c.len.ensures ∙ sym held)
    ∙ ap (λ (n : ℕ). (length text.items - n) / c.entry_size.result) c.space_for.ensures
    ∙ ap (λ (n : ℕ). (length text.items - space) / n) c.entry_size.ensures
    ∙ counted space version text.items entries h.standing in
    with_items_is text c.put_prefix.new.text long ∙ made
    ∙ finished rules version (head_value c.args.head) ((c.len.result - c.space_for.result) / c.entry_size.result) text.items prefix entries h.standing c.in_ok-prefix.ensures count
