-- The line is put together from its pieces.
use Rattle.std.proofs.Common.{◌≡◌, ◌∙◌, ◌++◌, List, ℕ, [], ◌∷◌, ap, drop}
use Rattle.serde_json.specs.Data.{object}
use Rattle.serde_json.specs.Written.{compact_text}
use Rattle.file_info.specs.InfoReport.{last_members}
use Rattle.file_info.proofs.TextLemmas.{first_whole, in_pieces, last_whole}
use Rattle.file_info.proofs.info_report.info_text.Goals as goal

pub compact_text_of-requires : goal.compact_text_of-requires
compact_text_of-requires c = rw c.in_ok-first.ensures (first_whole c.args.info.now)

pub compact_text_of-requires-2 : goal.compact_text_of-requires-2
compact_text_of-requires-2 c = rw c.in_ok-last.ensures (last_whole c.args.name.now c.args.info.now)

pub returns : goal.returns
returns c =
    let first = c.in_ok-text.ensures ∙ ap compact_text c.in_ok-first.ensures in
    let rest = c.in_ok-rest.ensures ∙ ap compact_text c.in_ok-last.ensures in
    let line = in_pieces c.args.name.now c.args.info.now c.in_ok-text.text.items c.put_faults.new.text.items first c.in_ok-put_faults.ensures in
    let tail : c.without_first.result.now ≡ drop 1 (compact_text (object (last_members c.args.name.now c.args.info.now))) =
    c.without_first.ensures ∙ ap (drop 1) (c.deref.ensures.value ∙ rest) in
    c.in_ok-push.ensures.items
    ∙ (ap (λ (t : List ℕ). t ++ 10 ∷ []) (c.in_ok-extend_from_slice.ensures.items ∙ ap (λ (t : List ℕ). c.put_faults.new.text.items ++ t) tail) ∙ line)
