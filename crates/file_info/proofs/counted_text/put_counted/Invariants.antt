use Rattle.std.proofs.Common.{◌≡◌, ◌++◌, false}
use Rattle.serde_json.specs.Written.{items_text}
use Rattle.file_info.specs.InfoReport.{counted_items}
use Rattle.file_info.proofs.counted_text.put_counted.Given as goal

-- the text so far, and that of the faults that remain, are the whole text
abbrev pub invariant-loop-counted : goal.invariant-loop-counted
invariant-loop-counted l = record {
  whole : l.text.items ++ items_text l.is_later (counted_items l.fn.format l.counted-iterator) ≡ l.fn.text.items ++ items_text false (counted_items l.fn.format l.fn.faults);
}
