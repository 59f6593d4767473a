-- All numbers of an item are integers.
use Rattle.file_info.proofs.TextLemmas.{counted_whole}
use Rattle.file_info.proofs.counted_text.put_item.Goals as goal

pub compact_text_of-requires : goal.compact_text_of-requires
compact_text_of-requires c = rw c.in_ok-item.ensures (counted_whole c.args.format c.args.counted)
