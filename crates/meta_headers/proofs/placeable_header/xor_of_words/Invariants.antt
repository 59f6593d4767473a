use Rattle.std.proofs.Common.{◌≡◌}
use Rattle.meta_headers.specs.PlaceableHeader.{xor_of_words}
use Rattle.meta_headers.proofs.placeable_header.xor_of_words.Given as goal

-- the sum so far is that of the words so far
abbrev pub invariant-loop-i : goal.invariant-loop-i
invariant-loop-i l = l.sum ≡ xor_of_words l.file l.i
