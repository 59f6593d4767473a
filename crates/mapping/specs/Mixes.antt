-- Changes to a colour, bit by bit.
use Rattle.std.specs.Prelude.{ℕ, bit_and, bit_xor}
use Rattle.mapping.specs.declared.geometry.Colour.{Colour}
use Rattle.mapping.specs.declared.mix.Mix.{Mix}

-- a component of a colour: a bit is kept if `keep` has a 1, dropped if it has a 0, and then flipped if `flip` has a 1
abbrev pub mixed_part_by : ℕ → ℕ → ℕ → ℕ
mixed_part_by keep flip old = bit_xor (bit_and keep old) flip

-- a colour after the mix, component by component
abbrev pub mixed_by : Mix → Colour → Colour
mixed_by mix old = record {
  r = mixed_part_by mix.keep.r mix.flip.r old.r;
  g = mixed_part_by mix.keep.g mix.flip.g old.g;
  b = mixed_part_by mix.keep.b mix.flip.b old.b;
}
