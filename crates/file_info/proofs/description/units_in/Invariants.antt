use Rattle.std.proofs.Common.{◌≡◌, ◌++◌, ◌*◌, ◌-◌, drop}
use Rattle.point_views.specs.Counts.{counts_in}
use Rattle.point_views.specs.declared.numbers.NumberWidth.TheVariants.{Short}
use Rattle.file_info.proofs.description.units_in.Given as goal

-- the code units so far, and those that remain, are all of them
abbrev pub invariant-loop-place : goal.invariant-loop-place
invariant-loop-place l = l.units.items ++ counts_in Short (l.fn.count - l.place) (drop (2 * l.place) l.fn.bytes) ≡ counts_in Short l.fn.count l.fn.bytes
