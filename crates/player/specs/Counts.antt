-- How far the count of writes is from its limit, and how much a file adds to it.
use Rattle.std.specs.Prelude.{◌+◌, ◌≤◌, ◌^◌}
use Rattle.canvas.specs.CanvasState.{CanvasState}

-- the count can grow by the writes of a file without overflow: 2^20 records, each with two layers of at most 2^26
-- pixels
abbrev pub HasCapacityForFile : CanvasState → Type 0
HasCapacityForFile canvas = canvas.writes ≤ 2 ^ 63

-- a file was counted: at most the writes of 2^20 records, each with two layers
abbrev pub CountsFile : CanvasState → CanvasState → Type 0
CountsFile old new = new.writes ≤ old.writes + 2 ^ 47
