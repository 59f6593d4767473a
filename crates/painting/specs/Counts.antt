-- How far the count of writes is from its limit, and how much a drawing adds to it.
use Rattle.std.specs.Prelude.{◌+◌, ◌<◌, ◌≤◌, ◌^◌}
use Rattle.canvas.specs.CanvasState.{CanvasState}

-- the count can grow by twice the writes of a drawing's two layers without overflow
abbrev pub HasCapacityForDrawing : CanvasState → Type 0
HasCapacityForDrawing canvas = canvas.writes + 2 ^ 28 < 2 ^ 64

-- the count can grow by three times the writes of a layer without overflow
abbrev pub HasCapacityForLayer : CanvasState → Type 0
HasCapacityForLayer canvas = canvas.writes + 2 ^ 27 + 2 ^ 26 < 2 ^ 64

-- a drawing was counted: at most two writes of each pixel of a surface of 8,192 by 8,192
abbrev pub CountsDrawing : CanvasState → CanvasState → Type 0
CountsDrawing old new = new.writes ≤ old.writes + 2 ^ 27

-- a layer was counted: at most one write of each pixel
abbrev pub CountsLayer : CanvasState → CanvasState → Type 0
CountsLayer old new = new.writes ≤ old.writes + 2 ^ 26
