-- Paths, and how operations change them ([MS-EMF] 2.3.10).
use Rattle.std.specs.Prelude.{ℕ, ◌+◌, Bool, true, false, if◌then◌else◌, nat_le, List, [], ◌∷◌, Option, Some, None}
use Rattle.std.specs.List.{flat_map}
use Rattle.mapping.specs.declared.geometry.Point.{Point}
use Rattle.draw_ops.specs.declared.record_fault.RecordFault.{RecordFault}
use Rattle.draw_ops.specs.declared.record_fault.RecordFault.TheVariants.{PathState, TooManyPieces}
use Rattle.dc_stack.specs.Figures.{Figure, Figures, all_figures, with_current_done, with_lines, with_polygons, with_polylines}

-- No path; or an open path, to which records add, with the number of pieces so far; or a finished path, ready to be
-- painted.
pub data Path : Type 0 where
  no_path : Path
  open_path : Figures → ℕ → Path
  finished_path : List Figure → Path

-- records add to the path
abbrev pub is_open : Path → Bool
is_open no_path = false
is_open (open_path figures pieces) = true
is_open (finished_path figures) = false

-- the path is ready to be painted
abbrev pub is_finished : Path → Bool
is_finished no_path = false
is_finished (open_path figures pieces) = false
is_finished (finished_path figures) = true

-- an open path with its figures changed, and more pieces; any other path is unchanged
abbrev pub with_figures : (Figures → Figures) → (Figures → ℕ) → Path → Path
with_figures change pieces_more no_path = no_path
with_figures change pieces_more (open_path figures pieces) = open_path (change figures) (pieces + pieces_more figures)
with_figures change pieces_more (finished_path figures) = finished_path figures

-- a path after the position moves: the open figure is finished
abbrev pub after_moving : Path → Path
after_moving path = with_figures (with_current_done false) (λ figures. 0) path

-- a path after a closing record: the open figure is finished and closed
abbrev pub after_closing : Path → Path
after_closing path = with_figures (with_current_done true) (λ figures. 0) path

-- one piece for points, if there are any
abbrev pub piece_for : List Point → ℕ
piece_for [] = 0
piece_for (p ∷ ps) = 1

-- the number of pieces of lines through points: one, and another if a figure begins at the current position
abbrev pub pieces_of_lines : List Point → List Point → ℕ
pieces_of_lines current [] = 0
pieces_of_lines [] (p ∷ ps) = 2
pieces_of_lines (q ∷ qs) (p ∷ ps) = 1

-- a path after lines from the current position through points of the plane
abbrev pub after_lines : Point → List Point → Path → Path
after_lines position points path = with_figures (with_lines position points) (λ figures. pieces_of_lines figures.current points) path

-- a path after polylines
abbrev pub after_polylines : List (List Point) → Path → Path
after_polylines lists path = with_figures (with_polylines lists) (λ figures. piece_for (flat_map (λ list. list) lists)) path

-- a path after polygons
abbrev pub after_polygons : List (List Point) → Path → Path
after_polygons lists path = with_figures (with_polygons lists) (λ figures. piece_for (flat_map (λ list. list) lists)) path

-- a path after an ending record: an open path is finished
abbrev pub after_ending : Path → Path
after_ending no_path = no_path
after_ending (open_path figures pieces) = finished_path (all_figures figures)
after_ending (finished_path figures) = finished_path figures

-- the number of pieces of an open path; 0 for any other
abbrev pub piece_count : Path → ℕ
piece_count no_path = 0
piece_count (open_path figures pieces) = pieces
piece_count (finished_path figures) = 0

-- the most pieces of a path
unfoldable pub piece_limit : ℕ
piece_limit = 65536

-- there are more pieces than allowed
abbrev pub pieces_fault : ℕ → Option RecordFault
pieces_fault count = if nat_le count piece_limit then None else Some TooManyPieces

-- the fault of beginning a path while one is open
abbrev pub begin_fault : Path → Option RecordFault
begin_fault path = if is_open path then Some PathState else None

-- the fault of closing a figure, or of ending a path, if no path is open
abbrev pub open_fault : Path → Option RecordFault
open_fault path = if is_open path then None else Some PathState

-- the fault of painting a path if none is finished
abbrev pub finished_fault : Path → Option RecordFault
finished_fault path = if is_finished path then None else Some PathState

-- the figures of a finished path
abbrev pub figures_to_paint : Path → Option (List Figure)
figures_to_paint no_path = None
figures_to_paint (open_path figures pieces) = None
figures_to_paint (finished_path figures) = Some figures

-- what an operation draws if no path is open; an open path is added to instead
abbrev pub unless_open : {A : Type 0} → Path → Option A → Option A
unless_open path drawing = if is_open path then None else drawing

-- the points that are added to an open path
abbrev pub points_if_open : Path → (Figures → List Point) → List Point
points_if_open no_path points = []
points_if_open (open_path figures pieces) points = points figures
points_if_open (finished_path figures) points = []
