-- The value of a path that a machine gathers.
use Rattle.std.specs.Prelude.{◌≡◌, ◌≢◌, ◌⊎◌, ℕ, ◌+◌, ◌<◌, ◌≤◌, Option, Some, None, Result, Ok, Err, Bool, true, false, List, [], ◌∷◌, ◌++◌, length, vec_capacity}
use Rattle.std.specs.Option.{option_map}
use Rattle.mapping.specs.PageMap.{map_numbers}
use Rattle.mapping.specs.PlaceOf.{surface_of}
use Rattle.mapping.specs.Surface.{Surface}
use Rattle.mapping.specs.declared.geometry.Point.{Point}
use Rattle.mapping.specs.declared.geometry.Rect.{Rect}
use Rattle.mapping.specs.declared.page_map.PageMap.{PageMap}
use Rattle.draw_ops.specs.declared.fault.Fault.{Fault}
use Rattle.draw_ops.specs.declared.fault.Fault.TheVariants.{OutOfMemory, Record}
use Rattle.draw_ops.specs.declared.record_fault.RecordFault.{RecordFault}
use Rattle.dc_stack.specs.Drawing.{points_of_lists}
use Rattle.dc_stack.specs.Extents.{IsExtent}
use Rattle.dc_stack.specs.Figures.{all_figures, points_gone_on, points_of_figures}
use Rattle.dc_stack.specs.Mapped.{mapped_point}
use Rattle.dc_stack.specs.OperationFault.{addition_fault}
use Rattle.dc_stack.specs.Path.{Path, after_lines, finished_path, no_path, open_path, piece_count, piece_for, piece_limit, points_if_open, with_figures}
use Rattle.dc_stack.specs.Pieces.{AllLandOn, figures_of, plane_lists, with_lists}
use Rattle.dc_stack.specs.Placing.{mapped_piece}
use Rattle.dc_stack.specs.declared.path.GatheredPath.{GatheredPath}
use Rattle.dc_stack.specs.declared.path.PathPhase.{PathPhase}
use Rattle.dc_stack.specs.declared.path.PathPhase.TheVariants.{NoPath, BetweenFigures, InFigure, Finished, Painted}
use Rattle.dc_stack.specs.declared.piece.FigureEnd.TheVariants.{Open}
use Rattle.dc_stack.specs.declared.piece.Verb.{Verb}
use Rattle.dc_stack.specs.declared.piece.Verb.TheVariants.{GoesOn, Polylines, Polygons}
use Rattle.dc_stack.specs.declared.piece.Piece.{Piece}
use Rattle.dc_stack.specs.declared.piece.PiecePoints.{PiecePoints}
use Rattle.dc_stack.specs.declared.piece.PiecePoints.TheVariants.{Point as OnePoint}
use Rattle.dc_stack.specs.declared.projection.Projection.{Projection}

-- the path that pieces define, by its phase
abbrev pub path_in : PathPhase → List Piece → Path
path_in NoPath pieces = no_path
path_in BetweenFigures pieces = open_path (figures_of pieces) (length pieces)
path_in InFigure pieces = open_path (figures_of pieces) (length pieces)
path_in Finished pieces = finished_path (all_figures (figures_of pieces))
path_in Painted pieces = no_path

-- the pieces to be painted, by the path's phase
abbrev pub borrowed_in : PathPhase → List Piece → List Piece
borrowed_in NoPath pieces = []
borrowed_in BetweenFigures pieces = []
borrowed_in InFigure pieces = []
borrowed_in Finished pieces = []
borrowed_in Painted pieces = pieces

-- the value of a path
abbrev pub path_of : GatheredPath → Path
path_of path = path_in path.phase path.pieces.items

-- the pieces of a painted path
abbrev pub painted_of : GatheredPath → List Piece
painted_of path = borrowed_in path.phase path.pieces.items

-- records add to the path
abbrev pub is_open_phase : PathPhase → Bool
is_open_phase NoPath = false
is_open_phase BetweenFigures = true
is_open_phase InFigure = true
is_open_phase Finished = false
is_open_phase Painted = false

-- a new piece, whose figure is still open
abbrev pub open_piece : PiecePoints → PageMap → Verb → Piece
open_piece points map verb = record { points = points; map = map; verb = verb; end = Open }

-- the phase after a piece: polygons leave no figure open
abbrev pub phase_after : Verb → PathPhase
phase_after GoesOn = InFigure
phase_after Polylines = InFigure
phase_after Polygons = BetweenFigures

-- a figure is open exactly if the pieces leave one open, and there are at most as many pieces as allowed
pub record IsGathered (path : GatheredPath) : Type 0 where
  pub between : path.phase ≡ BetweenFigures → (figures_of path.pieces.items).current ≡ []
  pub within : path.phase ≡ InFigure → (figures_of path.pieces.items).current ≢ []
  pub few : length path.pieces.items ≤ piece_limit

-- all points of some pieces on the plane, figure by figure
abbrev pub gathered_points : List Piece → List Point
gathered_points pieces = points_of_figures (all_figures (figures_of pieces))

-- all points land on a surface, and the bounds are their extent on the plane
pub record LandsInside (s : Surface) (path : GatheredPath) : Type 0 where
  pub pieces : AllLandOn s path.pieces.items
  pub least : IsExtent path.bounds (gathered_points path.pieces.items)

-- two paths differ only in their capacity, which hasn't decreased
pub record IsSamePath (old new : GatheredPath) : Type 0 where
  pub phase : new.phase ≡ old.phase
  pub pieces : new.pieces.items ≡ old.pieces.items
  pub bounds : new.bounds ≡ old.bounds
  pub capacity : vec_capacity old.pieces ≤ vec_capacity new.pieces

-- an allocation failed: there is no other fault, but the capacity wasn't enough
pub record WantsPieceCapacity (first : Option RecordFault) (fault : Fault) (Lacks : Type 0) : Type 0 where
  pub no_fault : first ≡ None
  pub memory : fault ≡ OutOfMemory
  pub lacks : Lacks

-- there is no fault, and this is the extent of the points
pub record IsAccepted (reported : Option Rect) (points : List Point) (first : Option RecordFault) : Type 0 where
  pub no_fault : first ≡ None
  pub extent : IsExtent reported points

-- the result of adding points: accepted if there is no fault, otherwise the first fault; or an allocation failed
abbrev pub AnswersAddition : Result (Option Rect) Fault → List Point → Option RecordFault → Type 0 → Type 0
AnswersAddition (Ok extent) points first Lacks = IsAccepted extent points first
AnswersAddition (Err fault) points first Lacks = (option_map Record first ≡ Some fault) ⊎ WantsPieceCapacity first fault Lacks

-- the result of adding this many pieces with these points
abbrev pub AddsPieces : ℕ → List Point → GatheredPath → Projection → Result (Option Rect) Fault → Type 0
AddsPieces more points old by result =
    let count = length old.pieces.items + more in
    AnswersAddition result points (addition_fault count points (surface_of by.place)) (vec_capacity old.pieces < count)

-- the pieces of a path with a new one
abbrev pub with_added : PiecePoints → PageMap → Verb → GatheredPath → List Piece
with_added points map verb old = old.pieces.items ++ open_piece points map verb ∷ []

-- the pieces of a path with a new figure, which begins at a position and continues through points
abbrev pub with_begun : Point → PiecePoints → PageMap → GatheredPath → List Piece
with_begun position points map old = with_added (OnePoint position) map GoesOn old ++ open_piece points map GoesOn ∷ []

-- how lists that are separate figures change a path
abbrev pub after_lists : Verb → List (List Point) → Path → Path
after_lists verb lists path = with_figures (with_lists verb lists) (λ figures. piece_for (points_of_lists lists)) path

-- the result of adding lines from a position through points of the page
abbrev pub AnswersLines : Projection → Point → PiecePoints → GatheredPath → Result (Option Rect) Fault → Type 0
AnswersLines by position points old result =
    let start = mapped_point (map_numbers by.map) position in
    let through = mapped_piece by.map points in
    let path = path_of old in
    let added = points_if_open path (λ figures. points_gone_on start figures.current through) in
    let count = piece_count (after_lines start through path) in
    AnswersAddition result added (addition_fault count added (surface_of by.place)) (vec_capacity old.pieces < count)

-- the path with lines from a position through the points of a piece
abbrev pub path_with_lines : Point → PiecePoints → PageMap → GatheredPath → Path
path_with_lines position points map old = after_lines (mapped_point (map_numbers map) position) (mapped_piece map points) (path_of old)

-- the path with the lists of a piece
abbrev pub path_with_lists : Verb → PiecePoints → PageMap → GatheredPath → Path
path_with_lists verb points map old = after_lists verb (plane_lists (map_numbers map) points) (path_of old)

-- if the points of the old path land on a surface, so do those of the new one
abbrev pub StaysInside : Surface → GatheredPath → GatheredPath → Type 0
StaysInside s old new = LandsInside s old → LandsInside s new
