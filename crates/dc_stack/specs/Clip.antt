-- The clip: which pixels drawings may write.
use Rattle.std.specs.Prelude.{ℕ, Bool, true, ◌&&◌, not, List, [], ◌∷◌, ◌++◌, map, Option, Some, None}
use Rattle.std.specs.List.{list_any}
use Rattle.std.specs.Option.{option_map}
use Rattle.mapping.specs.Boxes.{common_box}
use Rattle.mapping.specs.PixelBoxes.{in_box}
use Rattle.mapping.specs.declared.geometry.Rect.{Rect}
use Rattle.mapping.specs.Surface.{Surface, placed}

-- one kept box or none, and the boxes that are cut out, in the order in which they were
pub record ClipValue : Type 0 where
  pub kept : Option Rect
  pub cuts : List Rect

-- nothing is clipped
abbrev pub unclipped : ClipValue
unclipped = record { kept = None; cuts = [] }

-- the most boxes that are cut out at a time
abbrev pub cut_limit : ℕ
cut_limit = 16

-- a box, intersected with the kept box, if there is one
abbrev pub within_kept : Option Rect → Rect → Rect
within_kept None box = box
within_kept (Some kept) box = common_box kept box

-- the clip, intersected with a box
abbrev pub with_kept : Rect → ClipValue → ClipValue
with_kept box clip = record { kept = Some (within_kept clip.kept box); cuts = clip.cuts }

-- the clip with one more box cut out
abbrev pub with_cut : Rect → ClipValue → ClipValue
with_cut box clip = record { kept = clip.kept; cuts = clip.cuts ++ box ∷ [] }

-- a box of the plane, on a surface
abbrev pub placed_box : Surface → Rect → Rect
placed_box s box = record {
  l = placed box.l s.width s.frame_width;
  t = placed box.t s.height s.frame_height;
  r = placed box.r s.width s.frame_width;
  b = placed box.b s.height s.frame_height;
}

-- the boxes of a clip, on a surface
abbrev pub placed_clip : Surface → ClipValue → ClipValue
placed_clip s clip = record { kept = option_map (placed_box s) clip.kept; cuts = map (placed_box s) clip.cuts }

-- the kept box contains the pixel; if there is none, every pixel is kept
abbrev pub in_kept : Option Rect → ℕ → ℕ → Bool
in_kept None x y = true
in_kept (Some box) x y = in_box box x y

-- the pixel is in the kept box, if there is one, and in no box that is cut out
abbrev pub in_boxes : ClipValue → ℕ → ℕ → Bool
in_boxes clip x y = in_kept clip.kept x y && not (list_any (λ box. in_box box x y) clip.cuts)

-- the clip contains the surface's pixel (x, y)
abbrev pub in_clip : ClipValue → Surface → ℕ → ℕ → Bool
in_clip clip s x y = in_boxes (placed_clip s clip) x y
