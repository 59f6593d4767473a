-- What the headers of a file say about its size on paper.
use Rattle.std.specs.Prelude.{ℕ, ◌*◌, Bool, ◌==◌, ◌&&◌, nat_le, not, if◌then◌else◌, List, length, Option, Some, None}
use Rattle.mapping.specs.declared.geometry.Rect.{Rect}
use Rattle.point_views.specs.Numbers.{i32_at, number_at}
use Rattle.proportions.specs.Rounding.{nearest}
use Rattle.meta_headers.specs.declared.opened.FileFormat.{FileFormat}
use Rattle.meta_headers.specs.declared.opened.FileFormat.TheVariants.{Placeable, Plain, Emf}
use Rattle.file_info.specs.declared.paper.Axes.{Axes}

-- the hundredths of a millimetre in an inch
abbrev pub inch : ℕ
inch = 2540

-- the number has at most 32 bits
abbrev pub is_short : ℕ → Bool
is_short number = nat_le number 4294967295

-- a number of each axis, if both have at most 32 bits
abbrev pub short_axes : ℕ → ℕ → Option Axes
short_axes x y = if is_short x && is_short y then Some (record { x = x; y = y }) else None

-- a length in hundredths of a millimetre, by the units per inch
abbrev pub length_of_units : ℕ → ℕ → ℕ
length_of_units units per_inch = nearest (units * inch) per_inch

-- Inch of META_PLACEABLE, the units per inch on both axes, [MS-WMF] 2.3.2.3
abbrev pub units_per_inch : List ℕ → ℕ
units_per_inch file = number_at file 14 2

-- Inch is there, and isn't 0
abbrev pub has_inch : List ℕ → Bool
has_inch file = nat_le 16 (length file) && not (units_per_inch file == 0)

-- the dots per inch of a placeable file: Inch, on both axes
abbrev pub placeable_dots : List ℕ → Option Axes
placeable_dots file = short_axes (units_per_inch file) (units_per_inch file)

-- the size of a placeable file's frame with this width and height in units
abbrev pub placeable_paper : List ℕ → ℕ → ℕ → Option Axes
placeable_paper file width height =
    short_axes (length_of_units width (units_per_inch file)) (length_of_units height (units_per_inch file))

-- dots per inch of a device with this many pixels on this many millimetres
abbrev pub dots_per_inch : ℕ → ℕ → ℕ
dots_per_inch pixels millimetres = nearest (pixels * inch) (100 * millimetres)

-- a length in hundredths of a millimetre, by its pixels, and by the pixels and the millimetres of a device
abbrev pub length_of_pixels : ℕ → ℕ → ℕ → ℕ
length_of_pixels length pixels millimetres = nearest (length * (100 * millimetres)) pixels

-- the dots per inch of an EMF file, by Device and Millimeters of the header, [MS-EMF] 2.2.9
abbrev pub emf_dots : List ℕ → Option Axes
emf_dots file =
    short_axes (dots_per_inch (number_at file 72 4) (number_at file 80 4)) (dots_per_inch (number_at file 76 4) (number_at file 84 4))

-- the size of an EMF file's frame with this width and height in pixels, by the same fields
abbrev pub emf_paper : List ℕ → ℕ → ℕ → Option Axes
emf_paper file width height =
    short_axes (length_of_pixels width (number_at file 72 4) (number_at file 80 4)) (length_of_pixels height (number_at file 76 4) (number_at file 84 4))

-- the number of four bytes at an offset isn't 0
abbrev pub is_given : List ℕ → ℕ → Bool
is_given file place = not (number_at file place 4 == 0)

-- EMR_HEADER's fields are complete
abbrev pub has_emf_header : List ℕ → Bool
has_emf_header file = nat_le 88 (length file)

-- Device and Millimeters have no 0
abbrev pub has_no_zero : List ℕ → Bool
has_no_zero file = is_given file 72 && is_given file 76 && is_given file 80 && is_given file 84

-- Device and Millimeters are there, and have no 0
abbrev pub has_device : List ℕ → Bool
has_device file = has_emf_header file && has_no_zero file

-- the dots per inch that the headers of a file of some format give
abbrev pub dots_in : FileFormat → List ℕ → Option Axes
dots_in Placeable file = if has_inch file then placeable_dots file else None
dots_in Plain file = None
dots_in Emf file = if has_device file then emf_dots file else None

-- the size on paper that the headers of a file of some format give to a frame with this width and height
abbrev pub paper_in : FileFormat → List ℕ → ℕ → ℕ → Option Axes
paper_in Placeable file width height = if has_inch file then placeable_paper file width height else None
paper_in Plain file width height = None
paper_in Emf file width height = if has_device file then emf_paper file width height else None

-- Frame of an EMF file's header, in hundredths of a millimetre, [MS-EMF] 2.2.9
abbrev pub emf_frame : List ℕ → Rect
emf_frame file = record { l = i32_at file 24; t = i32_at file 28; r = i32_at file 32; b = i32_at file 36 }

-- Frame, if the file is EMF
abbrev pub emf_frame_in : FileFormat → List ℕ → Option Rect
emf_frame_in Placeable file = None
emf_frame_in Plain file = None
emf_frame_in Emf file = if has_emf_header file then Some (emf_frame file) else None
