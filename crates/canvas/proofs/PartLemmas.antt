-- A part of a list of colours, with others in its place.
use Rattle.std.proofs.Common.{◌≡◌, ℕ, suc, ◌+◌, ◌-◌, ◌<◌, ◌≤◌, List, [], ◌∷◌, ◌++◌, length, get_or, replicate, set, take, drop, refl, ap, sym, ◌∙◌, arith}
use Rattle.std.proofs.lemmas.List.{get_or-append_right, get_or-drop, get_or-replicate, get_or-take, get_or_append_left, length-append, length-drop, length-replicate, length-take-le, same_lists, set_split}
use Rattle.mapping.specs.declared.geometry.Colour.{Colour}
use Rattle.canvas.specs.PartsMade.{EachIs}

-- a part of a list with others in its place
abbrev pub with_part : ℕ → List Colour → List Colour → List Colour
with_part place made colours = take place colours ++ (made ++ drop (place + length made) colours)

module _ (place : ℕ) (made colours : List Colour) (capacity : place + length made ≤ length colours) where
  length-prefix : length (take place colours) ≡ place
  length-prefix = length-take-le place colours (omega arith)

  pub length-with_part : length (with_part place made colours) ≡ length colours
  length-with_part = simp (length-append, length-drop) (omega (arith, length-prefix))

  pub part_before : (k : ℕ) (d : Colour) → k < place → get_or (with_part place made colours) k d ≡ get_or colours k d
  part_before k d h = get_or_append_left (take place colours) _ d k (omega (arith, length-prefix)) ∙ get_or-take place colours k d h

  part_from : (k : ℕ) (d : Colour) → place ≤ k → get_or (with_part place made colours) k d ≡ get_or (made ++ drop (place + length made) colours) (k - place) d
  part_from k d h = get_or-append_right (take place colours) _ place k d length-prefix h

  pub part_here : (k : ℕ) (d : Colour) → place ≤ k → k < place + length made → get_or (with_part place made colours) k d ≡ get_or made (k - place) d
  part_here k d low high = part_from k d low ∙ get_or_append_left made _ d (k - place) (omega arith)

  pub part_after : (k : ℕ) (d : Colour) → place + length made ≤ k → get_or (with_part place made colours) k d ≡ get_or colours k d
  part_after k d h =
      let e : place + length made + (k - place - length made) ≡ k = omega arith in
      part_from k d (omega arith)
      ∙ get_or-append_right made _ (length made) (k - place) d refl (omega arith)
      ∙ get_or-drop (place + length made) colours (k - place - length made) d
      ∙ ap (λ (i : ℕ). get_or colours i d) e

-- one colour put at a place
pub set_is_part : (colours : List Colour) (place : ℕ) (colour : Colour) → place < length colours → set colours place colour ≡ with_part place (colour ∷ []) colours
set_is_part colours place colour h =
    let next : suc place ≡ place + 1 = omega arith in
    set_split colours place colour h ∙ ap (λ (i : ℕ). take place colours ++ ((colour ∷ []) ++ drop i colours)) next

-- so many colours, each of which is this one
pub all_one : (colours : List Colour) (count : ℕ) (colour : Colour) → length colours ≡ count → EachIs count colours (λ k any. colour) → colours ≡ replicate count colour
all_one colours count colour long each =
    same_lists colours (replicate count colour) (long ∙ sym (length-replicate count colour)) (λ k d h.
    let there : k < count = omega (arith, h, long) in
    each k d there ∙ sym (get_or-replicate count k colour d there))
