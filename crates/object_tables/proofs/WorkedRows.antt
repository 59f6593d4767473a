-- The definitions on worked values.
use Rattle.std.proofs.Common.{◌≡◌, [], ◌∷◌, Some, None, refl}
use Rattle.draw_ops.specs.Objects.{ObjectValue, brush_object, font_object, null_brush}
use Rattle.draw_ops.specs.declared.record_fault.RecordFault.TheVariants.{HandleTaken, NoSuchHandle}
use Rattle.object_tables.specs.Slots.{Slots, lowest_free, object_at, with_object, without_object}
use Rattle.object_tables.specs.Table.{by_given_index, by_lowest_free, create_fault, created_index}

-- one more object at the least free index
abbrev create : ObjectValue → Slots → Slots
create object slots = with_object (lowest_free slots) object slots

-- three fonts, of which the first and then the second were deleted
abbrev third_left : Slots
third_left = without_object 1 (without_object 0 (create font_object (create font_object (create font_object []))))

third_is_left : third_left ≡ (2, font_object) ∷ []
third_is_left = refl

-- three more get the indexes 0, 1 and 3
next_is_0 : created_index by_lowest_free None third_left ≡ 0
next_is_0 = refl

then_1 : created_index by_lowest_free None (create font_object third_left) ≡ 1
then_1 = refl

then_3 : created_index by_lowest_free None (create font_object (create font_object third_left)) ≡ 3
then_3 = refl

-- an object is found at its index, also where others came later
brush_is_found : object_at 3 (with_object 0 font_object (with_object 3 (brush_object null_brush) third_left)) ≡ Some (brush_object null_brush)
brush_is_found = refl

nothing_is_found : object_at 1 third_left ≡ None
nothing_is_found = refl

-- with a count of 3 the indexes 1 and 2 may be given, each once
zero_is_rejected : create_fault (by_given_index 3) (Some 0) [] ≡ Some NoSuchHandle
zero_is_rejected = refl

last_is_free : create_fault (by_given_index 3) (Some 2) [] ≡ None
last_is_free = refl

past_the_last_is_rejected : create_fault (by_given_index 3) (Some 3) [] ≡ Some NoSuchHandle
past_the_last_is_rejected = refl

taken_is_rejected : create_fault (by_given_index 3) (Some 2) third_left ≡ Some HandleTaken
taken_is_rejected = refl
