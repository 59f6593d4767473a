-- Changes to the colours of a part of a row.
use Rattle.std.specs.Prelude.{◌≡◌, ℕ, ◌<◌, Bool, List, length, slice_index_or, if◌then◌else◌}
use Rattle.mapping.specs.Mixes.{mixed_by}
use Rattle.mapping.specs.declared.geometry.Colour.{Colour}
use Rattle.mapping.specs.declared.mix.Mix.{Mix}

-- each of the first colours, up to this number, is what f says for its index; f may get any old colour if there is none
abbrev pub EachIs : ℕ → List Colour → (ℕ → Colour → Colour) → Type 0
EachIs count colours f = (k : ℕ) (any : Colour) → k < count → slice_index_or colours k any ≡ f k any

-- each of the first colours, up to this number, is the result of the mix at its index on the old one
abbrev pub EachMixed : ℕ → (ℕ → Mix) → List Colour → List Colour → Type 0
EachMixed count mixes old new = EachIs count new (λ k any. mixed_by (mixes k) (slice_index_or old k any))

-- each colour whose index passes the test is what f makes of the old one, and every other is the old one
abbrev pub ChangedWhere : (ℕ → Bool) → (Colour → Colour) → List Colour → List Colour → Type 0
ChangedWhere test f old new =
    EachIs (length old) new (λ k any. if test k then f (slice_index_or old k any) else slice_index_or old k any)
