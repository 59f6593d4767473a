-- A map of members with one more member.
use Rattle.std.specs.Prelude.{◌≡◌, ℕ, List, Option, String, option_map}
use Rattle.std.specs.Borrow.{Bor}
use Rattle.std.specs.declared.alloc.Global.{Global}
use Rattle.serde_json.specs.Data.{Data, put}
use Rattle.serde_json.specs.View.{members_view}
use Rattle.serde_json.specs.declared.value.Value.{Value}

-- the new map is the old one with a value under this name
abbrev pub Puts : List ℕ → Data → List (String Global × Value) → List (String Global × Value) → Type 0
Puts name value old new = members_view new ≡ put name value (members_view old)

-- a text that may be missing
abbrev pub text_in : Option (Bor (List ℕ)) → Option (List ℕ)
text_in text = option_map (λ it. it.now) text
