-- The text of the member `faults` in an object.
use Rattle.std.specs.Prelude.{◌≡◌, ℕ, Bool, false, List, [], ◌∷◌, ◌++◌, Option, codes}
use Rattle.serde_json.specs.Data.{Items, string}
use Rattle.meta_headers.specs.declared.opened.FileFormat.{FileFormat}
use Rattle.file_info.specs.InfoReport.{counted_data}
use Rattle.file_info.specs.declared.fault_count.FaultCount.{FaultCount}
use Rattle.serde_json.specs.Written.{comma_if, compact_text, items_text}

-- a comma, the name `faults`, and the beginning of a list
abbrev pub faults_head : List ℕ
faults_head = 44 ∷ (compact_text (string (codes "faults")) ++ 58 ∷ 91 ∷ [])

-- the text of the member `faults`, between commas
abbrev pub faults_text : Items → List ℕ
faults_text items = 44 ∷ (compact_text (string (codes "faults")) ++ 58 ∷ 91 ∷ (items_text false items ++ 44 ∷ []))

-- the text of a fault that was counted, after a comma if it isn't the first
abbrev pub item_text : Bool → Option FileFormat → FaultCount → List ℕ
item_text later format counted = comma_if later ++ compact_text (counted_data format counted)

-- a text ends with a brace, and the member `faults` takes its place
abbrev pub PutsFaults : Items → List ℕ → List ℕ → Type 0
PutsFaults items old new = (start : List ℕ) → old ≡ start ++ 125 ∷ [] → new ≡ start ++ faults_text items
