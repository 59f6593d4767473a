-- The profile in a report, and what a file uses of what its rules allow.
use Rattle.std.specs.Prelude.{ℕ, ◌==◌, if◌then◌else◌, List, codes}
use Rattle.serde_json.specs.Data.{Data, Members, no_members, object, put, string}
use Rattle.draw_ops.specs.RuleSets.{is_print}
use Rattle.draw_ops.specs.declared.rules.Rules.{Rules}
use Rattle.report_parts.specs.Parts.{whole}

-- one member more for what is used at least once, with how often
abbrev pub put_used : List ℕ → ℕ → Members → Members
put_used name count members = if count == 0 then members else put name (whole count) members

-- what a file uses of what its rules allow, by name: deletions of selected objects, and EMF+ without a drawing
abbrev pub uses_data : ℕ → ℕ → Data
uses_data deletions emf_plus = object (put_used (codes "emf-plus") emf_plus (put_used (codes "held-deletion") deletions no_members))

-- under the print profile one member more: the profile
abbrev pub with_profile : Rules → Members → Members
with_profile rules members = if is_print rules then put (codes "profile") (string (codes "print")) members else members

-- under the print profile one member more: what the file uses of what the rules allow
abbrev pub with_allowed : Rules → Data → Members → Members
with_allowed rules uses members = if is_print rules then put (codes "allowed") uses members else members
