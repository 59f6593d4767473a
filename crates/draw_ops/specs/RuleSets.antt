-- Sets of rules, and what they allow.
use Rattle.std.specs.Prelude.{ℕ, ◌+◌, ◌/◌, ◌%◌, Bool, true, false, ◌&&◌, ◌||◌, ◌==◌, not, nat_lt, if◌then◌else◌, Option, Some, None}
use Rattle.draw_ops.specs.declared.rules.Allowances.{Allowances}
use Rattle.draw_ops.specs.declared.rules.Profile.{Profile}
use Rattle.draw_ops.specs.declared.rules.Profile.TheVariants.{Core, Print}
use Rattle.draw_ops.specs.declared.rules.Rules.{Rules}

-- the default rules: the core profile, with nothing allowed
abbrev pub core_rules : Rules
core_rules = record { profile = Core; allowed = record { held_deletion = false; emf_plus = false } }

-- the rules of the print profile with some of this allowed
abbrev pub print_rules : Allowances → Rules
print_rules allowed = record { profile = Print; allowed = allowed }

-- what is allowed as a number: bit 0 for held deletions, bit 1 for EMF+ without a drawing
abbrev pub allowance_bits : Allowances → ℕ
allowance_bits allowed = (if allowed.held_deletion then 1 else 0) + (if allowed.emf_plus then 2 else 0)

-- what these two bits of a number allow
abbrev pub allowances_in : ℕ → Allowances
allowances_in bits = record { held_deletion = bits % 2 == 1; emf_plus = bits / 2 % 2 == 1 }

-- the same, if the number has no other bits
abbrev pub allowances_of : ℕ → Option Allowances
allowances_of bits = if nat_lt bits 4 then Some (allowances_in bits) else None

-- the profile is print
abbrev pub is_print_profile : Profile → Bool
is_print_profile Core = false
is_print_profile Print = true

-- the rules are of the print profile
abbrev pub is_print : Rules → Bool
is_print rules = is_print_profile rules.profile

-- the rules in force: under the core profile nothing is allowed
abbrev pub in_force : Rules → Rules
in_force rules = if is_print rules then rules else core_rules

-- a selected object may be deleted: under the print profile, if that is allowed
abbrev pub allows_held_deletion : Rules → Bool
allows_held_deletion rules = is_print rules && rules.allowed.held_deletion

-- a file may contain EMF+ and draw nothing by its own records: always under the core profile, and under the print
-- profile if that is allowed
abbrev pub allows_emf_plus : Rules → Bool
allows_emf_plus rules = not (is_print rules) || rules.allowed.emf_plus
