-- After a second profile, a word that isn't its value is a fault.
use Rattle.std.proofs.Common.{◌≡◌, ◌∙◌, ◌||◌, ◌==◌, ap, is_some, not, refl, subst, ℕ, Bool, List, [], ◌∷◌, false, true, Option, Some, None, codes}
use Rattle.std.specs.List.{list_all}
use Rattle.std.specs.Option.{option_map_or}
use Rattle.std.specs.Str.{bytes_eq}
use Rattle.clap.specs.Faults.{long_fault, option_fault, positional_fault, react_fault, repeat_fault, settle_fault, short_fault, step_fault, stray_fault, use_fault}
use Rattle.clap.specs.Kinds.{Kinds}
use Rattle.clap.specs.Simple.{Shape, filled}
use Rattle.clap.specs.Walk.{Held, Rule, Text, arg_by_id, arg_by_index, arg_by_long, has_row, is_pending, takes_values, value}
use Rattle.command_lines.specs.CommandLine.{profile_rule}
use Rattle.command_lines.proofs.OpenLemmas.{found_is, found_passes, is_open_rule}
use Rattle.command_lines.proofs.WrongLemmas.{no_first, no_second}

-- the profile's id, and its rule as clap builds it
abbrev pub profile_id : Text
profile_id = codes "PROFILE"

abbrev pub built_profile : Rule
built_profile = filled profile_rule

-- the rule isn't that of a positional argument with the profile's id
abbrev pub is_other : Rule → Bool
is_other rule = not (bytes_eq profile_id rule.id) || not (is_some rule.index)

-- a command as clap builds it has a profile, which may be given once
pub record HasProfile (s : Shape) : Type 0 where
  pub by_long : arg_by_long s.rules (codes "profile") ≡ Some built_profile
  pub by_id : arg_by_id s.rules profile_id ≡ Some built_profile
  pub again : s.args_override_self ≡ false
  pub takes_one : list_all is_open_rule s.rules ≡ true
  pub others : list_all is_other s.rules ≡ true

-- a profile was given, and one more is being read
pub record IsTwice (h : Held) : Type 0 where
  pub row : has_row profile_id h.rows ≡ true
  pub values : List Text
  pub pending : h.pending ≡ Some (profile_id, values)

module _ (s : Shape) (has : HasProfile s) where
  pub use_twice : (values : List Text) (h : Held) → has_row profile_id h.rows ≡ true → use_fault s.args_override_self built_profile values h.rows ≡ [] → ⊥
  use_twice values h row none =
      let once : use_fault false built_profile values h.rows ≡ [] = subst (λ (again : Bool). use_fault again built_profile values h.rows ≡ []) has.again none in
      let repeats : repeat_fault false profile_id h.rows ≡ [] = no_first _ _ (no_second _ _ once) in
      let bad = rw row at repeats in
      cc

  pub settle_twice : (h : Held) → IsTwice h → settle_fault s.rules s.args_override_self h ≡ [] → ⊥
  settle_twice h twice none =
      let known : option_map_or (λ (a : Rule). use_fault s.args_override_self a twice.values h.rows) (arg_by_id s.rules profile_id) [] ≡ [] =
      subst (λ (p : Option (Text × List Text)). option_map_or (λ (q : Text × List Text). option_map_or (λ (a : Rule). use_fault s.args_override_self a q.1 h.rows) (arg_by_id s.rules q.0) []) p [] ≡ []) twice.pending none in
      use_twice twice.values h twice.row (subst (λ (o : Option Rule). option_map_or (λ (a : Rule). use_fault s.args_override_self a twice.values h.rows) o [] ≡ []) has.by_id known)

  pub react_twice : (rule : Rule) (values : List Text) (h : Held) → IsTwice h → react_fault s.rules s.args_override_self rule values h ≡ [] → ⊥
  react_twice rule values h twice none = settle_twice h twice (no_first _ _ none)

  pub option_twice : (rule : Rule) (given : Option Text) (h : Held) → IsTwice h → option_fault s.rules s.args_override_self rule given h ≡ [] → ⊥
  option_twice rule (Some text) h twice none = react_twice rule (text ∷ []) h twice none
  option_twice rule None h twice none = settle_twice h twice none

  -- a word for a positional argument is a fault then
  pub value_twice : (position : ℕ) (h : Held) → IsTwice h → step_fault s position h value ≡ [] → ⊥
  value_twice position h twice none = go (arg_by_index s.rules position) refl
    where
      stray : (leaf : Bool) → s.is_leaf ≡ leaf → stray_fault s ≡ [] → ⊥
      stray true is none = let bad = rw is at none in cc
      stray false is none = let bad = rw is at none in cc

      other : (index : Option ℕ) (same : Bool) → option_map_or (λ k. k == position) index false ≡ true → (not same || not (is_some index)) ≡ true → same ≡ false
      other None same has_index apart = cc
      other (Some k) true has_index apart = cc
      other (Some k) false has_index apart = refl

      go : (rule : Option Rule) → arg_by_index s.rules position ≡ rule → ⊥
      go None is = stray s.is_leaf refl (rw is at none)
      go (Some rule) is =
          let apart : bytes_eq profile_id rule.id ≡ false = other rule.index (bytes_eq profile_id rule.id) (found_is _ s.rules rule is) (found_passes _ is_other s.rules rule is has.others) in
          let idle_there : is_pending rule h.pending ≡ false = ap (is_pending rule) twice.pending ∙ apart in
          let here : positional_fault s.rules s.args_override_self rule h ≡ [] = rw is at none in
          settle_twice h twice (rw idle_there at here)

  -- any option is a fault
  pub long_twice : (rule : Option Rule) (given : Option Text) (h : Held) → IsTwice h → long_fault s.rules s.args_override_self rule given h ≡ [] → ⊥
  long_twice None given h twice none = cc
  long_twice (Some rule) given h twice none = go (takes_values rule) refl given none
    where
      go : (takes : Bool) → takes_values rule ≡ takes → (given : Option Text) → long_fault s.rules s.args_override_self (Some rule) given h ≡ [] → ⊥
      go true is given none = option_twice rule given h twice (rw is at none)
      go false is (Some text) none = let bad = rw is at none in cc
      go false is None none = react_twice rule [] h twice (rw is at none)

  pub short_twice : (rule : Option Rule) (rest : Text) (h : Held) (after : Held → Kinds) → IsTwice h → short_fault s.rules s.args_override_self rule rest h after ≡ [] → ⊥
  short_twice None rest h after twice none = cc
  short_twice (Some rule) rest h after twice none = go (takes_values rule) refl
    where
      go : (takes : Bool) → takes_values rule ≡ takes → ⊥
      go true is = option_twice rule _ h twice (rw is at none)
      go false is = react_twice rule [] h twice (no_first _ _ (rw is at none))
