-- clap finds a fault with a profile that is given twice.
use Rattle.std.proofs.Common.{◌≡◌, ◌++◌, ap, refl, subst, sym, ℕ, zero, suc, Bool, List, [], ◌∷◌, false, true, Option, Some, None, drop, encode_utf8, fold, length, slice_get}
use Rattle.std.specs.Option.{option_map_or}
use Rattle.std.specs.Str.{bytes_eq, chars}
use Rattle.clap.specs.Faults.{bundle_fault, bundle_step_fault, flag_word_fault, flags_fault, other_fault, step_fault, turn_fault, walk_fault, word_fault}
use Rattle.clap.specs.Kinds.{or_else}
use Rattle.clap.specs.Lexer.{long_of, short_of}
use Rattle.clap.specs.Simple.{Shape}
use Rattle.clap.specs.Walk.{Held, Outcome, Rule, Step, Text, Waiting, Walk, after_flag, after_step, arg_by_id, arg_by_long, arg_by_short, bundle, bundle_met, bundle_step, idle, long_or_other, next, option, option_word, plain, plain_word, positional, pushed, short_or_plain, started, subcommand, subcommand_or_other, trailing, value, walked, walked_from, word_met}
use Rattle.command_lines.proofs.KindLemmas.{no_command}
use Rattle.command_lines.proofs.WrongLemmas.{no_first, no_second}
use Rattle.command_lines.proofs.ConflictLemmas.{HasProfile, IsTwice, long_twice, short_twice, value_twice}

module _ (s : Shape) (has : HasProfile s) where
  -- after this step the profile is still being read once more
  abbrev StaysTwice : Held → Step → Type 0
  StaysTwice h (next waiting) = IsTwice h
  StaysTwice h (trailing position) = IsTwice h
  StaysTwice h (subcommand name) = ⊥
  StaysTwice h value = ⊥

  pub pushed_twice : (id word : Text) (h : Held) → IsTwice h → IsTwice (pushed id word h)
  pushed_twice id word h twice = record {
    row = twice.row;
    values = twice.values ++ word ∷ [];
    pending = ap (λ (p : Option (Text × List Text)). Some ((started id p).0, (started id p).1 ++ word ∷ [])) twice.pending;
  }

  option_word_twice : (rule : Option Rule) (id word : Text) (h : Held) → IsTwice h → IsTwice (option_word rule id word h).0
  option_word_twice None id word h twice = twice
  option_word_twice (Some rule) id word h twice = pushed_twice id word h twice

  plain_twice : (waiting : Waiting) (position : ℕ) (word : Text) (h : Held) → IsTwice h
      → step_fault s position (plain_word s.rules waiting word h).0 (plain_word s.rules waiting word h).1 ≡ [] → StaysTwice (plain_word s.rules waiting word h).0 (plain_word s.rules waiting word h).1
  plain_twice idle position word h twice none = absurd (value_twice s has position h twice none)
  plain_twice (option id) position word h twice none = option_word_twice (arg_by_id s.rules id) id word h twice
  plain_twice positional position word h twice none = absurd (value_twice s has position h twice none)

  bundle_twice : (k : ℕ) (flags : Text) (skip : ℕ) (so_far : Outcome) (h : Held) → IsTwice h → flags_fault s.rules s.args_override_self k flags skip h ≡ []
      → bundle_met s.rules k flags skip so_far h ≡ (h, so_far)
  unfolding bundle_met flags_fault
  bundle_twice zero flags skip so_far h twice none = refl
  bundle_twice (suc k) flags skip so_far h twice none =
      go (slice_get (chars flags) 0) skip none (λ rest left faultless. bundle_twice k rest left so_far h twice faultless)
    where
      go : (first : Option ℕ) (skip : ℕ) → bundle_step_fault s.rules s.args_override_self first flags skip h (flags_fault s.rules s.args_override_self k) ≡ []
          → ((rest : Text) (left : ℕ) → flags_fault s.rules s.args_override_self k rest left h ≡ [] → bundle_met s.rules k rest left so_far h ≡ (h, so_far))
          → bundle_step s.rules first flags skip so_far h (bundle_met s.rules k) ≡ (h, so_far)
      go None skip none stays = refl
      go (Some x) zero none stays = absurd (short_twice s has (arg_by_short s.rules x) _ h _ twice none)
      go (Some x) (suc skip) none stays = stays (drop (length (encode_utf8 x)) flags) skip none

  skip_twice : (h : Held) → IsTwice h → IsTwice (record h { skip = 0 })
  skip_twice h twice = record { row = twice.row; values = twice.values; pending = twice.pending }

  flags_twice : (waiting : Waiting) (position : ℕ) (word : Text) (flags : Option Text) (h : Held) → IsTwice h
      → option_map_or (λ (f : Text). bundle_fault s.rules s.args_override_self f h) flags [] ≡ []
      → step_fault s position (short_or_plain s.rules waiting word flags h).0 (short_or_plain s.rules waiting word flags h).1 ≡ []
      → StaysTwice (short_or_plain s.rules waiting word flags h).0 (short_or_plain s.rules waiting word flags h).1
  flags_twice waiting position word None h twice none stepless = plain_twice waiting position word h twice stepless
  flags_twice waiting position word (Some flags) h twice none stepless =
      let other = record h { skip = 0 } in
      let met : bundle s.rules flags h ≡ (other, plain) = bundle_twice (length flags) flags h.skip plain other (skip_twice h twice) none in
      subst (λ (m : Held × Outcome). step_fault s position (after_flag s.rules waiting word m.0 m.1).0 (after_flag s.rules waiting word m.0 m.1).1 ≡ []
      → StaysTwice (after_flag s.rules waiting word m.0 m.1).0 (after_flag s.rules waiting word m.0 m.1).1) (sym met) (plain_twice waiting position word other (skip_twice h twice)) stepless

  long_or_twice : (waiting : Waiting) (position : ℕ) (word : Text) (long : Option (Text × Option Text)) (h : Held) → IsTwice h
      → flag_word_fault s.rules s.args_override_self long word h ≡ []
      → step_fault s position (long_or_other s.rules waiting word long h).0 (long_or_other s.rules waiting word long h).1 ≡ []
      → StaysTwice (long_or_other s.rules waiting word long h).0 (long_or_other s.rules waiting word long h).1
  long_or_twice waiting position word (Some p) h twice none stepless = absurd (long_twice s has (arg_by_long s.rules p.0) p.1 h twice none)
  long_or_twice waiting position word None h twice none stepless = flags_twice waiting position word (short_of word) h twice none stepless

  other_twice : (waiting : Waiting) (position : ℕ) (word : Text) (h : Held) → IsTwice h → other_fault s None word h ≡ []
      → step_fault s position (subcommand_or_other s.rules None waiting position word h).0 (subcommand_or_other s.rules None waiting position word h).1 ≡ []
      → StaysTwice (subcommand_or_other s.rules None waiting position word h).0 (subcommand_or_other s.rules None waiting position word h).1
  other_twice waiting position word h twice none stepless = go (bytes_eq word (45 ∷ 45 ∷ [])) refl
    where
      go : (end : Bool) → bytes_eq word (45 ∷ 45 ∷ []) ≡ end
          → StaysTwice (subcommand_or_other s.rules None waiting position word h).0 (subcommand_or_other s.rules None waiting position word h).1
      go true is = rw is twice
      go false is = rw is (long_or_twice waiting position word (long_of word) h twice (rw is at none) (rw is at stepless))

  met_twice : (is_trailing : Bool) (waiting : Waiting) (position : ℕ) (word : Text) (h : Held) → IsTwice h → word_fault s [] is_trailing waiting word h ≡ []
      → step_fault s position (word_met s.rules [] is_trailing waiting position word h).0 (word_met s.rules [] is_trailing waiting position word h).1 ≡ []
      → StaysTwice (word_met s.rules [] is_trailing waiting position word h).0 (word_met s.rules [] is_trailing waiting position word h).1
  met_twice true waiting position word h twice none stepless = absurd (value_twice s has position h twice stepless)
  met_twice false waiting position word h twice none stepless =
      rw (no_command waiting word) (other_twice waiting position word h twice (rw (no_command waiting word) at none) (rw (no_command waiting word) at stepless))

  -- the walk goes on, and the profile is still being read once more
  abbrev pub GoesTwice : Walk → Type 0
  GoesTwice w = IsTwice w.held × (w.stopped ≡ None)

  step_twice : (word : Text) (w : Walk) (h : Held) (step : Step) → w.stopped ≡ None → StaysTwice h step → GoesTwice (after_step s.rules word w h step)
  step_twice word w h (next waiting) goes stays = (stays, goes)
  step_twice word w h (trailing position) goes stays = (stays, goes)
  step_twice word w h (subcommand name) goes stays = absurd stays
  step_twice word w h value goes stays = absurd stays

  walked_twice : (w : Walk) (word : Text) → GoesTwice w → turn_fault s [] w word ≡ [] → GoesTwice (walked s.rules [] w word)
  unfolding walked
  walked_twice w word goes none =
      let met = word_met s.rules [] w.is_trailing w.waiting w.position word w.held in
      let both : or_else (word_fault s [] w.is_trailing w.waiting word w.held) (step_fault s w.position met.0 met.1) ≡ [] = rw goes.1 at none in
      subst (λ (stop : Option (Text × List Text)). GoesTwice (walked_from s.rules [] stop w word)) (sym goes.1)
      (step_twice word w met.0 met.1 goes.1 (met_twice w.is_trailing w.waiting w.position word w.held goes.0 (no_first _ _ both) (no_second _ _ both)))

  pub fold_twice : (w : Walk) (words : List Text) → GoesTwice w → walk_fault s [] w words ≡ [] → GoesTwice (fold (walked s.rules []) w words)
  unfolding walk_fault
  fold_twice w [] goes none = goes
  fold_twice w (word ∷ words) goes none =
      fold_twice (walked s.rules [] w word) words (walked_twice w word goes (no_first _ _ none)) (no_second _ _ none)
