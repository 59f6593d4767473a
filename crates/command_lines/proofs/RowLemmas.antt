-- An argument that was used, or whose values are being read, has a row in the end.
use Rattle.std.proofs.Common.{◌≡◌, ◌∙◌, ◌&&◌, ◌||◌, ◌+◌, ◌++◌, ap, refl, sym, ℕ, zero, suc, Bool, List, [], ◌∷◌, false, true, Option, Some, None, drop, encode_utf8, fold, length, min, slice_get}
use Rattle.std.specs.List.{list_any}
use Rattle.std.specs.Str.{bytes_eq, chars}
use Rattle.std.proofs.lemmas.Slice.Eq.{bytes_eq-Decides}
use Rattle.clap.specs.Lexer.{long_of, short_of}
use Rattle.clap.specs.Walk.{Held, Outcome, Row, Rule, Step, Text, Waiting, Walk, action_of, after_flag, after_step, arg_by_id, arg_by_index, arg_by_long, arg_by_short, at_row, attached_value, bundle, bundle_met, bundle_step, count_of, counted, done, flag_met, has_row, idle, is_pending, long_met, long_or_other, more_values, new_count, next, option, option_met, option_word, plain, plain_word, positional, positional_held, pushed, reacted, reading_by, refused, settled, settled_rows, short_met, short_or_plain, subcommand, subcommand_or_other, takes_several, takes_values, to_positional, trailing, used_as, used_by_id, value, values_or_missing, waits, walked, walked_from, with_count, with_values, without, word_met}
use Rattle.clap.specs.declared.builder.action.ArgAction.{ArgAction}
use Rattle.clap.specs.declared.builder.action.ArgAction.TheVariants.{Append, Count, Help, HelpLong, HelpShort, Set, SetFalse, SetTrue, Version}
use Rattle.clap.specs.declared.builder.value_parser.Reading.{Reading}
use Rattle.clap.specs.declared.parser.matches.ValueSource.TheVariants as source
use Rattle.command_lines.proofs.KindLemmas.{no_command}

either_true : (x y : Bool) → ((x || y) || x) ≡ (x || y)
either_true true y = refl
either_true false true = refl
either_true false false = refl

either_last : (x y z : Bool) → (x || (y || z)) ≡ ((x || y) || z)
either_last true y z = refl
either_last false y z = refl

any_append : (p : Row → Bool) (xs ys : List Row) → list_any p (xs ++ ys) ≡ (list_any p xs || list_any p ys)
any_append p [] ys = refl
any_append p (x ∷ xs) ys = ap (λ (b : Bool). p x || b) (any_append p xs ys) ∙ either_last (p x) (list_any p xs) (list_any p ys)

-- changing the row of an id, or adding one, gives the id a row
has_at : (q id : Text) (change : Row → List Row) (missing : List Row) (rows : List Row) → ((row : Row) → has_row q (change row) ≡ bytes_eq row.id q)
    → has_row q missing ≡ bytes_eq id q → has_row q (at_row id change missing rows) ≡ (has_row q rows || bytes_eq id q)
has_at q id change missing [] keeps adds = adds
has_at q id change missing (row ∷ rows) keeps adds = go (bytes_eq row.id id) refl (has_at q id change missing rows keeps adds)
  where
    go : (same : Bool) → bytes_eq row.id id ≡ same → has_row q (at_row id change missing rows) ≡ (has_row q rows || bytes_eq id q)
        → has_row q (at_row id change missing (row ∷ rows)) ≡ ((bytes_eq row.id q || has_row q rows) || bytes_eq id q)
    go true is after =
        let named : row.id ≡ id = (bytes_eq-Decides row.id id).0 is in
        let asked : bytes_eq row.id q ≡ bytes_eq id q = ap (λ (t : Text). bytes_eq t q) named in
        rw is (any_append (λ r. bytes_eq r.id q) (change row) rows ∙ (ap (λ (b : Bool). b || has_row q rows) (keeps row)
        ∙ (sym (either_true (bytes_eq row.id q) (has_row q rows)) ∙ ap (λ (b : Bool). (bytes_eq row.id q || has_row q rows) || b) asked)))
    go false is after = rw is (ap (λ (b : Bool). bytes_eq row.id q || b) after ∙ either_last (bytes_eq row.id q) (has_row q rows) (bytes_eq id q))

-- removing the row of another id keeps the row
has_without : (q id : Text) (rows : List Row) → bytes_eq id q ≡ false → has_row q (without id rows) ≡ has_row q rows
has_without q id [] other = refl
has_without q id (row ∷ rows) other = go (bytes_eq row.id id) refl (has_without q id rows other)
  where
    go : (same : Bool) → bytes_eq row.id id ≡ same → has_row q (without id rows) ≡ has_row q rows → has_row q (without id (row ∷ rows)) ≡ (bytes_eq row.id q || has_row q rows)
    go true is after =
        let named : row.id ≡ id = (bytes_eq-Decides row.id id).0 is in
        let asked : bytes_eq row.id q ≡ false = ap (λ (t : Text). bytes_eq t q) named ∙ other in
        rw is (rw asked refl)
    go false is after = rw is (ap (λ (b : Bool). bytes_eq row.id q || b) after)

or_true : (x : Bool) → (x || true) ≡ true
or_true true = refl
or_true false = refl

-- so a use that replaces the row keeps all others, and gives its id one
has_replaced : (q id : Text) (rows : List Row) → (has_row q (without id rows) || bytes_eq id q) ≡ (has_row q rows || bytes_eq id q)
has_replaced q id rows = go (bytes_eq id q) refl
  where
    go : (same : Bool) → bytes_eq id q ≡ same → (has_row q (without id rows) || bytes_eq id q) ≡ (has_row q rows || bytes_eq id q)
    go true is = rw is (or_true (has_row q (without id rows)) ∙ sym (or_true (has_row q rows)))
    go false is = ap (λ (b : Bool). b || bytes_eq id q) (has_without q id rows is)

or_false : (x : Bool) → (x || false) ≡ x
or_false true = refl
or_false false = refl

pub has_values : (q id : Text) (how : Reading) (values : List Text) (rows : List Row) → has_row q (with_values id how source.CommandLine values rows) ≡ (has_row q rows || bytes_eq id q)
has_values q id how values rows =
    has_at q id (more_values source.CommandLine values) _ rows (λ row. or_false (bytes_eq row.id q)) (or_false (bytes_eq id q))

has_count : (q id : Text) (how : Reading) (n : ℕ) (rows : List Row) → has_row q (with_count id how source.CommandLine n rows) ≡ (has_row q rows || bytes_eq id q)
has_count q id how n rows =
    has_at q id (new_count source.CommandLine n) _ rows (λ row. or_false (bytes_eq row.id q)) (or_false (bytes_eq id q))

has_counted : (q id : Text) (how : Reading) (values : List Text) (rows : List Row) → has_row q (counted id how values rows) ≡ (has_row q rows || bytes_eq id q)
has_counted q id how [] rows = has_count q id how (min (count_of id rows + 1) 255) (without id rows) ∙ has_replaced q id rows
has_counted q id how (v ∷ vs) rows = has_values q id how (v ∷ vs) (without id rows) ∙ has_replaced q id rows

-- a use with this action leaves a row
abbrev pub stores : ArgAction → Bool
stores Set = true
stores SetTrue = true
stores SetFalse = true
stores Append = true
stores Count = true
stores _ = false

has_used_as : (q : Text) (action : ArgAction) (id : Text) (how : Reading) (values : List Text) (rows : List Row)
    → has_row q (used_as action id how values rows) ≡ (has_row q rows || (stores action && bytes_eq id q))
has_used_as q Set id how values rows = has_values q id how values (without id rows) ∙ has_replaced q id rows
has_used_as q SetTrue id how values rows = has_values q id how values (without id rows) ∙ has_replaced q id rows
has_used_as q SetFalse id how values rows = has_values q id how values (without id rows) ∙ has_replaced q id rows
has_used_as q Append id how values rows = has_values q id how values rows
has_used_as q Count id how values rows = has_counted q id how values rows
has_used_as q Help id how values rows = sym (or_false (has_row q rows))
has_used_as q HelpShort id how values rows = sym (or_false (has_row q rows))
has_used_as q HelpLong id how values rows = sym (or_false (has_row q rows))
has_used_as q Version id how values rows = sym (or_false (has_row q rows))

-- a use of the argument gives this id a row
abbrev pub gives_row : Text → Option Rule → Bool
gives_row q None = false
gives_row q (Some rule) = stores (action_of rule) && bytes_eq rule.id q

has_used : (q : Text) (rule : Option Rule) (values : List Text) (rows : List Row) → has_row q (used_by_id rule values rows) ≡ (has_row q rows || gives_row q rule)
has_used q None values rows = sym (or_false (has_row q rows))
has_used q (Some rule) values rows = has_used_as q (action_of rule) rule.id (reading_by rule) (values_or_missing rule values) rows

-- what is pending gives this id a row
abbrev gives_pending : List Rule → Text → Option (Text × List Text) → Bool
gives_pending c q None = false
gives_pending c q (Some p) = gives_row q (arg_by_id c p.0)

-- the id has a row, or will have one
abbrev pub holds_row : List Rule → Text → Held → Bool
holds_row c q h = has_row q h.rows || gives_pending c q h.pending

has_settled : (c : List Rule) (q : Text) (pending : Option (Text × List Text)) (rows : List Row) → has_row q (settled_rows c pending rows) ≡ (has_row q rows || gives_pending c q pending)
has_settled c q None rows = sym (or_false (has_row q rows))
has_settled c q (Some p) rows = has_used q (arg_by_id c p.0) p.1 rows

pub settled_holds : (c : List Rule) (q : Text) (h : Held) → holds_row c q h ≡ true → has_row q (settled c h).rows ≡ true
settled_holds c q h holds = has_settled c q h.pending h.rows ∙ holds

or_holds : (x y : Bool) → x ≡ true → (x || y) ≡ true
or_holds x y is = rw is refl

reacted_holds : (c : List Rule) (q : Text) (rule : Rule) (values : List Text) (h : Held) → holds_row c q h ≡ true → holds_row c q (reacted c rule values h) ≡ true
reacted_holds c q rule values h holds =
    or_holds _ false (has_used q (Some rule) values (settled c h).rows ∙ or_holds (has_row q (settled c h).rows) (gives_row q (Some rule)) (settled_holds c q h holds))

-- a use of an argument gives it a row
pub used_holds : (c : List Rule) (q : Text) (rule : Rule) (values : List Text) (h : Held) → gives_row q (Some rule) ≡ true → holds_row c q (reacted c rule values h) ≡ true
used_holds c q rule values h gives =
    or_holds _ false (has_used q (Some rule) values (settled c h).rows ∙ (ap (λ (b : Bool). has_row q (settled c h).rows || b) gives ∙ or_true (has_row q (settled c h).rows)))

-- and so does an argument whose values are being read
pub waits_holds : (c : List Rule) (q id : Text) (rule : Rule) (values : List Text) (h : Held) → arg_by_id c id ≡ Some rule → gives_row q (Some rule) ≡ true
    → holds_row c q (record (settled c h) { pending = Some (id, values) }) ≡ true
waits_holds c q id rule values h is gives =
    ap (λ (b : Bool). has_row q (settled c h).rows || b) (ap (gives_row q) is ∙ gives) ∙ or_true (has_row q (settled c h).rows)

pushed_pending : (c : List Rule) (q id word : Text) (pending : Option (Text × List Text)) (rows : List Row) (skip : ℕ)
    → (has_row q rows || gives_pending c q pending) ≡ true → holds_row c q (pushed id word (record { rows = rows; pending = pending; skip = skip })) ≡ true
pushed_pending c q id word None rows skip holds = or_holds (has_row q rows) _ (sym (or_false (has_row q rows)) ∙ holds)
pushed_pending c q id word (Some p) rows skip holds = holds

pushed_holds : (c : List Rule) (q id word : Text) (h : Held) → holds_row c q h ≡ true → holds_row c q (pushed id word h) ≡ true
pushed_holds c q id word h holds = pushed_pending c q id word h.pending h.rows h.skip holds

settled_stays : (c : List Rule) (q : Text) (h : Held) → holds_row c q h ≡ true → holds_row c q (settled c h) ≡ true
settled_stays c q h holds = or_holds _ false (settled_holds c q h holds)

-- each thing that a word does keeps it
option_holds : (c : List Rule) (q : Text) (rule : Rule) (given : Option Text) (h : Held) → holds_row c q h ≡ true → holds_row c q (option_met c rule given h).0 ≡ true
option_holds c q rule (Some text) h holds = reacted_holds c q rule (text ∷ []) h holds
option_holds c q rule None h holds = or_holds _ _ (settled_holds c q h holds)

flag_holds : (c : List Rule) (q : Text) (rule : Rule) (given : Option Text) (h : Held) → holds_row c q h ≡ true → holds_row c q (flag_met c rule given h).0 ≡ true
flag_holds c q rule (Some text) h holds = holds
flag_holds c q rule None h holds = reacted_holds c q rule [] h holds

long_holds : (c : List Rule) (q : Text) (rule : Option Rule) (given : Option Text) (h : Held) → holds_row c q h ≡ true → holds_row c q (long_met c rule given h).0 ≡ true
long_holds c q None given h holds = holds
long_holds c q (Some rule) given h holds = go (takes_values rule) refl
  where
    go : (takes : Bool) → takes_values rule ≡ takes → holds_row c q (long_met c (Some rule) given h).0 ≡ true
    go true is = rw is (option_holds c q rule given h holds)
    go false is = rw is (flag_holds c q rule given h holds)

short_holds : (c : List Rule) (q : Text) (rule : Option Rule) (rest : Text) (h : Held) (after : Held → Held × Outcome) → holds_row c q h ≡ true
    → ((g : Held) → holds_row c q g ≡ true → holds_row c q (after g).0 ≡ true) → holds_row c q (short_met c rule rest h after).0 ≡ true
short_holds c q None rest h after holds stays = holds
short_holds c q (Some rule) rest h after holds stays = go (takes_values rule) refl
  where
    go : (takes : Bool) → takes_values rule ≡ takes → holds_row c q (short_met c (Some rule) rest h after).0 ≡ true
    go true is = rw is (option_holds c q rule (attached_value rest) h holds)
    go false is = rw is (stays (reacted c rule [] h) (reacted_holds c q rule [] h holds))

bundle_holds : (c : List Rule) (q : Text) (k : ℕ) (flags : Text) (skip : ℕ) (so_far : Outcome) (h : Held) → holds_row c q h ≡ true → holds_row c q (bundle_met c k flags skip so_far h).0 ≡ true
unfolding bundle_met
bundle_holds c q zero flags skip so_far h holds = holds
bundle_holds c q (suc k) flags skip so_far h holds =
    go (slice_get (chars flags) 0) skip (λ rest left far g kept. bundle_holds c q k rest left far g kept)
  where
    go : (first : Option ℕ) (skip : ℕ) → ((rest : Text) (left : ℕ) (far : Outcome) (g : Held) → holds_row c q g ≡ true → holds_row c q (bundle_met c k rest left far g).0 ≡ true)
        → holds_row c q (bundle_step c first flags skip so_far h (bundle_met c k)).0 ≡ true
    go None skip stays = holds
    go (Some x) zero stays = short_holds c q (arg_by_short c x) (drop (length (encode_utf8 x)) flags) h (bundle_met c k (drop (length (encode_utf8 x)) flags) 0 done) holds (stays (drop (length (encode_utf8 x)) flags) 0 done)
    go (Some x) (suc skip) stays = stays (drop (length (encode_utf8 x)) flags) skip so_far h holds

option_word_holds : (c : List Rule) (q : Text) (rule : Option Rule) (id word : Text) (h : Held) → holds_row c q h ≡ true → holds_row c q (option_word rule id word h).0 ≡ true
option_word_holds c q None id word h holds = holds
option_word_holds c q (Some rule) id word h holds = pushed_holds c q id word h holds

plain_holds : (c : List Rule) (q : Text) (waiting : Waiting) (word : Text) (h : Held) → holds_row c q h ≡ true → holds_row c q (plain_word c waiting word h).0 ≡ true
plain_holds c q idle word h holds = holds
plain_holds c q (option id) word h holds = option_word_holds c q (arg_by_id c id) id word h holds
plain_holds c q positional word h holds = holds

after_holds : (c : List Rule) (q : Text) (waiting : Waiting) (word : Text) (h : Held) (outcome : Outcome) → holds_row c q h ≡ true → holds_row c q (after_flag c waiting word h outcome).0 ≡ true
after_holds c q waiting word h done holds = holds
after_holds c q waiting word h (waits id) holds = holds
after_holds c q waiting word h plain holds = plain_holds c q waiting word h holds
after_holds c q waiting word h refused holds = plain_holds c q waiting word h holds

flags_hold : (c : List Rule) (q : Text) (waiting : Waiting) (word : Text) (flags : Option Text) (h : Held) → holds_row c q h ≡ true → holds_row c q (short_or_plain c waiting word flags h).0 ≡ true
flags_hold c q waiting word (Some flags) h holds =
    after_holds c q waiting word (bundle c flags h).0 (bundle c flags h).1 (bundle_holds c q (length flags) flags h.skip plain (record h { skip = 0 }) holds)
flags_hold c q waiting word None h holds = plain_holds c q waiting word h holds

other_holds : (c : List Rule) (q : Text) (waiting : Waiting) (word : Text) (long : Option (Text × Option Text)) (h : Held) → holds_row c q h ≡ true → holds_row c q (long_or_other c waiting word long h).0 ≡ true
other_holds c q waiting word (Some p) h holds =
    after_holds c q waiting word (long_met c (arg_by_long c p.0) p.1 h).0 (long_met c (arg_by_long c p.0) p.1 h).1 (long_holds c q (arg_by_long c p.0) p.1 h holds)
other_holds c q waiting word None h holds = flags_hold c q waiting word (short_of word) h holds

met_holds : (c : List Rule) (q : Text) (is_trailing : Bool) (waiting : Waiting) (position : ℕ) (word : Text) (h : Held) → holds_row c q h ≡ true
    → holds_row c q (word_met c [] is_trailing waiting position word h).0 ≡ true
met_holds c q true waiting position word h holds = holds
met_holds c q false waiting position word h holds = rw (no_command waiting word) (go (bytes_eq word (45 ∷ 45 ∷ [])) refl)
  where
    go : (end : Bool) → bytes_eq word (45 ∷ 45 ∷ []) ≡ end → holds_row c q (subcommand_or_other c None waiting position word h).0 ≡ true
    go true is = rw is holds
    go false is = rw is (other_holds c q waiting word (long_of word) h holds)

positional_holds : (c : List Rule) (q : Text) (rule : Rule) (word : Text) (h : Held) → holds_row c q h ≡ true → holds_row c q (positional_held c rule word h) ≡ true
positional_holds c q rule word h holds = go (is_pending rule h.pending && takes_several rule) refl
  where
    go : (more : Bool) → (is_pending rule h.pending && takes_several rule) ≡ more → holds_row c q (positional_held c rule word h) ≡ true
    go true is = rw is (pushed_holds c q rule.id word h holds)
    go false is = rw is (pushed_holds c q rule.id word (settled c h) (settled_stays c q h holds))

step_holds : (c : List Rule) (q word : Text) (w : Walk) (h : Held) (step : Step) → holds_row c q h ≡ true → holds_row c q (after_step c word w h step).held ≡ true
step_holds c q word w h (next waiting) holds = holds
step_holds c q word w h (trailing position) holds = holds
step_holds c q word w h (subcommand name) holds = holds
step_holds c q word w h value holds = go (arg_by_index c w.position)
  where
    go : (rule : Option Rule) → holds_row c q (to_positional c rule word w h).held ≡ true
    go None = holds
    go (Some rule) = positional_holds c q rule word h holds

-- so does each word
pub walked_holds : (c : List Rule) (q : Text) (w : Walk) (word : Text) → holds_row c q w.held ≡ true → holds_row c q (walked c [] w word).held ≡ true
unfolding walked
walked_holds c q w word holds = go w.stopped
  where
    go : (stop : Option (Text × List Text)) → holds_row c q (walked_from c [] stop w word).held ≡ true
    go (Some p) = holds
    go None =
        step_holds c q word w (word_met c [] w.is_trailing w.waiting w.position word w.held).0 (word_met c [] w.is_trailing w.waiting w.position word w.held).1 (met_holds c q w.is_trailing w.waiting w.position word w.held holds)

pub fold_holds : (c : List Rule) (q : Text) (w : Walk) (words : List Text) → holds_row c q w.held ≡ true → holds_row c q (fold (walked c []) w words).held ≡ true
fold_holds c q w [] holds = holds
fold_holds c q w (word ∷ words) holds = fold_holds c q (walked c [] w word) words (walked_holds c q w word holds)
