-- The lines that a task on several files has written, file by file.
use Rattle.std.proofs.Common.{◌≡◌, ◌<◌, ◌+◌, ◌++◌, ◌∙◌, ap, sym, subst, refl, arith, ℕ, Bool, true, false, List, [], ◌∷◌, Option, Some, None, MatchOption, Bor, codes, cond, count_by, drop, flat_map, get_or, length, nat_lt, suc, take, zero}
use Rattle.std.specs.Io.KnownBytes.{Appends, Keeps}
use Rattle.std.specs.List.{AllZip}
use Rattle.std.specs.Str.{bytes_eq}
use Rattle.std.proofs.KnownBytes.{Keeps-trans}
use Rattle.std.proofs.lemmas.List.{append_assoc, append-nil, take_more}
use Rattle.std.proofs.lemmas.List.Sums.{fold_push, sum_by-append}
use Rattle.canvas.specs.Ppm.{AppendsPrefix}
use Rattle.canvas.specs.Sending.{sending_all, sending_kept, sending_none, sending_prefix, sending_prefix_more, sending_rest, sending_whole}
use Rattle.command_lines.specs.declared.asked.BatchTask.{BatchTask}
use Rattle.command_lines.specs.declared.asked.BatchTask.TheVariants.{Certify, Info}
use Rattle.command_lines.specs.BatchWords.{HasOneInput, HasRightInputs, names_in}
use Rattle.commands.specs.Ends.{WritesPrefix, WritesText}
use Rattle.commands.specs.BatchLines.{BatchLine, BatchWrites, IsLineBy, IsLineOf, IsWrongNameLine, IsTextAbout, IsTextAboutFirst, worse, worst}
use Rattle.commands.specs.Inputs.{IsInput, standard_input}
use Rattle.commands.specs.Statuses.{status_of}
use Rattle.commands.specs.declared.command_end.CommandEnd.{CommandEnd}
use Rattle.commands.specs.declared.command_end.CommandEnd.TheVariants as end

abbrev pub Names : Type 0
Names = List (Bor (List ℕ))

-- the text of lines
abbrev pub text_of_lines : List BatchLine → List ℕ
text_of_lines lines = flat_map (λ line. line.text) lines

-- a file's line can end so: neither as wrong usage nor by a failed output
abbrev pub CanEnd : CommandEnd → Type 0
CanEnd end.CannotWrite = ⊥
CanEnd end.WrongUsage = ⊥
CanEnd end.Help = ⊥
CanEnd end.OutIsFile = ⊥
CanEnd ending = Unit {0}

ends_by : (task : BatchTask) (name : List ℕ) (input : Option (List ℕ)) (text : List ℕ) (shown : Option (List ℕ)) (e : CommandEnd)
    → MatchOption shown (IsLineOf e task name input text) (λ it. IsWrongNameLine e task it text) → CanEnd e
ends_by task name input text shown end.Done line = tt
ends_by task name input text shown end.Rejected line = tt
ends_by task name input text shown end.CannotRead line = tt
ends_by task name input text shown end.CannotStore line = tt
ends_by task name input text shown end.OutOfMemory line = tt
ends_by (Info rules) name input text None end.CannotWrite line = absurd line.line
ends_by (Info rules) name input text None end.WrongUsage line = absurd line.line
ends_by (Info rules) name input text None end.Help line = absurd line.line
ends_by (Info rules) name input text None end.OutIsFile line = absurd line.line
ends_by (Certify rules width height folder replace) name input text None end.CannotWrite line = absurd line
ends_by (Certify rules width height folder replace) name input text None end.WrongUsage line = absurd line
ends_by (Certify rules width height folder replace) name input text None end.Help line = absurd line
ends_by (Certify rules width height folder replace) name input text None end.OutIsFile line = absurd line
ends_by task name input text (Some it) end.CannotWrite line = absurd line
ends_by task name input text (Some it) end.WrongUsage line = absurd line
ends_by task name input text (Some it) end.Help line = absurd line
ends_by task name input text (Some it) end.OutIsFile line = absurd line

line_ends : (task : BatchTask) (name : List ℕ) (input : Option (List ℕ)) (text : List ℕ) (e : CommandEnd) → IsLineBy e task name input text → CanEnd e
line_ends task name input text e line = ends_by task name input text line.shown e line.line

worse_ends : (a b : CommandEnd) → CanEnd a → CanEnd b → CanEnd (worse a b)
worse_ends a b first second = go (nat_lt (status_of a) (status_of b)) refl
  where
    go : (less : Bool) → nat_lt (status_of a) (status_of b) ≡ less → CanEnd (worse a b)
    go true is = rw is second
    go false is = rw is first

-- lines about these files were written, and the worst of them ends so
pub record HasLines (task : BatchTask) (input : Option (List ℕ)) (names : List (List ℕ)) (ending : CommandEnd) (old new : Option (List ℕ)) : Type 0 where
  pub lines : List BatchLine
  pub each : AllZip (λ name line. IsLineBy line.end task name input line.text) names lines
  pub ends : ending ≡ worst lines
  pub written : Appends old new (text_of_lines lines)
  pub ended : CanEnd ending

pub no_lines : (task : BatchTask) (input known : Option (List ℕ)) → HasLines task input [] end.Done known known
no_lines task input known = record { lines = []; each = tt; ends = refl; written = sending_all (sending_none known []); ended = tt }

zip_push : {A B : Type 0} (R : A → B → Type 0) (xs : List A) (ys : List B) (x : A) (y : B) → AllZip R xs ys → R x y → AllZip R (xs ++ x ∷ []) (ys ++ y ∷ [])
zip_push R [] [] x y all one = (one, tt)
zip_push R [] (b ∷ ys) x y all one = absurd all
zip_push R (a ∷ xs) [] x y all one = absurd all
zip_push R (a ∷ xs) (b ∷ ys) x y all one = (all.0, zip_push R xs ys x y all.1 one)

text_push : (lines : List BatchLine) (line : BatchLine) → text_of_lines (lines ++ line ∷ []) ≡ text_of_lines lines ++ line.text
text_push [] line = append-nil line.text
text_push (first ∷ lines) line = ap (λ (text : List ℕ). first.text ++ text) (text_push lines line) ∙ sym (append_assoc first.text (text_of_lines lines) line.text)

module _ (task : BatchTask) (input : Option (List ℕ)) (names : List (List ℕ)) (ending : CommandEnd) (old mid new : Option (List ℕ)) (name text : List ℕ) (of_file : CommandEnd) where
  abbrev the_line : BatchLine
  the_line = record { text = text; end = of_file }

  -- one more line was written
  pub line_more : HasLines task input names ending old mid → IsLineBy of_file task name input text → Appends mid new text → HasLines task input (names ++ name ∷ []) (worse ending of_file) old new
  line_more so_far is sent = record {
    lines = so_far.lines ++ the_line ∷ [];
    each = zip_push (λ name line. IsLineBy line.end task name input line.text) names so_far.lines name the_line so_far.each is;
    ends = ap (λ (e : CommandEnd). worse e of_file) so_far.ends ∙ sym (fold_push (λ so line. worse so line.end) end.Done so_far.lines the_line);
    written = subst (λ (t : List ℕ). Appends old new t) (sym (text_push so_far.lines the_line))
        (sending_rest new (record { sent = text_of_lines so_far.lines; prefix = refl; appended = so_far.written }) sent);
    ended = worse_ends ending of_file so_far.ended (line_ends task name input text of_file is);
  }

  -- a prefix of one more line was written
  pub line_begun : (rest : List (List ℕ)) → HasLines task input names ending old mid → IsLineBy of_file task name input text → AppendsPrefix mid new text → WritesPrefix (IsTextAboutFirst task input ((names ++ name ∷ []) ++ rest)) old new
  line_begun rest so_far is sent = record {
    text = text_of_lines (so_far.lines ++ the_line ∷ []);
    fact = record {
      first = names ++ name ∷ [];
      rest = rest;
      are = refl;
      ending = worst (so_far.lines ++ the_line ∷ []);
      about = record { lines = so_far.lines ++ the_line ∷ []; each = zip_push (λ name line. IsLineBy line.end task name input line.text) names so_far.lines name the_line so_far.each is; ends = refl; joined = refl };
    };
    written = subst (λ (t : List ℕ). AppendsPrefix old new t) (sym (text_push so_far.lines the_line))
        (sending_prefix_more text [] (record { sent = text_of_lines so_far.lines; prefix = refl; appended = so_far.written }) (sym (append-nil text)) sent);
  }

module _ (task : BatchTask) (input : Option (List ℕ)) (names : List (List ℕ)) (ending : CommandEnd) (old mid new : Option (List ℕ)) where
  -- these are lines about the first of all files
  pub lines_of_first : (rest : List (List ℕ)) → HasLines task input names ending old new → WritesText (IsTextAboutFirst task input (names ++ rest)) old new
  lines_of_first rest so_far = record {
    text = text_of_lines so_far.lines;
    fact = record { first = names; rest = rest; are = refl; ending = ending; about = record { lines = so_far.lines; each = so_far.each; ends = so_far.ends; joined = refl } };
    written = so_far.written;
  }

  -- nothing is written after the lines
  lines_kept : HasLines task input names ending old mid → Keeps mid new → HasLines task input names ending old new
  lines_kept so_far keeps = record {
    lines = so_far.lines;
    each = so_far.each;
    ends = so_far.ends;
    written = sending_all (sending_kept (sending_whole so_far.written) keeps);
    ended = so_far.ended;
  }

  -- the lines of all files were written
  all_lines : HasLines task input names ending old new → WritesText (IsTextAbout task input names ending) old new
  all_lines so_far = record {
    text = text_of_lines so_far.lines;
    fact = record { lines = so_far.lines; each = so_far.each; ends = so_far.ends; joined = refl };
    written = so_far.written;
  }

  -- the output failed behind them
  pub lines_unflushed : HasLines task input names ending old mid → Keeps mid new → WritesPrefix (IsTextAboutFirst task input names) old new
  lines_unflushed so_far keeps =
      let written = lines_of_first [] (lines_kept so_far keeps) in
      subst (λ (all : List (List ℕ)). WritesPrefix (IsTextAboutFirst task input all) old new) (append-nil names)
      (record { text = written.text; fact = written.fact; written = sending_prefix (sending_whole written.written) })

-- all lines were written, and the output was flushed
pub lines_finished : (task : BatchTask) (input : Option (List ℕ)) (names : List (List ℕ)) (ending : CommandEnd) (old mid new : Option (List ℕ)) → HasLines task input names ending old mid → Keeps mid new → BatchWrites ending names task input old new
lines_finished task input names end.Done old mid new so_far keeps = all_lines task input names end.Done old mid new (lines_kept task input names end.Done old mid new so_far keeps)
lines_finished task input names end.Rejected old mid new so_far keeps = all_lines task input names end.Rejected old mid new (lines_kept task input names end.Rejected old mid new so_far keeps)
lines_finished task input names end.CannotRead old mid new so_far keeps = all_lines task input names end.CannotRead old mid new (lines_kept task input names end.CannotRead old mid new so_far keeps)
lines_finished task input names end.CannotStore old mid new so_far keeps = all_lines task input names end.CannotStore old mid new (lines_kept task input names end.CannotStore old mid new so_far keeps)
lines_finished task input names end.OutOfMemory old mid new so_far keeps =
    subst (λ (all : List (List ℕ)). WritesText (IsTextAboutFirst task input all) old new) (append-nil names)
    (lines_of_first task input names end.OutOfMemory old mid new [] (lines_kept task input names end.OutOfMemory old mid new so_far keeps))
lines_finished task input names end.CannotWrite old mid new so_far keeps = absurd so_far.ended
lines_finished task input names end.WrongUsage old mid new so_far keeps = absurd so_far.ended
lines_finished task input names end.Help old mid new so_far keeps = absurd so_far.ended
lines_finished task input names end.OutIsFile old mid new so_far keeps = absurd so_far.ended

-- the lines' end is no failed output
pub lines_failed : (ending : CommandEnd) (P : Type 0) → CanEnd ending → ending ≡ end.CannotWrite → P
lines_failed ending P can is = let bad : CanEnd end.CannotWrite = subst CanEnd is can in absurd bad

-- the names before a place, and those from it on
pub names_take : (names : Names) (place : ℕ) → names_in (take place names) ++ names_in (drop place names) ≡ names_in names
names_take names zero = refl
names_take [] (suc place) = refl
names_take (name ∷ names) (suc place) = ap (λ (rest : List (List ℕ)). name.now ∷ rest) (names_take names place)

names_push : (names : Names) (name : Bor (List ℕ)) → names_in (names ++ name ∷ []) ≡ names_in names ++ name.now ∷ []
names_push [] name = refl
names_push (first ∷ names) name = ap (λ (rest : List (List ℕ)). first.now ∷ rest) (names_push names name)

-- the names up to a place are those before it, and the one there
pub names_more : (names : Names) (place : ℕ) (d : Bor (List ℕ)) → place < length names → names_in (take (place + 1) names) ≡ names_in (take place names) ++ (get_or names place d).now ∷ []
names_more names place d less = ap names_in (take_more names place d less) ∙ names_push (take place names) (get_or names place d)

-- those names, and the others, are all names
names_split : (names : Names) (place : ℕ) (d : Bor (List ℕ)) → place < length names
    → (names_in (take place names) ++ (get_or names place d).now ∷ []) ++ names_in (drop (place + 1) names) ≡ names_in names
names_split names place d less = ap (λ (first : List (List ℕ)). first ++ names_in (drop (place + 1) names)) (sym (names_more names place d less)) ∙ names_take names (place + 1)

-- the bytes of standard input, if none of it was read before
pub input_since : (name : List ℕ) (old now : Option (List ℕ)) (bytes : List ℕ) → (name ≡ standard_input → Keeps old now) → IsInput name now bytes → IsInput name old bytes
input_since name None now bytes keeps is same = tt
input_since name (Some all) None bytes keeps is same = absurd (keeps same)
input_since name (Some all) (Some left) bytes keeps is same = is same ∙ keeps same

-- whether a name is the word for standard input
abbrev pub is_input : List ℕ → Bool
is_input name = bytes_eq name (codes "stdin")

abbrev input_weight : List ℕ → ℕ
input_weight name = cond (is_input name) 1 0

-- standard input is as it was, if none of the names so far is the word for it
abbrev pub IsUnread : List (List ℕ) → Option (List ℕ) → Option (List ℕ) → Type 0
IsUnread names old now = count_by is_input names ≡ 0 → Keeps old now

module _ (names rest : List (List ℕ)) (name : List ℕ) where
  -- the names so far, one more, and the rest
  counted : count_by is_input (names ++ name ∷ rest) ≡ count_by is_input names + (count_by is_input (name ∷ []) + count_by is_input rest)
  counted = sum_by-append input_weight names (name ∷ rest) ∙ ap (λ (n : ℕ). count_by is_input names + n) (sum_by-append input_weight (name ∷ []) rest)

  -- if the next name is the word for standard input, none before it was
  pub unread_before : (old now : Option (List ℕ)) → HasOneInput (names ++ name ∷ rest) → IsUnread names old now → name ≡ standard_input → Keeps old now
  unread_before old now once unread is =
      let one : count_by is_input (name ∷ []) ≡ 1 = rw is refl in
      unread (omega (arith, once, counted, one))

  -- a name is read
  pub unread_after : (old now new : Option (List ℕ)) → IsUnread names old now → ((name ≡ standard_input → ⊥) → Keeps now new) → IsUnread (names ++ name ∷ []) old new
  unread_after old now new unread keeps none =
      let parts = sum_by-append input_weight names (name ∷ []) in
      let before : count_by is_input names ≡ 0 = omega (arith, parts, none) in
      let here : count_by is_input (name ∷ []) ≡ 0 = omega (arith, parts, none) in
      Keeps-trans old now new (unread before) (keeps (λ is. let one : count_by is_input (name ∷ []) ≡ 1 = rw is refl in omega (arith, one, here)))

-- What is known after each step of the loop over the names: `place` is the place of the next one.
module _ (names : Names) (place : ℕ) (d : Bor (List ℕ)) (less : place < length names) (old now new : Option (List ℕ)) where
  next_unread : HasOneInput (names_in names) → IsUnread (names_in (take place names)) old now → ((get_or names place d).now ≡ standard_input → Keeps old now)
  next_unread once unread =
      unread_before (names_in (take place names)) (names_in (drop (place + 1) names)) (get_or names place d).now old now
      (subst HasOneInput (sym (names_split names place d less) ∙ append_assoc (names_in (take place names)) ((get_or names place d).now ∷ []) (names_in (drop (place + 1) names))) once) unread

  -- a line for what is left of standard input is one for all of it
  line_since : (task : BatchTask) → HasRightInputs task (names_in names) → IsUnread (names_in (take place names)) old now → (text : List ℕ) (e : CommandEnd) (shown : Option (List ℕ))
      → MatchOption shown (IsLineOf e task (get_or names place d).now now text) (λ it. IsWrongNameLine e task it text)
      → MatchOption shown (IsLineOf e task (get_or names place d).now old text) (λ it. IsWrongNameLine e task it text)
  line_since (Info rules) once unread text e None line =
      record { bytes = line.bytes; read = input_since (get_or names place d).now old now line.bytes (next_unread once unread) line.read; line = line.line }
  line_since (Certify rules width height folder replace) once unread text e None line = line
  line_since task once unread text e (Some it) line = line

  pub next_input : (task : BatchTask) → HasRightInputs task (names_in names) → IsUnread (names_in (take place names)) old now → (text : List ℕ) (e : CommandEnd) → IsLineBy e task (get_or names place d).now now text → IsLineBy e task (get_or names place d).now old text
  next_input task once unread text e line = record { shown = line.shown; marked = line.marked; line = line_since task once unread text e line.shown line.line }

  pub then_unread : IsUnread (names_in (take place names)) old now → (((get_or names place d).now ≡ standard_input → ⊥) → Keeps now new) → IsUnread (names_in (take (place + 1) names)) old new
  then_unread unread keeps =
      subst (λ (first : List (List ℕ)). IsUnread first old new) (sym (names_more names place d less))
      (unread_after (names_in (take place names)) [] (get_or names place d).now old now new unread keeps)

module _ (task : BatchTask) (input : Option (List ℕ)) (names : Names) (place : ℕ) (d : Bor (List ℕ)) (less : place < length names) (ending of_file : CommandEnd) (old mid new : Option (List ℕ)) (text : List ℕ) where
  pub then_lines : HasLines task input (names_in (take place names)) ending old mid → IsLineBy of_file task (get_or names place d).now input text → Appends mid new text
      → HasLines task input (names_in (take (place + 1) names)) (worse ending of_file) old new
  then_lines so_far line sent =
      subst (λ (first : List (List ℕ)). HasLines task input first (worse ending of_file) old new) (sym (names_more names place d less))
      (line_more task input (names_in (take place names)) ending old mid new (get_or names place d).now text of_file so_far line sent)

  pub then_begun : HasLines task input (names_in (take place names)) ending old mid → IsLineBy of_file task (get_or names place d).now input text → AppendsPrefix mid new text
      → WritesPrefix (IsTextAboutFirst task input (names_in names)) old new
  then_begun so_far line sent =
      subst (λ (all : List (List ℕ)). WritesPrefix (IsTextAboutFirst task input all) old new) (names_split names place d less)
      (line_begun task input (names_in (take place names)) ending old mid new (get_or names place d).now text of_file (names_in (drop (place + 1) names)) so_far line sent)

-- memory ran out for the line of the next file
pub lines_before : (task : BatchTask) (input : Option (List ℕ)) (names : Names) (place : ℕ) (ending : CommandEnd) (old new : Option (List ℕ)) → HasLines task input (names_in (take place names)) ending old new → WritesText (IsTextAboutFirst task input (names_in names)) old new
lines_before task input names place ending old new so_far =
    subst (λ (all : List (List ℕ)). WritesText (IsTextAboutFirst task input all) old new) (names_take names place)
    (lines_of_first task input (names_in (take place names)) ending old new new (names_in (drop place names)) so_far)
