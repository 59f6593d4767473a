-- A number that was read comes from the text that was given.
use Rattle.std.proofs.Common.{◌≡◌, ◌∙◌, sym, refl, ℕ, ◌≤◌, ◌<◌, Option, Some, None, Result, Ok, Err, Bool, true, false, IfSome, IsSome, arith}
use Rattle.std.proofs.lemmas.Bool.{le-leb}
use Rattle.std.specs.Bool.{then_some}
use Rattle.std.specs.Str.Parse.{ExplainsUnsignedError, HasUnsignedDigitsIfOk, ParsesUnsigned, digits_value}
use Rattle.mapping.specs.Limits.{surface_side_limit}
use Rattle.clap.specs.Words.{ReadsOne, Text, found_of, one_text, rows_of}
use Rattle.clap.specs.declared.parser.matches.Found.{Found}
use Rattle.clap.proofs.WalkLemmas.{one_text-rows}
use Rattle.command_lines.specs.CommandLine.{GivesNumber, GivesSide}
use Rattle.command_lines.proofs.SideLemmas.{fits_unsigned, no_plus}
use Rattle.command_lines.proofs.arguments.side_of.Goals as goal
use Rattle.command_lines.proofs.arguments.side_of.Goals.{then-side-ge1, else-side-ge1}

given : (E : Type 0) (gives : Text → Result ℕ E → Type 0) (f : Found) (id : Text) (number : ℕ) → (one_text f id ≡ None → Some number ≡ None) → ((text : Text) → one_text f id ≡ Some text → gives text (Ok number)) → ((text : Text) → gives text (Ok number) → ParsesUnsigned {E = E} 32 10 text (Ok number)) → GivesNumber (rows_of f) id number
given E gives f id number none value parses = go (one_text f id) refl
  where
    go : (o : Option Text) → one_text f id ≡ o → GivesNumber (rows_of f) id number
    go None is = let bad : Some number ≡ None = none is in cc
    go (Some text) is = record { text = text; is_given = sym (one_text-rows f id) ∙ is; reads = (parses text (value text is)).1 }

kept : (fits : Bool) (number : ℕ) (fact : ℕ → Type 0) → fact number → IfSome (then_some fits number) fact
kept true number fact holds = holds
kept false number fact holds = tt

pub returns-clause-given : goal.returns-clause-given
returns-clause-given c =
    let fact = given _ (λ bs r. ParsesUnsigned 32 10 bs r × ExplainsUnsignedError 10 bs r × HasUnsignedDigitsIfOk bs r) (found_of c.args.matches.now) c.args.id.now c.in-Some.side c.in-Some.ensures.none c.in-Some.ensures.value (λ text read. read.0) in
    rw c.then_some.ensures (kept _ _ (GivesNumber (rows_of (found_of c.args.matches.now)) c.args.id.now) fact)

-- a width or height that was given is read
read_side : (E : Type 0) (gives : Text → Result ℕ E → Type 0) (f : Found) (id : Text) (result : Option ℕ) → ((text : Text) → one_text f id ≡ Some text → ReadsOne gives text result) → ((text : Text) (r : Result ℕ E) → gives text r → ParsesUnsigned {E = E} 32 10 text r) → GivesSide (rows_of f) id → IsSome result
read_side E gives f id (Some number) value parses given = refl
read_side E gives f id None value parses given =
    let read = value given.text (one_text-rows f id ∙ given.is_given) in
    absurd (parses given.text (Err read.0) read.1 (fits_unsigned given.text given.is_side))

-- it is in range
read_within : (E : Type 0) (gives : Text → Result ℕ E → Type 0) (f : Found) (id : Text) (number : ℕ) → ((text : Text) → one_text f id ≡ Some text → gives text (Ok number)) → ((text : Text) (r : Result ℕ E) → gives text r → ParsesUnsigned {E = E} 32 10 text r) → GivesSide (rows_of f) id → (1 ≤ number) × (number ≤ surface_side_limit)
read_within E gives f id number value parses given =
    let read = (parses given.text (Ok number) (value given.text (one_text-rows f id ∙ given.is_given))).1 in
    let is : number ≡ digits_value 10 given.text = rw (no_plus given.text given.is_side) at read in
    (rw is given.is_side.least, rw is given.is_side.most)

some_kept : (fits : Bool) (number : ℕ) → fits ≡ true → IsSome (then_some fits number)
some_kept fits number is = rw is refl

pub returns-in_default-clause-taken : goal.returns-in_default-clause-taken
returns-in_default-clause-taken c = λ given.
    read_side _ (λ bs r. ParsesUnsigned 32 10 bs r × ExplainsUnsignedError 10 bs r × HasUnsignedDigitsIfOk bs r) (found_of c.args.matches.now) c.args.id.now None c.in_default.ensures.value (λ text r read. read.0) given

pub returns-clause-taken : goal.returns-clause-taken
returns-clause-taken c = λ given.
    let within = read_within _ (λ bs r. ParsesUnsigned 32 10 bs r × ExplainsUnsignedError 10 bs r × HasUnsignedDigitsIfOk bs r) (found_of c.args.matches.now) c.args.id.now c.in-Some.side c.in-Some.ensures.value (λ text r read. read.0) given in
    let most : c.in-Some.side ≤ 8192 = within.1 in
    let least : 1 ≤ c.in-Some.side = within.0 in
    elim c.if-side-ge1.branch [
      | then-side-ge1 w ↦ rw c.then_some.ensures (some_kept _ _ (w.then_some-is ∙ le-leb _ _ most))
      | else-side-ge1 w ↦ let less : c.in-Some.side < 1 = w.if-side-ge1.false in absurd (omega arith)
    ]
