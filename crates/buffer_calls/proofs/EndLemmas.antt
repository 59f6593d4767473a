-- How copying a text ends that has some property.
use Rattle.std.proofs.Common.{◌≡◌, List, ℕ, subst, sym}
use Rattle.buffer_calls.specs.Texts.{EndsText}
use Rattle.buffer_calls.specs.declared.outcome.Outcome.{Outcome}
use Rattle.buffer_calls.specs.declared.outcome.Outcome.TheVariants.{Done, OutOfMemory, Rejected, TooShort}

-- what was copied has the property of the text
pub copied_text : (holds : List ℕ → Type 0) (text old new : List ℕ) (outcome : Outcome) → holds text
    → EndsText (λ (copied : List ℕ). copied ≡ text) old new outcome → EndsText holds old new outcome
copied_text holds text old new (Done count) h p = record { text = p.text; fact = subst holds (sym p.fact) h; copied = p.copied }
copied_text holds text old new (TooShort count) h p = record { text = p.text; fact = subst holds (sym p.fact) h; counted = p.counted; short = p.short }
copied_text holds text old new (Rejected r) h p = absurd p
copied_text holds text old new OutOfMemory h p = absurd p
