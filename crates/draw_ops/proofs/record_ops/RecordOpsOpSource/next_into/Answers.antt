-- What is left by the first record, and behind it.
use Rattle.std.proofs.Common.{◌≡◌, ℕ, suc, ◌+◌, ◌-◌, ◌≤◌, List, Result, take, drop, length, refl, sym, ap, ◌∙◌, rules, add-one}
use Rattle.std.proofs.lemmas.Bool.{eq-eqb, ne_eqb}
use Rattle.std.proofs.lemmas.List.{take_rest}
use Rattle.draw_ops.specs.declared.record_fault.RecordFault.{RecordFault}
use Rattle.draw_ops.specs.Content.{Content, StepValue, broken_by, with_step}
use Rattle.draw_ops.specs.Meaning.{Meaning}
use Rattle.draw_ops.specs.Reading.{content_from, content_left, leading_step, first_then}
use Rattle.draw_ops.specs.Records.{Framing, record_limit, rest_of, size_of}
use Rattle.draw_ops.specs.StepOf.{step_value_of}
use Rattle.draw_ops.specs.declared.record_ops.Reading.{Reading}
use Rattle.draw_ops.specs.declared.record_ops.Reading.TheVariants.{Records}
use Rattle.draw_ops.proofs.ContentLemmas.{content_step}
use Rattle.draw_ops.proofs.record_ops.RecordOpsOpSource.next_into.Goals as goal

-- what is left, by the first record
left_by : (f : Framing) (meaning : Meaning) (reading : Reading) (number : ℕ) (rest : List ℕ) (value : Content) (first : Result StepValue RecordFault) → reading ≡ Records → number ≤ record_limit → content_left f meaning reading number rest ≡ value → leading_step f meaning number rest ≡ first → value ≡ first_then f rest first (content_from f meaning (record_limit - suc number) (suc number) (rest_of f rest))
left_by f meaning reading number rest value first r h v e =
    sym v ∙ ap (λ (s : Reading). content_left f meaning s number rest) r ∙ content_step f meaning number rest h
    ∙ ap (λ (g : Result StepValue RecordFault). first_then f rest g (content_from f meaning (record_limit - suc number) (suc number) (rest_of f rest))) e

-- what is left behind the first record
left_after : (f : Framing) (meaning : Meaning) (reading : Reading) (number n : ℕ) (rest : List ℕ) → reading ≡ Records → n ≡ size_of f rest → content_left f meaning reading (number + 1) (take (length rest - n) (drop n rest)) ≡ content_from f meaning (record_limit - suc number) (suc number) (rest_of f rest)
left_after f meaning reading number n rest r h = rw (r, take_rest rest n, h, add-one) refl

pub overflow_add-self : goal.overflow_add-self
unfolding record_limit
overflow_add-self g c = search rules

pub returns-in-Err : goal.returns-in-Err
returns-in-Err g c =
    let e : c.args.self.now ≡ broken_by c.in-Err.fault =
    left_by g.F.Format.framing g.F.Format.meaning _ _ _ _ _ c.in-Records.is c.self.invariant c.self.view_is (rw c.in-Err.is at c.put_step.ensures.value) in record { gives = record { is = e; stays = sym e }; kept = rw c.in-Err.is at c.put_step.ensures.kept }

pub returns-then-kind-end_kind : goal.returns-then-kind-end_kind
returns-then-kind-end_kind g c =
    let e = left_by g.F.Format.framing g.F.Format.meaning _ _ _ _ _ c.in-Records.is c.self.invariant c.self.view_is (rw c.in-Ok.is at c.put_step.ensures.value) in
    let last = eq-eqb _ _ (sym c.kind.ensures ∙ c.if-kind-end_kind.true ∙ c.end_kind.ensures) in
    record { gives = rw last at e; kept = record {} }

pub returns-else-kind-end_kind : goal.returns-else-kind-end_kind
returns-else-kind-end_kind g c =
    let e = left_by g.F.Format.framing g.F.Format.meaning _ _ _ _ _ c.in-Records.is c.self.invariant c.self.view_is (rw c.in-Ok.is at c.put_step.ensures.value) in
    let goes_on = ne_eqb _ _ (λ p. c.if-kind-end_kind.false (c.kind.ensures ∙ p ∙ sym c.end_kind.ensures)) in
    record {
      gives = rw goes_on at e
          ∙ ap (with_step (step_value_of c.put_step.new.step)) (sym (left_after g.F.Format.framing g.F.Format.meaning c.self.inside.reading c.self.inside.number c.size.result c.self.inside.rest.now c.in-Records.is c.size.ensures));
      kept = record {};
    }
