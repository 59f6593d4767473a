-- A file opens in one way, and its records have one content.
use Rattle.std.proofs.Common.{◌≡◌, ℕ, List, Result, Ok, sym, ap, ◌∙◌}
use Rattle.draw_ops.specs.Content.{Content}
use Rattle.draw_ops.specs.ExactlyOne.{ExactlyOne}
use Rattle.draw_ops.specs.RecordContent.{ContentIsOne}
use Rattle.draw_ops.specs.declared.fault.Fault.{Fault}
use Rattle.draw_ops.specs.declared.rules.Rules.{Rules}
use Rattle.meta_headers.specs.File.{FileIsOne, IsFile}
use Rattle.meta_headers.specs.Headers.{OpenedValue}
use Rattle.meta_headers.specs.Opening.{HasContentOf, framing_of, meaning_of, record_bytes}
use Rattle.meta_headers.specs.OpeningRules.{opened_by}

-- what opening answers is one thing
same_headers : (answer : Result OpenedValue Fault) (headers other : OpenedValue) → answer ≡ Ok headers → answer ≡ Ok other → other ≡ headers
same_headers answer headers other h k = cc

-- the content of the records of headers that are the same
one_content : ContentIsOne → (file : List ℕ) (headers : OpenedValue) → ExactlyOne (HasContentOf headers.format (record_bytes headers.format file))
one_content one file headers = one (framing_of headers.format) (meaning_of headers.format) (record_bytes headers.format file)

abbrev pair : OpenedValue → Content → OpenedValue × Content
pair headers content = (headers, content)

same_file : ContentIsOne → (file : List ℕ) (headers : OpenedValue) (content : Content) → HasContentOf headers.format (record_bytes headers.format file) content
    → (rules : Rules) (other : OpenedValue) (k : Content) → other ≡ headers → IsFile rules file other k → pair other k ≡ pair headers content
same_file one file headers content of_headers rules other k e h =
    let there : HasContentOf headers.format (record_bytes headers.format file) k = rw e at h.records in
    let the_one = one_content one file headers in
    ap (λ (o : OpenedValue). pair o k) e ∙ ap (λ (c : Content). pair headers c) (the_one.only k there ∙ sym (the_one.only content of_headers))

pub file_is_one : ContentIsOne → FileIsOne
file_is_one one rules file headers opens =
    let the_one = one_content one file headers in
    record {
      value = pair headers the_one.value;
      holds = record { opens = opens; records = the_one.holds };
      only = λ other h. same_file one file headers the_one.value the_one.holds rules other.0 other.1 (same_headers (opened_by rules file) headers other.0 opens h.opens) h;
    }
