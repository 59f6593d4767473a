-- The entry stands behind those that there were.
use Rattle.std.proofs.Common.{◌≡◌, ◌++◌, List}
use Rattle.std.proofs.lemmas.Result.{on_ok_weaker}
use Rattle.draw_ops.specs.declared.rules.Rules.{Rules}
use Rattle.preflight_cert.specs.CertificateText.{entry_text}
use Rattle.preflight_cert.specs.DraftOf.{Holds, space_for}
use Rattle.preflight_cert.specs.declared.certificate_entry.Entry.{Entry}
use Rattle.preflight_cert.proofs.DraftLemmas.{stand_then}
use Rattle.preflight_cert.proofs.draft.Draft.push.Goals as goal

pub returns : goal.returns
returns c =
    let ready = c.await_entry.new.self in
    let text = c.put_entry.new.text.items in
    on_ok_weaker c.put_entry.result
    (λ (written : text ≡ ready.text.items ++ entry_text ready.version c.args.entry) (rules : Rules) (before : List Entry) (h : Holds rules c.args.self.now before).
    let awaits = c.in_ok-await_entry.ensures rules before h in
    record {
      version = awaits.version;
      standing = stand_then (space_for rules) ready.version ready.text.items text before c.args.entry awaits.standing written;
    })
    c.put_entry.ensures
