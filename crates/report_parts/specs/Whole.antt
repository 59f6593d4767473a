-- All numbers of a report are integers.
use Rattle.std.proofs.Common.{◌≡◌, refl, Bool, true, false, cond, ℕ, List, [], ◌∷◌, Option, Some, None, Ordering, Less, Equal, Greater, nat_cmp}
use Rattle.std.specs.Prelude.{◌==◌, codes}
use Rattle.std.specs.Cmp.Lexicographic.{slice_cmp}
use Rattle.std.specs.Ordering.{match_ordering}
use Rattle.std.proofs.lemmas.Bool.{or_parts, or_from}
use Rattle.serde_json.specs.Data.{Data, Members, member, no_members, put, string}
use Rattle.serde_json.specs.Written.{has_float, members_have_float}
use Rattle.draw_ops.specs.NoteCounts.{note_count}
use Rattle.draw_ops.specs.NoteTable.{note_row_of}
use Rattle.draw_ops.specs.declared.note.Note.{Note}
use Rattle.draw_ops.specs.RuleSets.{is_print}
use Rattle.draw_ops.specs.declared.rules.Rules.{Rules}
use Rattle.report_parts.specs.Profile.{put_used, uses_data, with_allowed, with_profile}
use Rattle.report_parts.specs.Parts.{all_kinds, noted_kinds, notes_data, text_if, whole, whole_if}

-- one more member, if its value and the others have integers only
pub put_whole : (k : List ℕ) (d : Data) (ms : Members) → has_float d ≡ false → members_have_float ms ≡ false → members_have_float (put k d ms) ≡ false
put_whole k d no_members one others = or_from _ _ one refl
put_whole k d (member l e ms) one others =
    let parts = or_parts (has_float e) (members_have_float ms) others in
    go (slice_cmp nat_cmp k l) parts.0 parts.1 (put_whole k d ms one parts.1)
  where
    go : (o : Ordering) → has_float e ≡ false → members_have_float ms ≡ false → members_have_float (put k d ms) ≡ false
        → members_have_float (match_ordering o (member k d (member l e ms)) (member l d ms) (member l e (put k d ms))) ≡ false
    go Less first rest later = or_from _ _ one (or_from _ _ first rest)
    go Equal first rest later = or_from _ _ one rest
    go Greater first rest later = or_from _ _ first later

kind_whole : (none : Bool) (k : List ℕ) (n : ℕ) (ms : Members) → members_have_float ms ≡ false → members_have_float (cond none ms (put k (whole n) ms)) ≡ false
kind_whole true k n ms others = others
kind_whole false k n ms others = put_whole k (whole n) ms refl others

kinds_whole : (kinds : List Note) (counts : List ℕ) → members_have_float (noted_kinds kinds counts) ≡ false
kinds_whole [] counts = refl
kinds_whole (kind ∷ kinds) counts =
    kind_whole (note_count counts kind == 0) (note_row_of kind).name (note_count counts kind) (noted_kinds kinds counts) (kinds_whole kinds counts)

pub notes_whole : (counts : List ℕ) → has_float (notes_data counts) ≡ false
notes_whole counts = kinds_whole all_kinds counts

pub if_whole : (n : Option ℕ) → has_float (whole_if n) ≡ false
if_whole None = refl
if_whole (Some n) = refl

pub text_whole : (text : Option (List ℕ)) → has_float (text_if text) ≡ false
text_whole None = refl
text_whole (Some text) = refl

-- and so have those of the profile, and of what is used
used_whole : (none : Bool) (name : List ℕ) (count : ℕ) (ms : Members) → members_have_float ms ≡ false → members_have_float (cond none ms (put name (whole count) ms)) ≡ false
used_whole true name count ms others = others
used_whole false name count ms others = put_whole name (whole count) ms refl others

pub uses_whole : (deletions emf_plus : ℕ) → has_float (uses_data deletions emf_plus) ≡ false
uses_whole deletions emf_plus =
    let held = used_whole (deletions == 0) (codes "held-deletion") deletions no_members refl in
    used_whole (emf_plus == 0) (codes "emf-plus") emf_plus (put_used (codes "held-deletion") deletions no_members) held

pub profile_whole : (rules : Rules) (ms : Members) → members_have_float ms ≡ false → members_have_float (with_profile rules ms) ≡ false
profile_whole rules ms others = by_profile (is_print rules)
  where
    by_profile : (fine : Bool) → members_have_float (cond fine (put (codes "profile") (string (codes "print")) ms) ms) ≡ false
    by_profile false = others
    by_profile true = put_whole (codes "profile") (string (codes "print")) ms refl others

pub allowed_whole : (rules : Rules) (uses : Data) (ms : Members) → has_float uses ≡ false → members_have_float ms ≡ false → members_have_float (with_allowed rules uses ms) ≡ false
allowed_whole rules uses ms one others = by_profile (is_print rules)
  where
    by_profile : (fine : Bool) → members_have_float (cond fine (put (codes "allowed") uses ms) ms) ≡ false
    by_profile false = others
    by_profile true = put_whole (codes "allowed") uses ms one others
