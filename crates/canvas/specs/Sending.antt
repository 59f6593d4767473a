-- A text that is being sent to a writer: a prefix of it was sent, and the rest remains.
use Rattle.std.specs.Prelude.{◌≡◌, ℕ, List, [], ◌++◌, Option, Some, None}
use Rattle.std.specs.Io.KnownBytes.{Appends, Keeps}
use Rattle.std.proofs.Common.{refl, sym, ◌∙◌, ap, subst}
use Rattle.std.proofs.lemmas.List.{append_assoc, append-nil}
use Rattle.canvas.specs.Ppm.{AppendsPrefix}

-- a prefix of the text was appended to the known bytes, and the rest of it remains
pub record Sending (old new : Option (List ℕ)) (text rest : List ℕ) : Type 0 where
  pub sent : List ℕ
  pub prefix : text ≡ sent ++ rest
  pub appended : Appends old new sent

-- nothing was sent yet
Appends-nil : (known : Option (List ℕ)) → Appends known known []
Appends-nil None = tt
Appends-nil (Some xs) = sym (append-nil xs)

pub sending_none : (known : Option (List ℕ)) (text : List ℕ) → Sending known known text text
sending_none known text = record { sent = []; prefix = refl; appended = Appends-nil known }

-- one thing after another
Appends-append : (old mid new : Option (List ℕ)) (first second : List ℕ) → Appends old mid first → Appends mid new second → Appends old new (first ++ second)
Appends-append None mid new first second p q = tt
Appends-append (Some xs) None new first second p q = absurd p
Appends-append (Some xs) (Some ys) None first second p q = absurd q
Appends-append (Some xs) (Some ys) (Some zs) first second p q = q ∙ ap (λ s. s ++ second) p ∙ append_assoc xs first second

Appends-keeps : (old mid new : Option (List ℕ)) (first : List ℕ) → Appends old mid first → Keeps mid new → Appends old new first
Appends-keeps None mid new first p q = tt
Appends-keeps (Some xs) None new first p q = absurd p
Appends-keeps (Some xs) (Some ys) None first p q = absurd q
Appends-keeps (Some xs) (Some ys) (Some zs) first p q = q ∙ p

-- a writer accepted the first bytes of the rest
pub sending_more : {old mid new : Option (List ℕ)} {text rest : List ℕ} (next left : List ℕ) → Sending old mid text rest → rest ≡ next ++ left → Appends mid new next → Sending old new text left
sending_more {old} {mid} {new} next left s e a = record {
  sent = s.sent ++ next;
  prefix = s.prefix ∙ ap (λ r. s.sent ++ r) e ∙ sym (append_assoc s.sent next left);
  appended = Appends-append old mid new s.sent next s.appended a;
}

-- a writer accepted nothing
pub sending_kept : {old mid new : Option (List ℕ)} {text rest : List ℕ} → Sending old mid text rest → Keeps mid new → Sending old new text rest
sending_kept {old} {mid} {new} s k = record { sent = s.sent; prefix = s.prefix; appended = Appends-keeps old mid new s.sent s.appended k }

-- nothing remains
pub sending_all : {old new : Option (List ℕ)} {text : List ℕ} → Sending old new text [] → Appends old new text
sending_all {old} {new} {text} s = subst (λ (t : List ℕ). Appends old new t) (sym (s.prefix ∙ append-nil s.sent)) s.appended

-- what was sent is a prefix
pub sending_prefix : {old new : Option (List ℕ)} {text rest : List ℕ} → Sending old new text rest → AppendsPrefix old new text
sending_prefix {rest = rest} s = record { sent = s.sent; unsent = rest; prefix = s.prefix; appended = s.appended }

-- a prefix of the rest was sent after what was sent
pub sending_prefix_more : {old mid new : Option (List ℕ)} {text rest : List ℕ} (next left : List ℕ) → Sending old mid text rest → rest ≡ next ++ left → AppendsPrefix mid new next → AppendsPrefix old new text
sending_prefix_more {old} {mid} {new} {text} next left s e f = sending_prefix (sending_more f.sent (f.unsent ++ left) s (e ∙ ap (λ n. n ++ left) f.prefix ∙ append_assoc f.sent f.unsent left) f.appended)

-- all of a text was sent, and nothing of it remains
pub sending_whole : {old new : Option (List ℕ)} {text : List ℕ} → Appends old new text → Sending old new text []
sending_whole {text = text} a = record { sent = text; prefix = sym (append-nil text); appended = a }

-- a part of what was to be sent next was sent
pub sending_part : {old mid new : Option (List ℕ)} {text page kept : List ℕ} (left : List ℕ) → Sending old mid text (page ++ left) → Sending mid new page kept → Sending old new text (kept ++ left)
sending_part {kept = kept} left s part =
    sending_more part.sent (kept ++ left) s (ap (λ p. p ++ left) part.prefix ∙ append_assoc part.sent kept left) part.appended

-- the same remains
pub sending_same : {old new : Option (List ℕ)} {text rest other : List ℕ} → Sending old new text rest → rest ≡ other → Sending old new text other
sending_same {old} {new} {text} s same = subst (λ (r : List ℕ). Sending old new text r) same s

-- the rest was sent
pub sending_rest : {old mid : Option (List ℕ)} {text rest : List ℕ} (new : Option (List ℕ)) → Sending old mid text rest → Appends mid new rest → Appends old new text
sending_rest {rest = rest} new s a = sending_all (sending_more {new = new} rest [] s (sym (append-nil rest)) a)

-- a prefix of the rest was sent
pub sending_rest_prefix : {old mid new : Option (List ℕ)} {text rest : List ℕ} → Sending old mid text rest → AppendsPrefix mid new rest → AppendsPrefix old new text
sending_rest_prefix {rest = rest} s f = sending_prefix_more rest [] s (sym (append-nil rest)) f
