-- clap accepts right words, and they ask for what they should.
use Rattle.std.proofs.Common.{inl, inr, ◌≡◌, ◌≤◌, sym, subst, Bool, List, Option, true, length, string_bytes, String, ℕ}
use Rattle.std.proofs.lemmas.List.{length-map}
use Rattle.std.specs.declared.alloc.Global.{Global}
use Rattle.clap.specs.Lexer.{usize_max}
use Rattle.clap.specs.Walk.{Row, Text}
use Rattle.clap.specs.Words.{subcommand_of, takes}
use Rattle.command_lines.specs.BatchWords.{AreCommandWords, AsksRightCertify, AsksRightInfo, IsNoBatch}
use Rattle.command_lines.specs.CommandLine.{IsRightCommand, metaplay_app, texts_of}
use Rattle.command_lines.specs.VersionWords.{AreVersionWords}
use Rattle.command_lines.proofs.CertifyLemmas.{certify_words_asked, certify_words_taken}
use Rattle.command_lines.proofs.InfoLemmas.{info_words_asked, info_words_taken}
use Rattle.command_lines.proofs.TakenLemmas.{no_batch, right_command, right_taken}

-- clap accepts words that are right for a command
pub command_words_taken : (words : List Text) → (AreVersionWords words → ⊥) → AreCommandWords words → length words ≤ usize_max → takes metaplay_app words ≡ true
command_words_taken words other (inl right) few = right_taken words right
command_words_taken words other (inr (inl right)) few = info_words_taken words right few
command_words_taken words other (inr (inr (inl right))) few = certify_words_taken words right few
command_words_taken words other (inr (inr (inr version))) few = absurd (other version)

-- what is asked for is found in them
pub command_words_found : (words : List Text) (met : Option (Text × List Row)) (found : Bool) → met ≡ subcommand_of metaplay_app words
    → (IsRightCommand met → IsNoBatch met → found ≡ true) → (AsksRightInfo met → found ≡ true) → (AsksRightCertify met → found ≡ true) → (AreVersionWords words → ⊥)
    → AreCommandWords words → found ≡ true
command_words_found words met found is command info certify other (inl right) =
    command (subst IsRightCommand (sym is) (right_command words right)) (subst IsNoBatch (sym is) (no_batch words right))
command_words_found words met found is command info certify other (inr (inl right)) = info (subst AsksRightInfo (sym is) (info_words_asked words right))
command_words_found words met found is command info certify other (inr (inr (inl right))) = certify (subst AsksRightCertify (sym is) (certify_words_asked words right))
command_words_found words met found is command info certify other (inr (inr (inr version))) = absurd (other version)

-- there are as many texts as words
pub few_texts : (words : List (String Global)) → length words ≤ usize_max → length (texts_of words) ≤ usize_max
few_texts words few = subst (λ (count : ℕ). count ≤ usize_max) (sym (length-map words string_bytes)) few
