-- The second of two words is compared with both words that ask for the version.
use Rattle.std.proofs.Common.{◌≡◌, ◌∙◌, ◌⊎◌, inl, inr, ap, arith, codes, false, length, slice_index_or, string_bytes, subst, sym, true, Bool, List, [], ◌∷◌, String}
use Rattle.std.proofs.lemmas.Slice.Eq.{bytes_eq-Decides}
use Rattle.std.specs.Str.{bytes_eq}
use Rattle.std.specs.declared.alloc.Global.{Global}
use Rattle.clap.specs.Words.{Text}
use Rattle.command_lines.specs.CommandLine.{texts_of}
use Rattle.command_lines.specs.VersionWords.{AreVersionWords}
use Rattle.command_lines.proofs.command_line.asks_version.Goals as goal

abbrev first_text : List (String Global) → Text
first_text [] = []
first_text (word ∷ words) = string_bytes word

two_texts : (words : List (String Global)) (word : String Global) → length words ≡ 2 → word ≡ slice_index_or words 1 word → texts_of words ≡ first_text words ∷ string_bytes word ∷ []
two_texts [] word two is = absurd (omega (arith, two))
two_texts (a ∷ []) word two is = absurd (omega (arith, two))
two_texts (a ∷ b ∷ []) word two is = ap (λ (w : String Global). string_bytes a ∷ string_bytes w ∷ []) (sym is)
two_texts (a ∷ b ∷ c ∷ words) word two is = absurd (omega (arith, two))

-- the text of the second word
module _ (words : List (String Global)) (word : String Global) (text : Text) (two : length words ≡ 2) (is : word ≡ slice_index_or words 1 word) (same : text ≡ string_bytes word) where
  asked_from : (text ≡ codes "--version") ⊎ (text ≡ codes "-V") → AreVersionWords (texts_of words)
  asked_from asks = record {
    program = first_text words;
    word = string_bytes word;
    are = two_texts words word two is;
    asks = subst (λ (t : Text). (t ≡ codes "--version") ⊎ (t ≡ codes "-V")) same asks;
  }

  is_word : (asked : AreVersionWords (texts_of words)) → asked.word ≡ text
  is_word asked =
      let both : asked.program ∷ asked.word ∷ [] ≡ first_text words ∷ string_bytes word ∷ [] = sym asked.are ∙ two_texts words word two is in
      let second : asked.word ≡ string_bytes word = cc in
      second ∙ sym same

pub returns-then-eq : goal.returns-then-eq
returns-then-eq c = (
  λ _. asked_from c.args.words.now c.index-words-1.result c.as_str.result.now c.if-words-eq2.true c.index-words-1.is c.as_str.ensures.value (inl ((bytes_eq-Decides _ _).0 (sym c.eq.ensures ∙ c.if-eq.true))),
  λ _. c.if-eq.true,
)

-- a word that isn't the first one is the second one
is_other : (word first second : Text) (is_first is_second : Bool) → is_first ≡ false → is_first ≡ bytes_eq first (codes "--version") → is_second ≡ bytes_eq second (codes "-V") → word ≡ first → word ≡ second → (word ≡ codes "--version") ⊎ (word ≡ codes "-V") → is_second ≡ true
is_other word first second is_first is_second isnt tests_first tests_second one other (inl is) =
    let bad : bytes_eq first (codes "--version") ≡ true = (bytes_eq-Decides first (codes "--version")).1 (sym one ∙ is) in cc
is_other word first second is_first is_second isnt tests_first tests_second one other (inr is) =
    tests_second ∙ (bytes_eq-Decides second (codes "-V")).1 (sym other ∙ is)

pub returns-else-eq : goal.returns-else-eq
returns-else-eq c = (
  λ is. asked_from c.args.words.now c.index-words-1-else-eq.result c.as_str-else-eq.result.now c.if-words-eq2.true c.index-words-1-else-eq.is c.as_str-else-eq.ensures.value (inr ((bytes_eq-Decides _ _).0 (sym c.eq-else-eq.ensures ∙ is))),
  λ asked. is_other asked.word c.as_str.result.now c.as_str-else-eq.result.now c.eq.result c.eq-else-eq.result c.if-eq.false c.eq.ensures c.eq-else-eq.ensures
      (is_word c.args.words.now c.index-words-1.result c.as_str.result.now c.if-words-eq2.true c.index-words-1.is c.as_str.ensures.value asked)
      (is_word c.args.words.now c.index-words-1-else-eq.result c.as_str-else-eq.result.now c.if-words-eq2.true c.index-words-1-else-eq.is c.as_str-else-eq.ensures.value asked) asked.asks,
)
