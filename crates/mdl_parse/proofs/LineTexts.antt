-- The texts of lines, part by part.
use Rattle.std.proofs.Common.{◌≡◌, ℕ, zero, suc, ◌+◌, List, [], ◌∷◌, ◌++◌, refl, sym, ap, ◌∙◌, arith, codes}
use Rattle.std.specs.List.{flat_map}
use Rattle.std.proofs.lemmas.Grind.{flat_map-append}
use Rattle.std.proofs.lemmas.List.{append_assoc, append-nil}
use Rattle.pn_text.specs.Words.{NameWord, NumberWord, SignWord}
use Rattle.pn_text.specs.declared.token.Sign.TheVariants.{OpenBrace, Semicolon}
use Rattle.mdl_ast.specs.declared.items.Hypothesis.{Hypothesis}
use Rattle.mdl_parse.specs.Grammar.{keyword}
use Rattle.mdl_parse.specs.ItemGrammar.{parent_words, axes_words}
use Rattle.mdl_parse.specs.Printing.{LevelLine, indent, line_text, close_line, some_line, hypothesis_lines}

pub lines_text : (a b : List LevelLine) → flat_map line_text (a ++ b) ≡ flat_map line_text a ++ flat_map line_text b
lines_text a b = flat_map-append line_text a b

-- the texts, one after the other
abbrev pub Behind : List ℕ → List (List ℕ) → List ℕ → Type 0
Behind out [] all = all ≡ out
Behind out (text ∷ texts) all = (next : List ℕ) × (next ≡ out ++ text) × Behind next texts all

abbrev pub all_of : List (List ℕ) → List ℕ
all_of texts = flat_map (λ text. text) texts

pub all_behind : (out : List ℕ) (texts : List (List ℕ)) (all : List ℕ) → Behind out texts all → all ≡ out ++ all_of texts
all_behind out [] all e = e ∙ sym (append-nil out)
all_behind out (text ∷ texts) all h = all_behind h.0 texts all h.2 ∙ ap (λ (t : List ℕ). t ++ all_of texts) h.1 ∙ append_assoc out text (all_of texts)

-- the lines of a hypothesis, in the parts that are written
abbrev pub hypothesis_parts : Hypothesis → List (List ℕ)
hypothesis_parts h =
    line_text (0, keyword (codes "hypothesis") ∷ NameWord h.name ∷ SignWord OpenBrace ∷ []) ∷ flat_map line_text (some_line 1 (parent_words h.parent))
    ∷ line_text (1, keyword (codes "metric") ∷ NameWord h.metric ∷ SignWord Semicolon ∷ []) ∷ line_text (1, keyword (codes "threshold") ∷ NumberWord h.threshold ∷ SignWord Semicolon ∷ [])
    ∷ flat_map line_text (some_line 1 (axes_words h.axes)) ∷ line_text (close_line 0) ∷ []

pub hypothesis_text : (h : Hypothesis) → all_of (hypothesis_parts h) ≡ flat_map line_text (hypothesis_lines h)
hypothesis_text h = simp (lines_text)

pub indent_more : (n : ℕ) → indent (n + 1) ≡ indent n ++ codes "  "
indent_more n = ap indent one_more ∙ go n
  where
    one_more : n + 1 ≡ suc n
    one_more = omega arith

    go : (n : ℕ) → codes "  " ++ indent n ≡ indent n ++ codes "  "
    go zero = refl
    go (suc n) = ap (λ (t : List ℕ). codes "  " ++ t) (go n)
