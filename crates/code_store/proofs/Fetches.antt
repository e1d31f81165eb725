-- What is fetched out of the arrays of a store.
use Rattle.std.proofs.Common.{◌≡◌, ℕ, ◌+◌, ◌-◌, ◌*◌, ◌/◌, ◌<◌, ◌≤◌, List, length, get_or, Option, Some, None, refl, sym, ap, ◌∙◌, arith}
use Rattle.std.specs.Prelude.{Bool, true, false, cond, map, slice_get, unwrap_or}
use Rattle.std.specs.FinMap.{get}
use Rattle.pn_types.specs.declared.limits.TheConstants.{TOOL_TEXT_LEN}
use Rattle.std.proofs.lemmas.Bool.{cond-true}
use Rattle.std.proofs.lemmas.List.{length-map}
use Rattle.std.proofs.lemmas.Grind.{common_steps}
use Rattle.std.proofs.lemmas.Option.{slice_get-get_or, slice_get_past}
use Rattle.tramp_spec.specs.Codes.{is_word_of}
use Rattle.tramp_spec.specs.Marks.{tool}
use Rattle.tramp_spec.specs.declared.mark.MarkedWord.{MarkedWord}
use Rattle.code_store.specs.declared.word_use.WordUse.{WordUse}
use Rattle.rv_word.specs.Plain.{program_word}
use Rattle.code_store.specs.Views.{at_place, put_among, AreBlank, code_of}
use Rattle.code_store.proofs.Entries.{read, read_past, or_else, get_both}
use Rattle.code_store.proofs.Entries.{get_or-same}
use Rattle.code_store.proofs.Uses.{blank_at}
use Rattle.code_store.proofs.Maps.{read-map}

word_place : (at len a : ℕ) → is_word_of at (4 * len) a ≡ true → ((a - at) / 4 < len) × (a ≡ at + 4 * ((a - at) / 4))
word_place at len a h = grind arith

picked : {A : Type 0} (b : Bool) (x y : Option A) → (b ≡ true → x ≡ y) → cond b x None ≡ cond b y None
picked true x y h = h refl
picked false x y h = refl

pub text_fetch : (text_at : ℕ) (text : List MarkedWord) (tools_at : ℕ) (tools : List MarkedWord) (uses : List WordUse) (q : ℕ) → at_place text_at text q ≡ cond (is_word_of text_at (4 * length text) q) (get (code_of text_at text tools_at tools uses) q) None
text_fetch text_at text tools_at tools uses q =
    picked (is_word_of text_at (4 * length text) q) (slice_get text ((q - text_at) / 4)) (get (code_of text_at text tools_at tools uses) q) (λ w.
    let p = word_place text_at (length text) q w in
    let v = get_or text ((q - text_at) / 4) (tool 0) in
    slice_get-get_or text ((q - text_at) / 4) (tool 0) p.0
    ∙ sym (get_both (map (λ x. Some x) text) (put_among tools uses) text_at tools_at q
    ∙ ap (λ o. or_else o (read tools_at (put_among tools uses) q)) (read-map (λ x. Some x) text text_at ((q - text_at) / 4) q v p.0 p.1 (get_or-same text ((q - text_at) / 4) (tool 0) p.0))))

-- a word of the tool text, whether or not one was put there
pub tool_fetch : (text_at : ℕ) (text : List MarkedWord) (tools_at : ℕ) (tools : List MarkedWord) (uses : List WordUse) (i q : ℕ) → text_at + 4 * length text ≤ tools_at → length uses ≡ length tools → AreBlank tools uses → 4 * i < TOOL_TEXT_LEN → q ≡ tools_at + 4 * i
    → Some (get_or tools i (tool 0)) ≡ cond (is_word_of tools_at TOOL_TEXT_LEN q) (Some (unwrap_or (get (code_of text_at text tools_at tools uses) q) (tool 0))) None
tool_fetch text_at text tools_at tools uses i q apart n blank below e =
    let there : is_word_of tools_at TOOL_TEXT_LEN q ≡ true = grind arith in
    ap (λ o. Some o) (blank_at tools uses tools_at i q blank n e
    ∙ ap (λ o. unwrap_or o (tool 0)) (sym (get_both (map (λ x. Some x) text) (put_among tools uses) text_at tools_at q
    ∙ ap (λ o. or_else o (read tools_at (put_among tools uses) q)) (read_past (map (λ x. Some x) text) text_at q (let far : text_at + 4 * length text ≤ q = omega arith in simp length-map far)))))
    ∙ sym (cond-true (is_word_of tools_at TOOL_TEXT_LEN q) _ _ there)

pub no_program_word : (at : ℕ) (words : List ℕ) (a : ℕ) → is_word_of at (4 * length words) a ≡ false → program_word (record { at = at; words = words }) a ≡ None
no_program_word at words a h = grind (arith, common_steps, slice_get_past)
