-- The patched machine begins as the program.
use Rattle.std.proofs.Common.{◌≡◌, ℕ, zero, suc, ◌+◌, ◌*◌, ◌/◌, ◌^◌, ◌<◌, ◌≤◌, List, [], ◌∷◌, length, replicate, Some, None, refl, sym, ap, ◌∙◌, subst, arith, inl}
use Rattle.std.specs.Prelude.{Bool, true, false, cond, map, slice_get}
use Rattle.std.specs.List.{AllByRecursion}
use Rattle.std.specs.FinMap.{get, from_entries}
use Rattle.std.proofs.lemmas.List.{length-map, length-replicate}
use Rattle.pn_types.specs.Images.{text_of}
use Rattle.pn_types.specs.declared.image.Image.{Image}
use Rattle.pn_types.proofs.ImageLemmas.{text_range}
use Rattle.rv_word.specs.Names.{has_scratch, scratch_in, words_in, words_of}
use Rattle.rv_word.specs.Plain.{PlainHart}
use Rattle.rv_mem.specs.Start.{program_of, heap_len, stack_at, stack_len, heap_at}
use Rattle.rv_exec.specs.Start.{start, start_regs, start_hart, harts_from}
use Rattle.tramp_spec.specs.Codes.{Code, text_entries, text_code}
use Rattle.tramp_spec.proofs.Registers.{length_with}
use Rattle.tramp_spec.specs.Banks.{bank_len}
use Rattle.tramp_spec.specs.Harts.{Hart}
use Rattle.tramp_spec.specs.Marks.{own}
use Rattle.machine.specs.Cores.{first_hart, start_core}
use Rattle.machine.specs.Laws.{IsProgram}
use Rattle.machine.proofs.Lists.{get_same, get_other}
use Rattle.machine.specs.Kept.{no_linkings}
use Rattle.machine.proofs.Follow.{Numbers}
use Rattle.machine.proofs.Invariant.{Ground, Static, Dynamic, Inv}
use Rattle.machine.proofs.Texts.{in_text}

-- ---- the text

abbrev codes : ℕ → List ℕ → Code
codes at ws = from_entries (text_entries at ws)

text_word : (at : ℕ) (ws : List ℕ) (i w : ℕ) → slice_get ws i ≡ Some w → get (codes at ws) (at + 4 * i) ≡ Some (own w)
text_word at [] i w e = absurd cc
text_word at (v ∷ vs) zero w e =
    let here : at + 4 * 0 ≡ at = omega arith in
    ap (λ a. get (codes at (v ∷ vs)) a) here ∙ (get_same (codes (at + 4) vs) at (own v) ∙ cc e)
text_word at (v ∷ vs) (suc i) w e =
    let on : at + 4 * suc i ≡ at + 4 + 4 * i = omega arith in
    get_other (codes (at + 4) vs) at (at + 4 * suc i) (own v) (λ z. omega arith)
    ∙ (ap (λ a. get (codes (at + 4) vs) a) on ∙ text_word (at + 4) vs i w e)

unscratched_at : (v : ℕ) (vs : List ℕ) (at w : ℕ) (b : Bool) → has_scratch v ≡ b → cond b (Some at) (scratch_in vs (at + 4)) ≡ None
    → ((i : ℕ) → scratch_in vs (at + 4) ≡ None → slice_get vs i ≡ Some w → has_scratch w ≡ false) → (i : ℕ) → slice_get (v ∷ vs) i ≡ Some w → has_scratch w ≡ false
unscratched_at v vs at w true b n ih i e = absurd cc
unscratched_at v vs at w false b n ih zero e = let s : v ≡ w = cc in ap has_scratch (sym s) ∙ b
unscratched_at v vs at w false b n ih (suc i) e = ih i n e

unscratched : (ws : List ℕ) (at i w : ℕ) → scratch_in ws at ≡ None → slice_get ws i ≡ Some w → has_scratch w ≡ false
unscratched [] at i w n e = absurd cc
unscratched (v ∷ vs) at i w n e = unscratched_at v vs at w (has_scratch v) refl n (λ j m f. unscratched vs (at + 4) j w m f) i e

narrow_at : (ws : List ℕ) (i w : ℕ) → AllByRecursion (λ v. v < 2 ^ 32) ws → slice_get ws i ≡ Some w → w < 2 ^ 32
narrow_at [] i w a e = absurd cc
narrow_at (v ∷ vs) zero w a e = let s : v ≡ w = cc in subst (λ n. n < 2 ^ 32) s a.0
narrow_at (v ∷ vs) (suc i) w a e = narrow_at vs i w a.1 e

length_words : (n : ℕ) (bytes : List ℕ) → length (words_in n bytes) ≡ n
length_words zero bytes = refl
length_words (suc n) bytes = ap suc (length_words n _)

pub ground : (image : Image) → IsProgram image → Ground (program_of image)
ground image p =
    let r = text_range image p.image in
    let many : length (words_of (text_of image)) ≡ length (text_of image) / 4 = length_words (length (text_of image) / 4) (text_of image) in
    let size : length (text_of image) ≡ image.text_len = r.length in
    let high : image.text_at + image.text_len ≤ 0x60000000 = r.high in
    let short : image.text_len ≤ 524288 = p.image.short in
    record {
      aligned = p.image.start;
      high = omega arith;
      short = omega arith;
      plain = λ i w e. unscratched (words_of (text_of image)) image.text_at i w p.unscratched e;
      narrow = λ i w e. narrow_at (words_of (text_of image)) i w p.narrow e;
    }

-- ---- the harts

length_start : (h n : ℕ) → length (start_regs h n) ≡ 32
length_start h n = length_with _ 2 (stack_at h + stack_len) ∙ (length_with _ 13 heap_len ∙ (length_with _ 12 heap_at ∙ (length_with _ 11 n ∙ length_with (replicate 32 0) 10 h)))

pub starts : (m h n i : ℕ) (image : Image) (y : PlainHart) → slice_get (harts_from m h image n) i ≡ Some y → (k : ℕ) × (y ≡ start_hart image n k)
starts zero h n i image y e = absurd cc
starts (suc m) h n zero image y e = (h, let s : start_hart image n h ≡ y = cc in sym s)
starts (suc m) h n (suc i) image y e = starts m (h + 1) n i image y e

mapped : (ys : List PlainHart) (h : ℕ) (x : Hart) (y : PlainHart) → slice_get (map first_hart ys) h ≡ Some x → slice_get ys h ≡ Some y → x ≡ first_hart y
mapped [] h x y e f = absurd cc
mapped (z ∷ zs) zero x y e f = let a : first_hart z ≡ x = cc in let b : z ≡ y = cc in sym a ∙ ap first_hart b
mapped (z ∷ zs) (suc h) x y e f = mapped zs h x y e f

module _ (image : Image) (n budget : ℕ) where
  first : (k : ℕ) → Dynamic (program_of image) budget [] (first_hart (start_hart image n k)) (start_hart image n k)
  first k =
      record {
        ticks = refl;
        stop = refl;
        first = length_start k n;
        second = length_start k n;
        bank = length-replicate bank_len 0;
        down = λ cause e. absurd cc;
        hart = λ e. inl (record { outside = refl; pc = refl; agree = λ r l. refl });
      }

  no_block : (p : IsProgram image) → Static (program_of image) (text_code (program_of image)) [] [] 1
  no_block p =
      record {
        images = refl;
        shapes = λ q h. absurd h;
        places = λ q h. absurd h;
        apart = λ q r h k. absurd h;
        words = λ a w e.
            let i = in_text (program_of image) a w e in
            inl (subst (λ z. get (text_code (program_of image)) z ≡ Some (own w)) (sym (i.at)) (text_word image.text_at (words_of (text_of image)) i.i w i.is));
        doors = λ b h k l. absurd h;
        single = λ b d h k x y e f g. absurd h;
        ages = λ m h k. absurd h;
        distinct = λ m o h k l j e. absurd h;
        families = λ m h k. absurd h;
        used = λ m b h k l e. absurd h;
        chains = λ m h k. absurd h;
        heads = λ b h k. absurd h;
      }

  pub begins : IsProgram image → Inv (start_core image n budget) (start image n)
  begins p =
      record {
        ground = ground image p;
        ps = [];
        clock = 1;
        some = omega arith;
        static = no_block p;
        prog = refl;
        many = length-map (start image n).harts first_hart;
        harts = λ h x y ex ey.
            let k = starts n 0 n h image y ey in
            let e : x ≡ first_hart (start_hart image n k.0) = mapped (start image n).harts h x y ex ey ∙ ap first_hart k.1 in
            subst (λ a. Dynamic (program_of image) budget [] a y) (sym e) (subst (Dynamic (program_of image) budget [] (first_hart (start_hart image n k.0))) (sym k.1) (first k.0));
      }

  -- no mini block was linked yet
  pub begins_numbers : (p : IsProgram image) → Numbers no_linkings (begins p).ps (begins p).clock
  unfolding begins
  begins_numbers p = (refl, λ x h. absurd h)
