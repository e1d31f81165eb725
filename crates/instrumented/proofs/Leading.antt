-- A mini block that was made to lead on is the one that the definitions name.
use Rattle.std.proofs.Common.{◌≡◌, ℕ, zero, suc, ◌-◌, ◌<◌, List, [], ◌∷◌, ◌++◌, Option, Some, None, refl, ap, ◌∙◌, arith, length}
use Rattle.std.specs.Prelude.{Bool, IsSome, IfSome, take}
use Rattle.tramp_spec.specs.Blocks.{mini_words}
use Rattle.tramp_spec.specs.Codes.{Code}
use Rattle.tramp_spec.specs.declared.block.Block.{Block}
use Rattle.tramp_spec.specs.declared.mark.MarkedWord.{MarkedWord}
use Rattle.machine.specs.Cores.{Core, Row}
use Rattle.machine.specs.Events.{current_base, next_of}
use Rattle.instrument.specs.Handing.{head_of}
use Rattle.instrumented.specs.Doing.{led}

-- all but the last of a list, and the last
record Ended (xs : List MarkedWord) (n : ℕ) : Type 0 where
  last : MarkedWord
  is : xs ≡ take n xs ++ last ∷ []

ended : (n : ℕ) (xs : List MarkedWord) → length xs ≡ suc n → Ended xs n
ended n [] e = absurd (omega arith)
ended zero (x ∷ []) e = record { last = x; is = refl }
ended zero (x ∷ y ∷ ys) e = absurd (omega arith)
ended (suc n) (x ∷ xs) e = let r = ended n xs (omega arith) in record { last = r.last; is = ap (λ l. x ∷ l) r.is }

head_is : (code : Code) (o : Option Row) (next : ℕ) → IsSome o → IfSome o (λ base. next ≡ next_of code base) → next ≡ head_of code o
head_is code None next s e = absurd cc
head_is code (Some b) next s e = e

block_is : (b n : Block) (words : List MarkedWord) → n.point ≡ b.point → n.at ≡ b.at → n.base ≡ b.base → n.words ≡ words → n ≡ record b { words = words }
block_is b n words p a s w =
    ap (λ (x : ℕ). record n { point = x }) p
    ∙ (ap (λ (x : ℕ). record n { point = b.point; at = x }) a
    ∙ (ap (λ (x : Bool). record n { point = b.point; at = b.at; base = x }) s
    ∙ ap (λ (x : List MarkedWord). record b { words = x }) w))

-- what `set_next` makes of it
pub led_is : (c : Core) (b n : Block) (next : ℕ) → 0 < length b.words → IsSome (current_base c.rows b.point) → IfSome (current_base c.rows b.point) (λ base. next ≡ next_of c.code base)
    → n.point ≡ b.point → n.at ≡ b.at → n.base ≡ b.base → ((body : List MarkedWord) (last : MarkedWord) → b.words ≡ body ++ last ∷ [] → n.words ≡ mini_words b.at body next) → n ≡ led c b
led_is c b n next l s h p a base w =
    let k = ended (length b.words - 1) b.words (omega arith) in
    block_is b n (mini_words b.at (take (length b.words - 1) b.words) next) p a base (w (take (length b.words - 1) b.words) k.last k.is)
    ∙ ap (λ (x : ℕ). record b { words = mini_words b.at (take (length b.words - 1) b.words) x }) (head_is c.code (current_base c.rows b.point) next s h)
