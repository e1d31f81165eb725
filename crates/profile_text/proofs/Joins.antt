-- What is written piece by piece.
use Rattle.std.proofs.Common.{◌≡◌, ℕ, List, ◌++◌, ap, ◌∙◌, append_assoc}
use Rattle.pn_types.specs.declared.code.Proc.{Proc}
use Rattle.pn_types.specs.declared.image.Image.{Image}
use Rattle.word_counts.specs.declared.profile.Profile.{Profile}

-- a piece y behind what is written, which is x behind what was there
pub join : (old now next x y : List ℕ) → now ≡ old ++ x → next ≡ now ++ y → next ≡ old ++ (x ++ y)
join old now next x y e f = f ∙ ap (λ z. z ++ y) e ∙ append_assoc old x y

-- a text of equal arguments
pub same_text : (f : Image → List Proc → Profile → List ℕ) (i j : Image) (ps qs : List Proc) (r s : Profile) → i ≡ j → ps ≡ qs → r ≡ s → f i ps r ≡ f j qs s
same_text f i j ps qs r s a b c = ap (λ z. f z ps r) a ∙ ap (λ z. f j z r) b ∙ ap (λ z. f j qs z) c
