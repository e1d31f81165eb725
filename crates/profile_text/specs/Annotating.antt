-- For proofs alone: what holds of a text that is annotated.
use Rattle.std.specs.Prelude.{◌≡◌, ℕ, nat_eq}
use Rattle.std.specs.HashSet.{contains}
use Rattle.profile_text.specs.Annotated.{is_head}
use Rattle.profile_text.specs.ProfiledTexts.{IsProfiledText}
use Rattle.profile_text.specs.Totals.{ticks_of}
use Rattle.profile_text.specs.declared.annotations.Annotations.{Annotations}

pub record AreAnnotations (n : Annotations) : Type 0 where
  pub text : IsProfiledText n.text.now
  pub addresses : (a : ℕ) → contains nat_eq n.addresses a ≡ is_head n.heads.now a
  pub all : n.all ≡ ticks_of n.text.now.profile.now
