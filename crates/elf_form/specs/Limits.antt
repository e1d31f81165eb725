-- The greatest length of what is taken for a program, and of all names of an image that is loaded, in bytes.
use Rattle.std.specs.Prelude.{◌≡◌}
use Rattle.elf_form.specs.declared.limits.TheConstants.{MAX_PROGRAM_LEN}
use Rattle.elf_form.specs.declared.symbol.TheConstants.{MAX_NAMES_LEN}

pub record LimitsAre : Type 0 where
  pub program : MAX_PROGRAM_LEN ≡ 33554432
  pub names : MAX_NAMES_LEN ≡ 67108864
