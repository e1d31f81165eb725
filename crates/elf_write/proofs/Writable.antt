-- An assembled image can be written.
use Rattle.std.proofs.Common.{ℕ, ◌+◌, ◌*◌, ◌≤◌, arith}
use Rattle.pn_types.specs.declared.image.Image.{Image}
use Rattle.rv_asm.specs.Assembly.{names_room}
use Rattle.elf_write.specs.Layout.{CanWrite}
use Rattle.elf_write.proofs.Rooms.{strings_room}

-- The image of a text of at most 33,554,432 bytes can be written.
pub can_write : (image : Image) (len : ℕ) → len ≤ 33554432 → names_room image.symbols ≤ 127 * (len + 1) → CanWrite image
can_write image len short named = let room = strings_room image.symbols in omega arith
