use Rattle.std.proofs.Common.{◌≡◌, ◌≤◌, drop}
use Rattle.std.specs.List.{AllWithin}
use Rattle.elf_form.specs.Faults.{first_fault}
use Rattle.elf_form.specs.Segments.{load_faults}
use Rattle.elf_load.specs.Placed.{IsSegmentPlaced}
use Rattle.elf_load.proofs.segments.first_load_fault.Given as goal

abbrev pub invariant-loop-place : goal.invariant-loop-place
invariant-loop-place l = record {
  fault : first_fault (load_faults l.len l.place (drop l.place l.loads)) ≡ first_fault (load_faults l.len 0 l.loads);
  placed : AllWithin (IsSegmentPlaced l.len) l.loads 0 l.place;
  few : l.place ≤ 16;
}
