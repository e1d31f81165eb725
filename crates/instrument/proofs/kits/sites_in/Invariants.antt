use Rattle.std.proofs.Common.{◌≡◌, ◌+◌, drop}
use Rattle.instrument.specs.Needs as needs
use Rattle.instrument.proofs.kits.sites_in.Given as goal

abbrev pub invariant-loop-kit : goal.invariant-loop-kit
invariant-loop-kit l = l.sites + needs.sites_in (drop l.kit-index l.kits) ≡ needs.sites_in l.kits
