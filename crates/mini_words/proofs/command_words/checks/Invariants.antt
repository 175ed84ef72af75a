use Rattle.std.proofs.Common.{◌≡◌, map, take}
use Rattle.std.specs.List.{All}
use Rattle.mini_words.specs.Ranges.{IsWithin}
use Rattle.mini_words.specs.declared.request.Request.TheVariants.{Check}
use Rattle.mini_words.proofs.command_words.checks.Given as goal

abbrev pub invariant-loop-image : goal.invariant-loop-image
invariant-loop-image l = record {
  value : l.checks ≡ map (λ s. Check (record { name = s.now; size = l.size })) (take l.image-index l.images);
  within : All IsWithin l.checks;
}
