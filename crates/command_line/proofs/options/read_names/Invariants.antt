use Rattle.std.proofs.Common.{◌≡◌, take}
use Rattle.std.specs.Prelude.{map}
use Rattle.command_line.proofs.TenantNames.{AreNames}
use Rattle.command_line.proofs.options.read_names.Given as goal

abbrev pub invariant-loop-word : goal.invariant-loop-word
invariant-loop-word l = record {
  so_far : l.names.items ≡ take l.word-index (map (λ word. word.now) l.words);
  names : AreNames l.names.items;
}
