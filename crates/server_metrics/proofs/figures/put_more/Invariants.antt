use Rattle.std.proofs.Common.{◌≡◌, ◌++◌, map, take}
use Rattle.std.specs.Prelude.{string_bytes, codes}
use Rattle.std.specs.List.{flat_map}
use Rattle.server_metrics.specs.Figures.{label_text, pair_of}
use Rattle.server_metrics.proofs.figures.put_more.Given as goal

-- those so far
abbrev pub invariant-loop-label : goal.invariant-loop-label
invariant-loop-label l = string_bytes l.text ≡ string_bytes l.fn.text ++ flat_map (λ label. codes "," ++ label_text label) (map pair_of (take l.label-index l.labels))
