use Rattle.std.specs.Option.{option_map}
use Rattle.line_protocol.proofs.EachWord.{IsReadTo, size_of}
use Rattle.line_protocol.proofs.step_line.read_each.Given as goal

abbrev pub invariant-loop-rest : goal.invariant-loop-rest
invariant-loop-rest g l = IsReadTo g.T.Word.at (option_map (λ t. t.now) l.text) (option_map (λ t. t.now) l.rest) l.kept l.list.items

abbrev pub decreases-loop-rest : goal.decreases-loop-rest
decreases-loop-rest g l = size_of (option_map (λ t. t.now) l.rest)
