use Rattle.std.specs.Io.KnownBytes.{Keeps}
use Rattle.server_sessions.proofs.peer.look_often.Given as goal

abbrev pub invariant-loop-look : goal.invariant-loop-look
invariant-loop-look g l = Keeps (g.S.Read.remaining l.fn.stream) (g.S.Read.remaining l.stream)
