-- Of which connection a stream is that is to be answered.
use Rattle.std.specs.Prelude.{◌≡◌}
use Rattle.std.specs.Arc.{arc_value}
use Rattle.std.specs.declared.net.tcp.TcpStream.{TcpStream}
use Rattle.server_sessions.specs.declared.unanswered.Side.{Side}
use Rattle.server_sessions.specs.declared.unanswered.Unanswered.{Unanswered}

-- it is this stream, to be read and to be written
abbrev pub IsStreamOf : TcpStream → Unanswered Side Side → Type 0
IsStreamOf stream its = (arc_value its.reader.stream ≡ stream) × (arc_value its.writer.stream ≡ stream)

-- it is one of which this holds
abbrev pub IsGivenStream : (TcpStream → Type 0) → Unanswered Side Side → Type 0
IsGivenStream IsGiven its = IsGiven (arc_value its.reader.stream) × IsGiven (arc_value its.writer.stream)
