use Rattle.hub.proofs.Clocked.{stamps_rise}
use Rattle.hub.proofs.read_laws.puts_by_clock_rise.Goals as goal

pub returns : goal.returns
returns c = stamps_rise
