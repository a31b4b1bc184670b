-- What a `&` to it holds names no thread.
use denote.RattleType.{RattleType}
use denote.Param.Send.{IsSync}
use Rattle.hub.specs.contracts.seal.Sealed as C

pub sync : (T : RattleType) → IsSync (C.the_row T)
sync T = record { shared = λ x b o κ. tt }
