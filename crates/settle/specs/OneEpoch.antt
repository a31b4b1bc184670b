-- What the replay of an epoch stands for.
use Rattle.std.specs.Prelude.{◌≡◌, ℕ, List, nat_eq}
use Rattle.indexmap.specs.IndexMap.{IndexMap, IsUnique, get}
use Rattle.prepare_commit.specs.Bases.{Frozen}
use Rattle.plain_store.specs.declared.calls.Call.{Call}
use Rattle.partition.specs.Events.{Event, event}
use Rattle.partition.specs.declared.event_list.CalledEvent.{CalledEvent}
use Rattle.partition.specs.Journals.{IsEnd, IsSoundFrom, last_number}

-- these events are sound from the base and lead to this content, and the table has the last number of each seat
pub record HasPlayed {S : Type 0} (base : Frozen) (events : List Event) (end : Frozen) (table : IndexMap ℕ ℕ S)
    : Type 0 where
  pub sound : IsSoundFrom base events
  pub leads : IsEnd base events end
  pub unique : IsUnique nat_eq table
  pub lasts : (seat : ℕ) → get nat_eq table seat ≡ last_number seat events

-- the event of which this is the call, and this the rest
abbrev pub event_of : Call → CalledEvent → Event
event_of call called = event called.seat called.number call called.reply
