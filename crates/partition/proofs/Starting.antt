-- What is sound from a base that holds nothing is sound from the start.
use Rattle.std.proofs.Common.{◌≡◌, List, [], ◌∷◌, map, subst}
use Rattle.std.specs.Prelude.{reverse}
use Rattle.std.proofs.lemmas.List.{append-nil}
use Rattle.stamps.specs.declared.bounds.Limits.{Limits}
use Rattle.plain_store.specs.Log.{Log}
use Rattle.plain_store.specs.Replies.{reply_after}
use Rattle.plain_store.specs.Words.{Room}
use Rattle.prepare_commit.specs.Bases.{empty_base}
use Rattle.prepare_commit.proofs.Freezing.{nothing_left}
use Rattle.partition.specs.Events.{Event}
use Rattle.partition.specs.Journals.{EachFollows, EachFollowsFrom, IsSoundUnder, IsSoundFrom, event_exchange, room_for}

each_follows : (room : Room) (before : List Event) → EachFollowsFrom (empty_base room) before → EachFollows room before
each_follows room [] each = tt
each_follows room (e ∷ before) each = (
  record {
    reply = subst (λ (log : Log). e.reply ≡ reply_after room log e.call) (append-nil (map event_exchange before)) (each.0.reply [] (nothing_left room));
    number = each.0.number;
  },
  each_follows room before each.1,
)

pub sound_from_nothing : (limits : Limits) (events : List Event) → IsSoundFrom (empty_base (room_for limits)) events → IsSoundUnder limits events
sound_from_nothing limits events sound = each_follows (room_for limits) (reverse events) sound
