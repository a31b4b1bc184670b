-- What a search answers to a reply, after the replies that it took.
use Rattle.std.specs.Prelude.{◌≡◌, ℕ, List, [], ◌∷◌, ◌++◌, Bool, false, ◌&&◌, ◌||◌, ◌==◌, nat_lt, cond, not, Option}
use Rattle.std.specs.Prelude.{Some, None}
use Rattle.std.specs.List.{list_any}
use Rattle.stamps.specs.Limits.{max_found}
use Rattle.plain_store.specs.FoundKeys.{Findings}
use Rattle.plain_store.specs.declared.calls.Call.{Call}
use Rattle.plain_store.specs.declared.calls.Call.TheVariants.{Found}
use Rattle.plain_store.specs.declared.calls.Reply.{Reply}
use Rattle.plain_store.specs.declared.calls.Reply.TheVariants.{Found as ToFound}
use Rattle.plain_store.specs.declared.message.Message.{Message}
use Rattle.plain_store.specs.Words.{Tag, Setup, home}
use Rattle.plain_store.specs.Finding.{all_found, total_found, all_keys_found}
use Rattle.plain_store.specs.Moves.{Move, find_move, is_answered}
use Rattle.get_all.specs.Reading.{has_ended as has_read, is_of_read}

-- whether a partition told of a key that is at home elsewhere
abbrev pub is_stray : Setup → ℕ → Option Reply → Bool
is_stray setup partition (Some (ToFound told)) = list_any (λ key. not (home setup key == partition)) told.keys
is_stray setup partition reply = false

abbrev pub any_stray : Setup → List Message → Bool
any_stray setup taken = list_any (λ message. is_stray setup message.partition message.reply) taken

-- whether the search has ended: by such a reply, by too many items, or as the read of what was found (that of nothing
-- is whole at once)
abbrev pub has_ended : Setup → List Message → Bool
has_ended setup taken =
    any_stray setup taken
    || (all_found setup taken && (nat_lt max_found (total_found taken) || has_read (all_keys_found taken) taken))

-- whether a reply is to one of the search's calls: until each partition told what it found to those, and from then on
-- to those of the read
abbrev pub is_of_search : Setup → List Message → ℕ → Call → Option Reply → Bool
is_of_search setup taken partition (Found tag) (Some (ToFound told)) =
    not (all_found setup taken) && nat_lt partition setup.partitions
is_of_search setup taken partition call reply =
    all_found setup taken && is_of_read (all_keys_found taken) taken call reply

-- the first reply to each call of a search that has not ended
abbrev pub is_wanted : Setup → List Message → Message → Bool
is_wanted setup taken message =
    not (has_ended setup taken)
    && (is_of_search setup taken message.partition message.call message.reply
    && not (is_answered taken message.partition message.call))

-- what the search does once the message is offered to it; None where it is ignored
abbrev pub find_answer : Setup → Tag → List Message → Message → Option Move
find_answer setup tag taken message =
    cond (is_wanted setup taken message)
    (Some (find_move setup tag (taken ++ message ∷ []) message.partition message.call message.reply)) None

-- the replies that were then taken, in order
abbrev pub taken_with : Setup → List Message → Message → List Message
taken_with setup taken message = cond (is_wanted setup taken message) (taken ++ message ∷ []) taken

-- the message reports what was found under a tag at the partition
pub record IsTold (partition : ℕ) (told : Findings) (message : Message) : Type 0 where
  pub tag : Tag
  pub call : message.call ≡ Found tag
  pub at : message.partition ≡ partition
  pub replied : message.reply ≡ Some (ToFound told)
