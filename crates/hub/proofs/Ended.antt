-- Why a seat answers `restart` or `ended`: for the laws of reads.
use Rattle.std.proofs.Common.{◌≡◌, ◌++◌, ◌∷◌, [], ◌==◌, List, Bool, true, false, Option, Some, None, cond, not, nat_lt, refl, ap, ◌∙◌, subst, ◌&&◌}
use Rattle.std.specs.List.{list_any}
use Rattle.std.proofs.lemmas.Bool.{ltb-true}
use Rattle.stamps.specs.Limits.{max_found}
use Rattle.plain_store.specs.declared.answer.Answer.TheVariants as says
use Rattle.plain_store.specs.declared.calls.Call.{Call}
use Rattle.plain_store.specs.declared.calls.Call.TheVariants.{Prepare, Commit, Get, Found}
use Rattle.plain_store.specs.declared.calls.PrepareReply.TheVariants.{Prepared, FullSlots, FullItems, Clash, Discarded}
use Rattle.plain_store.specs.declared.calls.ReadReply.TheVariants.{Version, Initial, Collected, Unknown}
use Rattle.plain_store.specs.declared.calls.Reply.{Reply}
use Rattle.plain_store.specs.declared.calls.Reply.TheVariants.{Prepare as ToPrepare, Committed as ToCommit, Get as ToGet, Found as ToFound}
use Rattle.plain_store.specs.declared.message.Message.{Message}
use Rattle.plain_store.specs.declared.reading.Reading.{Reading}
use Rattle.plain_store.specs.declared.refusal.Refusal.{Refusal}
use Rattle.plain_store.specs.declared.refusal.Refusal.TheVariants.{Torn, TooMany}
use Rattle.plain_store.specs.Finding.{all_found, all_keys_found, carrying, total_found}
use Rattle.plain_store.specs.History.{Gets, Finds, Writes}
use Rattle.plain_store.specs.Moves.{Waits, Decides, Finishes, Asks, Begins, Reads, Lists, Restarts, Fails, Move, find_move, read_move, search_move, write_move}
use Rattle.plain_store.specs.Rounds.{first_calls, is_false_first, is_false_second, round_one_complete, round_two_complete}
use Rattle.plain_store.specs.Words.{Item, Key, Setup, Stamp, Tag, home}
use Rattle.plain_store.specs.Writing.{Outgoing, all_committed, all_prepared}
use Rattle.get_all.specs.Reading.{is_wanted as is_wanted_read, read_answer}
use Rattle.get_all.specs.Finding.{is_wanted as is_wanted_found, find_answer}
use Rattle.entry_list.specs.declared.kinds.Entry.{Entry}
use Rattle.tenant_sessions.specs.Showing.{plain_move}
use Rattle.hub.specs.Ended.{WasCollected, WasRefused}
use Rattle.hub.specs.Replies.{IsFromReplies, IsMoveOf, answer_to}
use Rattle.hub.specs.Sights.{OperationSight}
use Rattle.hub.proofs.Replies.{from-so}

some_is : {X : Type 0} {x y : X} → Some x ≡ Some y → x ≡ y
some_is e = cc

-- the move that an answer reports
restarts_is : (move : Move) (key : Key) (floor : Stamp) → answer_to move ≡ Some (says.Restart key floor) → move ≡ Restarts key floor
restarts_is (Restarts k f) key floor is = let same : says.Restart k f ≡ says.Restart key floor = some_is is in cc
restarts_is _ key floor is = cc

fails_is : (move : Move) (refusal : Refusal) → answer_to move ≡ Some (says.Ended refusal None) → (calls : List Outgoing) × (move ≡ Fails refusal calls)
fails_is (Fails why calls) refusal is = let same : says.Ended why None ≡ says.Ended refusal None = some_is is in (calls, cc)
fails_is _ refusal is = cc

-- ---- a read restarts by a floor above what it asked for

module _ (key : Key) (floor : Stamp) where
  no_first : (tells : List Reading → Move) → ((told : List Reading) → tells told ≡ Restarts key floor → ⊥) → (a b c : Bool) (told : List Reading) (calls : List Outgoing)
      → cond a (Fails Torn []) (cond b Waits (cond c (tells told) (Asks calls))) ≡ Restarts key floor → ⊥
  no_first tells none true b c told calls is = cc
  no_first tells none false true c told calls is = cc
  no_first tells none false false true told calls is = none told is
  no_first tells none false false false told calls is = cc

  no_second : (tells : List Reading → Move) → ((told : List Reading) → tells told ≡ Restarts key floor → ⊥) → (a b : Bool) (told : List Reading) → cond a (Fails Torn []) (cond b (tells told) Waits) ≡ Restarts key floor → ⊥
  no_second tells none true b told is = cc
  no_second tells none false true told is = none told is
  no_second tells none false false told is = cc

  below : (k : Key) (asked found : Stamp) (b : Bool) → nat_lt asked found ≡ b → cond b (Restarts k found) (Fails Torn []) ≡ Restarts key floor → (k ≡ key) × (found ≡ floor) × (nat_lt asked found ≡ true)
  below k asked found true test is = (cc, cc, test)
  below k asked found false test is = cc

  collected : (setup : Setup) (keys : List Key) (replies : List Message) (tells : List Reading → Move) → ((told : List Reading) → tells told ≡ Restarts key floor → ⊥) → (last : Message) (call : Call) (reply : Option Reply)
      → last.call ≡ call → last.reply ≡ reply → read_move setup keys replies tells call reply ≡ Restarts key floor → WasCollected key floor last
  collected setup keys replies tells none last (Get k None) (Some (ToGet reply)) call said is =
      absurd (no_first tells none (is_false_first k reply) (not (round_one_complete keys replies)) (round_two_complete keys replies) _ _ is)
  collected setup keys replies tells none last (Get k (Some asked)) (Some (ToGet (Version version))) call said is =
      absurd (no_second tells none (is_false_second replies k asked (Version version)) (round_one_complete keys replies && round_two_complete keys replies) _ is)
  collected setup keys replies tells none last (Get k (Some asked)) (Some (ToGet (Collected found))) call said is =
      let its = below k asked found (nat_lt asked found) refl is in
      record {
        asked = asked;
        call = call ∙ ap (λ (j : Key). Get j (Some asked)) its.0;
        reply = said ∙ ap (λ (f : Stamp). Some (ToGet (Collected f))) its.1;
        below = ltb-true asked floor (subst (λ (f : Stamp). nat_lt asked f ≡ true) its.1 its.2);
      }
  collected setup keys replies tells none last (Get k (Some asked)) (Some (ToGet Initial)) call said is = cc
  collected setup keys replies tells none last (Get k (Some asked)) (Some (ToGet Unknown)) call said is = cc
  collected setup keys replies tells none last _ _ call said is = cc

  read_restarts : (setup : Setup) (keys : List Key) (taken : List Message) (last : Message) → read_answer setup keys Reads taken last ≡ Some (Restarts key floor) → WasCollected key floor last
  read_restarts setup keys taken last is = go (is_wanted_read keys taken last) is
    where
      go : (b : Bool) → cond b (Some (read_move setup keys (taken ++ last ∷ []) Reads last.call last.reply)) None ≡ Some (Restarts key floor) → WasCollected key floor last
      go false is = cc
      go true is = collected setup keys (taken ++ last ∷ []) Reads (λ told no. cc) last last.call last.reply refl refl (some_is is)

  -- a search does as its read
  found_restarts : (setup : Setup) (tag : Tag) (replies : List Message) (last : Message) (call : Call) (reply : Option Reply) → last.call ≡ call → last.reply ≡ reply
      → find_move setup tag replies last.partition call reply ≡ Restarts key floor → WasCollected key floor last
  found_restarts setup tag replies last (Found g) (Some (ToFound told)) call said is =
      absurd (found (list_any (λ k. not (home setup k == last.partition)) told.keys) (all_found setup replies) is)
    where
      searched : (a b : Bool) → cond a (Fails TooMany []) (cond b (Lists []) (Begins (first_calls setup (all_keys_found replies)))) ≡ Restarts key floor → ⊥
      searched true b e = cc
      searched false true e = cc
      searched false false e = cc

      found : (a b : Bool) → cond a (Fails Torn []) (cond b (search_move setup (total_found replies) (all_keys_found replies)) Waits) ≡ Restarts key floor → ⊥
      found true b e = cc
      found false false e = cc
      found false true e = searched (nat_lt max_found (total_found replies)) (total_found replies == 0) e
  found_restarts setup tag replies last call reply asked said is = collected setup (all_keys_found replies) replies (λ rs. Lists (carrying tag rs)) (λ told no. cc) last call reply asked said is

  find_restarts : (setup : Setup) (tag : Tag) (taken : List Message) (last : Message) → find_answer setup tag taken last ≡ Some (Restarts key floor) → WasCollected key floor last
  find_restarts setup tag taken last is = go (is_wanted_found setup taken last) is
    where
      go : (b : Bool) → cond b (Some (find_move setup tag (taken ++ last ∷ []) last.partition last.call last.reply)) None ≡ Some (Restarts key floor) → WasCollected key floor last
      go false is = cc
      go true is = found_restarts setup tag (taken ++ last ∷ []) last last.call last.reply refl refl (some_is is)

-- ---- a write ends by a PREPARE that was refused

undecided : (stamp : Stamp) (outs calls : List Outgoing) (refusal : Refusal) (b : Bool) → cond b (Decides stamp outs) Waits ≡ Fails refusal calls → ⊥
undecided stamp outs calls refusal true is = cc
undecided stamp outs calls refusal false is = cc

unfinished : (stamp : Stamp) (calls : List Outgoing) (refusal : Refusal) (b : Bool) → cond b (Finishes stamp) Waits ≡ Fails refusal calls → ⊥
unfinished stamp calls refusal true is = cc
unfinished stamp calls refusal false is = cc

why_is : (why refusal : Refusal) (outs calls : List Outgoing) → Fails why outs ≡ Fails refusal calls → Some why ≡ Some refusal
why_is why refusal outs calls is = cc

refused : (setup : Setup) (stamp : Stamp) (items : List Item) (replies : List Message) (refusal : Refusal) (calls : List Outgoing) (last : Message) (call : Call) (reply : Option Reply)
    → last.call ≡ call → last.reply ≡ reply → write_move setup stamp items replies call reply ≡ Fails refusal calls → WasRefused refusal last
refused setup stamp items replies refusal calls last (Prepare version) (Some (ToPrepare Prepared)) call said is = absurd (undecided stamp _ calls refusal (all_prepared stamp items replies) is)
refused setup stamp items replies refusal calls last (Prepare version) (Some (ToPrepare FullSlots)) call said is = record { version = version; said = FullSlots; call = call; reply = said; why = why_is _ refusal _ calls is }
refused setup stamp items replies refusal calls last (Prepare version) (Some (ToPrepare FullItems)) call said is = record { version = version; said = FullItems; call = call; reply = said; why = why_is _ refusal _ calls is }
refused setup stamp items replies refusal calls last (Prepare version) (Some (ToPrepare Clash)) call said is = record { version = version; said = Clash; call = call; reply = said; why = why_is _ refusal _ calls is }
refused setup stamp items replies refusal calls last (Prepare version) (Some (ToPrepare Discarded)) call said is = record { version = version; said = Discarded; call = call; reply = said; why = why_is _ refusal _ calls is }
refused setup stamp items replies refusal calls last (Commit s) (Some (ToCommit count)) call said is = absurd (unfinished stamp calls refusal (all_committed setup stamp items replies) is)
refused setup stamp items replies refusal calls last _ _ call said is = cc

some_of : (b : Bool) (move other : Move) → cond b (Some move) None ≡ Some other → move ≡ other
some_of true move other is = cc
some_of false move other is = cc

write_ends : (setup : Setup) (stamp : Stamp) (items : List Item) (taken : List Message) (last : Message) (refusal : Refusal) (calls : List Outgoing) → plain_move setup (Writes stamp items) taken last ≡ Some (Fails refusal calls)
    → WasRefused refusal last
write_ends setup stamp items taken last refusal calls is =
    refused setup stamp items (taken ++ last ∷ []) refusal calls last last.call last.reply refl refl (some_of _ (write_move setup stamp items (taken ++ last ∷ []) last.call last.reply) (Fails refusal calls) is)

-- ---- the laws

pub reads_restart : (sight : OperationSight) (setup : Setup) (keys : List Key) (start entries : List Entry) (key : Key) (floor : Stamp) → IsMoveOf sight setup (Gets keys) start entries (says.Restart key floor)
    → IsFromReplies sight (Gets keys) start entries (λ taken last. WasCollected key floor last)
reads_restart sight setup keys start entries key floor from =
    from-so sight (Gets keys) start entries _ _ (λ taken last its. read_restarts key floor setup keys taken last (its.1 ∙ ap Some (restarts_is its.0 key floor its.2))) from

pub lists_restart : (sight : OperationSight) (setup : Setup) (tag : Tag) (start entries : List Entry) (key : Key) (floor : Stamp) → IsMoveOf sight setup (Finds tag) start entries (says.Restart key floor)
    → IsFromReplies sight (Finds tag) start entries (λ taken last. WasCollected key floor last)
lists_restart sight setup tag start entries key floor from =
    from-so sight (Finds tag) start entries _ _ (λ taken last its. find_restarts key floor setup tag taken last (its.1 ∙ ap Some (restarts_is its.0 key floor its.2))) from

pub puts_end : (sight : OperationSight) (setup : Setup) (own : Stamp) (items : List Item) (start entries : List Entry) (refusal : Refusal) → IsMoveOf sight setup (Writes own items) start entries (says.Ended refusal None)
    → IsFromReplies sight (Writes own items) start entries (λ taken last. WasRefused refusal last)
puts_end sight setup own items start entries refusal from =
    from-so sight (Writes own items) start entries _ _ (λ taken last its. let fails = fails_is its.0 refusal its.2 in write_ends setup own items taken last refusal fails.0 (its.1 ∙ ap Some fails.1)) from
