-- What each answer of a reader is to the replies that it took.
use Rattle.std.proofs.Common.{◌≡◌, ℕ, List, [], ◌∷◌, ◌++◌, Bool, true, false, ◌&&◌, ◌||◌, ◌==◌, not, map, ap, sym, ◌∙◌, refl, cond, subst, Option, Some, None}
use Rattle.std.specs.Prelude.{nat_lt, is_some, bytes_eq}
use Rattle.std.specs.List.{list_any, list_all}
use Rattle.std.specs.Ordering.{nat_cmp, is_lt}
use Rattle.std.specs.declared.cmp.Ordering.TheVariants.{Less, Equal, Greater}
use Rattle.std.proofs.lemmas.Bool.{eq-eqb}
use Rattle.stamps.specs.Record.{Record}
use Rattle.stamps.specs.WriteSet.{contains_key}
use Rattle.plain_store.specs.declared.calls.Call.TheVariants.{Get}
use Rattle.plain_store.specs.declared.calls.ReadReply.{ReadReply}
use Rattle.plain_store.specs.declared.calls.ReadReply.TheVariants.{Version}
use Rattle.plain_store.specs.declared.calls.Reply.TheVariants.{Get as ToGet}
use Rattle.plain_store.specs.declared.message.Message.{Message}
use Rattle.plain_store.specs.declared.reading.Reading.{Reading}
use Rattle.plain_store.specs.declared.refusal.Refusal.TheVariants.{Torn as IsTorn}
use Rattle.plain_store.specs.Words.{Key, Stamp, Setup}
use Rattle.plain_store.specs.Rounds.{shown_first, seen_first, seen_second, needed, late_keys, shows_writes, round_one_complete, round_two_complete, second_calls, readings, is_false_first, is_false_second}
use Rattle.plain_store.specs.Moves.{Move, Waits, Asks, Fails, read_move, second_move, is_answered}
use Rattle.plain_store.proofs.ListTests.{or-false, any_push, any_same}
use Rattle.get_all.specs.ReadProgress.{with_first, with_second, first_shows, needed_by, has_first, is_answered_by, is_whole, awaits_first, awaits_second, readings_by, late_by}
use Rattle.get_all.specs.Reading.{is_last_reply, any_last, has_ended, is_of_read, is_wanted, IsFirst, IsSecond, ReadsWhole}
use Rattle.get_all.specs.Reader.{told, ask_for, slot_after, StandsFor, IfRead, is_last, TakesRead}
use Rattle.get_all.specs.declared.late.Late.{Late}
use Rattle.get_all.specs.declared.read_progress.KeyProgress.{KeyProgress}
use Rattle.get_all.specs.declared.reader.Reader.{Reader}
use Rattle.get_all.specs.declared.reader.ReadMove.{ReadMove}
use Rattle.get_all.specs.declared.reader.ReadMove.TheVariants.{Wait, Ask, Read, Torn, Ignored}
use Rattle.get_all.proofs.SlotFacts.{needed_is, shows_is, shown_is, answered_is, asked_is, readings_is, awaiting_first, awaiting_second}
use Rattle.get_all.proofs.Orderly.{first_slots, first_orderly, complete_same, second_slots, second_orderly}
use Rattle.get_all.proofs.Whole.{unfractured}

-- ---- whether a reply is waited for

module _ (keys : List Key) (taken : List Message) (message : Message) (r : Reader) (s : StandsFor keys r taken) where
  pub wanted_ended : r.has_ended ≡ true → is_wanted keys taken message ≡ false
  wanted_ended over = ap (λ b. not b && (is_of_read keys taken message.call message.reply && not (is_answered taken message.partition message.call))) (sym s.ended ∙ over)

  module _ (going : r.has_ended ≡ false) where
    pub open_yet : has_ended keys taken ≡ false
    open_yet = sym s.ended ∙ going

    pub wanted_first : (key : Key) (reply : ReadReply) → IsFirst key reply message → is_wanted keys taken message ≡ list_any (awaits_first key) r.slots
    wanted_first key reply is =
        let h = s.holds open_yet in
        ap (λ b. not b && (is_of_read keys taken message.call message.reply && not (is_answered taken message.partition message.call))) open_yet
        ∙ ap (λ c. is_of_read keys taken c message.reply && not (is_answered taken message.partition c)) is.call
        ∙ ap (λ o. is_of_read keys taken (Get key None) o && not (is_answered taken message.partition (Get key None))) is.replied
        ∙ ap (λ b. contains_key keys key && not b) (h.orderly.first_answers message.partition key)
        ∙ sym (ap (list_any (awaits_first key)) h.slots ∙ awaiting_first keys taken key)

    pub wanted_second : (key : Key) (reply : ReadReply) → IsSecond keys taken key reply message
        → is_wanted keys taken message ≡ (list_all has_first r.slots && list_any (awaits_second r.slots key) r.slots)
    wanted_second key reply is =
        let h = s.holds open_yet in
        let asked = needed keys taken key in
        let complete = round_one_complete keys taken in
        let late = contains_key (late_keys keys taken) key in
        ap (λ b. not b && (is_of_read keys taken message.call message.reply && not (is_answered taken message.partition message.call))) open_yet
        ∙ ap (λ c. is_of_read keys taken c message.reply && not (is_answered taken message.partition c)) is.call
        ∙ ap (λ o. is_of_read keys taken (Get key (Some asked)) o && not (is_answered taken message.partition (Get key (Some asked)))) is.replied
        ∙ ap (λ b. (complete && (late && b)) && not (is_answered taken message.partition (Get key (Some asked)))) (eq-eqb asked asked refl)
        ∙ ap (λ b. (complete && (late && true)) && not b) (h.orderly.second_answers message.partition key asked)
        ∙ regroup complete late (not (is_some (seen_second taken key asked)))
        ∙ sym (ap (λ slots. list_all has_first slots && list_any (awaits_second slots key) slots) h.slots
        ∙ ap (λ b. b && list_any (awaits_second (map (slot_after keys taken) keys) key) (map (slot_after keys taken) keys)) (shown_is keys taken)
        ∙ ap (λ b. complete && b) (awaiting_second keys taken key))
      where
        regroup : (x y z : Bool) → ((x && (y && true)) && z) ≡ (x && (y && z))
        regroup true true z = refl
        regroup true false z = refl
        regroup false y z = refl

-- ---- the answers

module _ (keys : List Key) (taken : List Message) (message : Message) where
  abbrev more : List Message
  more = taken ++ message ∷ []

  pub ignores : (r : Reader) → StandsFor keys r taken → is_wanted keys taken message ≡ false → TakesRead keys taken message Ignored r
  ignores r s unwanted =
      let P : Bool → Type 0 = λ b. StandsFor keys r (cond b more taken) in
      record {
        answered = λ setup tells. sym (ap (λ b. cond b (Some (read_move setup keys more tells message.call message.reply)) None) unwanted);
        stands = subst P (sym unwanted) s;
        last = ap (λ b. has_ended keys (cond b more taken)) unwanted ∙ sym (or-false (has_ended keys taken));
        whole = tt;
      }

  takes : (answer : ReadMove) (after : Reader) → is_wanted keys taken message ≡ true
      → ((setup : Setup) (tells : List Reading → Move) → told setup tells answer ≡ Some (read_move setup keys more tells message.call message.reply))
      → StandsFor keys after more → has_ended keys more ≡ is_last answer → IfRead answer (ReadsWhole keys more) → TakesRead keys taken message answer after
  takes answer after wanted moves s over reads =
      let P : Bool → Type 0 = λ b. StandsFor keys after (cond b more taken) in
      record {
        answered = λ setup tells. moves setup tells ∙ sym (ap (λ b. cond b (Some (read_move setup keys more tells message.call message.reply)) None) wanted);
        stands = subst P (sym wanted) s;
        last = ap (λ b. has_ended keys (cond b more taken)) wanted ∙ over ∙ sym (ap (λ b. b || is_last answer) (open_if (has_ended keys taken) _ wanted));
        whole = reads;
      }
    where
      open_if : (x y : Bool) → (not x && y) ≡ true → x ≡ false
      open_if true y h = cc
      open_if false y h = refl

  -- a reply that ends the read
  pub ends : (answer : ReadMove) (after : Reader) → is_wanted keys taken message ≡ true
      → ((setup : Setup) (tells : List Reading → Move) → told setup tells answer ≡ Some (read_move setup keys more tells message.call message.reply))
      → is_last_reply more message.call message.reply ≡ true → after.has_ended ≡ true → is_last answer ≡ true → IfRead answer (ReadsWhole keys more) → TakesRead keys taken message answer after
  ends answer after wanted moves last over closes reads =
      let ended : has_ended keys more ≡ true =
      ap (λ b. b || (round_one_complete keys more && round_two_complete keys more))
      (any_push (λ m. is_last_reply more m.call m.reply) taken message ∙ ap (λ b. any_last more taken || b) last ∙ or_true (any_last more taken)) in
      takes answer after wanted moves (record { ended = over ∙ sym ended; holds = λ unended. absurd (contrary (has_ended keys more) ended unended) }) (ended ∙ sym closes) reads
    where
      or_true : (b : Bool) → (b || true) ≡ true
      or_true true = refl
      or_true false = refl

      contrary : (b : Bool) → b ≡ true → b ≡ false → ⊥
      contrary b e f = cc

  -- a read goes on, or is whole
  told_first : (setup : Setup) (tells : List Reading → Move) (b c : Bool) (rs : List Reading) (late : List Late)
      → told setup tells (cond b (cond c (Read rs) (Ask late)) Wait) ≡ Some (cond (not b) Waits (cond c (tells rs) (Asks (map (ask_for setup) late))))
  told_first setup tells true true rs late = refl
  told_first setup tells true false rs late = refl
  told_first setup tells false c rs late = refl

  told_second : (setup : Setup) (tells : List Reading → Move) (b : Bool) (rs : List Reading) → told setup tells (cond b (Read rs) Wait) ≡ Some (cond b (tells rs) Waits)
  told_second setup tells true rs = refl
  told_second setup tells false rs = refl

  last_first : (b c : Bool) (rs : List Reading) (late : List Late) → is_last (cond b (cond c (Read rs) (Ask late)) Wait) ≡ (b && c)
  last_first true true rs late = refl
  last_first true false rs late = refl
  last_first false c rs late = refl

  last_second : (b : Bool) (rs : List Reading) → is_last (cond b (Read rs) Wait) ≡ b
  last_second true rs = refl
  last_second false rs = refl

  whole_first : (P : List Reading → Type 0) (b c : Bool) (rs : List Reading) (late : List Late) → (c ≡ true → P rs) → IfRead (cond b (cond c (Read rs) (Ask late)) Wait) P
  whole_first P true true rs late reads = reads refl
  whole_first P true false rs late reads = tt
  whole_first P false c rs late reads = tt

  whole_second : (P : List Reading → Type 0) (b : Bool) (rs : List Reading) → (b ≡ true → P rs) → IfRead (cond b (Read rs) Wait) P
  whole_second P true rs reads = reads refl
  whole_second P false rs reads = tt

  -- a reply by its name
  pub named_second : (key : Key) (said reply : ReadReply) → IsSecond keys taken key said message → said ≡ reply → IsSecond keys taken key reply message
  named_second key said reply got named = let P : ReadReply → Type 0 = λ r. IsSecond keys taken key r message in subst P named got

  -- a reply of round one that is not false
  pub takes_first : (r after : Reader) → StandsFor keys r taken → r.has_ended ≡ false → (key : Key) (reply : ReadReply) → IsFirst key reply message
      → (shown : Option Record) → ((k : Key) → shown_first k (Get key None) (Some (ToGet reply)) ≡ cond (bytes_eq key k) (Some shown) None)
      → ((t : Stamp) (ws : List Key) → shows_writes t ws (Get key None) (Some (ToGet reply)) ≡ first_shows t ws (Some shown))
      → is_false_first key reply ≡ false → list_any (awaits_first key) r.slots ≡ true
      → after.slots ≡ map (with_first key shown) r.slots → after.has_ended ≡ is_whole after.slots
      → (answer : ReadMove) → answer ≡ cond (list_all has_first after.slots) (cond (list_all (is_answered_by after.slots) after.slots) (Read (readings_by after.slots)) (Ask (late_by after.slots))) Wait
      → TakesRead keys taken message answer after
  takes_first r after s going key reply is shown shows writes fine awaited marked over answer tells_is =
      let unended = open_yet keys taken message r s going in
      let h = s.holds unended in
      let parts = awaited_parts (contains_key keys key) (is_some (seen_first taken key)) (sym (ap (list_any (awaits_first key)) h.slots ∙ awaiting_first keys taken key) ∙ awaited) in
      let shows_message : (k : Key) → shown_first k message.call message.reply ≡ cond (bytes_eq key k) (Some shown) None =
      λ k. ap (λ c. shown_first k c message.reply) is.call ∙ ap (shown_first k (Get key None)) is.replied ∙ shows k in
      let writes_message : (t : Stamp) (ws : List Key) → shows_writes t ws message.call message.reply ≡ first_shows t ws (Some shown) =
      λ t ws. ap (λ c. shows_writes t ws c message.reply) is.call ∙ ap (shows_writes t ws (Get key None)) is.replied ∙ writes t ws in
      let honest : is_last_reply more message.call message.reply ≡ false =
      ap (λ c. is_last_reply more c message.reply) is.call ∙ ap (is_last_reply more (Get key None)) is.replied ∙ fine in
      let orderly = first_orderly keys taken message key shown h.orderly is.call shows_message writes_message honest parts.0 parts.1 in
      let slots : after.slots ≡ map (slot_after keys more) keys =
      marked ∙ ap (map (with_first key shown)) h.slots ∙ first_slots keys taken message key shown h.orderly is.call shows_message writes_message honest parts.0 parts.1 in
      let one : list_all has_first after.slots ≡ round_one_complete keys more = ap (list_all has_first) slots ∙ shown_is keys more in
      let two : list_all (is_answered_by after.slots) after.slots ≡ round_two_complete keys more = ap (λ all. list_all (is_answered_by all) all) slots ∙ answered_is keys more in
      let read : readings_by after.slots ≡ readings keys more = ap readings_by slots ∙ readings_is keys more in
      let ended : has_ended keys more ≡ (round_one_complete keys more && round_two_complete keys more) =
      ap (λ b. b || (round_one_complete keys more && round_two_complete keys more)) orderly.all_true in
      let P : ReadMove → Type 0 = λ a. IfRead a (ReadsWhole keys more) in
      takes answer after (wanted_first keys taken message r s going key reply is ∙ awaited)
      (λ setup tells.
      ap (told setup tells) tells_is
      ∙ told_first setup tells (list_all has_first after.slots) (list_all (is_answered_by after.slots) after.slots) (readings_by after.slots) (late_by after.slots)
      ∙ (λ i. Some (cond (not (one i)) Waits (cond (two i) (tells (read i)) (Asks ((ap (λ all. map (ask_for setup) (late_by all)) slots ∙ asked_is keys more setup) i)))))
      ∙ ap Some (sym (ap (λ c. read_move setup keys more tells c message.reply) is.call ∙ ap (read_move setup keys more tells (Get key None)) is.replied
      ∙ ap (λ b. cond b (Fails IsTorn []) (cond (not (round_one_complete keys more)) Waits (cond (round_two_complete keys more) (tells (readings keys more)) (Asks (second_calls setup keys more))))) fine)))
      (record { ended = over ∙ (λ i. one i && two i) ∙ sym ended; holds = λ going_on. record { slots = slots; orderly = orderly } })
      (ended ∙ (λ i. sym one i && sym two i)
      ∙ sym (ap is_last tells_is ∙ last_first (list_all has_first after.slots) (list_all (is_answered_by after.slots) after.slots) (readings_by after.slots) (late_by after.slots)))
      (subst P (sym tells_is) (whole_first (ReadsWhole keys more) (list_all has_first after.slots) (list_all (is_answered_by after.slots) after.slots) (readings_by after.slots) (late_by after.slots)
      (λ all. record { shown = read; unfractured = unfractured keys more orderly (sym two ∙ all) })))
    where
      awaited_parts : (x y : Bool) → (x && not y) ≡ true → (x ≡ true) × (y ≡ false)
      awaited_parts true true h = cc
      awaited_parts true false h = (refl, refl)
      awaited_parts false y h = cc

  -- a reply of round two that is not false
  pub takes_second : (r after : Reader) → StandsFor keys r taken → r.has_ended ≡ false → (key : Key) (version : Record) → IsSecond keys taken key (Version version) message
      → is_false_second more key (needed keys taken key) (Version version) ≡ false → list_all has_first r.slots ≡ true → list_any (awaits_second r.slots key) r.slots ≡ true
      → after.slots ≡ map (with_second key version) r.slots → after.has_ended ≡ list_all (is_answered_by after.slots) after.slots
      → (answer : ReadMove) → answer ≡ cond (list_all (is_answered_by after.slots) after.slots) (Read (readings_by after.slots)) Wait
      → TakesRead keys taken message answer after
  takes_second r after s going key version is fine ready awaited marked over answer tells_is =
      let unended = open_yet keys taken message r s going in
      let h = s.holds unended in
      let asked = needed keys taken key in
      let complete : round_one_complete keys taken ≡ true = sym (ap (list_all has_first) h.slots ∙ shown_is keys taken) ∙ ready in
      let orderly = second_orderly keys taken message key version h.orderly is.call is.replied fine complete in
      let slots : after.slots ≡ map (slot_after keys more) keys =
      marked ∙ ap (map (with_second key version)) h.slots ∙ second_slots keys taken message key version h.orderly is.call is.replied fine complete in
      let still : round_one_complete keys more ≡ true = complete_same keys taken message key version h.orderly is.call is.replied fine complete ∙ complete in
      let two : list_all (is_answered_by after.slots) after.slots ≡ round_two_complete keys more = ap (λ all. list_all (is_answered_by all) all) slots ∙ answered_is keys more in
      let read : readings_by after.slots ≡ readings keys more = ap readings_by slots ∙ readings_is keys more in
      let ended : has_ended keys more ≡ round_two_complete keys more =
      ap (λ b. b || (round_one_complete keys more && round_two_complete keys more)) orderly.all_true ∙ ap (λ b. b && round_two_complete keys more) still in
      let P : ReadMove → Type 0 = λ a. IfRead a (ReadsWhole keys more) in
      takes answer after
      (wanted_second keys taken message r s going key (Version version) is ∙ ap (λ b. b && list_any (awaits_second r.slots key) r.slots) ready ∙ awaited)
      (λ setup tells.
      ap (told setup tells) tells_is
      ∙ told_second setup tells (list_all (is_answered_by after.slots) after.slots) (readings_by after.slots)
      ∙ (λ i. Some (cond (two i) (tells (read i)) Waits))
      ∙ ap Some (sym (ap (λ c. read_move setup keys more tells c message.reply) is.call ∙ ap (read_move setup keys more tells (Get key (Some asked))) is.replied
      ∙ ap (λ b. cond b (Fails IsTorn []) (cond (round_one_complete keys more && round_two_complete keys more) (tells (readings keys more)) Waits)) fine
      ∙ ap (λ b. cond (b && round_two_complete keys more) (tells (readings keys more)) Waits) still)))
      (record { ended = over ∙ two ∙ sym ended; holds = λ going_on. record { slots = slots; orderly = orderly } })
      (ended ∙ sym two ∙ sym (ap is_last tells_is ∙ last_second (list_all (is_answered_by after.slots) after.slots) (readings_by after.slots)))
      (subst P (sym tells_is) (whole_second (ReadsWhole keys more) (list_all (is_answered_by after.slots) after.slots) (readings_by after.slots)
      (λ all. record { shown = read; unfractured = unfractured keys more orderly (sym two ∙ all) })))

  -- a reply of round one that is false
  pub torn_first : (r after : Reader) → StandsFor keys r taken → r.has_ended ≡ false → (key : Key) (reply : ReadReply) → IsFirst key reply message
      → is_false_first key reply ≡ true → list_any (awaits_first key) r.slots ≡ true → after.has_ended ≡ true → (answer : ReadMove) → answer ≡ Torn → TakesRead keys taken message answer after
  torn_first r after s going key reply is false_reply awaited over answer torn =
      let P : ReadMove → Type 0 = λ a. IfRead a (ReadsWhole keys more) in
      ends answer after (wanted_first keys taken message r s going key reply is ∙ awaited)
      (λ setup tells. ap (told setup tells) torn ∙ ap Some (sym (ap (λ c. read_move setup keys more tells c message.reply) is.call ∙ ap (read_move setup keys more tells (Get key None)) is.replied
      ∙ ap (λ b. cond b (Fails IsTorn []) (cond (not (round_one_complete keys more)) Waits (cond (round_two_complete keys more) (tells (readings keys more)) (Asks (second_calls setup keys more))))) false_reply)))
      (ap (λ c. is_last_reply more c message.reply) is.call ∙ ap (is_last_reply more (Get key None)) is.replied ∙ false_reply)
      over (ap is_last torn) (subst P (sym torn) tt)

  -- a reply of round two that ends the read
  pub ends_second : (r after : Reader) → StandsFor keys r taken → r.has_ended ≡ false → (key : Key) (said reply : ReadReply) → IsSecond keys taken key said message → said ≡ reply
      → list_all has_first r.slots ≡ true → list_any (awaits_second r.slots key) r.slots ≡ true
      → is_last_reply more (Get key (Some (needed keys taken key))) (Some (ToGet reply)) ≡ true
      → (answer : ReadMove) → ((setup : Setup) (tells : List Reading → Move) → told setup tells answer ≡ Some (second_move keys more tells key (needed keys taken key) reply))
      → is_last answer ≡ true → IfRead answer (ReadsWhole keys more) → after.has_ended ≡ true → TakesRead keys taken message answer after
  ends_second r after s going key said reply got named ready awaited last answer moves closes reads over =
      let is = named_second key said reply got named in
      let asked = needed keys taken key in
      ends answer after
      (wanted_second keys taken message r s going key reply is ∙ ap (λ b. b && list_any (awaits_second r.slots key) r.slots) ready ∙ awaited)
      (λ setup tells. moves setup tells ∙ ap Some (sym (ap (λ c. read_move setup keys more tells c message.reply) is.call ∙ ap (read_move setup keys more tells (Get key (Some asked))) is.replied)))
      (ap (λ c. is_last_reply more c message.reply) is.call ∙ ap (is_last_reply more (Get key (Some asked))) is.replied ∙ last)
      over closes reads

  -- what the slots say of a record that came in round two
  pub false_second : (r : Reader) → StandsFor keys r taken → r.has_ended ≡ false → (key : Key) (version : Record) → IsSecond keys taken key (Version version) message
      → is_false_second more key (needed keys taken key) (Version version)
      ≡ not (bytes_eq version.key key && ((version.stamp == needed_by r.slots key) && list_any (λ (slot : KeyProgress). first_shows (needed_by r.slots key) version.writes slot.first) r.slots))
  false_second r s going key version is =
      let h = s.holds (open_yet keys taken message r s going) in
      let asked = needed keys taken key in
      let same : needed_by r.slots key ≡ asked = ap (λ slots. needed_by slots key) h.slots ∙ needed_is keys taken key in
      let shows : list_any (λ m. shows_writes asked version.writes m.call m.reply) more ≡ list_any (λ (slot : KeyProgress). first_shows asked version.writes slot.first) r.slots =
      any_same (λ m. shows_writes asked version.writes m.call m.reply) taken message (ap (λ c. shows_writes asked version.writes c message.reply) is.call)
      ∙ h.orderly.first_writes asked version.writes ∙ sym (ap (list_any (λ (slot : KeyProgress). first_shows asked version.writes slot.first)) h.slots ∙ shows_is keys taken asked version.writes) in
      ap (λ b. not (bytes_eq version.key key) || (not (version.stamp == asked) || not b)) shows
      ∙ none_of (bytes_eq version.key key) (version.stamp == asked) (list_any (λ (slot : KeyProgress). first_shows asked version.writes slot.first) r.slots)
      ∙ ap (λ t. not (bytes_eq version.key key && ((version.stamp == t) && list_any (λ (slot : KeyProgress). first_shows t version.writes slot.first) r.slots))) (sym same)
    where
      none_of : (x y z : Bool) → (not x || (not y || not z)) ≡ not (x && (y && z))
      none_of true true z = refl
      none_of true false z = refl
      none_of false y z = refl

  pub needed_slots : (r : Reader) → StandsFor keys r taken → r.has_ended ≡ false → (key : Key) → needed_by r.slots key ≡ needed keys taken key
  needed_slots r s going key = ap (λ slots. needed_by slots key) (s.holds (open_yet keys taken message r s going)).slots ∙ needed_is keys taken key

-- ---- tests and answers

pub lt_test : (m n : ℕ) (b : Bool) → is_lt (nat_cmp m n) ≡ b → nat_lt m n ≡ b
lt_test m n b is = go (nat_lt m n) (m == n) is
  where
    go : (c d : Bool) → is_lt (cond c Less (cond d Equal Greater)) ≡ b → c ≡ b
    go true d e = e
    go false true e = e
    go false false e = e

-- whether the stamp that is needed lies below a floor
pub floor_above : (keys : List Key) (taken : List Message) (message : Message) (r : Reader) → StandsFor keys r taken → r.has_ended ≡ false → (key : Key) (asked floor : ℕ) (b : Bool)
    → asked ≡ needed_by r.slots key → is_lt (nat_cmp asked floor) ≡ b → nat_lt (needed keys taken key) floor ≡ b
floor_above keys taken message r s going key asked floor b is test =
    ap (λ t. nat_lt t floor) (sym (is ∙ needed_slots keys taken message r s going key)) ∙ lt_test asked floor b test

pub torn_version : (keys : List Key) (replies : List Message) (tells : List Reading → Move) (key : Key) (s : Stamp) (version : Record)
    → is_false_second replies key s (Version version) ≡ true → second_move keys replies tells key s (Version version) ≡ Fails IsTorn []
torn_version keys replies tells key s version torn =
    ap (λ b. cond b (Fails IsTorn []) (cond (round_one_complete keys replies && round_two_complete keys replies) (tells (readings keys replies)) Waits)) torn
