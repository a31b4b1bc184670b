-- Every read over a whole list of replies is unfractured.
use Rattle.std.proofs.Common.{◌≡◌, List, [], ◌∷◌, ◌++◌, Bool, true, false, ◌&&◌, ◌==◌, not, ap, sym, ◌∙◌, refl, cond, subst, Option, Some, None}
use Rattle.std.specs.Prelude.{nat_lt, is_some, bytes_eq}
use Rattle.std.proofs.lemmas.Bool.{and_parts, eqb-true, not-true}
use Rattle.stamps.specs.Record.{Record}
use Rattle.stamps.specs.WriteSet.{contains_key}
use Rattle.plain_store.specs.declared.calls.Call.{Call}
use Rattle.plain_store.specs.declared.calls.Call.TheVariants.{Get}
use Rattle.plain_store.specs.declared.calls.ReadReply.{ReadReply}
use Rattle.plain_store.specs.declared.calls.ReadReply.TheVariants.{Version, Initial, Collected}
use Rattle.plain_store.specs.declared.calls.Reply.{Reply}
use Rattle.plain_store.specs.declared.calls.Reply.TheVariants.{Get as ToGet}
use Rattle.plain_store.specs.declared.message.Message.{Message}
use Rattle.plain_store.specs.declared.reading.Reading.{Reading}
use Rattle.plain_store.specs.declared.refusal.Refusal.TheVariants.{Torn as IsTorn}
use Rattle.plain_store.specs.Words.{Key, Stamp, Setup}
use Rattle.plain_store.specs.Writing.{Outgoing}
use Rattle.plain_store.specs.Rounds.{shown_first, seen_first, needed, late_keys, shows_writes, round_one_complete, round_two_complete, second_calls, readings, is_false_first, is_false_second}
use Rattle.plain_store.specs.Moves.{Move, Waits, Asks, Reads, Lists, Restarts, Fails, read_move, is_answered}
use Rattle.plain_store.proofs.ListTests.{or_parts, any_push}
use Rattle.get_all.specs.ReadProgress.{first_shows}
use Rattle.get_all.specs.Reading.{is_last_reply, any_last, has_ended, is_of_read, is_wanted, taken_with, taken_of, IsUnfractured, ReadsWhole, ReadsAreUnfractured}
use Rattle.get_all.specs.Reader.{IsOrderly}
use Rattle.get_all.proofs.Orderly.{first_orderly, second_orderly}
use Rattle.get_all.proofs.New.{new_orderly}
use Rattle.get_all.proofs.Whole.{unfractured}

-- what a read or a search reports at its end
abbrev pub IsTold : Move → Type 0
IsTold (Reads readings) = Unit {0}
IsTold (Lists readings) = Unit {0}
IsTold move = ⊥

module _ (keys : List Key) (taken : List Message) (message : Message) (ord : IsOrderly keys taken) where
  abbrev pub more : List Message
  more = taken ++ message ∷ []

  -- a reply of round one that was waited for and is not false
  keeps_first : (key : Key) (reply : ReadReply) (shown : Option Record) → message.call ≡ Get key None → message.reply ≡ Some (ToGet reply)
      → ((k : Key) → shown_first k (Get key None) (Some (ToGet reply)) ≡ cond (bytes_eq key k) (Some shown) None)
      → ((t : Stamp) (ws : List Key) → shows_writes t ws (Get key None) (Some (ToGet reply)) ≡ first_shows t ws (Some shown))
      → (contains_key keys key && not (is_answered taken message.partition (Get key None))) ≡ true → is_false_first key reply ≡ false → IsOrderly keys more
  keeps_first key reply shown call replied shows writes wanted fine =
      let parts = and_parts (contains_key keys key) (not (is_answered taken message.partition (Get key None))) wanted in
      let new : is_some (seen_first taken key) ≡ false = sym (ord.first_answers message.partition key) ∙ not-true (is_answered taken message.partition (Get key None)) parts.1 in
      first_orderly keys taken message key shown ord call
      (λ k. ap (λ c. shown_first k c message.reply) call ∙ ap (shown_first k (Get key None)) replied ∙ shows k)
      (λ t ws. ap (λ c. shows_writes t ws c message.reply) call ∙ ap (shows_writes t ws (Get key None)) replied ∙ writes t ws)
      (ap (λ c. is_last_reply more c message.reply) call ∙ ap (is_last_reply more (Get key None)) replied ∙ fine) parts.0 new

  keeps_second : (key : Key) (s : Stamp) (version : Record) → message.call ≡ Get key (Some s) → message.reply ≡ Some (ToGet (Version version))
      → ((round_one_complete keys taken && (contains_key (late_keys keys taken) key && (s == needed keys taken key))) && not (is_answered taken message.partition (Get key (Some s)))) ≡ true
      → is_false_second more key s (Version version) ≡ false → IsOrderly keys more
  keeps_second key s version call replied wanted fine =
      let complete = (and_parts (round_one_complete keys taken) _ (and_parts _ _ wanted).0).0 in
      let asked : s ≡ needed keys taken key = eqb-true s (needed keys taken key) (and_parts (contains_key (late_keys keys taken) key) _ (and_parts (round_one_complete keys taken) _ (and_parts _ _ wanted).0).1).1 in
      second_orderly keys taken message key version ord (call ∙ ap (λ t. Get key (Some t)) asked) replied
      (ap (λ t. is_false_second more key t (Version version)) (sym asked) ∙ fine) complete

  keeps : (call : Call) (reply : Option Reply) → message.call ≡ call → message.reply ≡ reply → (is_of_read keys taken call reply && not (is_answered taken message.partition call)) ≡ true
      → is_last_reply more call reply ≡ false → IsOrderly keys more
  keeps (Get key None) (Some (ToGet (Version version))) e f wanted fine = keeps_first key (Version version) (Some version) e f (λ k. refl) (λ t ws. refl) wanted fine
  keeps (Get key None) (Some (ToGet Initial)) e f wanted fine = keeps_first key Initial None e f (λ k. refl) (λ t ws. refl) wanted fine
  keeps (Get key None) (Some (ToGet reply)) e f wanted fine = cc
  keeps (Get key (Some s)) (Some (ToGet (Version version))) e f wanted fine = keeps_second key s version e f wanted fine
  keeps (Get key (Some s)) (Some (ToGet reply)) e f wanted fine = cc
  keeps call reply e f wanted fine = cc

  -- what is reported is reported of all that was read, which is unfractured: of round one,
  first_told : (a b c : Bool) (calls : List Outgoing) (tells told : Move) → IsTold told → cond a (Fails IsTorn []) (cond (not b) Waits (cond c tells (Asks calls))) ≡ told
      → (a ≡ false) × (c ≡ true) × (tells ≡ told)
  first_told true b c calls tells told t h = absurd (subst IsTold (sym h) t)
  first_told false false c calls tells told t h = absurd (subst IsTold (sym h) t)
  first_told false true false calls tells told t h = absurd (subst IsTold (sym h) t)
  first_told false true true calls tells told t h = (refl, refl, h)

  -- of round two,
  second_told : (a b c : Bool) (tells told : Move) → IsTold told → cond a (Fails IsTorn []) (cond (b && c) tells Waits) ≡ told → (a ≡ false) × (c ≡ true) × (tells ≡ told)
  second_told true b c tells told t h = absurd (subst IsTold (sym h) t)
  second_told false false c tells told t h = absurd (subst IsTold (sym h) t)
  second_told false true false tells told t h = absurd (subst IsTold (sym h) t)
  second_told false true true tells told t h = (refl, refl, h)

  no_restart : (key : Key) (floor : Stamp) (told : Move) (b : Bool) → IsTold told → cond b (Restarts key floor) (Fails IsTorn []) ≡ told → ⊥
  no_restart key floor told true t h = subst IsTold (sym h) t
  no_restart key floor told false t h = subst IsTold (sym h) t

  -- and of any reply
  pub read_told : (setup : Setup) (tells : List Reading → Move) (told : Move) (t : IsTold told) (call : Call) (reply : Option Reply) → message.call ≡ call → message.reply ≡ reply
      → (is_of_read keys taken call reply && not (is_answered taken message.partition call)) ≡ true → read_move setup keys more tells call reply ≡ told
      → (tells (readings keys more) ≡ told) × IsUnfractured keys more
  read_told setup tells told t (Get key None) (Some (ToGet reply)) e f wanted reads =
      let parts = first_told (is_false_first key reply) (round_one_complete keys more) (round_two_complete keys more) (second_calls setup keys more) (tells (readings keys more)) told t reads in
      (parts.2, unfractured keys more (keeps (Get key None) (Some (ToGet reply)) e f wanted parts.0) parts.1)
  read_told setup tells told t (Get key (Some s)) (Some (ToGet (Version version))) e f wanted reads =
      let parts = second_told (is_false_second more key s (Version version)) (round_one_complete keys more) (round_two_complete keys more) (tells (readings keys more)) told t reads in
      (parts.2, unfractured keys more (keeps (Get key (Some s)) (Some (ToGet (Version version))) e f wanted parts.0) parts.1)
  read_told setup tells told t (Get key (Some s)) (Some (ToGet (Collected floor))) e f wanted reads = absurd (no_restart key floor told (nat_lt s floor) t reads)
  read_told setup tells told t (Get key (Some s)) (Some (ToGet reply)) e f wanted reads = absurd (subst IsTold (sym reads) t)
  read_told setup tells told t call reply e f wanted reads = cc

-- the replies that were taken are orderly until one ends the read
still_orderly : (keys : List Key) (taken offered : List Message) → (has_ended keys taken ≡ false → IsOrderly keys taken) → has_ended keys (taken_of keys taken offered) ≡ false → IsOrderly keys (taken_of keys taken offered)
still_orderly keys taken [] ord unended = ord unended
still_orderly keys taken (message ∷ offered) ord unended = still_orderly keys (taken_with keys taken message) offered (go (is_wanted keys taken message) refl) unended
  where
    go : (b : Bool) → is_wanted keys taken message ≡ b → has_ended keys (cond b (taken ++ message ∷ []) taken) ≡ false → IsOrderly keys (cond b (taken ++ message ∷ []) taken)
    go false e still = ord still
    go true e still =
        let wanted = and_parts (not (has_ended keys taken)) _ e in
        let fine = (or_parts (any_last (taken ++ message ∷ []) (taken ++ message ∷ [])) _ still).0 in
        let last = or_parts (any_last (taken ++ message ∷ []) taken) (is_last_reply (taken ++ message ∷ []) message.call message.reply)
        (sym (any_push (λ m. is_last_reply (taken ++ message ∷ []) m.call m.reply) taken message) ∙ fine) in
        keeps keys taken message (ord (not-true (has_ended keys taken) wanted.0)) message.call message.reply refl refl wanted.1 last.1

pub some_same : (m n : Move) → Some m ≡ Some n → m ≡ n
some_same m n h = cc

pub reads_unfractured : ReadsAreUnfractured
reads_unfractured setup keys offered message told reads = go (is_wanted keys (taken_of keys [] offered) message) refl reads
  where
    go : (b : Bool) → is_wanted keys (taken_of keys [] offered) message ≡ b → cond b (Some (read_move setup keys (taken_of keys [] offered ++ message ∷ []) Reads message.call message.reply)) None ≡ Some (Reads told) → ReadsWhole keys (taken_of keys [] offered ++ message ∷ []) told
    go false e h = cc
    go true e h =
        let wanted = and_parts (not (has_ended keys (taken_of keys [] offered))) _ e in
        let ord = still_orderly keys [] offered (λ unended. new_orderly [] refl keys) (not-true (has_ended keys (taken_of keys [] offered)) wanted.0) in
        let whole = read_told keys (taken_of keys [] offered) message ord setup Reads (Reads told) tt message.call message.reply refl refl wanted.1 (some_same _ _ h) in
        let same : told ≡ readings keys (taken_of keys [] offered ++ message ∷ []) = (let reads = whole.0 in cc) in
        record { shown = same; unfractured = whole.1 }
