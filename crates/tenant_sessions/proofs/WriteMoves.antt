-- How a write takes a reply: for `take_written`.
use Rattle.std.proofs.Common.{◌≡◌, ℕ, ◌+◌, ◌≤◌, List, [], ◌∷◌, ◌++◌, Bool, true, false, ◌&&◌, ◌||◌, ◌==◌, not, map, filter, ap, sym, ◌∙◌, refl, subst, cond, arith, length, Option, Some, inl, inr}
use Rattle.std.specs.Prelude.{nat_eq, nat_lt}
use Rattle.std.specs.List.{list_any}
use Rattle.std.proofs.lemmas.Bool.{eq-eqb, cases_Bool}
use Rattle.std.proofs.lemmas.List.{length-map}
use Rattle.stamps.specs.Limits.{max_keys, max_parts}
use Rattle.plain_store.specs.declared.calls.Call.{Call}
use Rattle.plain_store.specs.declared.calls.Call.TheVariants.{Prepare, Commit, Discard}
use Rattle.plain_store.specs.declared.calls.PrepareReply.TheVariants.{Prepared}
use Rattle.plain_store.specs.declared.calls.Reply.{Reply}
use Rattle.plain_store.specs.declared.calls.Reply.TheVariants.{Prepare as ToPrepare, Committed as ToCommit}
use Rattle.plain_store.specs.declared.message.Message.{Message}
use Rattle.plain_store.specs.declared.refusal.Refusal.{Refusal}
use Rattle.plain_store.specs.declared.refusal.Refusal.TheVariants.{FullSlots as NoSlot, FullItems as NoItem}
use Rattle.plain_store.specs.Words.{◌∈◌, Stamp, Item, Record, Setup, home}
use Rattle.plain_store.specs.History.{Writes}
use Rattle.plain_store.specs.Moves.{Move as PlainMove, Waits, Decides, Finishes, write_move, same_place, is_answered}
use Rattle.plain_store.specs.Writing.{Outgoing, keys_written, record_for, prepare_calls, commit_calls, discard_calls, partitions_written, insert_number, ascending, all_prepared, all_committed}
use Rattle.plain_store.proofs.Members.{in_map, map_in, any_from}
use Rattle.plain_store.proofs.Seen.{listed_from, all_prepared_at}
use Rattle.plain_store.proofs.Stamps.{is_key}
use Rattle.put_all.specs.declared.writer.Writer.{Writer}
use Rattle.put_all.specs.declared.writer.WriteMove.{WriteMove}
use Rattle.put_all.specs.declared.writer.WriteMove.TheVariants.{Wait as WaitWrite, Decide as DecideWrite, Done as DoneWrite, Refused as RefusedWrite, Ignored as IgnoredWrite}
use Rattle.put_all.specs.Writer.{StandsFor, TakesWrite, is_last as is_last_write, told, ending_calls}
use Rattle.put_all.specs.Writing.{has_ended, is_of_write}
use Rattle.tenant_sessions.specs.Moves.{Wait, Decided, Done, Ended, Ignored}
use Rattle.tenant_sessions.specs.Parts.{is_replaced_by}
use Rattle.tenant_sessions.specs.Running.{is_reply_of, waiting_calls, IsReplyTo, IsWriting, TakesMessage}
use Rattle.tenant_sessions.proofs.Offers.{write_asked}
use Rattle.tenant_sessions.proofs.CallsSoFar.{prepared_more}
use Rattle.tenant_sessions.proofs.Taking.{Turns, turns, not_both, answered_more, is_ignored, moves_on, ends_so, waits_less, waits_all}

-- ---- its partitions are no more than its items

length-insert_number : (n : ℕ) (ns : List ℕ) → length (insert_number n ns) ≤ length ns + 1
length-insert_number n [] = omega arith
length-insert_number n (m ∷ ms) = go (nat_lt m n) (n == m) (length-insert_number n ms)
  where
    go : (b c : Bool) → length (insert_number n ms) ≤ length ms + 1
        → length (cond b (m ∷ insert_number n ms) (cond c (m ∷ ms) (n ∷ m ∷ ms))) ≤ length (m ∷ ms) + 1
    go true c rest = omega (arith, rest)
    go false true rest = omega arith
    go false false rest = omega arith

length-ascending : (ns : List ℕ) → length (ascending ns) ≤ length ns
length-ascending [] = omega arith
length-ascending (n ∷ ns) = omega (arith, length-insert_number n (ascending ns), length-ascending ns)

pub length-partitions : (setup : Setup) (items : List Item) → length (partitions_written setup items) ≤ length items
length-partitions setup items =
    omega (arith, length-ascending (map (λ (item : Item). home setup item.key) items), length-map items (λ (item : Item). home setup item.key))

-- ---- what a reply to a PREPARE reports

-- what its move reports of the items, of the call, and of the stamp
abbrev WriteTells : Setup → Stamp → List Item → List Message → Call → PlainMove → Type 0
WriteTells setup stamp items replies call Waits = (version : Record) → call ≡ Prepare version → all_prepared stamp items replies ≡ false
WriteTells setup stamp items replies call (Decides s calls) = (version : Record) × (call ≡ Prepare version) × (all_prepared stamp items replies ≡ true)
WriteTells setup stamp items replies call (Finishes s) = s ≡ stamp
WriteTells setup stamp items replies call move = Unit {0}

write_tells : (setup : Setup) (stamp : Stamp) (items : List Item) (replies : List Message) (call : Call) (reply : Option Reply) → is_reply_of call reply ≡ true
    → WriteTells setup stamp items replies call (write_move setup stamp items replies call reply)
write_tells setup stamp items replies (Prepare version) (Some (ToPrepare Prepared)) own = go (all_prepared stamp items replies) refl
  where
    go : (b : Bool) → all_prepared stamp items replies ≡ b → WriteTells setup stamp items replies (Prepare version) (cond b (Decides stamp (commit_calls setup stamp items)) Waits)
    go true e = (version, refl, e)
    go false e = λ v same. e
write_tells setup stamp items replies (Prepare version) (Some (ToPrepare refused)) own = tt
write_tells setup stamp items replies (Commit s) (Some (ToCommit count)) own = go (all_committed setup stamp items replies)
  where
    go : (b : Bool) → WriteTells setup stamp items replies (Commit s) (cond b (Finishes stamp) Waits)
    go true = refl
    go false = λ version same. cc
write_tells setup stamp items replies call reply own = λ version same. cc

-- ---- one reply

module _ (setup : Setup) (stamp : Stamp) (items : List Item) (taken : List Message) (message : Message) where
  abbrev more : List Message
  more = taken ++ message ∷ []

  abbrev move : PlainMove
  move = write_move setup stamp items more message.call message.reply

  prepared_answered : (item : Item) (p : ℕ) → item ∈ items → all_prepared stamp items taken ≡ true → is_answered taken p (Prepare (record_for stamp items item)) ≡ true
  prepared_answered item p member prepared =
      let q = all_prepared_at stamp items taken item.key prepared (map_in (λ (i : Item). i.key) items item member) in
      let version = record_for stamp items item in
      any_from (λ (m : Message). same_place p (Prepare version) m.partition m.call) taken q.0 q.1
      (ap (same_place p (Prepare version) q.0.partition) q.2.1 ∙ is_key item.key q.2.0.key (sym q.2.3))

  module _ (is : IsReplyTo setup (Writes stamp items) taken message) where
    of_write : is_of_write setup stamp items taken message.partition message.call ≡ true
    of_write =
        elim (write_asked setup taken message stamp items is) [
          | inl k ↦
              ap (is_of_write setup stamp items taken message.partition) k.2
              ∙ listed_from (keys_written items) k.0.key (map_in (λ (item : Item). item.key) items k.0 k.1)
          | inr k ↦
              ap (is_of_write setup stamp items taken message.partition) k.2
              ∙ ap (λ b. b && list_any (λ p. nat_eq p message.partition) (partitions_written setup items)) k.0
              ∙ any_from (λ p. nat_eq p message.partition) (partitions_written setup items) message.partition k.1 (eq-eqb message.partition message.partition refl)
        ]

    tells : WriteTells setup stamp items more message.call move
    tells = write_tells setup stamp items more message.call message.reply is.of_kind

    prepared_same : move ≡ Waits → all_prepared stamp items more ≡ all_prepared stamp items taken
    prepared_same waits =
        elim (cases_Bool (all_prepared stamp items taken)) [
          | inl before ↦ prepared_more stamp items taken (message ∷ []) before ∙ sym before
          | inr before ↦
              elim (write_asked setup taken message stamp items is) [
                | inl k ↦ subst (λ (m : PlainMove). WriteTells setup stamp items more message.call m) waits tells (record_for stamp items k.0) k.2 ∙ sym before
                | inr k ↦ not_both (all_prepared stamp items taken) k.0 before
              ]
        ]

    -- as long as it is not decided, no COMMIT is answered
    unanswered : all_prepared stamp items taken ≡ false → ((p : ℕ) (s : Stamp) → is_answered taken p (Commit s) ≡ false) → (p : ℕ) (s : Stamp) → is_answered more p (Commit s) ≡ false
    unanswered before none p s =
        answered_more setup (Writes stamp items) taken message p (Commit s)
        ∙ ap (λ b. b || same_place p (Commit s) message.partition message.call) (none p s)
        ∙ (elim (write_asked setup taken message stamp items is) [
          | inl k ↦ ap (same_place p (Commit s) message.partition) k.2
          | inr k ↦ not_both (all_prepared stamp items taken) k.0 before
        ])

    module _ (w : Writer) (waiting : List Outgoing) (s : IsWriting setup stamp items taken w waiting) (after : Writer) where
      turn : (answer : WriteMove) → TakesWrite setup stamp items taken message answer after → Turns taken message move (told setup stamp items answer) (has_ended setup stamp items) (is_last_write answer) (StandsFor setup stamp items after)
      turn answer t =
          turns taken message move (told setup stamp items answer) (has_ended setup stamp items) (is_last_write answer) (StandsFor setup stamp items after) (is_of_write setup stamp items taken message.partition message.call)
          (λ fresh. of_write) s.goes_on t.answered t.stands t.last

      pub write_waits : (left : List Outgoing) → TakesWrite setup stamp items taken message WaitWrite after → left ≡ filter (λ out. not (is_replaced_by message out)) waiting
          → TakesMessage setup (Writes stamp items) taken message Wait (λ replies. IsWriting setup stamp items replies after left)
      write_waits left t left_is =
          let got = turn WaitWrite t in
          let same = prepared_same got.1 in
          moves_on setup (Writes stamp items) taken message _ Waits got.0 got.1
          (λ _. record {
            stands = got.2;
            goes_on = got.3 refl;
            few = s.few;
            in_order = λ none. let before = sym same ∙ none in unanswered before (s.in_order before);
            waits = waits_less setup (Writes stamp items) taken message left waiting left_is s.waits (ap (λ b. cond b (commit_calls setup stamp items) (prepare_calls setup stamp items)) same);
          })
          refl (omega arith)

      pub write_decides : (left : List Outgoing) (partitions : List ℕ) → TakesWrite setup stamp items taken message DecideWrite after
          → ((replies : List Message) → StandsFor setup stamp items after replies → partitions ≡ partitions_written setup items)
          → (length (map (λ (partition : ℕ). let out : Outgoing = record { partition = partition; call = Commit stamp } in out) partitions) ≤ max_parts
          → left ≡ map (λ (partition : ℕ). let out : Outgoing = record { partition = partition; call = Commit stamp } in out) partitions)
          → TakesMessage setup (Writes stamp items) taken message (Decided stamp) (λ replies. IsWriting setup stamp items replies after left)
      write_decides left partitions t told_so new =
          let commit : ℕ → Outgoing = λ partition. record { partition = partition; call = Commit stamp } in
          let commits = commit_calls setup stamp items in
          let got = turn DecideWrite t in
          let by = subst (λ (m : PlainMove). WriteTells setup stamp items more message.call m) got.1 tells in
          let before = undecided by.0 by.1 got.0 in
          let are = told_so more got.2 in
          let few : length commits ≤ max_keys = omega (arith, length-map (partitions_written setup items) commit, length-partitions setup items, s.few) in
          let left_is : left ≡ commits = new (omega (arith, ap (λ ps. length (map commit ps)) are, few)) ∙ ap (map commit) are in
          let all : waiting_calls setup (Writes stamp items) more ≡ commits =
          waits_all setup (Writes stamp items) taken message commits (ap (λ b. cond b commits (prepare_calls setup stamp items)) by.2)
          (λ out member.
          let k = in_map commit (partitions_written setup items) out member in
          ap (λ o. is_answered more o.partition o.call) k.2 ∙ unanswered before (s.in_order before) k.0 stamp) in
          moves_on setup (Writes stamp items) taken message _ (Decides stamp commits) got.0 got.1
          (λ _. record {
            stands = got.2;
            goes_on = got.3 refl;
            few = s.few;
            in_order = λ none. not_both (all_prepared stamp items more) by.2 none;
            waits = left_is ∙ sym all;
          })
          (sym all) few
        where
          undecided : (version : Record) → message.call ≡ Prepare version → is_answered taken message.partition message.call ≡ false → all_prepared stamp items taken ≡ false
          undecided version call fresh =
              elim (cases_Bool (all_prepared stamp items taken)) [
                | inl before ↦
                    elim (write_asked setup taken message stamp items is) [
                      | inl k ↦ not_both (is_answered taken message.partition message.call) (ap (is_answered taken message.partition) k.2 ∙ prepared_answered k.0 message.partition k.1 before) fresh
                      | inr k ↦ let calls : Commit stamp ≡ Prepare version = sym k.2 ∙ call in absurd cc
                    ]
                | inr before ↦ before
              ]

      pub write_finishes : (s : Stamp) → TakesWrite setup stamp items taken message (DoneWrite s) after
          → TakesMessage setup (Writes stamp items) taken message (Done stamp) (λ replies. IsWriting setup stamp items replies after waiting)
      write_finishes s t =
          let got = turn (DoneWrite s) t in
          let own = subst (λ (m : PlainMove). WriteTells setup stamp items more message.call m) got.1 tells in
          moves_on setup (Writes stamp items) taken message _ (Finishes stamp) got.0 (got.1 ∙ ap Finishes own) (λ last. cc) refl (omega arith)

      pub write_ends : (left calls : List Outgoing) (refusal : Refusal) → TakesWrite setup stamp items taken message (RefusedWrite refusal) after
          → ((replies : List Message) → StandsFor setup stamp items after replies → calls ≡ ending_calls setup stamp items refusal)
          → TakesMessage setup (Writes stamp items) taken message (Ended refusal calls) (λ replies. IsWriting setup stamp items replies after left)
      write_ends left calls refusal t told_so =
          let got = turn (RefusedWrite refusal) t in
          ends_so setup (Writes stamp items) taken message _ refusal (ending_calls setup stamp items refusal) calls got.0 got.1 (told_so more got.2) (ends_few refusal)
        where
          discards_few : length (discard_calls setup stamp items) ≤ max_keys
          discards_few =
              let discard : ℕ → Outgoing = λ partition. record { partition = partition; call = Discard stamp } in
              omega (arith, length-map (partitions_written setup items) discard, length-partitions setup items, s.few)

          ends_few : (why : Refusal) → length (ending_calls setup stamp items why) ≤ max_keys
          ends_few NoSlot = discards_few
          ends_few NoItem = discards_few
          ends_few why = omega arith

      pub write_ignores : TakesWrite setup stamp items taken message IgnoredWrite after
          → TakesMessage setup (Writes stamp items) taken message Ignored (λ replies. IsWriting setup stamp items replies after waiting)
      write_ignores t =
          let left = turn IgnoredWrite t in
          is_ignored setup (Writes stamp items) taken message _ left.0 (record { stands = left.1; goes_on = s.goes_on; few = s.few; in_order = s.in_order; waits = s.waits })
