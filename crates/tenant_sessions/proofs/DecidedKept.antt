-- What every history of a run keeps of the writes that run: they are decided where all is prepared.
use Rattle.std.proofs.Common.{◌≡◌, ℕ, ◌+◌, List, [], ◌∷◌, ◌++◌, Bool, true, false, ◌&&◌, ◌||◌, ◌==◌, ◌⊎◌, inl, inr, refl, sym, ap, ◌∙◌, subst, cond, map, filter, Option, Some, None, option_to_list, nat_eq, eqb-true, eq-eqb}
use Rattle.std.specs.List.{list_any}
use Rattle.std.specs.Cmp.{both_ways}
use Rattle.std.proofs.lemmas.Bool.{true≢false}
use Rattle.plain_store.specs.Words.{Item, ◌∈◌, Stamp, Record, Setup}
use Rattle.plain_store.specs.declared.calls.Call.{Call}
use Rattle.plain_store.specs.declared.calls.Call.TheVariants.{Prepare, Collect}
use Rattle.plain_store.specs.declared.calls.PrepareReply.TheVariants.{Prepared}
use Rattle.plain_store.specs.declared.calls.Reply.{Reply}
use Rattle.plain_store.specs.declared.calls.Reply.TheVariants.{Prepare as ToPrepare}
use Rattle.plain_store.specs.declared.message.Message.{Message}
use Rattle.plain_store.specs.declared.refusal.Refusal.{Refusal}
use Rattle.plain_store.specs.declared.answer.Answer.TheVariants.{Refused}
use Rattle.plain_store.specs.declared.step.Act.{Act}
use Rattle.plain_store.specs.declared.step.Act.TheVariants.{Put, Deliver}
use Rattle.plain_store.specs.Log.{Log}
use Rattle.plain_store.specs.Replies.{reply_after}
use Rattle.plain_store.specs.History.{Moment, History, messages, message_at, Intent, Writes, Gets, Finds, Transaction, begun_by, tickets, took, taken, is_of, taken_in, running, stamp_decided, decided}
use Rattle.plain_store.specs.Writing.{keys_written, commit_calls, all_prepared, says_prepared}
use Rattle.plain_store.specs.Moves.{Waits, Decides, write_move, move_of, calls_of}
use Rattle.plain_store.specs.Run.{call_message, next_stamp, moves, is_wanted, is_decided, are_bad}
use Rattle.plain_store.proofs.ListTests.{any_same, all_alike}
use Rattle.plain_store.proofs.Members.{any_witness, any_from, in_right}
use Rattle.plain_store.proofs.Steps.{Happens, refused, put_begun, get_begun, find_begun, moved}
use Rattle.plain_store.proofs.Sound.{SoundCall, Sound}
use Rattle.plain_store.proofs.KeptLogs.{Kept, NewBegun, begun_stamp, is_of_wanted, moves_begin_nothing, new_request}
use Rattle.plain_store.proofs.EveryStepKeeps.{IsRunning, running_cases, kept_step}
use Rattle.plain_store.proofs.FreshLogs.{Fresh}
use Rattle.plain_store.proofs.StepEffects.{IsTurn, IsQuiet, moves_took, quiet_took}
use Rattle.plain_store.proofs.SearchesAsk.{taken_new}
use Rattle.plain_store.proofs.Served.{IsLogged, Logged, TakenReplies}
use Rattle.tenant_sessions.specs.Running.{is_past, calls_so_far, is_reply_of}
use Rattle.plain_store.proofs.StaysTrue.{running_is, taken_more}
use Rattle.tenant_sessions.proofs.Untouched.{taken_same}
use Rattle.tenant_sessions.proofs.CallsSoFar.{out_of}

abbrev pub Agreed : History → Type 0
Agreed history =
    (client : ℕ) (transaction : Transaction) → running history client ≡ Some transaction → is_decided history transaction.request ≡ is_past transaction.request (taken_in history transaction)

-- its messages are of calls of the parts that it has come to
abbrev pub Asked : Setup → History → Type 0
Asked setup history =
    (client : ℕ) (transaction : Transaction) (message : Message) → running history client ≡ Some transaction → message ∈ messages history → is_of transaction message ≡ true
    → out_of message ∈ calls_so_far setup transaction.request (taken_in history transaction)

pub record Grounds (setup : Setup) (history : History) : Type 0 where
  pub kept : Kept setup history
  pub fresh : Fresh setup history
  pub logged : Logged setup history
  pub replied : TakenReplies history
  pub agreed : Agreed history
  pub asked : Asked setup history

-- ---- replies are of their calls' kinds

kind_after : (setup : Setup) (log : Log) (history : History) (message : Message) (call : Call) → SoundCall setup history message call → is_reply_of call (Some (reply_after setup.room log call)) ≡ true
unfolding reply_after
kind_after setup log history message (Collect keep) s = absurd s
kind_after setup log history message call s = refl

pub reply_kind : (setup : Setup) (history : History) (message : Message) (reply : Reply) → Kept setup history → Logged setup history → message ∈ messages history → message.reply ≡ Some reply → is_reply_of message.call message.reply ≡ true
reply_kind setup history message reply kept logged h e =
    let l : IsLogged setup history message reply = logged message reply h e in
    let sound : Sound setup history message = kept.sound message h in
    ap (is_reply_of message.call) (e ∙ ap Some l.3) ∙ kind_after setup l.1 history message message.call sound.call

-- ---- a transaction that begins now

-- the first calls of a client's next transaction
abbrev first_messages : Setup → History → ℕ × Intent → List Message
first_messages setup older begun = map (call_message begun.0 (tickets older begun.0 + 1)) (calls_of setup false begun.1 [])

refused_begins : (act : Act) (why : Refusal) → begun_by act (Refused why) ≡ None
refused_begins (Put client items) why = refl
refused_begins _ why = refl

pub begun_sends : (setup : Setup) (older : History) (m : Moment) (begun : ℕ × Intent) → Happens setup older m → begun_by m.act m.answer ≡ Some begun → m.sent ≡ first_messages setup older begun
begun_sends setup older m begun (put_begun client items valid idle good) b = let same : (client, Writes (next_stamp older client) items) ≡ begun = cc in ap (first_messages setup older) same
begun_sends setup older m begun (get_begun client keys idle) b = let same : (client, Gets keys) ≡ begun = cc in ap (first_messages setup older) same
begun_sends setup older m begun (find_begun client tag idle) b = let same : (client, Finds tag) ≡ begun = cc in ap (first_messages setup older) same
begun_sends setup older m begun (refused act why) b = let n = refused_begins act why in cc
begun_sends setup older m begun (moved row message reply transaction move at e r wanted how) b = let n = moves_begin_nothing older row transaction move in cc
begun_sends setup older m begun _ b = cc

-- ---- a transaction that ran before takes a reply, or none

-- it takes the reply of a row, and moves by it
abbrev pub TakesNow : Setup → Moment → History → Transaction → Type 0
TakesNow setup m older transaction =
    (row : ℕ) × (message : Message) × (reply : Reply) × (message_at older row ≡ Some message) × (message.reply ≡ Some reply) × (is_wanted older transaction message ≡ true) × (is_of transaction message ≡ true)
    × (m ≡ moves older (Deliver row) transaction (move_of setup transaction.request (taken_in older transaction ++ message ∷ []) message))
    × (taken_in (m ∷ older) transaction ≡ taken_in older transaction ++ message ∷ [])

-- another transaction takes one, and it is another client's
abbrev pub OtherTakes : Setup → Moment → History → Transaction → Type 0
OtherTakes setup m older transaction =
    (row : ℕ) × (message : Message) × (other : Transaction) × (running older message.client ≡ Some other) × ((other.client == transaction.client) ≡ false)
    × (m ≡ moves older (Deliver row) other (move_of setup other.request (taken_in older other ++ message ∷ []) message))
    × (taken_in (m ∷ older) transaction ≡ taken_in older transaction)

-- no reply is taken
abbrev pub NoneTakes : Moment → History → Transaction → Type 0
NoneTakes m older transaction = IsQuiet m × (taken_in (m ∷ older) transaction ≡ taken_in older transaction)

pub taking_cases : (setup : Setup) (m : Moment) (older : History) (client : ℕ) (transaction : Transaction) → running older client ≡ Some transaction → IsQuiet m ⊎ IsTurn setup older m
    → NoneTakes m older transaction ⊎ (OtherTakes setup m older transaction ⊎ TakesNow setup m older transaction)
taking_cases setup m older client transaction r (inl quiet) = inl (quiet, taken_same m older transaction (ap (λ o. filter (is_of transaction) (option_to_list o)) (quiet_took m.act m.answer older quiet)))
taking_cases setup m older client transaction r (inr (row, message, reply, other, at, e, s, wanted, same)) = inr (go (other.client == transaction.client) refl)
  where
    took_it : took m.act m.answer older ≡ Some message
    took_it = ap (λ (x : Moment). took x.act x.answer older) same ∙ moves_took older row other (move_of setup other.request (taken_in older other ++ message ∷ []) message) message at

    taken_is : taken_in (m ∷ older) transaction ≡ taken_in older transaction ++ filter (is_of transaction) (message ∷ [])
    taken_is = taken_more m older transaction ∙ ap (λ o. taken_in older transaction ++ filter (is_of transaction) (option_to_list o)) took_it

    go : (b : Bool) → (other.client == transaction.client) ≡ b → OtherTakes setup m older transaction ⊎ TakesNow setup m older transaction
    go false c =
        let theirs : message.client ≡ other.client = sym (running_is older message.client other s).1 in
        let none : filter (is_of transaction) (message ∷ []) ≡ [] = ap (λ b. cond (b && (message.ticket == transaction.ticket)) (message ∷ []) []) (ap (λ x. x == transaction.client) theirs ∙ c) in
        inl (row, message, other, s, c, same, taken_same m older transaction (ap (λ o. filter (is_of transaction) (option_to_list o)) took_it ∙ none))
    go true c =
        let k : message.client ≡ client = sym (running_is older message.client other s).1 ∙ eqb-true other.client transaction.client c ∙ (running_is older client transaction r).1 in
        let both : Some other ≡ Some transaction = sym s ∙ ap (running older) k ∙ r in
        let o : other ≡ transaction = cc in
        let wants : is_wanted older transaction message ≡ true = subst (λ (x : Transaction). is_wanted older x message ≡ true) o wanted in
        let of : is_of transaction message ≡ true = is_of_wanted older message transaction (s ∙ ap Some o) wants in
        inr (
          row,
          message,
          reply,
          at,
          e,
          wants,
          of,
          same ∙ ap (λ (x : Transaction). moves older (Deliver row) x (move_of setup x.request (taken_in older x ++ message ∷ []) message)) o,
          taken_is ∙ ap (λ b. taken_in older transaction ++ cond b (message ∷ []) []) of,
        )

-- ---- decided where all is prepared

-- what was decided stays so
decided_still : (m : Moment) (older : History) (stamp : Stamp) → list_any (nat_eq stamp) (decided older) ≡ true → list_any (nat_eq stamp) (decided (m ∷ older)) ≡ true
decided_still m older stamp h = let w = any_witness (nat_eq stamp) (decided older) h in any_from (nat_eq stamp) (decided (m ∷ older)) w.0 (in_right (stamp_decided m.answer) (decided older) w.0 w.1) w.2

-- only a reply that an item is prepared can complete the prepared ones
completes : (stamp : Stamp) (items : List Item) (taken : List Message) (message : Message) (call : Call) (reply : Option Reply) → message.call ≡ call → message.reply ≡ reply → all_prepared stamp items (taken ++ message ∷ []) ≡ true
    → (all_prepared stamp items taken ≡ true) ⊎ ((version : Record) × (message.call ≡ Prepare version) × (message.reply ≡ Some (ToPrepare Prepared)))
completes stamp items taken message (Prepare version) (Some (ToPrepare Prepared)) c e h = inr (version, c, e)
completes stamp items taken message call reply c e h =
    inl (sym (all_alike (λ (item : Item). list_any (λ (q : Message). says_prepared stamp item.key q.call q.reply) (taken ++ message ∷ [])) (λ (item : Item). list_any (λ (q : Message). says_prepared stamp item.key q.call q.reply) taken)
    (λ item. any_same (λ (q : Message). says_prepared stamp item.key q.call q.reply) taken message (λ i. says_prepared stamp item.key (c i) (e i))) items) ∙ h)

-- with no replies nothing is prepared, unless there is no item
none_prepared : (stamp : Stamp) (items : List Item) → are_bad (keys_written items) ≡ false → all_prepared stamp items [] ≡ false
none_prepared stamp [] good = cc
none_prepared stamp (item ∷ items) good = refl

pub agreed_step : (setup : Setup) (m : Moment) (older : History) → Grounds setup older → Happens setup older m → IsQuiet m ⊎ IsTurn setup older m → Agreed (m ∷ older)
agreed_step setup m older grounds how way client transaction r = of transaction.request refl
  where
    -- what is decided has each item prepared
    prepared : (stamp : Stamp) (items : List Item) → transaction.request ≡ Writes stamp items → list_any (nat_eq stamp) (decided (m ∷ older)) ≡ true → all_prepared stamp items (taken_in (m ∷ older) transaction) ≡ true
    prepared stamp items e h =
        let w = any_witness (nat_eq stamp) (decided (m ∷ older)) h in
        (kept_step setup older m grounds.kept how).answered client transaction stamp items r e (subst (λ s. s ∈ decided (m ∷ older)) (sym (eqb-true stamp w.0 w.2)) w.1)

    -- what has each item prepared is decided
    decides : (stamp : Stamp) (items : List Item) → transaction.request ≡ Writes stamp items → all_prepared stamp items (taken_in (m ∷ older) transaction) ≡ true → list_any (nat_eq stamp) (decided (m ∷ older)) ≡ true
    decides stamp items e h = go (running_cases m older client transaction r)
      where
        before : running older client ≡ Some transaction → all_prepared stamp items (taken_in older transaction) ≡ true → list_any (nat_eq stamp) (decided (m ∷ older)) ≡ true
        before was k = decided_still m older stamp (subst (λ q. is_decided older q ≡ is_past q (taken_in older transaction)) e (grounds.agreed client transaction was) ∙ k)

        by : running older client ≡ Some transaction → NoneTakes m older transaction ⊎ (OtherTakes setup m older transaction ⊎ TakesNow setup m older transaction) → list_any (nat_eq stamp) (decided (m ∷ older)) ≡ true
        by was (inl (quiet, same)) = before was (ap (all_prepared stamp items) (sym same) ∙ h)
        by was (inr (inl (row, message, other, s, apart, moves_so, same))) = before was (ap (all_prepared stamp items) (sym same) ∙ h)
        by was (inr (inr (row, message, reply, at, f, wanted, of, moves_so, more))) =
            let taken = taken_in older transaction ++ message ∷ [] in
            let all : all_prepared stamp items taken ≡ true = ap (all_prepared stamp items) (sym more) ∙ h in
            elim (completes stamp items (taken_in older transaction) message message.call message.reply refl refl all) [
              | inl k ↦ before was k
              | inr k ↦
                  let move : move_of setup transaction.request taken message ≡ Decides stamp (commit_calls setup stamp items) =
                  ap (λ q. move_of setup q taken message) e ∙ (λ i. write_move setup stamp items taken (k.1 i) (k.2 i)) ∙ ap (λ b. cond b (Decides stamp (commit_calls setup stamp items)) Waits) all in
                  ap (λ (x : Moment). list_any (nat_eq stamp) (stamp_decided x.answer ++ decided older)) (moves_so ∙ ap (moves older (Deliver row) transaction) move)
                  ∙ ap (λ b. b || list_any (nat_eq stamp) (decided older)) (eq-eqb stamp stamp refl)
            ]

        go : IsRunning older m client transaction ⊎ NewBegun older m transaction → list_any (nat_eq stamp) (decided (m ∷ older)) ≡ true
        go (inl was) = by was.0 (taking_cases setup m older client transaction was.0 way)
        go (inr n) =
            let w = (begun_stamp setup older m n.0 stamp items how n.1 (new_request older m transaction stamp items n e)).2 in
            let none : all_prepared stamp items (taken_in (m ∷ older) transaction) ≡ false = ap (all_prepared stamp items) (taken_new setup m older transaction grounds.fresh n) ∙ none_prepared stamp items w.3 in
            absurd (true≢false (sym h ∙ none))

    of : (request : Intent) → transaction.request ≡ request → is_decided (m ∷ older) transaction.request ≡ is_past transaction.request (taken_in (m ∷ older) transaction)
    of (Writes stamp items) e =
        ap (is_decided (m ∷ older)) e ∙ both_ways _ _ (prepared stamp items e) (decides stamp items e) ∙ ap (λ q. is_past q (taken_in (m ∷ older) transaction)) (sym e)
    of (Gets keys) e = ap (is_decided (m ∷ older)) e ∙ ap (λ q. is_past q (taken_in (m ∷ older) transaction)) (sym e)
    of (Finds tag) e = ap (is_decided (m ∷ older)) e ∙ ap (λ q. is_past q (taken_in (m ∷ older) transaction)) (sym e)
