-- How a read takes a reply: for `take_read`.
use Rattle.std.proofs.Common.{◌≡◌, ℕ, ◌≤◌, List, [], ◌∷◌, ◌++◌, Bool, true, false, ◌&&◌, ◌||◌, not, map, filter, ap, sym, ◌∙◌, refl, subst, cond, arith, length, Option, Some, None, inl, inr}
use Rattle.std.specs.Prelude.{nat_lt, is_some}
use Rattle.std.proofs.lemmas.Bool.{eq-eqb, cases_Bool}
use Rattle.std.proofs.lemmas.List.{length-map}
use Rattle.std.proofs.lemmas.List.Sums.{length-filter, count_by-le-length}
use Rattle.stamps.specs.Key.{home_of}
use Rattle.stamps.specs.Limits.{max_keys, max_parts}
use Rattle.plain_store.specs.declared.calls.Call.{Call}
use Rattle.plain_store.specs.declared.calls.Call.TheVariants.{Get}
use Rattle.plain_store.specs.declared.calls.ReadReply.TheVariants.{Version, Collected}
use Rattle.plain_store.specs.declared.calls.Reply.{Reply}
use Rattle.plain_store.specs.declared.calls.Reply.TheVariants.{Get as ToGet}
use Rattle.plain_store.specs.declared.message.Message.{Message}
use Rattle.plain_store.specs.declared.reading.Reading.{Reading}
use Rattle.plain_store.specs.declared.refusal.Refusal.TheVariants.{Torn as IsTorn}
use Rattle.plain_store.specs.Words.{◌∈◌, Key, Stamp, Setup, home}
use Rattle.plain_store.specs.History.{Intent, Gets}
use Rattle.plain_store.specs.Moves.{Move as PlainMove, Waits, Asks, Begins, Reads, Restarts, Fails, read_move, calls_of, same_place, is_answered}
use Rattle.plain_store.specs.Rounds.{some_or, first_some, shown_first, seen_first, needed, is_late, late_keys, is_shown, first_calls, second_calls, round_one_complete, round_two_complete, reading_calls, readings, is_false_first, is_false_second}
use Rattle.plain_store.specs.Writing.{Outgoing}
use Rattle.plain_store.proofs.ListTests.{all_alike}
use Rattle.plain_store.proofs.Members.{in_map, all_at}
use Rattle.plain_store.proofs.Seen.{listed_from}
use Rattle.get_all.specs.declared.late.Late.{Late}
use Rattle.get_all.specs.declared.reader.Reader.{Reader}
use Rattle.get_all.specs.declared.reader.ReadMove.{ReadMove}
use Rattle.get_all.specs.declared.reader.ReadMove.TheVariants.{Wait as WaitRead, Ask as AskRead, Ignored as IgnoredRead}
use Rattle.get_all.specs.Reader.{ask_for, IsOrderly, StandsFor, TakesRead, is_last as is_last_read, told as told_read}
use Rattle.get_all.specs.Reading.{has_ended, is_of_read}
use Rattle.tenant_sessions.specs.Moves.{Wait, Ask, Ignored}
use Rattle.tenant_sessions.specs.Parts.{is_replaced_by}
use Rattle.tenant_sessions.specs.Running.{is_reply_of, is_past, waiting_calls, IsReplyTo, IsReading, TakesMessage}
use Rattle.tenant_sessions.proofs.Offers.{IsGetOf, read_asked, is_get_reply}
use Rattle.tenant_sessions.proofs.Taking.{Turns, turns, not_both, answered_more, is_ignored, moves_on, waits_less, waits_all}
use Rattle.tenant_sessions.proofs.SeenAlike.{second_same}

-- ---- lists

none_more : {X Y : Type 0} (f : X → Option Y) (xs : List X) (x : X) → f x ≡ None → first_some f (xs ++ x ∷ []) ≡ first_some f xs
none_more f [] x none = ap (λ o. some_or o None) none
none_more f (y ∷ ys) x none = ap (some_or (f y)) (none_more f ys x none)

pub length-second_calls : (setup : Setup) (keys : List Key) (replies : List Message) → length (second_calls setup keys replies) ≤ length keys
length-second_calls setup keys replies =
    let second : Key → Outgoing = λ key. record { partition = home setup key; call = Get key (Some (needed keys replies key)) } in
    omega (arith, length-map (late_keys keys replies) second, length-filter (is_late keys replies) keys, count_by-le-length (is_late keys replies) keys)

-- replies that show the same of round one have the same calls
calls_same : (setup : Setup) (keys : List Key) (replies others : List Message) → ((key : Key) → seen_first replies key ≡ seen_first others key) → reading_calls setup keys replies ≡ reading_calls setup keys others
calls_same setup keys replies others same =
    ap (λ b. cond b (second_calls setup keys replies) (first_calls setup keys)) (all_alike (is_shown replies) (is_shown others) (λ key. ap is_some (same key)) keys)
    ∙ ap (λ calls. cond (round_one_complete keys others) calls (first_calls setup keys)) (second_same keys replies others (λ key k. same key) setup)

-- ---- what a move of a read reports

-- what its move reports of round one; a read begins no other
abbrev pub ReadTells : Setup → List Key → List Message → Call → PlainMove → Type 0
ReadTells setup keys replies call Waits = (key : Key) → call ≡ Get key None → round_one_complete keys replies ≡ false
ReadTells setup keys replies call (Asks calls) = ((key : Key) × (call ≡ Get key None)) × (round_one_complete keys replies ≡ true) × (second_calls setup keys replies ≡ calls)
ReadTells setup keys replies call (Begins calls) = ⊥
ReadTells setup keys replies call move = Unit {0}

-- an answer that reports what was read reports neither
abbrev pub Ends : Setup → List Key → List Message → (List Reading → PlainMove) → Type 0
Ends setup keys replies tells = (read : List Reading) (call : Call) → ReadTells setup keys replies call (tells read)

module _ (setup : Setup) (keys : List Key) (replies : List Message) (tells : List Reading → PlainMove) (ends : Ends setup keys replies tells) where
  pub read_tells : (call : Call) (reply : Option Reply) → is_reply_of call reply ≡ true → ReadTells setup keys replies call (read_move setup keys replies tells call reply)
  read_tells (Get key None) (Some (ToGet reply)) own = go (is_false_first key reply) (round_one_complete keys replies) refl (round_two_complete keys replies)
    where
      go : (b c : Bool) → round_one_complete keys replies ≡ c → (d : Bool)
          → ReadTells setup keys replies (Get key None) (cond b (Fails IsTorn []) (cond (not c) Waits (cond d (tells (readings keys replies)) (Asks (second_calls setup keys replies)))))
      go true c e d = tt
      go false true e true = ends (readings keys replies) (Get key None)
      go false true e false = ((key, refl), e, refl)
      go false false e d = λ k same. e
  read_tells (Get key (Some s)) (Some (ToGet (Version version))) own = go (is_false_second replies key s (Version version)) (round_one_complete keys replies && round_two_complete keys replies)
    where
      go : (b c : Bool) → ReadTells setup keys replies (Get key (Some s)) (cond b (Fails IsTorn []) (cond c (tells (readings keys replies)) Waits))
      go true c = tt
      go false true = ends (readings keys replies) (Get key (Some s))
      go false false = λ k same. cc
  read_tells (Get key (Some s)) (Some (ToGet (Collected floor))) own = go (nat_lt s floor)
    where
      go : (b : Bool) → ReadTells setup keys replies (Get key (Some s)) (cond b (Restarts key floor) (Fails IsTorn []))
      go true = tt
      go false = tt
  read_tells (Get key (Some s)) (Some (ToGet other)) own = tt
  read_tells call reply own = λ key same. cc

-- ---- one reply

-- a reply of round two shows nothing of round one
unseen : (taken : List Message) (message : Message) (key : Key) (s : Stamp) (k : Key) → message.call ≡ Get k (Some s) → seen_first (taken ++ message ∷ []) key ≡ seen_first taken key
unfolding seen_first
unseen taken message key s k call = none_more (λ (m : Message). shown_first key m.call m.reply) taken message (ap (λ c. shown_first key c message.reply) call)

module _ (setup : Setup) (keys : List Key) (taken : List Message) (message : Message) (asked : IsGetOf keys taken message) (of_kind : is_reply_of message.call message.reply ≡ true) where
  abbrev more : List Message
  more = taken ++ message ∷ []

  -- it is a reply to one of the read's calls
  pub of_read : is_of_read keys taken message.call message.reply ≡ true
  of_read =
      elim asked [
        | inl k ↦
            let r = is_get_reply k.0 None message.reply (ap (λ c. is_reply_of c message.reply) (sym k.2) ∙ of_kind) in
            (λ i. is_of_read keys taken (k.2 i) (r.1 i)) ∙ listed_from keys k.0 k.1
        | inr k ↦
            let s = needed keys taken k.0 in
            let r = is_get_reply k.0 (Some s) message.reply (ap (λ c. is_reply_of c message.reply) (sym k.3) ∙ of_kind) in
            (λ i. is_of_read keys taken (k.3 i) (r.1 i)) ∙ (λ i. k.1 i && (listed_from (late_keys keys taken) k.0 k.2 i && eq-eqb s s refl i))
      ]

  module _ (ord : IsOrderly keys taken) (new : is_answered taken message.partition message.call ≡ false) (tells : List Reading → PlainMove) (ends : Ends setup keys more tells) where
    -- a first reply to a GET of the latest version comes before round one is complete
    incomplete : (key : Key) → key ∈ keys → message.call ≡ Get key None → round_one_complete keys taken ≡ false
    incomplete key member call =
        elim (cases_Bool (round_one_complete keys taken)) [
          | inl complete ↦
              not_both (is_answered taken message.partition message.call)
              (ap (is_answered taken message.partition) call ∙ ord.first_answers message.partition key ∙ all_at (is_shown taken) keys key complete member) new
          | inr open_yet ↦ open_yet
        ]

    pub tells_so : ReadTells setup keys more message.call (read_move setup keys more tells message.call message.reply)
    tells_so = read_tells setup keys more tells ends message.call message.reply of_kind

    pub get_waits : read_move setup keys more tells message.call message.reply ≡ Waits → reading_calls setup keys more ≡ reading_calls setup keys taken
    get_waits waits =
        elim asked [
          | inl k ↦
              ap (λ b. cond b (second_calls setup keys more) (first_calls setup keys)) (subst (λ (m : PlainMove). ReadTells setup keys more message.call m) waits tells_so k.0 k.2)
              ∙ sym (ap (λ b. cond b (second_calls setup keys taken) (first_calls setup keys)) (incomplete k.0 k.1 k.2))
          | inr k ↦ calls_same setup keys more taken (λ key. unseen taken message key (needed keys taken k.0) k.0 k.3)
        ]

    -- round two asks for what no reply answered
    pub get_asks : (calls : List Outgoing) → read_move setup keys more tells message.call message.reply ≡ Asks calls
        → (reading_calls setup keys more ≡ calls) × (second_calls setup keys more ≡ calls) × ((out : Outgoing) → out ∈ calls → is_answered more out.partition out.call ≡ false)
    get_asks calls asks =
        let t = subst (λ (m : PlainMove). ReadTells setup keys more message.call m) asks tells_so in
        (ap (λ b. cond b (second_calls setup keys more) (first_calls setup keys)) t.1 ∙ t.2, t.2, λ out member. none t.0 out (subst (λ (outs : List Outgoing). out ∈ outs) (sym t.2) member))
      where
        before : (key : Key) × (message.call ≡ Get key None) → round_one_complete keys taken ≡ false
        before first =
            elim asked [
              | inl k ↦ incomplete k.0 k.1 k.2
              | inr k ↦ let both : Get first.0 None ≡ Get k.0 (Some (needed keys taken k.0)) = sym first.1 ∙ k.3 in absurd cc
            ]

        none : (key : Key) × (message.call ≡ Get key None) → (out : Outgoing) → out ∈ second_calls setup keys more → is_answered more out.partition out.call ≡ false
        none first out member =
            let second : Key → Outgoing = λ key. record { partition = home setup key; call = Get key (Some (needed keys more key)) } in
            let k = in_map second (late_keys keys more) out member in
            let p = home setup k.0 in
            let call = Get k.0 (Some (needed keys more k.0)) in
            ap (λ (o : Outgoing). is_answered more o.partition o.call) k.2 ∙ answered_more setup (Gets keys) taken message p call
            ∙ ap (λ b. b || same_place p call message.partition message.call) (ord.in_order (before first) p k.0 (needed keys more k.0))
            ∙ ap (same_place p call message.partition) first.1

-- the calls of round two, as a part makes them
abbrev pub late_outs : ℕ → List Late → List Outgoing
late_outs parts late = map (λ (key : Late). let out : Outgoing = record { partition = home_of key.key parts; call = Get key.key (Some key.stamp) } in out) late

late_made : (setup : Setup) (parts : ℕ) (late : List Late) → setup.partitions ≡ parts → late_outs parts late ≡ map (ask_for setup) late
unfolding home
late_made setup parts late parts_are = ap (λ n. late_outs n late) (sym parts_are)

-- what a transaction then waits for that asks for round two
pub late_asked : (setup : Setup) (request : Intent) (keys : List Key) (taken : List Message) (message : Message) (parts : ℕ) (left : List Outgoing) (late : List Late) → setup.partitions ≡ parts
    → (length (late_outs parts late) ≤ max_parts → left ≡ late_outs parts late) → length keys ≤ max_keys → calls_of setup (is_past request (taken ++ message ∷ [])) request (taken ++ message ∷ []) ≡ map (ask_for setup) late
    → second_calls setup keys (taken ++ message ∷ []) ≡ map (ask_for setup) late → ((out : Outgoing) → out ∈ map (ask_for setup) late → is_answered (taken ++ message ∷ []) out.partition out.call ≡ false)
    → (map (ask_for setup) late ≡ waiting_calls setup request (taken ++ message ∷ [])) × (left ≡ waiting_calls setup request (taken ++ message ∷ [])) × (length (map (ask_for setup) late) ≤ max_keys)
late_asked setup request keys taken message parts left late parts_are new few_keys calls second none =
    let made = late_made setup parts late parts_are in
    let few : length (map (ask_for setup) late) ≤ max_keys = omega (arith, ap length second, length-second_calls setup keys (taken ++ message ∷ []), few_keys) in
    let all = sym (waits_all setup request taken message (map (ask_for setup) late) calls none) in
    (all, new (omega (arith, ap length made, few)) ∙ made ∙ all, few)

module _ (setup : Setup) (keys : List Key) (taken : List Message) (message : Message) (is : IsReplyTo setup (Gets keys) taken message)
    (reader : Reader) (waiting : List Outgoing) (s : IsReading setup keys taken reader waiting) (after : Reader) where
  abbrev now : List Message
  now = taken ++ message ∷ []

  abbrev move : PlainMove
  move = read_move setup keys now Reads message.call message.reply

  asked_so : IsGetOf keys taken message
  asked_so = read_asked setup taken message keys is.asked

  turn : (answer : ReadMove) → TakesRead keys taken message answer after → Turns taken message move (told_read setup Reads answer) (has_ended keys) (is_last_read answer) (StandsFor keys after)
  turn answer t =
      turns taken message move (told_read setup Reads answer) (has_ended keys) (is_last_read answer) (StandsFor keys after) (is_of_read keys taken message.call message.reply)
      (λ fresh. of_read setup keys taken message asked_so is.of_kind) s.goes_on (t.answered setup Reads) t.stands t.last

  pub read_waits : (left : List Outgoing) → TakesRead keys taken message WaitRead after → left ≡ filter (λ out. not (is_replaced_by message out)) waiting
      → TakesMessage setup (Gets keys) taken message Wait (λ replies. IsReading setup keys replies after left)
  read_waits left t left_is =
      let got = turn WaitRead t in
      let same = get_waits setup keys taken message asked_so is.of_kind (s.stands.holds s.goes_on).orderly got.0 Reads (λ read call. tt) got.1 in
      moves_on setup (Gets keys) taken message _ Waits got.0 got.1
      (λ _. record { stands = got.2; goes_on = got.3 refl; few = s.few; waits = waits_less setup (Gets keys) taken message left waiting left_is s.waits same }) refl (omega arith)

  pub read_asks : (parts : ℕ) (left : List Outgoing) (late : List Late) → setup.partitions ≡ parts → TakesRead keys taken message (AskRead late) after → (length (late_outs parts late) ≤ max_parts → left ≡ late_outs parts late)
      → TakesMessage setup (Gets keys) taken message Ask (λ replies. IsReading setup keys replies after left)
  read_asks parts left late parts_are t new =
      let got = turn (AskRead late) t in
      let ask = get_asks setup keys taken message asked_so is.of_kind (s.stands.holds s.goes_on).orderly got.0 Reads (λ read call. tt) (map (ask_for setup) late) got.1 in
      let all = late_asked setup (Gets keys) keys taken message parts left late parts_are new s.few ask.0 ask.1 ask.2 in
      moves_on setup (Gets keys) taken message _ (Asks (map (ask_for setup) late)) got.0 got.1 (λ _. record { stands = got.2; goes_on = got.3 refl; few = s.few; waits = all.1 }) all.0 all.2

  pub read_ignores : TakesRead keys taken message IgnoredRead after → TakesMessage setup (Gets keys) taken message Ignored (λ replies. IsReading setup keys replies after waiting)
  read_ignores t = let left = turn IgnoredRead t in is_ignored setup (Gets keys) taken message _ left.0 (record { stands = left.1; goes_on = s.goes_on; few = s.few; waits = s.waits })
