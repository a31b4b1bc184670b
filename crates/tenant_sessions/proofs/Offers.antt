-- What a reply to a transaction's call is to the machine that takes it: for `offer_reply`, `take_written`, `take_read` and `take_found`.
use Rattle.std.proofs.Common.{◌≡◌, ℕ, zero, suc, ◌<◌, List, [], ◌∷◌, ◌++◌, Bool, true, false, ap, sym, ◌∙◌, refl, subst, cond, arith, Option, Some, None, ◌⊎◌, inl, inr}
use Rattle.plain_store.specs.declared.calls.Call.{Call}
use Rattle.plain_store.specs.declared.calls.Call.TheVariants.{Prepare, Commit, Get, Found}
use Rattle.plain_store.specs.declared.calls.PrepareReply.{PrepareReply}
use Rattle.plain_store.specs.declared.calls.ReadReply.{ReadReply}
use Rattle.plain_store.specs.declared.calls.Reply.{Reply}
use Rattle.plain_store.specs.declared.calls.Reply.TheVariants.{Prepare as ToPrepare, Committed as ToCommit, Get as ToGet, Found as ToFound}
use Rattle.plain_store.specs.declared.message.Message.{Message}
use Rattle.plain_store.specs.FoundKeys.{Findings}
use Rattle.plain_store.specs.Words.{◌∈◌, Key, Tag, Stamp, Item, Record, Setup, home}
use Rattle.plain_store.specs.History.{Writes, Finds}
use Rattle.plain_store.specs.Writing.{Outgoing, record_for, prepare_call, prepare_calls, commit_calls, partitions_written, all_prepared}
use Rattle.plain_store.specs.Rounds.{first_calls, second_calls, late_keys, needed, round_of, round_one_complete}
use Rattle.plain_store.specs.Finding.{below, found_calls, all_found, all_keys_found}
use Rattle.plain_store.proofs.Members.{in_cases, in_right, in_map}
use Rattle.put_all.specs.Writing.{IsPrepared, IsCommitted}
use Rattle.get_all.specs.Reading.{IsFirst, IsSecond}
use Rattle.tenant_sessions.specs.Running.{read_so_far, is_reply_of, IsReplyTo}

-- ---- the calls

abbrev pub IsPrepareOf : Setup → Stamp → List Item → Message → Type 0
IsPrepareOf setup stamp items message = (item : Item) × (item ∈ items) × (message.call ≡ Prepare (record_for stamp items item))

abbrev pub IsCommitOf : Setup → Stamp → List Item → List Message → Message → Type 0
IsCommitOf setup stamp items taken message = (all_prepared stamp items taken ≡ true) × (message.partition ∈ partitions_written setup items) × (message.call ≡ Commit stamp)

abbrev pub IsFirstOf : List Key → Message → Type 0
IsFirstOf keys message = (key : Key) × (key ∈ keys) × (message.call ≡ Get key None)

abbrev pub IsSecondOf : List Key → List Message → Message → Type 0
IsSecondOf keys taken message = (key : Key) × (round_one_complete keys taken ≡ true) × (key ∈ late_keys keys taken) × (message.call ≡ Get key (Some (needed keys taken key)))

abbrev pub IsGetOf : List Key → List Message → Message → Type 0
IsGetOf keys taken message = IsFirstOf keys message ⊎ IsSecondOf keys taken message

abbrev pub IsFoundOf : Setup → Tag → Message → Type 0
IsFoundOf setup tag message = (message.partition < setup.partitions) × (message.call ≡ Found tag)

in_below : (n p : ℕ) → p ∈ below n → p < n
in_below zero p h = absurd h
in_below (suc n) p h =
    elim (in_cases (below n) (n ∷ []) p h) [
      | inl before ↦ let low = in_below n p before in omega (arith, low)
      | inr last ↦ elim last [ inl same ↦ omega (arith, same) | inr none ↦ absurd none ]
    ]

-- what stands after a test stands where it holds
pub in_later : {X : Type 0} (b : Bool) (first later : List X) (x : X) → b ≡ true → x ∈ later → x ∈ (first ++ cond b later [])
in_later true first later x e h = in_right first later x h
in_later false first later x e h = cc

pub later_cases : {X : Type 0} (b : Bool) (first later : List X) (x : X) → x ∈ (first ++ cond b later []) → (x ∈ first) ⊎ ((b ≡ true) × (x ∈ later))
later_cases {X} b first later x h = go b (in_cases first (cond b later []) x h)
  where
    go : (c : Bool) → (x ∈ first) ⊎ (x ∈ cond c later []) → (x ∈ first) ⊎ ((c ≡ true) × (x ∈ later))
    go c (inl k) = inl k
    go true (inr k) = inr (refl, k)
    go false (inr k) = absurd k

module _ (setup : Setup) (taken : List Message) (message : Message) where
  abbrev own : Outgoing
  own = record { partition = message.partition; call = message.call }

  pub write_asked : (stamp : Stamp) (items : List Item) → IsReplyTo setup (Writes stamp items) taken message
      → IsPrepareOf setup stamp items message ⊎ IsCommitOf setup stamp items taken message
  write_asked stamp items is =
      elim (later_cases (all_prepared stamp items taken) (prepare_calls setup stamp items) (commit_calls setup stamp items) own is.asked) [
        | inl h ↦
            let k = in_map (prepare_call setup stamp items) items own h in
            inl (k.0, k.1, ap (λ (out : Outgoing). out.call) k.2)
        | inr h ↦
            let commit : ℕ → Outgoing = λ partition. record { partition = partition; call = Commit stamp } in
            let k = in_map commit (partitions_written setup items) own h.1 in
            let P : ℕ → Type 0 = λ p. p ∈ partitions_written setup items in
            inr (h.0, subst P (sym (ap (λ (out : Outgoing). out.partition) k.2)) k.1, ap (λ (out : Outgoing). out.call) k.2)
      ]

  pub read_asked : (keys : List Key) → own ∈ read_so_far setup keys taken → IsGetOf keys taken message
  read_asked keys asked =
      elim (later_cases (round_one_complete keys taken) (first_calls setup keys) (second_calls setup keys taken) own asked) [
        | inl h ↦
            let first : Key → Outgoing = λ key. record { partition = home setup key; call = Get key None } in
            let k = in_map first keys own h in
            inl (k.0, k.1, ap (λ (out : Outgoing). out.call) k.2)
        | inr h ↦
            let second : Key → Outgoing = λ key. record { partition = home setup key; call = Get key (Some (needed keys taken key)) } in
            let k = in_map second (late_keys keys taken) own h.1 in
            inr (k.0, h.0, k.1, ap (λ (out : Outgoing). out.call) k.2)
      ]

  pub find_asked : (tag : Tag) → IsReplyTo setup (Finds tag) taken message
      → IsFoundOf setup tag message ⊎ ((all_found setup taken ≡ true) × IsGetOf (all_keys_found taken) taken message)
  find_asked tag is =
      elim (later_cases (all_found setup taken) (found_calls setup tag) (read_so_far setup (all_keys_found taken) taken) own is.asked) [
        | inl h ↦
            let found : ℕ → Outgoing = λ partition. record { partition = partition; call = Found tag } in
            let k = in_map found (below setup.partitions) own h in
            let at : message.partition ≡ k.0 = ap (λ (out : Outgoing). out.partition) k.2 in
            let low = in_below setup.partitions k.0 k.1 in
            inl (omega (arith, at, low), ap (λ (out : Outgoing). out.call) k.2)
        | inr h ↦ inr (h.0, read_asked (all_keys_found taken) h.1)
      ]

  -- ---- what the machines are reported

  pub prepare_offered : (stamp : Stamp) (items : List Item) (version : Record) (key : Key) (reply : PrepareReply) → IsReplyTo setup (Writes stamp items) taken message
      → message.call ≡ Prepare version → version.key ≡ key → message.reply ≡ Some (ToPrepare reply) → IsPrepared stamp key reply message
  prepare_offered stamp items version key reply is call of_key replied =
      elim (write_asked stamp items is) [
        | inl k ↦
            let same : version ≡ record_for stamp items k.0 = let calls : Prepare version ≡ Prepare (record_for stamp items k.0) = sym call ∙ k.2 in cc in
            record {
              version = version;
              call = call;
              of_key = of_key;
              of_stamp = ap (λ (v : Record). v.stamp) same;
              replied = replied;
            }
        | inr k ↦ let calls : Prepare version ≡ Commit stamp = sym call ∙ k.2 in absurd cc
      ]

  pub commit_offered : (stamp : Stamp) (items : List Item) (s : Stamp) (count : ℕ) → IsReplyTo setup (Writes stamp items) taken message
      → message.call ≡ Commit s → message.reply ≡ Some (ToCommit count) → IsCommitted stamp message.partition message
  commit_offered stamp items s count is call replied =
      elim (write_asked stamp items is) [
        | inl k ↦ let calls : Prepare (record_for stamp items k.0) ≡ Commit s = sym k.2 ∙ call in absurd cc
        | inr k ↦ record { count = count; call = k.2; at = refl; replied = replied }
      ]

  pub get_offered : (keys : List Key) (key : Key) (s : Option Stamp) (reply : ReadReply) → IsGetOf keys taken message
      → message.call ≡ Get key s → message.reply ≡ Some (ToGet reply)
      → ((round_of message.call ≡ 1) × IsFirst key reply message) ⊎ ((round_of message.call ≡ 2) × IsSecond keys taken key reply message)
  get_offered keys key s reply (inl k) call replied =
      let calls : Get key s ≡ Get k.0 None = sym call ∙ k.2 in
      let same : key ≡ k.0 = cc in
      inl (ap round_of k.2, record { call = k.2 ∙ ap (λ j. Get j None) (sym same); replied = replied })
  get_offered keys key s reply (inr k) call replied =
      let calls : Get key s ≡ Get k.0 (Some (needed keys taken k.0)) = sym call ∙ k.3 in
      let same : key ≡ k.0 = cc in
      inr (ap round_of k.3, record { call = k.3 ∙ ap (λ j. Get j (Some (needed keys taken j))) (sym same); replied = replied })

-- ---- replies of the calls' kinds

pub is_found_reply : (tag : Tag) (reply : Option Reply) → is_reply_of (Found tag) reply ≡ true → (told : Findings) × (reply ≡ Some (ToFound told))
is_found_reply tag (Some (ToFound told)) h = (told, refl)
is_found_reply tag reply h = cc

pub is_get_reply : (key : Key) (s : Option Stamp) (reply : Option Reply) → is_reply_of (Get key s) reply ≡ true → (r : ReadReply) × (reply ≡ Some (ToGet r))
is_get_reply key s (Some (ToGet r)) h = (r, refl)
is_get_reply key s reply h = cc

pub of_get : (call : Call) (reply : Option Reply) (key : Key) (s : Option Stamp) (r : ReadReply) → call ≡ Get key s → reply ≡ Some (ToGet r) → is_reply_of call reply ≡ true
of_get call reply key s r asked replied = ap (λ c. is_reply_of c reply) asked ∙ ap (is_reply_of (Get key s)) replied

pub of_found : (call : Call) (reply : Option Reply) (tag : Tag) (told : Findings) → call ≡ Found tag → reply ≡ Some (ToFound told) → is_reply_of call reply ≡ true
of_found call reply tag told asked replied = ap (λ c. is_reply_of c reply) asked ∙ ap (is_reply_of (Found tag)) replied

pub of_prepare : (call : Call) (reply : Option Reply) (version : Record) (r : PrepareReply) → call ≡ Prepare version → reply ≡ Some (ToPrepare r) → is_reply_of call reply ≡ true
of_prepare call reply version r asked replied = ap (λ c. is_reply_of c reply) asked ∙ ap (is_reply_of (Prepare version)) replied

pub of_commit : (call : Call) (reply : Option Reply) (stamp : Stamp) (count : ℕ) → call ≡ Commit stamp → reply ≡ Some (ToCommit count) → is_reply_of call reply ≡ true
of_commit call reply stamp count asked replied = ap (λ c. is_reply_of c reply) asked ∙ ap (is_reply_of (Commit stamp)) replied
