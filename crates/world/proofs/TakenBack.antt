-- What was discarded is kept no more: for `World::step` and `World::run`.
use Rattle.std.proofs.Common.{◌≡◌, ℕ, ◌≤◌, List, [], ◌∷◌, ◌++◌, ◌⊎◌, inl, inr, Bool, true, false, ◌==◌, ◌&&◌, ◌||◌, not, nat_le, nat_lt, refl, sym, ap, ◌∙◌, subst, cond, length, filter, Option, Some, None, bytes_eq, option_to_list, eq-eqb, arith}
use Rattle.std.specs.Prelude.{All, find}
use Rattle.std.specs.List.{list_any}
use Rattle.std.proofs.lemmas.Bool.{and_parts, or_cases, or_parts, cases_Bool, le-leb, leb-true, both_ways}
use Rattle.stamps.specs.Stamp.{client_of}
use Rattle.plain_store.specs.Words.{◌∈◌, Key, Stamp, Record, Room, Setup, IsAct}
use Rattle.plain_store.specs.declared.step.Act.{Act}
use Rattle.plain_store.specs.declared.calls.Call.{Call}
use Rattle.plain_store.specs.declared.calls.Call.TheVariants.{Prepare, Collect}
use Rattle.plain_store.specs.declared.calls.Reply.{Reply}
use Rattle.plain_store.specs.declared.calls.Reply.TheVariants.{Prepare as ToPrepare}
use Rattle.plain_store.specs.declared.calls.PrepareReply.{PrepareReply}
use Rattle.plain_store.specs.declared.calls.PrepareReply.TheVariants.{Prepared, Discarded, FullItems, FullSlots}
use Rattle.plain_store.specs.Log.{Exchange, Log, is_version, accepted, accepted_by, discarded_by, is_stamp, is_some_version, accepts, is_live, is_committed, committed, raised, floor, is_kept, kept, versions, items}
use Rattle.plain_store.specs.Marks.{discarded, is_of_client, mark}
use Rattle.plain_store.specs.Replies.{known_or, prepare_reply, reply_after, IsSound}
use Rattle.plain_store.specs.History.{History, log_at, decided}
use Rattle.plain_store.specs.Run.{run}
use Rattle.plain_store.specs.Partitions.{calls_at}
use Rattle.plain_store.proofs.Members.{in_filter, filter_in, found_is}
use Rattle.plain_store.proofs.Stamps.{≤_greatest}
use Rattle.plain_store.proofs.Logs.{is_version-parts}
use Rattle.plain_store.proofs.Cells.{IsCommitted, committed_is, discarded_is}
use Rattle.plain_store.proofs.StaysTrue.{IsSent, logged_sent}
use Rattle.plain_store.proofs.KeptLogs.{Kept, log_failed}
use Rattle.plain_store.proofs.EveryStepKeeps.{kept_at_first}
use Rattle.plain_store.proofs.Sound.{Sound, SoundCall}
use Rattle.plain_store.proofs.Rooms.{log_of-IsSound}
use Rattle.plain_store.proofs.Runs.{kept_run}
use Rattle.plain_store.proofs.LawRuns.{logs}

-- ---- one log

floor_stays : (call : Call) (stamps : List Stamp) (bound : Stamp) → bound ≤ raised call stamps bound
floor_stays (Prepare v) stamps bound = omega arith
floor_stays _ stamps bound = omega arith

-- a version that is neither committed nor live is not found among those kept
not_found : (log : Log) (key : Key) (stamp : Stamp) → is_committed log key stamp ≡ false → is_live log key stamp ≡ false → find (is_version key stamp) (kept log) ≡ None
not_found log key stamp never dead = go (find (is_version key stamp) (kept log)) refl
  where
    held : (version : Record) → find (is_version key stamp) (kept log) ≡ Some version → ⊥
    held version h =
        let f = found_is (is_version key stamp) (kept log) version h in
        let p = is_version-parts key stamp version f.1 in
        let k = in_filter (is_kept log) (versions log) version f.0 in
        let q = and_parts (nat_le (floor log version.key) version.stamp) (is_committed log version.key version.stamp || is_live log version.key version.stamp) k.1 in
        elim (or_cases (is_committed log version.key version.stamp) (is_live log version.key version.stamp) q.1) [
          | inl c ↦ both_ways (is_committed log key stamp) never (sym (λ i. is_committed log (p.0 i) (p.1 i)) ∙ c)
          | inr l ↦ both_ways (is_live log key stamp) dead (sym (λ i. is_live log (p.0 i) (p.1 i)) ∙ l)
        ]

    go : (o : Option Record) → find (is_version key stamp) (kept log) ≡ o → o ≡ None
    go None h = refl
    go (Some version) h = absurd (held version h)

-- what was discarded and is not kept is not prepared again
is_refused : (room : Room) (log : Log) (version : Record) → nat_lt version.stamp (floor log version.key) ≡ false → find (is_version version.key version.stamp) (kept log) ≡ None
    → nat_le version.stamp (mark log (client_of version.stamp)) ≡ true → prepare_reply room log version ≡ Discarded
unfolding prepare_reply
is_refused room log version above none marked =
    ap (λ b. cond b Prepared (known_or version missing (find (is_version version.key version.stamp) (kept log)))) above
    ∙ ap (known_or version missing) none ∙ ap (λ b. cond b Discarded room_for) marked
  where
    room_for : PrepareReply
    room_for = cond (not (list_any (bytes_eq version.key) (items log)) && (length (items log) == room.items)) FullItems (cond (length (kept log) == room.slots) FullSlots Prepared)

    missing : PrepareReply
    missing = cond (nat_le version.stamp (mark log (client_of version.stamp))) Discarded room_for

-- the exchange keeps a version
pub record Stored (e : Exchange) (version : Record) : Type 0 where
  pub call : e.call ≡ Prepare version
  pub reply : e.reply ≡ ToPrepare Prepared

stored : (call : Call) (reply : Reply) (version : Record) → accepted_by call reply ≡ Some version → Stored (record { call = call; reply = reply }) version
stored (Prepare v) (ToPrepare Prepared) version h = let e : v ≡ version = cc in record { call = ap Prepare e; reply = refl }
stored call reply version h = cc

not_again : (room : Room) (before : Log) (e : Exchange) (version : Record) → e.reply ≡ reply_after room before e.call → accepted e ≡ Some version → floor before version.key ≤ version.stamp
    → is_committed before version.key version.stamp ≡ false → is_live before version.key version.stamp ≡ false → version.stamp ∈ discarded before → ⊥
unfolding reply_after
not_again room before e version sound is above never dead there =
    let s = stored e.call e.reply version is in
    let client = client_of version.stamp in
    let marked : version.stamp ≤ mark before client = ≤_greatest (filter (is_of_client client) (discarded before)) version.stamp (filter_in (is_of_client client) (discarded before) version.stamp there (eq-eqb client client refl)) in
    let reply : prepare_reply room before version ≡ Discarded = is_refused room before version (not_below version.stamp (floor before version.key) above) (not_found before version.key version.stamp never dead) (le-leb version.stamp (mark before client) marked) in
    let both : ToPrepare Prepared ≡ ToPrepare (prepare_reply room before version) = sym s.reply ∙ sound ∙ ap (reply_after room before) s.call in
    let bad : ToPrepare Prepared ≡ ToPrepare Discarded = both ∙ ap ToPrepare reply in
    cc
  where
    not_below : (a b : ℕ) → b ≤ a → nat_lt a b ≡ false
    not_below a b h = elim (cases_Bool (nat_lt a b)) [
      | inl t ↦ absurd (omega (arith, h, leb-true _ _ t))
      | inr f ↦ f
    ]

none_of_both : (a b : Bool) → a ≡ false → b ≡ false → (a || b) ≡ false
none_of_both a b x y = ap (λ c. c || b) x ∙ y

-- the same of one exchange more
dropped_step : (room : Room) (before : Log) (e : Exchange) (key : Key) (stamp : Stamp) → e.reply ≡ reply_after room before e.call → is_committed before key stamp ≡ false → floor before key ≤ stamp
    → (stamp ∈ discarded before → is_live before key stamp ≡ false) → stamp ∈ discarded (e ∷ before) → is_live (e ∷ before) key stamp ≡ false
dropped_step room before e key stamp sound never above dead there = go (discarded_by e.call e.reply) there
  where
    new : stamp ∈ discarded before → (o : Option Record) → accepted e ≡ o → is_some_version key stamp o ≡ false
    new h None is = refl
    new h (Some version) is = elim (cases_Bool (is_version key stamp version)) [
      | inl t ↦
          let p = is_version-parts key stamp version t in
          absurd (not_again room before e version sound is
          (subst (λ s. floor before version.key ≤ s) (sym p.1) (subst (λ k. floor before k ≤ stamp) (sym p.0) above))
          ((λ i. is_committed before (p.0 i) (p.1 i)) ∙ never) ((λ i. is_live before (p.0 i) (p.1 i)) ∙ dead h) (subst (λ s. s ∈ discarded before) (sym p.1) h))
      | inr f ↦ f
    ]

    none : stamp ∈ discarded before → (accepts e key stamp || is_live before key stamp) ≡ false
    none h = none_of_both (accepts e key stamp) (is_live before key stamp) (new h (accepted e) refl) (dead h)

    go : (o : Option Stamp) → stamp ∈ (option_to_list o ++ discarded before) → (not (is_stamp stamp o) && (accepts e key stamp || is_live before key stamp)) ≡ false
    go None h = none h
    go (Some s) h = by (s == stamp) refl h
      where
        by : (b : Bool) → (s == stamp) ≡ b → stamp ∈ (s ∷ discarded before) → (not b && (accepts e key stamp || is_live before key stamp)) ≡ false
        by true t h = refl
        by false t (inl same) = absurd (both_ways (s == stamp) t (eq-eqb s stamp (sym same)))
        by false t (inr h) = none h

-- so a stamp that was discarded and not committed has no live version that is not below the floor
stays_dropped : (room : Room) (log : Log) (key : Key) (stamp : Stamp) → IsSound room log → stamp ∈ discarded log → is_committed log key stamp ≡ false → floor log key ≤ stamp → is_live log key stamp ≡ false
stays_dropped room [] key stamp sound there never above = refl
stays_dropped room (e ∷ before) key stamp sound there never above =
    let never_before : is_committed before key stamp ≡ false = (or_parts _ (is_committed before key stamp) never).1 in
    let above_before : floor before key ≤ stamp = omega (arith, floor_stays e.call (committed before key) (floor before key), above) in
    dropped_step room before e key stamp sound.0 never_before above_before (λ h. stays_dropped room before key stamp sound.1 h never_before above_before) there

-- ---- each log of a run

pub none_is_kept : (setup : Setup) (acts : List Act) (partition : ℕ) (stamp : Stamp) (version : Record) → All IsAct acts → stamp ∈ discarded (log_at setup (run setup [] acts) partition)
    → version ∈ kept (log_at setup (run setup [] acts) partition) → version.stamp ≡ stamp → ⊥
none_is_kept setup acts partition stamp version valid there held same = elim (cases_Bool (is_committed log version.key version.stamp)) [
  | inl c ↦ ended c
  | inr f ↦ elim (or_cases (is_committed log version.key version.stamp) (is_live log version.key version.stamp) is.1) [
    | inl c ↦ ended c
    | inr l ↦ both_ways (is_live log version.key version.stamp) (stays_dropped setup.room log version.key version.stamp sound (subst (λ s. s ∈ discarded log) (sym same) there) f (leb-true (floor log version.key) version.stamp is.0)) l
  ]
]
  where
    history : History
    history = run setup [] acts

    log : Log
    log = log_at setup history partition

    known : Kept setup history
    known = kept_run setup [] acts valid (kept_at_first setup)

    sound : IsSound setup.room log
    sound = subst (IsSound setup.room) (sym (logs setup acts valid partition)) (log_of-IsSound setup.room (calls_at setup history partition))

    is : (nat_le (floor log version.key) version.stamp ≡ true) × ((is_committed log version.key version.stamp || is_live log version.key version.stamp) ≡ true)
    is = and_parts _ _ (in_filter (is_kept log) (versions log) version held).1

    was_decided : IsCommitted log version.stamp → version.stamp ∈ decided history
    was_decided c = go (logged_sent setup history partition c.0 c.1)
      where
        go : ((keep : ℕ) × (c.0.call ≡ Collect keep)) ⊎ IsSent history partition c.0 → version.stamp ∈ decided history
        go (inl k) = let a = c.2 in let b = k.1 in cc
        go (inr s) = let its : Sound setup history s.0 = known.sound s.0 s.1 in (subst (λ x. SoundCall setup history s.0 x) (s.3 ∙ c.2) its.call).0

    ended : is_committed log version.key version.stamp ≡ true → ⊥
    ended c = known.apart version.stamp (was_decided (committed_is log version.key version.stamp c).0) (log_failed setup history partition version.stamp known (discarded_is log version.stamp (subst (λ s. s ∈ discarded log) (sym same) there)))
