-- The replies that a read took stay orderly as it takes one more.
use Rattle.std.proofs.Common.{◌≡◌, ℕ, List, [], ◌∷◌, ◌++◌, Bool, true, false, ◌&&◌, ◌||◌, ◌==◌, not, map, ap, sym, ◌∙◌, refl, cond, Option, Some, None}
use Rattle.std.specs.Prelude.{is_some, bytes_eq}
use Rattle.std.specs.List.{list_any, list_all}
use Rattle.std.proofs.lemmas.Bool.{eqb-true, eq-eqb, not-false}
use Rattle.std.proofs.lemmas.Cmp.{nat_list_eq_equiv}
use Rattle.stamps.specs.Record.{Record}
use Rattle.stamps.specs.Stamp.{greatest}
use Rattle.stamps.specs.WriteSet.{contains_key}
use Rattle.plain_store.specs.declared.calls.Call.{Call}
use Rattle.plain_store.specs.declared.calls.Call.TheVariants.{Get}
use Rattle.plain_store.specs.declared.calls.ReadReply.TheVariants.{Version}
use Rattle.plain_store.specs.declared.calls.Reply.{Reply}
use Rattle.plain_store.specs.declared.calls.Reply.TheVariants.{Get as ToGet}
use Rattle.plain_store.specs.declared.message.Message.{Message}
use Rattle.plain_store.specs.Words.{Key, Stamp}
use Rattle.plain_store.specs.Rounds.{some_or, first_some, shown_first, shown_second, seen_first, seen_second, needed, stamp_for, is_shown, round_one_complete, shows_writes, is_false_second}
use Rattle.plain_store.specs.Moves.{same_place, is_answered}
use Rattle.plain_store.proofs.ListTests.{or_parts, any_push, any_same, any_alike, all_alike, map_alike, map_again}
use Rattle.plain_store.proofs.Stamps.{key_is, is_key}
use Rattle.get_all.specs.ReadProgress.{with_first, with_second, first_shows}
use Rattle.get_all.specs.Reading.{is_last_reply, any_last}
use Rattle.get_all.specs.Reader.{slot_after, IsOrderly}

-- ---- one reply more

some_or_none : {Y : Type 0} (o : Option Y) → some_or o None ≡ o
some_or_none None = refl
some_or_none (Some y) = refl

some_or_assoc : {Y : Type 0} (o p q : Option Y) → some_or o (some_or p q) ≡ some_or (some_or o p) q
some_or_assoc None p q = refl
some_or_assoc (Some y) p q = refl

first_push : {X Y : Type 0} (f : X → Option Y) (xs : List X) (x : X) → first_some f (xs ++ x ∷ []) ≡ some_or (first_some f xs) (f x)
first_push f [] x = some_or_none (f x)
first_push f (a ∷ xs) x = ap (some_or (f a)) (first_push f xs x) ∙ some_or_assoc (f a) (first_some f xs) (f x)

seen_first_push : (taken : List Message) (message : Message) (key : Key)
    → seen_first (taken ++ message ∷ []) key ≡ some_or (seen_first taken key) (shown_first key message.call message.reply)
unfolding seen_first
seen_first_push taken message key = first_push (λ m. shown_first key m.call m.reply) taken message

seen_second_push : (taken : List Message) (message : Message) (key : Key) (s : Stamp)
    → seen_second (taken ++ message ∷ []) key s ≡ some_or (seen_second taken key s) (shown_second key s message.call message.reply)
unfolding seen_second
seen_second_push taken message key s = first_push (λ m. shown_second key s m.call m.reply) taken message

is_some-cond : {Y : Type 0} (o : Option Y) (b : Bool) (y : Y) → is_some (some_or o (cond b (Some y) None)) ≡ (is_some o || b)
is_some-cond None true y = refl
is_some-cond None false y = refl
is_some-cond (Some x) b y = refl

keys_flip : (j k : Key) → bytes_eq j k ≡ bytes_eq k j
keys_flip j k = nat_list_eq_equiv.symm j k

-- where no second-round reply of the key was taken, none shows a version
unseen : (taken : List Message) (key : Key) (s : Stamp) → is_answered taken 0 (Get key (Some s)) ≡ false → seen_second taken key s ≡ None
unfolding seen_second
unseen [] key s none = refl
unseen (m ∷ ms) key s none =
    let parts = or_parts _ _ none in
    ap (λ o. some_or o (first_some (λ (n : Message). shown_second key s n.call n.reply) ms)) (one m.call m.reply parts.0) ∙ unseen ms key s parts.1
  where
    one : (call : Call) (reply : Option Reply) → same_place 0 (Get key (Some s)) m.partition call ≡ false → shown_second key s call reply ≡ None
    one (Get k (Some t)) (Some (ToGet (Version version))) other = ap (λ b. cond (b && (t == s)) (Some version) None) (keys_flip k key ∙ other)
    one call reply other = refl

-- replies of round one alone are false, or not, whatever else was taken
firsts_alone : (replies others taken : List Message) → ((p : ℕ) (key : Key) (s : Stamp) → is_answered taken p (Get key (Some s)) ≡ false) → any_last replies taken ≡ any_last others taken
firsts_alone replies others [] none = refl
firsts_alone replies others (m ∷ ms) none =
    ap (λ b. b || any_last replies ms) (one m.call m.reply (λ p key s. (or_parts _ _ (none p key s)).0))
    ∙ ap (λ b. is_last_reply others m.call m.reply || b) (firsts_alone replies others ms (λ p key s. (or_parts _ _ (none p key s)).1))
  where
    one : (call : Call) (reply : Option Reply) → ((p : ℕ) (key : Key) (s : Stamp) → same_place p (Get key (Some s)) m.partition call ≡ false)
        → is_last_reply replies call reply ≡ is_last_reply others call reply
    one (Get key (Some s)) reply other = let same = is_key key key refl in let differs = other 0 key s in cc
    one call reply other = refl

-- replies that show the same write sets in round one tell the same of each
same_shows : (replies others taken : List Message) → ((s : Stamp) (writes : List Key) → list_any (λ m. shows_writes s writes m.call m.reply) replies ≡ list_any (λ m. shows_writes s writes m.call m.reply) others)
    → any_last replies taken ≡ any_last others taken
same_shows replies others taken same = any_alike (λ m. is_last_reply replies m.call m.reply) (λ m. is_last_reply others m.call m.reply) (λ m. one m.call m.reply) taken
  where
    one : (call : Call) (reply : Option Reply) → is_last_reply replies call reply ≡ is_last_reply others call reply
    one (Get key (Some s)) (Some (ToGet (Version version))) =
        ap (λ b. not (bytes_eq version.key key) || (not (version.stamp == s) || not b)) (same s version.writes)
    one (Get key (Some s)) (Some (ToGet reply)) = refl
    one call reply = refl

-- a key of which nothing was shown
missing : (p : Key → Bool) (key : Key) (keys : List Key) → contains_key keys key ≡ true → p key ≡ false → list_all p keys ≡ false
missing p key [] member fails = cc
missing p key (k ∷ ks) member fails = go (bytes_eq k key) refl member (missing p key ks)
  where
    and_fails : (x y : Bool) → y ≡ false → (x && y) ≡ false
    and_fails true y e = e
    and_fails false y e = refl

    go : (b : Bool) → bytes_eq k key ≡ b → (b || contains_key ks key) ≡ true → (contains_key ks key ≡ true → p key ≡ false → list_all p ks ≡ false) → (p k && list_all p ks) ≡ false
    go true e h rest = ap (λ b. b && list_all p ks) (ap p (key_is k key e) ∙ fails)
    go false e h rest = and_fails (p k) (list_all p ks) (rest h fails)

-- a test that changes at one key alone
one_more : (g h : Key → Bool) (key : Key) (x : Bool) → g key ≡ false → ((k : Key) → h k ≡ cond (bytes_eq k key) x (g k)) → (keys : List Key)
    → list_any h keys ≡ (list_any g keys || (contains_key keys key && x))
one_more g h key x none changes [] = refl
one_more g h key x none changes (k ∷ ks) =
    ap (λ b. b || list_any h ks) (changes k) ∙ go (bytes_eq k key) refl (one_more g h key x none changes ks)
  where
    here : (b c a : Bool) → (b || (a || (c && b))) ≡ (a || b)
    here true c true = refl
    here true c false = refl
    here false true true = refl
    here false true false = refl
    here false false true = refl
    here false false false = refl

    later : (a b c : Bool) → (a || (b || c)) ≡ ((a || b) || c)
    later true b c = refl
    later false b c = refl

    go : (b : Bool) → bytes_eq k key ≡ b → list_any h ks ≡ (list_any g ks || (contains_key ks key && x))
        → (cond b x (g k) || list_any h ks) ≡ ((g k || list_any g ks) || ((b || contains_key ks key) && x))
    go true e rest =
        let nothing : g k ≡ false = ap g (key_is k key e) ∙ none in
        ap (λ b. x || b) rest ∙ here x (contains_key ks key) (list_any g ks) ∙ ap (λ b. (b || list_any g ks) || x) (sym nothing)
    go false e rest = ap (λ b. g k || b) rest ∙ later (g k) (list_any g ks) (contains_key ks key && x)

not_some : {Y : Type 0} (o : Option Y) → is_some o ≡ false → o ≡ None
not_some None h = refl
not_some (Some y) h = cc

-- ---- a reply of round one that is not false

module _ (keys : List Key) (taken : List Message) (message : Message) (key : Key) (shown : Option Record) (ord : IsOrderly keys taken)
    (call : message.call ≡ Get key None) (shows : (k : Key) → shown_first k message.call message.reply ≡ cond (bytes_eq key k) (Some shown) None)
    (writes : (s : Stamp) (ws : List Key) → shows_writes s ws message.call message.reply ≡ first_shows s ws (Some shown))
    (honest : is_last_reply (taken ++ message ∷ []) message.call message.reply ≡ false)
    (member : contains_key keys key ≡ true) (new : is_some (seen_first taken key) ≡ false) where
  abbrev more : List Message
  more = taken ++ message ∷ []

  incomplete : round_one_complete keys taken ≡ false
  incomplete = missing (is_shown taken) key keys member new

  none_second : (k : Key) (s : Stamp) → seen_second taken k s ≡ None
  none_second k s = unseen taken k s (ord.in_order incomplete 0 k s)

  still_none : (k : Key) (s : Stamp) → seen_second more k s ≡ None
  still_none k s =
      seen_second_push taken message k s ∙ ap (λ o. some_or o (shown_second k s message.call message.reply)) (none_second k s)
      ∙ ap (λ c. shown_second k s c message.reply) call

  no_second : (p : ℕ) (k : Key) (s : Stamp) → is_answered more p (Get k (Some s)) ≡ false
  no_second p k s =
      any_push (λ (m : Message). same_place p (Get k (Some s)) m.partition m.call) taken message
      ∙ ap (λ b. b || same_place p (Get k (Some s)) message.partition message.call) (ord.in_order incomplete p k s)
      ∙ ap (λ c. same_place p (Get k (Some s)) message.partition c) call

  first_with : (k : Key) → seen_first more k ≡ some_or (seen_first taken k) (cond (bytes_eq key k) (Some shown) None)
  first_with k = seen_first_push taken message k ∙ ap (some_or (seen_first taken k)) (shows k)

  pub first_slots : map (with_first key shown) (map (slot_after keys taken) keys) ≡ map (slot_after keys more) keys
  first_slots =
      map_again (with_first key shown) (slot_after keys taken) (slot_after keys more)
      (λ k i. record {
        key = k;
        first = (ap (λ b. some_or (seen_first taken k) (cond b (Some shown) None)) (keys_flip k key) ∙ sym (first_with k)) i;
        second = (none_second k (needed keys taken k) ∙ sym (still_none k (needed keys more k))) i;
      }) keys

  first_gives : (s : Stamp) (ws : List Key) (k : Key) → first_shows s ws (seen_first more k) ≡ cond (bytes_eq k key) (first_shows s ws (Some shown)) (first_shows s ws (seen_first taken k))
  first_gives s ws k =
      ap (first_shows s ws) (first_with k ∙ ap (λ b. some_or (seen_first taken k) (cond b (Some shown) None)) (keys_flip key k)) ∙ go (bytes_eq k key) refl
    where
      go : (b : Bool) → bytes_eq k key ≡ b
          → first_shows s ws (some_or (seen_first taken k) (cond b (Some shown) None)) ≡ cond b (first_shows s ws (Some shown)) (first_shows s ws (seen_first taken k))
      go true e =
          let nothing : seen_first taken k ≡ None = ap (seen_first taken) (key_is k key e) ∙ not_some (seen_first taken key) new in
          ap (λ o. first_shows s ws (some_or o (Some shown))) nothing
      go false e = ap (first_shows s ws) (some_or_none (seen_first taken k))

  pub first_orderly : IsOrderly keys more
  first_orderly = record {
    all_true =
        any_push (λ m. is_last_reply more m.call m.reply) taken message
        ∙ ap (λ b. b || is_last_reply more message.call message.reply) (firsts_alone more taken taken (ord.in_order incomplete) ∙ ord.all_true) ∙ honest;
    first_answers = λ p k.
        any_push (λ (m : Message). same_place p (Get k None) m.partition m.call) taken message
        ∙ ap (λ b. b || same_place p (Get k None) message.partition message.call) (ord.first_answers p k)
        ∙ ap (λ c. is_some (seen_first taken k) || same_place p (Get k None) message.partition c) call
        ∙ ap (λ b. is_some (seen_first taken k) || b) (keys_flip k key)
        ∙ sym (ap is_some (first_with k) ∙ is_some-cond (seen_first taken k) (bytes_eq key k) shown);
    second_answers = λ p k s. no_second p k s ∙ sym (ap is_some (still_none k (needed keys more k)));
    in_order = λ early p k s. no_second p k s;
    first_writes = λ s ws.
        any_push (λ m. shows_writes s ws m.call m.reply) taken message
        ∙ ap (λ b. b || shows_writes s ws message.call message.reply) (ord.first_writes s ws)
        ∙ ap (λ b. list_any (λ k. first_shows s ws (seen_first taken k)) keys || b) (writes s ws)
        ∙ ap (λ b. list_any (λ k. first_shows s ws (seen_first taken k)) keys || (b && first_shows s ws (Some shown))) (sym member)
        ∙ sym (one_more (λ k. first_shows s ws (seen_first taken k)) (λ k. first_shows s ws (seen_first more k)) key (first_shows s ws (Some shown))
        (ap (first_shows s ws) (not_some (seen_first taken key) new)) (first_gives s ws) keys);
    second_stamps = λ k version is. let none = still_none k (needed keys more k) in cc;
    second_writes = λ k version is. let none = still_none k (needed keys more k) in cc;
  }

-- ---- a reply of round two that is not false

module _ (keys : List Key) (taken : List Message) (message : Message) (key : Key) (version : Record) (ord : IsOrderly keys taken)
    (call : message.call ≡ Get key (Some (needed keys taken key))) (replied : message.reply ≡ Some (ToGet (Version version)))
    (honest : is_false_second (taken ++ message ∷ []) key (needed keys taken key) (Version version) ≡ false)
    (complete : round_one_complete keys taken ≡ true) where
  abbrev more2 : List Message
  more2 = taken ++ message ∷ []

  abbrev asked : Stamp
  asked = needed keys taken key

  pub first_same : (k : Key) → seen_first more2 k ≡ seen_first taken k
  first_same k = seen_first_push taken message k ∙ ap (λ c. some_or (seen_first taken k) (shown_first k c message.reply)) call ∙ some_or_none (seen_first taken k)

  pub needed_same : (k : Key) → needed keys more2 k ≡ needed keys taken k
  unfolding needed
  needed_same k = ap greatest (map_alike (λ other. stamp_for k (seen_first more2 other)) (λ other. stamp_for k (seen_first taken other)) (λ other. ap (stamp_for k) (first_same other)) keys)

  pub complete_same : round_one_complete keys more2 ≡ round_one_complete keys taken
  complete_same = all_alike (is_shown more2) (is_shown taken) (λ k. ap is_some (first_same k)) keys

  shows_same : (s : Stamp) (ws : List Key) → list_any (λ m. shows_writes s ws m.call m.reply) more2 ≡ list_any (λ m. shows_writes s ws m.call m.reply) taken
  shows_same s ws = any_same (λ m. shows_writes s ws m.call m.reply) taken message (ap (λ c. shows_writes s ws c message.reply) call)

  second_with : (k : Key) → seen_second more2 k (needed keys more2 k) ≡ some_or (seen_second taken k (needed keys taken k)) (cond (bytes_eq key k) (Some version) None)
  second_with k =
      ap (seen_second more2 k) (needed_same k) ∙ seen_second_push taken message k (needed keys taken k)
      ∙ ap (λ c. some_or (seen_second taken k (needed keys taken k)) (shown_second k (needed keys taken k) c message.reply)) call
      ∙ ap (λ r. some_or (seen_second taken k (needed keys taken k)) (shown_second k (needed keys taken k) (Get key (Some asked)) r)) replied
      ∙ ap (λ b. some_or (seen_second taken k (needed keys taken k)) (cond b (Some version) None)) (go (bytes_eq key k) refl)
    where
      go : (b : Bool) → bytes_eq key k ≡ b → (b && (asked == needed keys taken k)) ≡ b
      go true e = eq-eqb asked (needed keys taken k) (ap (needed keys taken) (key_is key k e))
      go false e = refl

  pub second_slots : map (with_second key version) (map (slot_after keys taken) keys) ≡ map (slot_after keys more2) keys
  second_slots =
      map_again (with_second key version) (slot_after keys taken) (slot_after keys more2)
      (λ k i. record {
        key = k;
        first = sym (first_same k) i;
        second = (ap (λ b. some_or (seen_second taken k (needed keys taken k)) (cond b (Some version) None)) (keys_flip k key) ∙ sym (second_with k)) i;
      }) keys

  honest_parts : (version.stamp ≡ asked) × (list_any (λ m. shows_writes asked version.writes m.call m.reply) more2 ≡ true)
  honest_parts =
      let parts = or_parts (not (bytes_eq version.key key)) _ honest in
      let others = or_parts (not (version.stamp == asked)) _ parts.1 in
      (eqb-true version.stamp asked (not-false (version.stamp == asked) others.0), not-false (list_any (λ m. shows_writes asked version.writes m.call m.reply) more2) others.1)

  -- what is now seen in round two was seen before, or is this
  either : (P : Record → Type 0) (k : Key) (w : Record) → seen_second more2 k (needed keys more2 k) ≡ Some w → (seen_second taken k (needed keys taken k) ≡ Some w → P w) → (k ≡ key → version ≡ w → P w) → P w
  either P k w is before now = go (seen_second taken k (needed keys taken k)) refl (bytes_eq key k) refl (sym (second_with k) ∙ is)
    where
      go : (o : Option Record) → seen_second taken k (needed keys taken k) ≡ o → (b : Bool) → bytes_eq key k ≡ b → some_or o (cond b (Some version) None) ≡ Some w → P w
      go (Some u) e b f got = before (e ∙ got)
      go None e true f got = now (sym (key_is key k f)) cc
      go None e false f got = cc

  pub second_orderly : IsOrderly keys more2
  second_orderly = record {
    all_true =
        any_push (λ m. is_last_reply more2 m.call m.reply) taken message
        ∙ ap (λ b. b || is_last_reply more2 message.call message.reply) (same_shows more2 taken taken shows_same ∙ ord.all_true)
        ∙ ap (λ c. is_last_reply more2 c message.reply) call ∙ ap (is_last_reply more2 (Get key (Some asked))) replied ∙ honest;
    first_answers = λ p k.
        any_same (λ (m : Message). same_place p (Get k None) m.partition m.call) taken message (ap (λ c. same_place p (Get k None) message.partition c) call)
        ∙ ord.first_answers p k ∙ sym (ap is_some (first_same k));
    second_answers = λ p k s.
        any_push (λ (m : Message). same_place p (Get k (Some s)) m.partition m.call) taken message
        ∙ ap (λ b. b || same_place p (Get k (Some s)) message.partition message.call) (ord.second_answers p k s)
        ∙ ap (λ c. is_some (seen_second taken k (needed keys taken k)) || same_place p (Get k (Some s)) message.partition c) call
        ∙ ap (λ b. is_some (seen_second taken k (needed keys taken k)) || b) (keys_flip k key)
        ∙ sym (ap is_some (second_with k) ∙ is_some-cond (seen_second taken k (needed keys taken k)) (bytes_eq key k) version);
    in_order = λ early p k s. let known = complete_same in cc;
    first_writes = λ s ws.
        shows_same s ws ∙ ord.first_writes s ws
        ∙ any_alike (λ k. first_shows s ws (seen_first taken k)) (λ k. first_shows s ws (seen_first more2 k)) (λ k. ap (first_shows s ws) (sym (first_same k))) keys;
    second_stamps = λ k w is.
        either (λ u. u.stamp ≡ needed keys more2 k) k w is
        (λ before. ord.second_stamps k w before ∙ sym (needed_same k))
        (λ same now. ap (λ u. u.stamp) (sym now) ∙ honest_parts.0 ∙ ap (needed keys taken) (sym same) ∙ sym (needed_same k));
    second_writes = λ k w is.
        either (λ u. list_any (λ m. shows_writes (needed keys more2 k) u.writes m.call m.reply) more2 ≡ true) k w is
        (λ before. ap (λ s. list_any (λ m. shows_writes s w.writes m.call m.reply) more2) (needed_same k) ∙ shows_same (needed keys taken k) w.writes ∙ ord.second_writes k w before)
        (λ same now.
        ap (λ s. list_any (λ m. shows_writes s w.writes m.call m.reply) more2) (needed_same k ∙ ap (needed keys taken) same)
        ∙ ap (λ (u : Record). list_any (λ m. shows_writes asked u.writes m.call m.reply) more2) (sym now) ∙ honest_parts.1);
  }
