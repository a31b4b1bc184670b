-- What each answer of a writer is to the replies that it took.
use Rattle.std.proofs.Common.{◌≡◌, ℕ, List, [], ◌∷◌, ◌++◌, Bool, true, false, ◌&&◌, ◌||◌, ◌==◌, not, map, ap, sym, ◌∙◌, refl, cond, subst, Option, Some, None, arith, filter, ◌<◌}
use Rattle.std.specs.Prelude.{nat_eq, nat_lt, bytes_eq}
use Rattle.std.specs.List.{list_any, list_all}
use Rattle.std.proofs.lemmas.Bool.{and_parts, and_from, eq-eqb, lt-ltb}
use Rattle.std.proofs.lemmas.Cmp.{nat_eq_equiv, nat_list_eq_equiv}
use Rattle.stamps.specs.Key.{IsTransactionKeys, home_of}
use Rattle.stamps.specs.Record.{Record}
use Rattle.stamps.specs.declared.record.Item.{Item}
use Rattle.stamps.specs.WriteSet.{contains_key}
use Rattle.plain_store.specs.declared.calls.Call.{Call}
use Rattle.plain_store.specs.declared.calls.Call.TheVariants.{Prepare, Commit}
use Rattle.plain_store.specs.declared.calls.PrepareReply.{PrepareReply}
use Rattle.plain_store.specs.declared.calls.PrepareReply.TheVariants.{Prepared}
use Rattle.plain_store.specs.declared.calls.Reply.{Reply}
use Rattle.plain_store.specs.declared.calls.Reply.TheVariants.{Prepare as ToPrepare, Committed as ToCommit}
use Rattle.plain_store.specs.declared.message.Message.{Message}
use Rattle.plain_store.specs.declared.refusal.Refusal.{Refusal}
use Rattle.plain_store.specs.Words.{Key, Stamp, Setup, home}
use Rattle.plain_store.specs.Writing.{keys_written, partitions_written, says_prepared, says_committed, all_prepared, all_committed, commit_calls}
use Rattle.plain_store.specs.Moves.{Waits, Decides, Finishes, Fails, write_move, same_place, is_answered}
use Rattle.plain_store.specs.Finding.{below}
use Rattle.stamps.proofs.KeyLemmas.{home_of-lt}
use Rattle.put_all.proofs.Ascending.{filter-ascending}
use Rattle.put_all.specs.WriteProgress.{is_at, place_for, with_prepared, with_committed, awaits_prepared, awaits_committed}
use Rattle.put_all.specs.Writing.{says_refused, any_refused, has_ended, is_wanted, IsPrepared, IsCommitted}
use Rattle.put_all.specs.Writer.{told, ending_calls, is_reply_of_put, place_after, StandsFor, is_last, TakesWrite}
use Rattle.put_all.specs.declared.write_progress.ItemProgress.{ItemProgress}
use Rattle.put_all.specs.declared.writer.Writer.{Writer}
use Rattle.put_all.specs.declared.writer.WriteMove.{WriteMove}
use Rattle.put_all.specs.declared.writer.WriteMove.TheVariants.{Wait, Decide, Done, Refused, Ignored}
use Rattle.plain_store.proofs.ListTests.{or_parts, or-false, and-true, any_push, all_push, any_same, all_alike, any-map, all-map, map_alike, map_again, filter_alike}
use Rattle.put_all.proofs.Awaited.{any-ascending, all-ascending, any_awaited, any_number_awaited}

-- whether the replies say that the key's PREPARE was accepted, and that the partition's COMMIT was done
abbrev prepared_in : Stamp → List Message → Key → Bool
prepared_in stamp taken key = list_any (λ message. says_prepared stamp key message.call message.reply) taken

abbrev committed_in : Stamp → List Message → ℕ → Bool
committed_in stamp taken partition = list_any (λ message. says_committed stamp partition message.partition message.call message.reply) taken

abbrev are_replies : Stamp → List Message → Bool
are_replies stamp taken = list_all (λ message. is_reply_of_put stamp message.call message.reply) taken

-- ---- a call was answered where a reply says so

answered_prepare : (stamp : Stamp) (p : ℕ) (v : Record) (taken : List Message) → are_replies stamp taken ≡ true → any_refused taken ≡ false
    → is_answered taken p (Prepare v) ≡ prepared_in stamp taken v.key
answered_prepare stamp p v [] own accepted = refl
answered_prepare stamp p v (m ∷ ms) own accepted =
    let o = and_parts _ _ own in
    let a = or_parts _ _ accepted in
    ap (λ b. b || is_answered ms p (Prepare v)) (one m.call m.reply o.0 a.0)
    ∙ ap (λ b. says_prepared stamp v.key m.call m.reply || b) (answered_prepare stamp p v ms o.1 a.1)
  where
    one : (call : Call) (reply : Option Reply) → is_reply_of_put stamp call reply ≡ true → says_refused call reply ≡ false
        → same_place p (Prepare v) m.partition call ≡ says_prepared stamp v.key call reply
    one (Prepare w) (Some (ToPrepare Prepared)) of_stamp fine =
        nat_list_eq_equiv.symm v.key w.key ∙ sym (ap (λ b. bytes_eq w.key v.key && b) of_stamp ∙ and-true (bytes_eq w.key v.key))
    one (Prepare w) (Some (ToPrepare reply)) of_stamp fine = cc
    one (Prepare w) reply of_stamp fine = cc
    one call reply of_stamp fine = refl

answered_commit : (stamp : Stamp) (p : ℕ) (s : Stamp) (taken : List Message) → are_replies stamp taken ≡ true
    → is_answered taken p (Commit s) ≡ committed_in stamp taken p
answered_commit stamp p s [] own = refl
answered_commit stamp p s (m ∷ ms) own =
    let o = and_parts _ _ own in
    ap (λ b. b || is_answered ms p (Commit s)) (one m.call m.reply o.0)
    ∙ ap (λ b. says_committed stamp p m.partition m.call m.reply || b) (answered_commit stamp p s ms o.1)
  where
    one : (call : Call) (reply : Option Reply) → is_reply_of_put stamp call reply ≡ true
        → same_place p (Commit s) m.partition call ≡ says_committed stamp p m.partition call reply
    one (Commit t) (Some (ToCommit count)) of_stamp =
        nat_eq_equiv.symm p m.partition ∙ sym (ap (λ b. b && (m.partition == p)) of_stamp)
    one (Commit t) reply of_stamp = cc
    one call reply of_stamp = refl

-- a reply to the PREPARE of the key, by its name
named_prepared : (stamp : Stamp) (key : Key) (said reply : PrepareReply) (message : Message) → IsPrepared stamp key said message → said ≡ reply → IsPrepared stamp key reply message
named_prepared stamp key said reply message told named = let P : PrepareReply → Type 0 = λ r. IsPrepared stamp key r message in subst P named told

-- ---- what the places say

module _ (setup : Setup) (stamp : Stamp) (items : List Item) where
  prepared_places : (taken : List Message) → list_all (λ (place : ItemProgress). place.is_prepared) (map (place_after setup stamp taken) items) ≡ all_prepared stamp items taken
  prepared_places taken = all-map (λ (place : ItemProgress). place.is_prepared) (place_after setup stamp taken) items

  committed_places : (taken : List Message) → list_all (λ (place : ItemProgress). place.is_committed) (map (place_after setup stamp taken) items) ≡ all_committed setup stamp items taken
  committed_places taken =
      all-map (λ (place : ItemProgress). place.is_committed) (place_after setup stamp taken) items
      ∙ sym (all-map (committed_in stamp taken) (λ (item : Item). home setup item.key) items)
      ∙ sym (all-ascending (committed_in stamp taken) (map (λ (item : Item). home setup item.key) items))

  awaiting_prepared : (taken : List Message) (key : Key)
      → list_any (awaits_prepared key) (map (place_after setup stamp taken) items) ≡ (contains_key (keys_written items) key && not (prepared_in stamp taken key))
  awaiting_prepared taken key =
      any-map (awaits_prepared key) (place_after setup stamp taken) items ∙ any_awaited (prepared_in stamp taken) key items

  awaiting_committed : (taken : List Message) (partition : ℕ)
      → list_any (awaits_committed partition) (map (place_after setup stamp taken) items) ≡ (list_any (λ p. nat_eq p partition) (partitions_written setup items) && not (committed_in stamp taken partition))
  awaiting_committed taken partition =
      let homes = map (λ (item : Item). home setup item.key) items in
      any-map (awaits_committed partition) (place_after setup stamp taken) items
      ∙ sym (any-map (λ p. (p == partition) && not (committed_in stamp taken p)) (λ (item : Item). home setup item.key) items)
      ∙ any_number_awaited (committed_in stamp taken) partition homes
      ∙ ap (λ b. b && not (committed_in stamp taken partition)) (sym (any-ascending (λ p. nat_eq p partition) homes))

  -- a message that says nothing of either changes no place
  same_places : (taken : List Message) (message : Message) → ((key : Key) → says_prepared stamp key message.call message.reply ≡ false)
      → ((p : ℕ) → says_committed stamp p message.partition message.call message.reply ≡ false)
      → map (place_after setup stamp taken) items ≡ map (place_after setup stamp (taken ++ message ∷ [])) items
  same_places taken message none never =
      map_alike (place_after setup stamp taken) (place_after setup stamp (taken ++ message ∷ []))
      (λ item i. record {
        key = item.key;
        home = home setup item.key;
        is_prepared = sym (any_same (λ m. says_prepared stamp item.key m.call m.reply) taken message (none item.key)) i;
        is_committed = sym (any_same (λ m. says_committed stamp (home setup item.key) m.partition m.call m.reply) taken message (never (home setup item.key))) i;
      }) items

  -- the reply that says that a PREPARE was accepted marks its key
  marked_prepared : (taken : List Message) (message : Message) (key : Key) → IsPrepared stamp key Prepared message
      → map (with_prepared key) (map (place_after setup stamp taken) items) ≡ map (place_after setup stamp (taken ++ message ∷ [])) items
  marked_prepared taken message key is =
      map_again (with_prepared key) (place_after setup stamp taken) (place_after setup stamp (taken ++ message ∷ []))
      (λ item i. record {
        key = item.key;
        home = home setup item.key;
        is_prepared = sym (any_push (λ m. says_prepared stamp item.key m.call m.reply) taken message ∙ ap (λ b. prepared_in stamp taken item.key || b) (says item.key)) i;
        is_committed = sym (any_same (λ m. says_committed stamp (home setup item.key) m.partition m.call m.reply) taken message (never (home setup item.key))) i;
      }) items
    where
      says : (k : Key) → says_prepared stamp k message.call message.reply ≡ bytes_eq k key
      says k =
          ap (λ call. says_prepared stamp k call message.reply) is.call ∙ ap (says_prepared stamp k (Prepare is.version)) is.replied
          ∙ ap (λ b. bytes_eq is.version.key k && b) (eq-eqb is.version.stamp stamp is.of_stamp) ∙ and-true (bytes_eq is.version.key k)
          ∙ ap (λ j. bytes_eq j k) is.of_key ∙ nat_list_eq_equiv.symm key k

      never : (p : ℕ) → says_committed stamp p message.partition message.call message.reply ≡ false
      never p = ap (λ call. says_committed stamp p message.partition call message.reply) is.call

  -- and the reply to a COMMIT marks its partition
  marked_committed : (taken : List Message) (message : Message) (partition : ℕ) → IsCommitted stamp partition message
      → map (with_committed partition) (map (place_after setup stamp taken) items) ≡ map (place_after setup stamp (taken ++ message ∷ [])) items
  marked_committed taken message partition is =
      map_again (with_committed partition) (place_after setup stamp taken) (place_after setup stamp (taken ++ message ∷ []))
      (λ item i. record {
        key = item.key;
        home = home setup item.key;
        is_prepared = sym (any_same (λ m. says_prepared stamp item.key m.call m.reply) taken message (none item.key)) i;
        is_committed = sym (any_push (λ m. says_committed stamp (home setup item.key) m.partition m.call m.reply) taken message ∙ ap (λ b. committed_in stamp taken (home setup item.key) || b) (says (home setup item.key))) i;
      }) items
    where
      says : (p : ℕ) → says_committed stamp p message.partition message.call message.reply ≡ (p == partition)
      says p =
          ap (λ call. says_committed stamp p message.partition call message.reply) is.call ∙ ap (says_committed stamp p message.partition (Commit stamp)) is.replied
          ∙ ap (λ b. b && (message.partition == p)) (eq-eqb stamp stamp refl) ∙ ap (λ q. q == p) is.at ∙ nat_eq_equiv.symm partition p

      none : (k : Key) → says_prepared stamp k message.call message.reply ≡ false
      none k = ap (λ call. says_prepared stamp k call message.reply) is.call

  -- ---- whether a reply is waited for

  pub wanted_prepare : (w : Writer) (taken : List Message) → StandsFor setup stamp items w taken → (key : Key) (reply : PrepareReply) (message : Message) → IsPrepared stamp key reply message
      → is_wanted setup stamp items taken message.partition message.call ≡ (not w.has_ended && list_any (awaits_prepared key) w.places)
  wanted_prepare w taken s key reply message is =
      ap (is_wanted setup stamp items taken message.partition) is.call
      ∙ ap (λ b. not b && (contains_key (keys_written items) is.version.key && not (is_answered taken message.partition (Prepare is.version)))) (sym s.ended)
      ∙ go w.has_ended refl
    where
      go : (b : Bool) → w.has_ended ≡ b
          → (not b && (contains_key (keys_written items) is.version.key && not (is_answered taken message.partition (Prepare is.version)))) ≡ (not b && list_any (awaits_prepared key) w.places)
      go true e = refl
      go false e =
          let open_yet = or_parts (any_refused taken) (all_committed setup stamp items taken) (sym s.ended ∙ e) in
          ap (λ b. contains_key (keys_written items) is.version.key && not b) (answered_prepare stamp message.partition is.version taken s.replies open_yet.0)
          ∙ ap (λ k. contains_key (keys_written items) k && not (prepared_in stamp taken k)) is.of_key
          ∙ sym (ap (list_any (awaits_prepared key)) s.places ∙ awaiting_prepared taken key)

  pub wanted_commit : (w : Writer) (taken : List Message) → StandsFor setup stamp items w taken → (partition : ℕ) (message : Message) → IsCommitted stamp partition message
      → is_wanted setup stamp items taken message.partition message.call
      ≡ (not w.has_ended && (list_all (λ (place : ItemProgress). place.is_prepared) w.places && list_any (awaits_committed partition) w.places))
  wanted_commit w taken s partition message is =
      let at = is.at in
      let ready = sym (ap (list_all (λ (place : ItemProgress). place.is_prepared)) s.places ∙ prepared_places taken) in
      let waits = sym (ap (list_any (awaits_committed partition)) s.places ∙ awaiting_committed taken partition) in
      let known = λ (p : ℕ). list_any (λ q. nat_eq q p) (partitions_written setup items) in
      ap (is_wanted setup stamp items taken message.partition) is.call
      ∙ ap (λ b. not b && ((all_prepared stamp items taken && known message.partition) && not (is_answered taken message.partition (Commit stamp)))) (sym s.ended)
      ∙ ap (λ b. not w.has_ended && ((all_prepared stamp items taken && known message.partition) && not b)) (answered_commit stamp message.partition stamp taken s.replies)
      ∙ ap (λ p. not w.has_ended && ((all_prepared stamp items taken && known p) && not (committed_in stamp taken p))) at
      ∙ ap (λ b. not w.has_ended && b) (regroup (all_prepared stamp items taken) (known partition) (not (committed_in stamp taken partition)))
      ∙ ap (λ b. not w.has_ended && (b && (known partition && not (committed_in stamp taken partition)))) ready
      ∙ ap (λ b. not w.has_ended && (list_all (λ (place : ItemProgress). place.is_prepared) w.places && b)) waits
    where
      regroup : (x y z : Bool) → ((x && y) && z) ≡ (x && (y && z))
      regroup true y z = refl
      regroup false y z = refl

  -- ---- the answers

  module _ (taken : List Message) (message : Message) where
    pub ignores : (w : Writer) → StandsFor setup stamp items w taken → is_wanted setup stamp items taken message.partition message.call ≡ false
        → TakesWrite setup stamp items taken message Ignored w
    ignores w s unwanted =
        let move = write_move setup stamp items (taken ++ message ∷ []) message.call message.reply in
        let P : Bool → Type 0 = λ b. StandsFor setup stamp items w (cond b (taken ++ message ∷ []) taken) in
        record {
          answered = sym (ap (λ b. cond b (Some move) None) unwanted);
          stands = subst P (sym unwanted) s;
          last = ap (λ b. has_ended setup stamp items (cond b (taken ++ message ∷ []) taken)) unwanted ∙ sym (or-false (has_ended setup stamp items taken));
        }

    takes : (answer : WriteMove) (after : Writer) → is_wanted setup stamp items taken message.partition message.call ≡ true
        → told setup stamp items answer ≡ Some (write_move setup stamp items (taken ++ message ∷ []) message.call message.reply)
        → StandsFor setup stamp items after (taken ++ message ∷ []) → after.has_ended ≡ is_last answer → TakesWrite setup stamp items taken message answer after
    takes answer after wanted moves s over =
        let move = write_move setup stamp items (taken ++ message ∷ []) message.call message.reply in
        let P : Bool → Type 0 = λ b. StandsFor setup stamp items after (cond b (taken ++ message ∷ []) taken) in
        record {
          answered = moves ∙ sym (ap (λ b. cond b (Some move) None) wanted);
          stands = subst P (sym wanted) s;
          last =
              ap (λ b. has_ended setup stamp items (cond b (taken ++ message ∷ []) taken)) wanted ∙ sym s.ended ∙ over
              ∙ sym (ap (λ b. b || is_last answer) (open_if (has_ended setup stamp items taken) _ wanted));
        }
      where
        open_if : (x y : Bool) → (not x && y) ≡ true → x ≡ false
        open_if true y h = cc
        open_if false y h = refl

    refused_with : (b : Bool) → says_refused message.call message.reply ≡ b → any_refused (taken ++ message ∷ []) ≡ (any_refused taken || b)
    refused_with b says = any_push (λ m. says_refused m.call m.reply) taken message ∙ ap (λ c. any_refused taken || c) says

    replies_with : are_replies stamp taken ≡ true → is_reply_of_put stamp message.call message.reply ≡ true → are_replies stamp (taken ++ message ∷ []) ≡ true
    replies_with own of_stamp = all_push (λ m. is_reply_of_put stamp m.call m.reply) taken message ∙ ap (λ b. b && is_reply_of_put stamp message.call message.reply) own ∙ of_stamp

    -- a reply to a PREPARE
    module _ (key : Key) (reply : PrepareReply) (is : IsPrepared stamp key reply message) where
      of_prepare : is_reply_of_put stamp message.call message.reply ≡ true
      of_prepare =
          ap (λ call. is_reply_of_put stamp call message.reply) is.call ∙ ap (is_reply_of_put stamp (Prepare is.version)) is.replied ∙ eq-eqb is.version.stamp stamp is.of_stamp

      prepare_move : write_move setup stamp items (taken ++ message ∷ []) message.call message.reply ≡ write_move setup stamp items (taken ++ message ∷ []) (Prepare is.version) (Some (ToPrepare reply))
      prepare_move =
          ap (λ call. write_move setup stamp items (taken ++ message ∷ []) call message.reply) is.call
          ∙ ap (write_move setup stamp items (taken ++ message ∷ []) (Prepare is.version)) is.replied

      refused_says : says_refused message.call message.reply ≡ says_refused (Prepare is.version) (Some (ToPrepare reply))
      refused_says = ap (λ call. says_refused call message.reply) is.call ∙ ap (says_refused (Prepare is.version)) is.replied

      commits_stay : all_committed setup stamp items (taken ++ message ∷ []) ≡ all_committed setup stamp items taken
      commits_stay =
          all_alike (committed_in stamp (taken ++ message ∷ [])) (committed_in stamp taken)
          (λ p. any_same (λ m. says_committed stamp p m.partition m.call m.reply) taken message (ap (λ call. says_committed stamp p message.partition call message.reply) is.call))
          (partitions_written setup items)

    pub takes_prepared : (w after : Writer) → StandsFor setup stamp items w taken → (key : Key) (said : PrepareReply) → IsPrepared stamp key said message → said ≡ Prepared
        → w.has_ended ≡ false → list_any (awaits_prepared key) w.places ≡ true
        → after.stamp ≡ w.stamp → after.parts ≡ w.parts → after.has_ended ≡ false → after.places ≡ map (with_prepared key) w.places
        → (answer : WriteMove) → answer ≡ cond (list_all (λ (place : ItemProgress). place.is_prepared) after.places) Decide Wait
        → TakesWrite setup stamp items taken message answer after
    takes_prepared w after s key said got named going awaited stamped parts goes marked answer told_is =
        let is = named_prepared stamp key said Prepared message got named in
        let placed : after.places ≡ map (place_after setup stamp (taken ++ message ∷ [])) items =
        marked ∙ ap (map (with_prepared key)) s.places ∙ marked_prepared taken message key is in
        let open_yet = or_parts (any_refused taken) (all_committed setup stamp items taken) (sym s.ended ∙ going) in
        let not_refused : any_refused (taken ++ message ∷ []) ≡ false =
        refused_with false (refused_says key Prepared is) ∙ or-false (any_refused taken) ∙ open_yet.0 in
        takes answer after
        (wanted_prepare w taken s key Prepared message is ∙ ap (λ b. not b && list_any (awaits_prepared key) w.places) going ∙ awaited)
        (ap (told setup stamp items) told_is
        ∙ ap (λ b. told setup stamp items (cond b Decide Wait)) (ap (list_all (λ (place : ItemProgress). place.is_prepared)) placed ∙ prepared_places (taken ++ message ∷ []))
        ∙ told_cond (all_prepared stamp items (taken ++ message ∷ [])) ∙ ap Some (sym (prepare_move key Prepared is)))
        (record {
          stamped = stamped ∙ s.stamped;
          parts = parts ∙ s.parts;
          places = placed;
          ended = goes ∙ sym (ap (λ b. b || all_committed setup stamp items (taken ++ message ∷ [])) not_refused ∙ commits_stay key Prepared is ∙ open_yet.1);
          replies = replies_with s.replies (of_prepare key Prepared is);
        })
        (goes ∙ sym (ap is_last told_is ∙ goes_on (list_all (λ (place : ItemProgress). place.is_prepared) after.places)))
      where
        goes_on : (b : Bool) → is_last (cond b Decide Wait) ≡ false
        goes_on true = refl
        goes_on false = refl

        told_cond : (b : Bool) → told setup stamp items (cond b Decide Wait) ≡ Some (cond b (Decides stamp (commit_calls setup stamp items)) Waits)
        told_cond true = refl
        told_cond false = refl

    pub takes_refused : (w after : Writer) → StandsFor setup stamp items w taken → (key : Key) (said reply : PrepareReply) (refusal : Refusal) → IsPrepared stamp key said message → said ≡ reply
        → ((v : Record) → says_refused (Prepare v) (Some (ToPrepare reply)) ≡ true)
        → ((v : Record) (k : Key) → says_prepared stamp k (Prepare v) (Some (ToPrepare reply)) ≡ false)
        → ((v : Record) (replies : List Message) → write_move setup stamp items replies (Prepare v) (Some (ToPrepare reply)) ≡ Fails refusal (ending_calls setup stamp items refusal))
        → w.has_ended ≡ false → list_any (awaits_prepared key) w.places ≡ true
        → after ≡ record w { has_ended = true } → (answer : WriteMove) → answer ≡ Refused refusal → TakesWrite setup stamp items taken message answer after
    takes_refused w after s key said reply refusal got named refuses accepts_not fails going awaited ended answer told_is =
        let is = named_prepared stamp key said reply message got named in
        let refused : any_refused (taken ++ message ∷ []) ≡ true =
        refused_with true (refused_says key reply is ∙ refuses is.version) ∙ or_true (any_refused taken) in
        takes answer after
        (wanted_prepare w taken s key reply message is ∙ ap (λ b. not b && list_any (awaits_prepared key) w.places) going ∙ awaited)
        (ap (told setup stamp items) told_is ∙ ap Some (sym (prepare_move key reply is ∙ fails is.version (taken ++ message ∷ []))))
        (record {
          stamped = ap (λ x. x.stamp) ended ∙ s.stamped;
          parts = ap (λ x. x.parts) ended ∙ s.parts;
          places = ap (λ x. x.places) ended ∙ s.places ∙ same_places taken message
              (λ k. ap (λ call. says_prepared stamp k call message.reply) is.call ∙ ap (says_prepared stamp k (Prepare is.version)) is.replied ∙ accepts_not is.version k)
              (λ p. ap (λ call. says_committed stamp p message.partition call message.reply) is.call);
          ended = ap (λ x. x.has_ended) ended ∙ sym (ap (λ b. b || all_committed setup stamp items (taken ++ message ∷ [])) refused);
          replies = replies_with s.replies (of_prepare key reply is);
        })
        (ap (λ x. x.has_ended) ended ∙ sym (ap is_last told_is))
      where
        or_true : (b : Bool) → (b || true) ≡ true
        or_true true = refl
        or_true false = refl

    pub takes_committed : (w after : Writer) → StandsFor setup stamp items w taken → (partition : ℕ) → IsCommitted stamp partition message
        → w.has_ended ≡ false → list_all (λ (place : ItemProgress). place.is_prepared) w.places ≡ true → list_any (awaits_committed partition) w.places ≡ true
        → after.stamp ≡ w.stamp → after.parts ≡ w.parts → after.places ≡ map (with_committed partition) w.places
        → after.has_ended ≡ list_all (λ (place : ItemProgress). place.is_committed) after.places
        → (answer : WriteMove) → answer ≡ cond (list_all (λ (place : ItemProgress). place.is_committed) after.places) (Done w.stamp) Wait
        → TakesWrite setup stamp items taken message answer after
    takes_committed w after s partition is going ready awaited stamped parts marked ends answer told_is =
        let placed : after.places ≡ map (place_after setup stamp (taken ++ message ∷ [])) items =
        marked ∙ ap (map (with_committed partition)) s.places ∙ marked_committed taken message partition is in
        let all_done : list_all (λ (place : ItemProgress). place.is_committed) after.places ≡ all_committed setup stamp items (taken ++ message ∷ []) =
        ap (list_all (λ (place : ItemProgress). place.is_committed)) placed ∙ committed_places (taken ++ message ∷ []) in
        let open_yet = or_parts (any_refused taken) (all_committed setup stamp items taken) (sym s.ended ∙ going) in
        let not_refused : any_refused (taken ++ message ∷ []) ≡ false =
        refused_with false (ap (λ call. says_refused call message.reply) is.call) ∙ or-false (any_refused taken) ∙ open_yet.0 in
        takes answer after
        (wanted_commit w taken s partition message is
        ∙ ap (λ b. not b && (list_all (λ (place : ItemProgress). place.is_prepared) w.places && list_any (awaits_committed partition) w.places)) going
        ∙ ap (λ b. b && list_any (awaits_committed partition) w.places) ready ∙ awaited)
        (ap (told setup stamp items) told_is
        ∙ ap (λ b. told setup stamp items (cond b (Done w.stamp) Wait)) all_done
        ∙ ap (λ t. told setup stamp items (cond (all_committed setup stamp items (taken ++ message ∷ [])) (Done t) Wait)) s.stamped
        ∙ told_cond (all_committed setup stamp items (taken ++ message ∷ []))
        ∙ ap Some (sym (ap (λ call. write_move setup stamp items (taken ++ message ∷ []) call message.reply) is.call ∙ ap (write_move setup stamp items (taken ++ message ∷ []) (Commit stamp)) is.replied)))
        (record {
          stamped = stamped ∙ s.stamped;
          parts = parts ∙ s.parts;
          places = placed;
          ended = ends ∙ all_done ∙ sym (ap (λ b. b || all_committed setup stamp items (taken ++ message ∷ [])) not_refused);
          replies = replies_with s.replies
              (ap (λ call. is_reply_of_put stamp call message.reply) is.call ∙ ap (is_reply_of_put stamp (Commit stamp)) is.replied ∙ eq-eqb stamp stamp refl);
        })
        (ends ∙ sym (ap is_last told_is ∙ done_last (list_all (λ (place : ItemProgress). place.is_committed) after.places)))
      where
        done_last : (b : Bool) → is_last (cond b (Done w.stamp) Wait) ≡ b
        done_last true = refl
        done_last false = refl

        told_cond : (b : Bool) → told setup stamp items (cond b (Done stamp) Wait) ≡ Some (cond b (Finishes stamp) Waits)
        told_cond true = refl
        told_cond false = refl

-- ---- a new writer

pub new_places : (setup : Setup) (stamp : Stamp) (parts : ℕ) → parts ≡ setup.partitions → (items : List Item)
    → map (λ (item : Item). place_for parts item.key) items ≡ map (place_after setup stamp []) items
unfolding home
new_places setup stamp parts same items =
    map_alike (λ (item : Item). place_for parts item.key) (place_after setup stamp [])
    (λ item i. record { key = item.key; home = home_of item.key (same i); is_prepared = false; is_committed = false }) items

pub not_ended : (setup : Setup) (stamp : Stamp) (items : List Item) → IsTransactionKeys (keys_written items) → false ≡ has_ended setup stamp items []
not_ended setup stamp [] keys = absurd (omega (arith, keys.not_empty))
not_ended setup stamp (item ∷ items) keys = sym (all-ascending (λ p. false) (map (λ (other : Item). home setup other.key) (item ∷ items)))

-- ---- the partitions

-- each key is at home below the number of partitions
homes_below : (setup : Setup) → 0 < setup.partitions → (items : List Item) → list_all (λ n. nat_lt n setup.partitions) (map (λ (item : Item). home setup item.key) items) ≡ true
unfolding home
homes_below setup some [] = refl
homes_below setup some (item ∷ items) =
    and_from _ _ (lt-ltb (home_of item.key setup.partitions) setup.partitions (home_of-lt item.key setup.partitions some)) (homes_below setup some items)

pub partitions_found : (setup : Setup) (stamp : Stamp) (items : List Item) (w : Writer) (taken : List Message) → StandsFor setup stamp items w taken
    → filter (λ p. list_any (is_at p) w.places) (below w.parts) ≡ partitions_written setup items
partitions_found setup stamp items w taken s =
    let homes = map (λ (item : Item). home setup item.key) items in
    let some : 0 < setup.partitions = omega (arith, w.parts_in_range.positive, s.parts) in
    ap (λ n. filter (λ p. list_any (is_at p) w.places) (below n)) s.parts
    ∙ ap (λ (places : List ItemProgress). filter (λ p. list_any (is_at p) places) (below setup.partitions)) s.places
    ∙ filter_alike (λ p. list_any (is_at p) (map (place_after setup stamp taken) items)) (λ p. list_any (λ m. m == p) homes)
    (λ p. any-map (is_at p) (place_after setup stamp taken) items ∙ sym (any-map (λ m. m == p) (λ (item : Item). home setup item.key) items)) (below setup.partitions)
    ∙ filter-ascending homes setup.partitions (homes_below setup some items)
