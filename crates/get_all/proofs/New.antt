-- A new reader stands for every list of replies that has none of a read.
use Rattle.std.proofs.Common.{◌≡◌, ℕ, ◌<◌, List, [], ◌∷◌, Bool, true, false, ◌&&◌, ◌||◌, ◌==◌, map, ap, sym, ◌∙◌, refl, arith, Option, Some, None, length}
use Rattle.std.specs.Prelude.{is_some}
use Rattle.std.specs.List.{list_any, list_all}
use Rattle.std.proofs.lemmas.Bool.{and_parts}
use Rattle.plain_store.specs.declared.calls.Call.{Call}
use Rattle.plain_store.specs.declared.calls.Call.TheVariants.{Get}
use Rattle.plain_store.specs.declared.calls.Reply.{Reply}
use Rattle.plain_store.specs.declared.message.Message.{Message}
use Rattle.plain_store.specs.Words.{Key, Stamp}
use Rattle.plain_store.specs.Rounds.{some_or, first_some, shown_first, shown_second, seen_first, seen_second, needed, shows_writes, round_of, is_shown, round_one_complete, round_two_complete}
use Rattle.plain_store.specs.Moves.{same_place}
use Rattle.plain_store.proofs.ListTests.{map_alike}
use Rattle.get_all.specs.ReadProgress.{slot_for, first_shows}
use Rattle.get_all.specs.Reading.{is_last_reply, any_last, has_ended}
use Rattle.get_all.specs.Reader.{is_no_read, slot_after, IsOrderly, StandsFor}
use Rattle.get_all.specs.declared.reader.Reader.{Reader}

-- what fails of every call that is no GET fails of all of them
none_passes : (P : Message → Bool) → ((m : Message) → is_no_read m ≡ true → P m ≡ false) → (taken : List Message) → list_all is_no_read taken ≡ true → list_any P taken ≡ false
none_passes P fails [] none = refl
none_passes P fails (m ∷ ms) none =
    let parts = and_parts (is_no_read m) (list_all is_no_read ms) none in
    ap (λ b. b || list_any P ms) (fails m parts.0) ∙ none_passes P fails ms parts.1

none_shown : {Y : Type 0} (f : Message → Option Y) → ((m : Message) → is_no_read m ≡ true → f m ≡ None) → (taken : List Message) → list_all is_no_read taken ≡ true → first_some f taken ≡ None
none_shown f fails [] none = refl
none_shown f fails (m ∷ ms) none =
    let parts = and_parts (is_no_read m) (list_all is_no_read ms) none in
    ap (λ o. some_or o (first_some f ms)) (fails m parts.0) ∙ none_shown f fails ms parts.1

unshown_first : (key : Key) (call : Call) (reply : Option Reply) → (round_of call == 0) ≡ true → shown_first key call reply ≡ None
unshown_first key (Get k None) reply no_get = cc
unshown_first key (Get k (Some s)) reply no_get = cc
unshown_first key call reply no_get = refl

unshown_second : (key : Key) (s : Stamp) (call : Call) (reply : Option Reply) → (round_of call == 0) ≡ true → shown_second key s call reply ≡ None
unshown_second key s (Get k None) reply no_get = cc
unshown_second key s (Get k (Some t)) reply no_get = cc
unshown_second key s call reply no_get = refl

not_last : (replies : List Message) (call : Call) (reply : Option Reply) → (round_of call == 0) ≡ true → is_last_reply replies call reply ≡ false
not_last replies (Get k None) reply no_get = cc
not_last replies (Get k (Some t)) reply no_get = cc
not_last replies call reply no_get = refl

no_writes : (s : Stamp) (ws : List Key) (call : Call) (reply : Option Reply) → (round_of call == 0) ≡ true → shows_writes s ws call reply ≡ false
no_writes s ws (Get k None) reply no_get = cc
no_writes s ws (Get k (Some t)) reply no_get = cc
no_writes s ws call reply no_get = refl

elsewhere_first : (p : ℕ) (key : Key) (q : ℕ) (call : Call) → (round_of call == 0) ≡ true → same_place p (Get key None) q call ≡ false
elsewhere_first p key q (Get k None) no_get = cc
elsewhere_first p key q (Get k (Some t)) no_get = cc
elsewhere_first p key q call no_get = refl

elsewhere_second : (p : ℕ) (key : Key) (s : Stamp) (q : ℕ) (call : Call) → (round_of call == 0) ≡ true → same_place p (Get key (Some s)) q call ≡ false
elsewhere_second p key s q (Get k None) no_get = cc
elsewhere_second p key s q (Get k (Some t)) no_get = cc
elsewhere_second p key s q call no_get = refl

module _ (taken : List Message) (none : list_all is_no_read taken ≡ true) where
  no_first : (key : Key) → seen_first taken key ≡ None
  unfolding seen_first
  no_first key = none_shown (λ m. shown_first key m.call m.reply) (λ m no_get. unshown_first key m.call m.reply no_get) taken none

  no_second : (key : Key) (s : Stamp) → seen_second taken key s ≡ None
  unfolding seen_second
  no_second key s = none_shown (λ m. shown_second key s m.call m.reply) (λ m no_get. unshown_second key s m.call m.reply no_get) taken none

  none_last : any_last taken taken ≡ false
  none_last = none_passes (λ m. is_last_reply taken m.call m.reply) (λ m no_get. not_last taken m.call m.reply no_get) taken none

  nothing_shows : (s : Stamp) (ws : List Key) (keys : List Key) → list_any (λ key. first_shows s ws (seen_first taken key)) keys ≡ false
  nothing_shows s ws [] = refl
  nothing_shows s ws (key ∷ keys) = ap (λ o. first_shows s ws o || list_any (λ k. first_shows s ws (seen_first taken k)) keys) (no_first key) ∙ nothing_shows s ws keys

  pub new_orderly : (keys : List Key) → IsOrderly keys taken
  new_orderly keys = record {
    all_true = none_last;
    first_answers = λ p key.
        none_passes (λ (m : Message). same_place p (Get key None) m.partition m.call) (λ m no_get. elsewhere_first p key m.partition m.call no_get) taken none ∙ sym (ap is_some (no_first key));
    second_answers = λ p key s.
        none_passes (λ (m : Message). same_place p (Get key (Some s)) m.partition m.call) (λ m no_get. elsewhere_second p key s m.partition m.call no_get) taken none
        ∙ sym (ap is_some (no_second key (needed keys taken key)));
    in_order = λ early p key s. none_passes (λ (m : Message). same_place p (Get key (Some s)) m.partition m.call) (λ m no_get. elsewhere_second p key s m.partition m.call no_get) taken none;
    first_writes = λ s ws. none_passes (λ m. shows_writes s ws m.call m.reply) (λ m no_get. no_writes s ws m.call m.reply no_get) taken none ∙ sym (nothing_shows s ws keys);
    second_stamps = λ key version is. let nothing = no_second key (needed keys taken key) in cc;
    second_writes = λ key version is. let nothing = no_second key (needed keys taken key) in cc;
  }

  pub not_ended : (keys : List Key) → 0 < length keys → has_ended keys taken ≡ false
  not_ended [] some = absurd (omega arith)
  not_ended (key ∷ keys) some =
      ap (λ b. b || (round_one_complete (key ∷ keys) taken && round_two_complete (key ∷ keys) taken)) none_last
      ∙ ap (λ o. (is_some o && list_all (is_shown taken) keys) && round_two_complete (key ∷ keys) taken) (no_first key)

  pub new_stands : (keys : List Key) → 0 < length keys → (r : Reader) → r.slots ≡ map slot_for keys → r.has_ended ≡ false → StandsFor keys r taken
  new_stands keys some r slots going = record {
    ended = going ∙ sym (not_ended keys some);
    holds = λ unended. record {
      slots = slots ∙ map_alike slot_for (slot_after keys taken)
          (λ key i. record { key = key; first = sym (no_first key) i; second = sym (no_second key (needed keys taken key)) i }) keys;
      orderly = new_orderly keys;
    };
  }
