-- What a reader's slots say is what the replies show.
use Rattle.std.proofs.Common.{◌≡◌, ℕ, max, List, [], ◌∷◌, Bool, true, false, ◌&&◌, ◌||◌, not, map, filter, ap, sym, ◌∙◌, refl, cond}
use Rattle.std.specs.Prelude.{nat_lt, is_some, bytes_eq}
use Rattle.std.specs.List.{list_any, list_all}
use Rattle.stamps.specs.Stamp.{greatest_by}
use Rattle.stamps.specs.WriteSet.{contains_key}
use Rattle.plain_store.specs.declared.message.Message.{Message}
use Rattle.plain_store.specs.Words.{Key, Stamp, Setup}
use Rattle.plain_store.specs.Rounds.{seen_first, seen_second, needed, first_stamp, is_late, late_keys, stamp_for, stamp_seen, round_one_complete, round_two_complete, second_calls, version_read, reading_of, readings, flat}
use Rattle.plain_store.proofs.ListTests.{any-map, all-map, map_again, filter_alike, all_alike, any_alike, any-filter, all-filter, filter-map}
use Rattle.plain_store.proofs.Stamps.{key_is}
use Rattle.get_all.specs.ReadProgress.{needed_by, is_late_by, has_first, is_answered_by, awaits_first, awaits_second, late_of, late_by, version_by, readings_by, first_shows}
use Rattle.get_all.specs.Reader.{slot_after, ask_for}
use Rattle.get_all.specs.declared.read_progress.KeyProgress.{KeyProgress}

-- some key is this one and passes: this one passes, and is among them
pub any_key : (P : Key → Bool) (key : Key) (keys : List Key) → list_any (λ k. bytes_eq k key && P k) keys ≡ (contains_key keys key && P key)
any_key P key [] = refl
any_key P key (k ∷ ks) = go (bytes_eq k key) refl (any_key P key ks)
  where
    first : (x c : Bool) → (x || (c && x)) ≡ x
    first true c = refl
    first false true = refl
    first false false = refl

    go : (b : Bool) → bytes_eq k key ≡ b → list_any (λ j. bytes_eq j key && P j) ks ≡ (contains_key ks key && P key)
        → ((b && P k) || list_any (λ j. bytes_eq j key && P j) ks) ≡ ((b || contains_key ks key) && P key)
    go true e rest =
        ap (λ j. P j || list_any (λ j. bytes_eq j key && P j) ks) (key_is k key e) ∙ ap (λ b. P key || b) rest ∙ first (P key) (contains_key ks key)
    go false e rest = rest

pub greatest_by-map : {X Y : Type 0} (f : Y → ℕ) (g : X → Y) (xs : List X) → greatest_by f (map g xs) ≡ greatest_by (λ x. f (g x)) xs
greatest_by-map f g [] = refl
greatest_by-map f g (x ∷ xs) = ap (max (f (g x))) (greatest_by-map f g xs)

module _ (keys : List Key) (taken : List Message) where
  abbrev pub slots_after : List KeyProgress
  slots_after = map (slot_after keys taken) keys

  pub needed_is : (key : Key) → needed_by slots_after key ≡ needed keys taken key
  unfolding needed
  needed_is key =
      greatest_by-map (λ (slot : KeyProgress). stamp_for key slot.first) (slot_after keys taken) keys
      ∙ sym (greatest_by-map (λ s. s) (λ (other : Key). stamp_for key (seen_first taken other)) keys)

  pub late_is : (key : Key) → is_late_by slots_after (slot_after keys taken key) ≡ is_late keys taken key
  unfolding first_stamp
  late_is key = ap (nat_lt (stamp_seen (seen_first taken key))) (needed_is key)

  pub shown_is : list_all has_first slots_after ≡ round_one_complete keys taken
  shown_is = all-map has_first (slot_after keys taken) keys

  pub answered_is : list_all (is_answered_by slots_after) slots_after ≡ round_two_complete keys taken
  answered_is =
      all-map (is_answered_by slots_after) (slot_after keys taken) keys
      ∙ all_alike (λ key. is_answered_by slots_after (slot_after keys taken key)) (λ key. not (is_late keys taken key) || is_some (seen_second taken key (needed keys taken key)))
      (λ key. ap (λ b. not b || is_some (seen_second taken key (needed keys taken key))) (late_is key)) keys
      ∙ sym (all-filter (λ key. is_some (seen_second taken key (needed keys taken key))) (is_late keys taken) keys)

  late_found : filter (is_late_by slots_after) slots_after ≡ map (slot_after keys taken) (late_keys keys taken)
  late_found =
      filter-map (is_late_by slots_after) (slot_after keys taken) keys
      ∙ ap (map (slot_after keys taken)) (filter_alike (λ key. is_late_by slots_after (slot_after keys taken key)) (is_late keys taken) late_is keys)

  pub asked_is : (setup : Setup) → map (ask_for setup) (late_by slots_after) ≡ second_calls setup keys taken
  asked_is setup =
      ap (λ slots. map (ask_for setup) (map (late_of slots_after) slots)) late_found
      ∙ ap (map (ask_for setup)) (map_again (late_of slots_after) (slot_after keys taken) (λ (key : Key). record { key = key; stamp = needed keys taken key })
      (λ key i. record { key = key; stamp = needed_is key i }) (late_keys keys taken))
      ∙ map_again (ask_for setup) (λ (key : Key). record { key = key; stamp = needed keys taken key }) _ (λ key. refl) (late_keys keys taken)

  version_is : (key : Key) → version_by slots_after (slot_after keys taken key) ≡ version_read keys taken key
  version_is key = ap (λ b. cond b (seen_second taken key (needed keys taken key)) (flat (seen_first taken key))) (late_is key)

  pub readings_is : readings_by slots_after ≡ readings keys taken
  readings_is =
      map_again (λ (slot : KeyProgress). reading_of slot.key (version_by slots_after slot)) (slot_after keys taken) (λ (key : Key). reading_of key (version_read keys taken key))
      (λ key. ap (reading_of key) (version_is key)) keys

  pub awaiting_first : (key : Key) → list_any (awaits_first key) slots_after ≡ (contains_key keys key && not (is_some (seen_first taken key)))
  awaiting_first key = any-map (awaits_first key) (slot_after keys taken) keys ∙ any_key (λ k. not (is_some (seen_first taken k))) key keys

  pub late_key_is : (key : Key) → contains_key (late_keys keys taken) key ≡ (contains_key keys key && is_late keys taken key)
  late_key_is key = any-filter (λ k. bytes_eq k key) (is_late keys taken) keys ∙ any_key (is_late keys taken) key keys

  pub awaiting_second : (key : Key)
      → list_any (awaits_second slots_after key) slots_after ≡ (contains_key (late_keys keys taken) key && not (is_some (seen_second taken key (needed keys taken key))))
  awaiting_second key =
      let answered = λ (k : Key). is_some (seen_second taken k (needed keys taken k)) in
      any-map (awaits_second slots_after key) (slot_after keys taken) keys
      ∙ any_alike (λ k. awaits_second slots_after key (slot_after keys taken k)) (λ k. bytes_eq k key && (is_late keys taken k && not (answered k)))
      (λ k. ap (λ b. bytes_eq k key && b && not (answered k)) (late_is k) ∙ regroup (bytes_eq k key) (is_late keys taken k) (not (answered k))) keys
      ∙ any_key (λ k. is_late keys taken k && not (answered k)) key keys
      ∙ sym (regroup (contains_key keys key) (is_late keys taken key) (not (answered key)))
      ∙ ap (λ b. b && not (answered key)) (sym (late_key_is key))
    where
      regroup : (x y z : Bool) → ((x && y) && z) ≡ (x && (y && z))
      regroup true y z = refl
      regroup false y z = refl

  pub shows_is : (s : Stamp) (writes : List Key)
      → list_any (λ (slot : KeyProgress). first_shows s writes slot.first) slots_after ≡ list_any (λ key. first_shows s writes (seen_first taken key)) keys
  shows_is s writes = any-map (λ (slot : KeyProgress). first_shows s writes slot.first) (slot_after keys taken) keys
