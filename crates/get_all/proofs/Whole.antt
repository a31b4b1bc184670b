-- What a whole read shows is unfractured.
use Rattle.std.proofs.Common.{◌≡◌, ◌≤◌, List, Bool, true, false, ◌==◌, ap, sym, ◌∙◌, refl, cond, arith, Option, Some, None}
use Rattle.std.specs.Prelude.{is_some}
use Rattle.std.proofs.lemmas.Bool.{eqb-true, and_parts, ltb-false}
use Rattle.stamps.specs.Record.{Record}
use Rattle.stamps.specs.WriteSet.{contains_key, keys_eq}
use Rattle.stamps.specs.WriteSetLaws.{keys_eq-Decides}
use Rattle.plain_store.specs.declared.message.Message.{Message}
use Rattle.plain_store.specs.Words.{◌∈◌, Key, Stamp}
use Rattle.plain_store.specs.Rounds.{seen_first, seen_second, needed, first_stamp, is_late, late_keys, stamp_seen, flat, reading_of, version_read, round_two_complete}
use Rattle.plain_store.proofs.Members.{any_witness, all_at, filter_in}
use Rattle.plain_store.proofs.Seen.{seen_≤_needed}
use Rattle.get_all.specs.ReadProgress.{first_shows}
use Rattle.get_all.specs.Reading.{IsUnfractured, stamp_read}
use Rattle.get_all.specs.Reader.{IsOrderly}

shown_record : (s : Stamp) (ws : List Key) (o : Option (Option Record)) → first_shows s ws o ≡ true → (u : Record) × (o ≡ Some (Some u)) × (u.stamp ≡ s) × (u.writes ≡ ws)
shown_record s ws None h = cc
shown_record s ws (Some None) h = cc
shown_record s ws (Some (Some u)) h =
    let parts = and_parts (u.stamp == s) (keys_eq u.writes ws) h in
    (u, refl, eqb-true u.stamp s parts.0, (keys_eq-Decides u.writes ws).0 parts.1)

stamp_of_reading : (key : Key) (o : Option (Option Record)) → (reading_of key (flat o)).stamp ≡ stamp_seen o
stamp_of_reading key None = refl
stamp_of_reading key (Some None) = refl
stamp_of_reading key (Some (Some version)) = refl

flat_some : {X : Type 0} (o : Option (Option X)) (x : X) → flat o ≡ Some x → o ≡ Some (Some x)
flat_some None x h = cc
flat_some (Some p) x h = ap Some h

some_of : {X : Type 0} (o : Option X) → is_some o ≡ true → (x : X) × (o ≡ Some x)
some_of None h = cc
some_of (Some x) h = (x, refl)

module _ (keys : List Key) (replies : List Message) (ord : IsOrderly keys replies) (complete : round_two_complete keys replies ≡ true) where
  -- what is read is needed of each key that its transaction wrote
  read_≤_needed : (one other : Key) (version : Record) → one ∈ keys → version_read keys replies one ≡ Some version → contains_key version.writes other ≡ true → version.stamp ≤ needed keys replies other
  read_≤_needed one other version member is wrote = go (is_late keys replies one) refl is
    where
      go : (b : Bool) → is_late keys replies one ≡ b → cond b (seen_second replies one (needed keys replies one)) (flat (seen_first replies one)) ≡ Some version → version.stamp ≤ needed keys replies other
      go true e got =
          let shown = ord.second_writes one version got in
          let asked = ord.second_stamps one version got in
          let k = any_witness (λ k. first_shows (needed keys replies one) version.writes (seen_first replies k)) keys (sym (ord.first_writes (needed keys replies one) version.writes) ∙ shown) in
          let u = shown_record (needed keys replies one) version.writes (seen_first replies k.0) k.2 in
          let bound : u.0.stamp ≤ needed keys replies other =
          seen_≤_needed keys replies other k.0 u.0 k.1 u.1 (ap (λ ws. contains_key ws other) u.3 ∙ wrote) in
          omega (arith, bound, u.2, asked)
      go false e got = seen_≤_needed keys replies other one version member (flat_some (seen_first replies one) version got) wrote

  -- and what is needed is read
  needed_≤_read : (other : Key) → other ∈ keys → needed keys replies other ≤ stamp_read keys replies other
  unfolding first_stamp
  needed_≤_read other member = go (is_late keys replies other) refl
    where
      go : (b : Bool) → is_late keys replies other ≡ b
          → needed keys replies other ≤ (reading_of other (cond b (seen_second replies other (needed keys replies other)) (flat (seen_first replies other)))).stamp
      go true e =
          let there = all_at (λ key. is_some (seen_second replies key (needed keys replies key))) (late_keys keys replies) other complete (filter_in (is_late keys replies) keys other member e) in
          let u = some_of (seen_second replies other (needed keys replies other)) there in
          let stamped = ord.second_stamps other u.0 u.1 in
          let same : (reading_of other (seen_second replies other (needed keys replies other))).stamp ≡ u.0.stamp = ap (λ o. (reading_of other o).stamp) u.1 in
          omega (arith, same, stamped)
      go false e =
          let same = stamp_of_reading other (seen_first replies other) in
          let bound = ltb-false (stamp_seen (seen_first replies other)) (needed keys replies other) e in
          omega (arith, same, bound)

  pub unfractured : IsUnfractured keys replies
  unfractured one other version member among is wrote =
      let low = read_≤_needed one other version member is wrote in
      let high = needed_≤_read other among in
      omega (arith, low, high)
