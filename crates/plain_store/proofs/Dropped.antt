-- What a DISCARD leaves.
use Rattle.std.proofs.Common.{◌≡◌, ◌≤◌, Bool, true, false, ◌&&◌, ◌||◌, ◌==◌, ◌⊎◌, inl, inr, refl, sym, subst, cond, not, nat_le, [], ◌∷◌, ◌++◌, filter, Option, Some, None, option_to_list, eqb-true, eq-eqb}
use Rattle.std.specs.List.{list_any}
use Rattle.std.proofs.lemmas.Bool.{and_parts, and_from, or_cases, or_left, or_right, or_parts, both_ways}
use Rattle.stamps.specs.Stamp.{client_of}
use Rattle.plain_store.specs.Words.{◌∈◌, Stamp, Record, Discard, DiscardReply, Dropped, FullMarks, ToDiscard}
use Rattle.plain_store.specs.Log.{Log, is_version, accepted, with_version, discarded_by, is_stamp, is_some_version, is_live, is_committed, floor, is_kept, versions}
use Rattle.plain_store.specs.Marks.{discarded, is_of_client, mark}
use Rattle.plain_store.proofs.Stamps.{≤_greatest}
use Rattle.plain_store.proofs.Logs.{is_version-from}
use Rattle.plain_store.specs.Laws.{DropsNoMore}
use Rattle.plain_store.proofs.Members.{in_filter, filter_in}

pub drops_no_more : (log : Log) (stamp : Stamp) (reply : DiscardReply) → DropsNoMore log stamp reply
drops_no_more log stamp FullMarks version h why = h
drops_no_more log stamp (Dropped count) version h why =
    let f = in_filter (is_kept log) (versions log) version h in
    let p = and_parts (nat_le (floor log version.key) version.stamp) (is_committed log version.key version.stamp || is_live log version.key version.stamp) f.1 in
    filter_in (is_kept (record { call = Discard stamp; reply = ToDiscard (Dropped count) } ∷ log)) (versions log) version f.0
    (and_from (nat_le (floor log version.key) version.stamp) (is_committed log version.key version.stamp || (not (stamp == version.stamp) && is_live log version.key version.stamp)) p.0
    (go (or_cases (is_committed log version.key version.stamp) (is_live log version.key version.stamp) p.1) why))
  where
    committed : is_committed log version.key version.stamp ≡ true → (is_committed log version.key version.stamp || (not (stamp == version.stamp) && is_live log version.key version.stamp)) ≡ true
    committed c = or_left (is_committed log version.key version.stamp) (not (stamp == version.stamp) && is_live log version.key version.stamp) c

    other : (version.stamp ≡ stamp → ⊥) → (b : Bool) → (stamp == version.stamp) ≡ b → not b ≡ true
    other different true e = absurd (different (sym (eqb-true stamp version.stamp e)))
    other different false e = refl

    go : (is_committed log version.key version.stamp ≡ true) ⊎ (is_live log version.key version.stamp ≡ true) → (is_committed log version.key version.stamp ≡ true) ⊎ (version.stamp ≡ stamp → ⊥)
        → (is_committed log version.key version.stamp || (not (stamp == version.stamp) && is_live log version.key version.stamp)) ≡ true
    go (inl c) w = committed c
    go (inr l) (inl c) = committed c
    go (inr l) (inr different) =
        or_right (is_committed log version.key version.stamp) (not (stamp == version.stamp) && is_live log version.key version.stamp)
        (and_from (not (stamp == version.stamp)) (is_live log version.key version.stamp) (other different (stamp == version.stamp) refl) l)

-- ---- what is not live any more

-- what was accepted and is not live was discarded
discarded_since : (log : Log) (version : Record) → version ∈ versions log → is_live log version.key version.stamp ≡ false → version.stamp ∈ discarded log
discarded_since [] version h dead = absurd h
discarded_since (e ∷ before) version h dead = go (discarded_by e.call e.reply) dead (λ k d. discarded_since before version k d)
  where
    Earlier : Type 0
    Earlier = version ∈ versions before → is_live before version.key version.stamp ≡ false → version.stamp ∈ discarded before

    old : (o : Option Record) → version ∈ with_version o (versions before) → (is_some_version version.key version.stamp o || is_live before version.key version.stamp) ≡ false → Earlier → version.stamp ∈ discarded before
    old None k d earlier = earlier k d
    old (Some v) k d earlier = by (list_any (is_version v.key v.stamp) (versions before)) k
      where
        by : (b : Bool) → version ∈ cond b (versions before) (v ∷ versions before) → version.stamp ∈ discarded before
        by true i = earlier i (or_parts (is_version version.key version.stamp v) (is_live before version.key version.stamp) d).1
        by false (inl same) =
            absurd (both_ways _ (or_parts (is_version version.key version.stamp v) (is_live before version.key version.stamp) d).0
            (subst (λ (r : Record). is_version version.key version.stamp r ≡ true) same (is_version-from version.key version.stamp version refl refl)))
        by false (inr i) = earlier i (or_parts (is_version version.key version.stamp v) (is_live before version.key version.stamp) d).1

    go : (o : Option Stamp) → (not (is_stamp version.stamp o) && (is_some_version version.key version.stamp (accepted e) || is_live before version.key version.stamp)) ≡ false → Earlier
        → version.stamp ∈ (option_to_list o ++ discarded before)
    go None d earlier = old (accepted e) h d earlier
    go (Some s) d earlier = by (s == version.stamp) refl d
      where
        by : (b : Bool) → (s == version.stamp) ≡ b → (not b && (is_some_version version.key version.stamp (accepted e) || is_live before version.key version.stamp)) ≡ false
            → version.stamp ∈ (s ∷ discarded before)
        by true t k = inl (sym (eqb-true s version.stamp t))
        by false t k = inr (old (accepted e) h k earlier)

-- so it is not above its client's mark
pub dropped_marked : (log : Log) (version : Record) → version ∈ versions log → is_live log version.key version.stamp ≡ false → version.stamp ≤ mark log (client_of version.stamp)
dropped_marked log version h dead =
    let client = client_of version.stamp in
    ≤_greatest (filter (is_of_client client) (discarded log)) version.stamp
    (filter_in (is_of_client client) (discarded log) version.stamp (discarded_since log version h dead) (eq-eqb client client refl))
