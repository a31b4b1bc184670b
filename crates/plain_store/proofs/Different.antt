-- Lists in which nothing stands twice.
use Rattle.std.proofs.Common.{◌≡◌, ◌&&◌, List, [], ◌∷◌, Bool, true, false, refl, sym, ◌∙◌, cond, map, filter, Option, Some, None, bytes_eq}
use Rattle.std.specs.List.{list_any}
use Rattle.std.proofs.lemmas.Bool.{and_parts, both_ways}
use Rattle.plain_store.specs.Words.{◌∈◌, Key, Stamp, Record}
use Rattle.plain_store.specs.Log.{Log, is_version, accepted, with_version, versions, is_committed, committed}
use Rattle.plain_store.specs.Laws.{AreDifferent}
use Rattle.plain_store.proofs.Stamps.{key_is}
use Rattle.plain_store.proofs.Members.{in_map, in_filter, any_from}
use Rattle.plain_store.proofs.Logs.{is_version-from}

-- no two of the records are of one version
abbrev pub IsApart : List Record → Type 0
IsApart [] = Unit {0}
IsApart (v ∷ vs) = (list_any (is_version v.key v.stamp) vs ≡ false) × IsApart vs

apart_with : (o : Option Record) (vs : List Record) → IsApart vs → IsApart (with_version o vs)
apart_with None vs a = a
apart_with (Some v) vs a = go (list_any (is_version v.key v.stamp) vs) refl
  where
    go : (b : Bool) → list_any (is_version v.key v.stamp) vs ≡ b → IsApart (cond b vs (v ∷ vs))
    go true e = a
    go false e = (e, a)

pub versions_apart : (log : Log) → IsApart (versions log)
versions_apart [] = tt
versions_apart (e ∷ before) = apart_with (accepted e) (versions before) (versions_apart before)

-- of one item's versions each has another stamp
stamps_different : (key : Key) (q : Record → Bool) (vs : List Record) → ((v : Record) → q v ≡ true → v.key ≡ key) → IsApart vs → AreDifferent (map (λ (v : Record). v.stamp) (filter q vs))
stamps_different key q [] of a = tt
stamps_different key q (v ∷ vs) of a = go (q v) refl (stamps_different key q vs of a.1)
  where
    again : q v ≡ true → v.stamp ∈ map (λ (w : Record). w.stamp) (filter q vs) → ⊥
    again t h =
        let i = in_map (λ (w : Record). w.stamp) (filter q vs) v.stamp h in
        let f = in_filter q vs i.0 i.1 in
        both_ways _ a.0 (any_from (is_version v.key v.stamp) vs i.0 f.0 (is_version-from v.key v.stamp i.0 (of i.0 f.1 ∙ sym (of v t)) (sym i.2)))

    go : (b : Bool) → q v ≡ b → AreDifferent (map (λ (w : Record). w.stamp) (filter q vs)) → AreDifferent (map (λ (w : Record). w.stamp) (cond b (v ∷ filter q vs) (filter q vs)))
    go true t rest = (again t, rest)
    go false t rest = rest

pub committed_different : (log : Log) (key : Key) → AreDifferent (committed log key)
committed_different log key =
    stamps_different key (λ (v : Record). bytes_eq v.key key && is_committed log v.key v.stamp) (versions log)
    (λ v t. key_is v.key key (and_parts (bytes_eq v.key key) (is_committed log v.key v.stamp) t).0) (versions_apart log)

-- a part of them is different too
pub different_filter : (p : Stamp → Bool) (stamps : List Stamp) → AreDifferent stamps → AreDifferent (filter p stamps)
different_filter p [] d = tt
different_filter p (s ∷ ss) d = go (p s) (different_filter p ss d.1)
  where
    go : (b : Bool) → AreDifferent (filter p ss) → AreDifferent (cond b (s ∷ filter p ss) (filter p ss))
    go true rest = (λ h. d.0 (in_filter p ss s h).0, rest)
    go false rest = rest
