-- The records of a write: for `WriteRecords::reset` and `call_into`.
use Rattle.std.proofs.Common.{◌≡◌, ℕ, List, [], ◌∷◌, Bool, true, ◌&&◌, map, ap, sym, ◌∙◌, refl, subst, slice_get, Some, inl, inr}
use Rattle.std.specs.Prelude.{Contains, bytes_eq}
use Rattle.std.specs.Option.{option_map}
use Rattle.std.specs.List.{list_all}
use Rattle.std.proofs.lemmas.Option.{slice_get-map}
use Rattle.stamps.specs.Key.{sorted_keys}
use Rattle.plain_store.specs.Words.{Record, Item, ◌∈◌, Key, Stamp}
use Rattle.stamps.specs.WriteSet.{contains_key}
use Rattle.plain_store.specs.Writing.{keys_written}
use Rattle.plain_store.proofs.Counting.{In, any_in, Contains-from_In}
use Rattle.plain_store.proofs.Members.{got_is, all_at, map_in}
use Rattle.plain_store.proofs.Seen.{sorted_in, listed_from}
use Rattle.plain_store.proofs.Stamps.{key_is}

pub contains_from : (keys : List Key) (key : Key) → contains_key keys key ≡ true → Contains keys key
contains_from keys key among =
    let found = any_in (λ k. bytes_eq k key) keys among in
    let P : Key → Type 0 = λ k. In k keys in
    Contains-from_In keys key (subst P (key_is found.0 key found.2) found.1)

pub all_from : {X : Type 0} (p : X → Bool) (xs : List X) → ((x : X) → x ∈ xs → p x ≡ true) → list_all p xs ≡ true
all_from p [] each = refl
all_from p (x ∷ xs) each = ap (λ b. b && list_all p xs) (each x (inl refl)) ∙ all_from p xs (λ y member. each y (inr member))

-- the write set has each key
pub all_written : (items : List Item) (writes : List Key) → writes ≡ sorted_keys (keys_written items) → list_all (λ (item : Item). contains_key writes item.key) items ≡ true
all_written items writes is =
    all_from (λ item. contains_key writes item.key) items (λ item member.
    ap (λ ks. contains_key ks item.key) is
    ∙ listed_from (sorted_keys (keys_written items)) item.key (sorted_in (keys_written items) item.key (map_in (λ (i : Item). i.key) items item member)))

pub written_at : (items : List Item) (writes : List Key) (place : ℕ) (item : Item) → list_all (λ (i : Item). contains_key writes i.key) items ≡ true
    → slice_get items place ≡ Some item → Contains writes item.key
written_at items writes place item all at = contains_from writes item.key (all_at (λ (i : Item). contains_key writes i.key) items item all (got_is items place item at))

pub version_at : (stamp : Stamp) (writes : List Key) (items : List Item) (versions : List Record) (place : ℕ) (item : Item)
    → map (λ (i : Item). record { key = i.key; tag = i.tag; value = i.value; stamp = stamp; writes = writes }) items ≡ versions → slice_get items place ≡ Some item
    → slice_get versions place ≡ Some (record { key = item.key; tag = item.tag; value = item.value; stamp = stamp; writes = writes })
version_at stamp writes items versions place item is at =
    let make : Item → Record = λ i. record { key = i.key; tag = i.tag; value = i.value; stamp = stamp; writes = writes } in
    ap (λ vs. slice_get vs place) (sym is) ∙ slice_get-map make items place ∙ ap (option_map make) at
