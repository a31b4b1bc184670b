-- How often a key or a partition stands among the calls of a transaction.
use Rattle.std.proofs.Common.{◌≡◌, ℕ, zero, suc, ◌+◌, ◌<◌, ◌≤◌, List, [], ◌∷◌, ◌++◌, Bool, true, false, ◌&&◌, ◌==◌, inl, inr, refl, sym, ap, ◌∙◌, subst, cond, map, length, count_by, nat_lt, None, Some, bytes_eq, arith, eqb-true, eq-eqb}
use Rattle.std.proofs.lemmas.Bool.{and_parts, or_parts, ltb-true, ltb-false, eqb-false}
use Rattle.std.proofs.lemmas.List.Sums.{sum_by-append}
use Rattle.stamps.specs.WriteSet.{contains_key}
use Rattle.plain_store.specs.Words.{◌∈◌, Key, Tag, Stamp, Item, Commit, Get, Found, Message, Setup, home, Discard}
use Rattle.plain_store.specs.Writing.{Outgoing, insert_number, ascending, keys_written, prepare_call, prepare_calls, commit_calls, partitions_written, discard_calls}
use Rattle.plain_store.specs.Rounds.{first_calls, second_calls, needed, is_late, late_keys}
use Rattle.plain_store.specs.Run.{one_twice}
use Rattle.plain_store.specs.Counts.{is_prepare, is_prepare_of, is_commit, is_get_of, is_found, is_discard}
use Rattle.plain_store.specs.Finding.{below, found_calls}
use Rattle.plain_store.proofs.Stamps.{key_is, is_key}
use Rattle.plain_store.proofs.Members.{map_in, in_map}
use Rattle.plain_store.proofs.Seen.{ascending_in}
use Rattle.plain_store.proofs.Counting.{count_by-cons, count_by-map, count_by-filter, count_by-le, count_by-all}

pub count_append : {X : Type 0} (p : X → Bool) (xs ys : List X) → count_by p (xs ++ ys) ≡ count_by p xs + count_by p ys
count_append p xs ys = sum_by-append (λ x. cond (p x) 1 0) xs ys

pub count_none : {X : Type 0} (p : X → Bool) (xs : List X) → ((x : X) → p x ≡ false) → count_by p xs ≡ 0
count_none p [] h = refl
count_none p (x ∷ xs) h = let here = ap {B = ℕ} (λ b. cond b 1 0) (h x) in omega (arith, count_by-cons p x xs, here, count_none p xs h)

-- ---- keys of which none stands twice

abbrev pub count_of : Key → List Key → ℕ
count_of key keys = count_by (λ k. bytes_eq k key) keys

count_absent : (keys : List Key) (key : Key) → contains_key keys key ≡ false → count_of key keys ≡ 0
count_absent [] key h = refl
count_absent (k ∷ ks) key h =
    let p = or_parts (bytes_eq k key) (contains_key ks key) h in
    let here = ap {B = ℕ} (λ b. cond b 1 0) p.0 in
    omega (arith, count_by-cons (λ j. bytes_eq j key) k ks, here, count_absent ks key p.1)

pub count_key : (keys : List Key) (key : Key) → one_twice keys ≡ false → count_of key keys ≤ 1
count_key [] key d = omega arith
count_key (k ∷ ks) key d = subst (λ n. n ≤ 1) (sym (count_by-cons (λ j. bytes_eq j key) k ks)) (go (bytes_eq k key) refl (count_key ks key (or_parts (contains_key ks k) (one_twice ks) d).1))
  where
    absent : bytes_eq k key ≡ true → count_of key ks ≡ 0
    absent t = count_absent ks key (subst (λ j. contains_key ks j ≡ false) (key_is k key t) (or_parts (contains_key ks k) (one_twice ks) d).0)

    go : (b : Bool) → bytes_eq k key ≡ b → count_of key ks ≤ 1 → cond b 1 0 + count_of key ks ≤ 1
    go true t rest = let none = absent t in omega (arith, none)
    go false t rest = omega (arith, rest)

count_some : (keys : List Key) (key : Key) → key ∈ keys → 1 ≤ count_of key keys
count_some [] key h = absurd h
count_some (k ∷ ks) key (inl e) = let here = ap {B = ℕ} (λ b. cond b 1 0) (is_key k key (sym e)) in omega (arith, count_by-cons (λ j. bytes_eq j key) k ks, here)
count_some (k ∷ ks) key (inr h) = omega (arith, count_by-cons (λ j. bytes_eq j key) k ks, count_some ks key h)

count_once : (keys : List Key) (key : Key) → one_twice keys ≡ false → key ∈ keys → count_of key keys ≡ 1
count_once keys key d h = omega (arith, count_key keys key d, count_some keys key h)

-- ---- ascending numbers

-- the first of them is above this one
abbrev IsAbove : ℕ → List ℕ → Type 0
IsAbove k [] = Unit {0}
IsAbove k (n ∷ ns) = k < n

abbrev IsRising : List ℕ → Type 0
IsRising [] = Unit {0}
IsRising (n ∷ ns) = IsAbove n ns × IsRising ns

insert_above : (k n : ℕ) (ms : List ℕ) → k < n → IsAbove k ms → IsAbove k (insert_number n ms)
insert_above k n [] l a = l
insert_above k n (m ∷ ms) l a = go (nat_lt m n) (n == m)
  where
    go : (b c : Bool) → IsAbove k (cond b (m ∷ insert_number n ms) (cond c (m ∷ ms) (n ∷ m ∷ ms)))
    go true c = a
    go false true = a
    go false false = l

insert_rises : (n : ℕ) (ms : List ℕ) → IsRising ms → IsRising (insert_number n ms)
insert_rises n [] r = (tt, tt)
insert_rises n (m ∷ ms) r = go (nat_lt m n) refl (n == m) refl (insert_rises n ms r.1)
  where
    go : (b : Bool) → nat_lt m n ≡ b → (c : Bool) → (n == m) ≡ c → IsRising (insert_number n ms) → IsRising (cond b (m ∷ insert_number n ms) (cond c (m ∷ ms) (n ∷ m ∷ ms)))
    go true e c f rest = (insert_above m n ms (ltb-true m n e) r.0, rest)
    go false e true f rest = r
    go false e false f rest = let le = ltb-false m n e in let ne = eqb-false n m f in (below le ne, r)
      where
        below : n ≤ m → (n ≡ m → ⊥) → n < m
        below le ne = omega (arith, le, ne)

ascending_rises : (ns : List ℕ) → IsRising (ascending ns)
ascending_rises [] = tt
ascending_rises (n ∷ ns) = insert_rises n (ascending ns) (ascending_rises ns)

abbrev count_at : ℕ → List ℕ → ℕ
count_at p ns = count_by (λ n. n == p) ns

count_above : (p k : ℕ) (ns : List ℕ) → p ≤ k → IsAbove k ns → IsRising ns → count_at p ns ≡ 0
count_above p k [] l a r = refl
count_above p k (n ∷ ns) l a r = count_by-cons (λ m. m == p) n ns ∙ go (n == p) refl (count_above p n ns (omega arith) r.0 r.1)
  where
    go : (b : Bool) → (n == p) ≡ b → count_at p ns ≡ 0 → cond b 1 0 + count_at p ns ≡ 0
    go true e rest = let same = eqb-true n p e in absurd (omega arith)
    go false e rest = omega (arith, rest)

count_rising : (p : ℕ) (ns : List ℕ) → IsRising ns → count_at p ns ≤ 1
count_rising p [] r = omega arith
count_rising p (n ∷ ns) r = subst (λ c. c ≤ 1) (sym (count_by-cons (λ m. m == p) n ns)) (go (n == p) refl (count_rising p ns r.1))
  where
    none : (n == p) ≡ true → count_at p ns ≡ 0
    none e = let same = eqb-true n p e in count_above p n ns (omega arith) r.0 r.1

    go : (b : Bool) → (n == p) ≡ b → count_at p ns ≤ 1 → cond b 1 0 + count_at p ns ≤ 1
    go true e rest = let zero = none e in omega (arith, zero)
    go false e rest = omega (arith, rest)

-- ---- the calls of a write

pub prepares_all : (setup : Setup) (stamp : Stamp) (items : List Item) → count_by (λ (out : Outgoing). is_prepare out.call) (prepare_calls setup stamp items) ≡ length items
prepares_all setup stamp items = count_by-map (λ (out : Outgoing). is_prepare out.call) (prepare_call setup stamp items) items ∙ count_by-all items

pub prepares_one : (setup : Setup) (stamp : Stamp) (items : List Item) (item : Item) → one_twice (keys_written items) ≡ false → item ∈ items
    → count_by (λ (out : Outgoing). is_prepare_of item.key out.call) (prepare_calls setup stamp items) ≡ 1
prepares_one setup stamp items item d h =
    count_by-map (λ (out : Outgoing). is_prepare_of item.key out.call) (prepare_call setup stamp items) items ∙ sym (count_by-map (λ k. bytes_eq k item.key) (λ (i : Item). i.key) items)
    ∙ count_once (keys_written items) item.key d (map_in (λ (i : Item). i.key) items item h)

pub prepares_commit_none : (setup : Setup) (stamp : Stamp) (items : List Item) (partition : ℕ) → count_by (λ (out : Outgoing). is_commit out.call && (out.partition == partition)) (prepare_calls setup stamp items) ≡ 0
prepares_commit_none setup stamp items partition =
    count_by-map (λ (out : Outgoing). is_commit out.call && (out.partition == partition)) (prepare_call setup stamp items) items ∙ count_none _ items (λ item. refl)

pub commits_prepare_none : (setup : Setup) (stamp : Stamp) (items : List Item) (p : Outgoing → Bool) → ((partition : ℕ) → p (record { partition = partition; call = Commit stamp }) ≡ false) → count_by p (commit_calls setup stamp items) ≡ 0
commits_prepare_none setup stamp items p none =
    count_by-map p (λ (partition : ℕ). record { partition = partition; call = Commit stamp }) (partitions_written setup items) ∙ count_none _ (partitions_written setup items) none

pub commits_one : (setup : Setup) (stamp : Stamp) (items : List Item) (partition : ℕ) → count_by (λ (out : Outgoing). is_commit out.call && (out.partition == partition)) (commit_calls setup stamp items) ≤ 1
commits_one setup stamp items partition =
    subst (λ n. n ≤ 1) (sym (count_by-map (λ (out : Outgoing). is_commit out.call && (out.partition == partition)) (λ (p : ℕ). record { partition = p; call = Commit stamp }) (partitions_written setup items)))
    (count_rising partition (partitions_written setup items) (ascending_rises (map (λ (item : Item). home setup item.key) items)))

pub prepares_discard_none : (setup : Setup) (stamp : Stamp) (items : List Item) (partition : ℕ) → count_by (λ (out : Outgoing). is_discard out.call && (out.partition == partition)) (prepare_calls setup stamp items) ≡ 0
prepares_discard_none setup stamp items partition =
    count_by-map (λ (out : Outgoing). is_discard out.call && (out.partition == partition)) (prepare_call setup stamp items) items ∙ count_none _ items (λ item. refl)

pub discards_none : (setup : Setup) (stamp : Stamp) (items : List Item) (p : Outgoing → Bool) → ((partition : ℕ) → p (record { partition = partition; call = Discard stamp }) ≡ false) → count_by p (discard_calls setup stamp items) ≡ 0
discards_none setup stamp items p none =
    count_by-map p (λ (partition : ℕ). record { partition = partition; call = Discard stamp }) (partitions_written setup items) ∙ count_none _ (partitions_written setup items) none

pub discards_one : (setup : Setup) (stamp : Stamp) (items : List Item) (partition : ℕ) → count_by (λ (out : Outgoing). is_discard out.call && (out.partition == partition)) (discard_calls setup stamp items) ≤ 1
discards_one setup stamp items partition =
    subst (λ n. n ≤ 1) (sym (count_by-map (λ (out : Outgoing). is_discard out.call && (out.partition == partition)) (λ (p : ℕ). record { partition = p; call = Discard stamp }) (partitions_written setup items)))
    (count_rising partition (partitions_written setup items) (ascending_rises (map (λ (item : Item). home setup item.key) items)))

count_at_some : (p : ℕ) (ns : List ℕ) → p ∈ ns → 1 ≤ count_at p ns
count_at_some p [] h = absurd h
count_at_some p (n ∷ ns) (inl e) =
    subst (λ c. 1 ≤ c) (sym (count_by-cons (λ m. m == p) n ns))
    (subst (λ b. 1 ≤ cond b 1 0 + count_at p ns) (sym (eq-eqb n p (sym e))) (omega arith))
count_at_some p (n ∷ ns) (inr k) = let rest = count_at_some p ns k in omega (arith, rest, count_by-cons (λ m. m == p) n ns)

home_in : (setup : Setup) (items : List Item) (key : Key) → key ∈ keys_written items → home setup key ∈ partitions_written setup items
home_in setup items key h =
    let i = in_map (λ (item : Item). item.key) items key h in
    ascending_in (map (λ (item : Item). home setup item.key) items) (home setup key)
    (subst (λ (k : Key). home setup k ∈ map (λ (item : Item). home setup item.key) items) (sym i.2) (map_in (λ (item : Item). home setup item.key) items i.0 i.1))

-- one DISCARD goes to each home of a key
pub discards_each : (setup : Setup) (stamp : Stamp) (items : List Item) (key : Key) → key ∈ keys_written items → count_by (λ (out : Outgoing). out.partition == home setup key) (discard_calls setup stamp items) ≡ 1
discards_each setup stamp items key h =
    let few = count_rising (home setup key) (partitions_written setup items) (ascending_rises (map (λ (item : Item). home setup item.key) items)) in
    let some = count_at_some (home setup key) (partitions_written setup items) (home_in setup items key h) in
    let same = count_by-map (λ (out : Outgoing). out.partition == home setup key) (λ (p : ℕ). record { partition = p; call = Discard stamp }) (partitions_written setup items) in
    omega (arith, few, some, same)

-- ---- the calls of a read

pub firsts_one : (setup : Setup) (keys : List Key) (key : Key) → count_of key keys ≤ 1 → count_by (λ (out : Outgoing). is_get_of key out.call) (first_calls setup keys) ≤ 1
firsts_one setup keys key one =
    subst (λ n. n ≤ 1) (sym (count_by-map (λ (out : Outgoing). is_get_of key out.call) (λ (k : Key). record { partition = home setup k; call = Get k None }) keys)) one

pub seconds_one : (setup : Setup) (keys : List Key) (replies : List Message) (key : Key) → count_of key keys ≤ 1 → count_by (λ (out : Outgoing). is_get_of key out.call) (second_calls setup keys replies) ≤ 1
seconds_one setup keys replies key one =
    let all = count_by-map (λ (out : Outgoing). is_get_of key out.call) (λ (k : Key). record { partition = home setup k; call = Get k (Some (needed keys replies k)) }) (late_keys keys replies) in
    let late = count_by-filter (λ k. bytes_eq k key) (is_late keys replies) keys in
    let fewer = count_by-le (λ k. is_late keys replies k && bytes_eq k key) (λ k. bytes_eq k key) keys (λ k t. (and_parts (is_late keys replies k) (bytes_eq k key) t).1) in
    omega (arith, all, late, fewer, one)

-- ---- the calls of a search

-- each partition stands once among the first n numbers
count_below : (n p : ℕ) → (count_at p (below n) ≤ 1) × (n ≤ p → count_at p (below n) ≡ 0)
count_below zero p = (omega arith, λ h. refl)
count_below (suc n) p = go (n == p) refl (count_append (λ m. m == p) (below n) (n ∷ []) ∙ ap (λ c. count_at p (below n) + c) (count_by-cons (λ m. m == p) n [])) (count_below n p)
  where
    go : (b : Bool) → (n == p) ≡ b → count_at p (below n ++ n ∷ []) ≡ count_at p (below n) + (cond (n == p) 1 0 + 0) → (count_at p (below n) ≤ 1) × (n ≤ p → count_at p (below n) ≡ 0)
        → (count_at p (below n ++ n ∷ []) ≤ 1) × (suc n ≤ p → count_at p (below n ++ n ∷ []) ≡ 0)
    go true e all rest =
        let same = eqb-true n p e in
        let here = ap {B = ℕ} (λ b. cond b 1 0) e in
        let none = rest.1 (omega (arith, same)) in
        (omega (arith, all, here, none), λ h. absurd (omega (arith, same)))
    go false e all rest =
        let here = ap {B = ℕ} (λ b. cond b 1 0) e in
        let few = rest.0 in
        (omega (arith, all, here, few), λ h. let none = rest.1 (omega arith) in omega (arith, all, here, none))

pub founds_one : (setup : Setup) (tag : Tag) (partition : ℕ) → count_by (λ (out : Outgoing). is_found out.call && (out.partition == partition)) (found_calls setup tag) ≤ 1
founds_one setup tag partition =
    subst (λ n. n ≤ 1) (sym (count_by-map (λ (out : Outgoing). is_found out.call && (out.partition == partition)) (λ (p : ℕ). record { partition = p; call = Found tag }) (below setup.partitions)))
    (count_below setup.partitions partition).0

pub founds_get_none : (setup : Setup) (tag : Tag) (key : Key) → count_by (λ (out : Outgoing). is_get_of key out.call) (found_calls setup tag) ≡ 0
founds_get_none setup tag key =
    count_by-map (λ (out : Outgoing). is_get_of key out.call) (λ (p : ℕ). record { partition = p; call = Found tag }) (below setup.partitions) ∙ count_none _ (below setup.partitions) (λ p. refl)

pub firsts_found_none : (setup : Setup) (keys : List Key) (partition : ℕ) → count_by (λ (out : Outgoing). is_found out.call && (out.partition == partition)) (first_calls setup keys) ≡ 0
firsts_found_none setup keys partition =
    count_by-map (λ (out : Outgoing). is_found out.call && (out.partition == partition)) (λ (k : Key). record { partition = home setup k; call = Get k None }) keys ∙ count_none _ keys (λ k. refl)

pub seconds_found_none : (setup : Setup) (keys : List Key) (replies : List Message) (partition : ℕ) → count_by (λ (out : Outgoing). is_found out.call && (out.partition == partition)) (second_calls setup keys replies) ≡ 0
seconds_found_none setup keys replies partition =
    count_by-map (λ (out : Outgoing). is_found out.call && (out.partition == partition)) (λ (k : Key). record { partition = home setup k; call = Get k (Some (needed keys replies k)) }) (late_keys keys replies)
    ∙ count_none _ (late_keys keys replies) (λ k. refl)
