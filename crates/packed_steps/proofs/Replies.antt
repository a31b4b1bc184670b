-- That a packed reply is read again.
use Rattle.std.proofs.Common.{◌≡◌, ℕ, ◌^◌, ◌<◌, cond, eqb, ltb, [], ◌∷◌, ◌++◌, List, length, min, Option, Some, refl, ap, eq-eqb, ◌∙◌, append_assoc, arith, inl, inr}
use Rattle.std.specs.List.{AllByRecursion}
use Rattle.std.proofs.lemmas.Bool.{ne_eqb, lt-ltb, cases_lt}
use Rattle.stamps.specs.Key.{IsKey}
use Rattle.stamps.specs.Limits.{max_found}
use Rattle.stamps.specs.WriteSet.{IsWriteSet}
use Rattle.plain_store.specs.FoundKeys.{Findings, IsFound}
use Rattle.plain_store.specs.declared.calls.Reply.{Reply}
use Rattle.plain_store.specs.declared.calls.Reply.TheVariants.{Prepare as ToPrepare, Committed as ToCommit, Get as ToGet}
use Rattle.plain_store.specs.declared.calls.Reply.TheVariants.{Found as ToFound, Freed as ToCollect, Discard as ToDiscard}
use Rattle.plain_store.specs.declared.calls.PrepareReply.TheVariants.{Prepared, FullSlots, FullItems, Clash, Discarded}
use Rattle.plain_store.specs.declared.calls.ReadReply.TheVariants.{Version, Initial, Collected, Unknown}
use Rattle.plain_store.specs.declared.calls.DiscardReply.TheVariants.{Dropped, FullMarks}
use Rattle.packed.specs.Packing.{packed_number, packed_keys}
use Rattle.packed_steps.specs.PackedCalls.{packed_found, IsStoreFound, packed_reply, IsStoreReply}
use Rattle.packed_steps.specs.PackedCalls.{some_found_at, found_at, committed_at, version_at, collected_at, told_at, freed_at, dropped_at, plain_reply_by, reply_by, reply_at}
use Rattle.packed.proofs.Texts.{stamp_again, count_again}
use Rattle.packed.proofs.Records.{record_again, writes_again}

-- ---- what stands under a tag

write_set : (count : ℕ) (keys : List (List ℕ)) → 0 < count → IsFound (record { count = count; keys = keys }) → IsWriteSet keys
write_set count keys some h =
    let as_many : length keys ≡ min count max_found = h.as_many in
    record { not_empty = omega (arith, some, as_many); at_most = omega (arith, as_many); ascending = h.ascending }

some_found_again : (count : ℕ) (keys : List (List ℕ)) (rest : List ℕ) → 0 < count → IsFound (record { count = count; keys = keys }) → AllByRecursion IsKey keys
    → some_found_at count (packed_keys keys ++ rest) ≡ Some (record { count = count; keys = keys }, rest)
unfolding some_found_at
some_found_again count keys rest some h all =
    rw (writes_again keys rest (write_set count keys some h) all, eq-eqb (length keys) (min count max_found) h.as_many) refl

abbrev keys_part : ℕ → List (List ℕ) → List ℕ
keys_part count keys = cond (ltb 0 count) (packed_keys keys) []

abbrev found_behind : ℕ → List ℕ → Option (Findings × List ℕ)
found_behind count bytes = cond (eqb count 0) (Some (record { count = 0; keys = [] }, bytes)) (some_found_at count bytes)

behind_number : (count : ℕ) (more : List ℕ) → count < 2 ^ 32 → found_at (packed_number count ++ more) ≡ found_behind count more
unfolding found_at
behind_number count more small = rw (count_again count more small) refl

no_keys : (keys : List (List ℕ)) → length keys ≡ 0 → keys ≡ []
no_keys [] h = refl
no_keys (k ∷ keys) h = absurd (omega (arith, h))

behind_again : (count : ℕ) (keys : List (List ℕ)) (rest : List ℕ) → IsFound (record { count = count; keys = keys }) → AllByRecursion IsKey keys
    → found_behind count (keys_part count keys ++ rest) ≡ Some (record { count = count; keys = keys }, rest)
behind_again count keys rest h all =
    elim (cases_lt 0 count) [
      | inl above ↦ rw (lt-ltb 0 count above, ne_eqb count 0 (λ e. omega (arith, above, e))) (some_found_again count keys rest above h all)
      | inr le ↦
          let none : count ≡ 0 = omega (arith, le) in
          let as_many : length keys ≡ min count max_found = h.as_many in
          let empty : keys ≡ [] = no_keys keys (omega (arith, as_many, none)) in
          rw (none, empty) refl
    ]

found_again : (found : Findings) (rest : List ℕ) → IsStoreFound found → found_at (packed_found found ++ rest) ≡ Some (found, rest)
found_again found rest h =
    ap found_at (append_assoc (packed_number found.count) (keys_part found.count found.keys) rest)
    ∙ behind_number found.count (keys_part found.count found.keys ++ rest) h.counted
    ∙ behind_again found.count found.keys rest h.told h.keys

-- ---- replies

pub reply_again : (reply : Reply) (rest : List ℕ) → IsStoreReply reply → reply_at (packed_reply reply ++ rest) ≡ Some (reply, rest)
unfolding reply_at reply_by plain_reply_by committed_at version_at collected_at told_at freed_at dropped_at
reply_again (ToPrepare Prepared) rest h = refl
reply_again (ToPrepare FullSlots) rest h = refl
reply_again (ToPrepare FullItems) rest h = refl
reply_again (ToPrepare Clash) rest h = refl
reply_again (ToPrepare Discarded) rest h = refl
reply_again (ToCommit count) rest h = rw (count_again count rest h) refl
reply_again (ToGet (Version version)) rest h = rw (record_again version rest h) refl
reply_again (ToGet Initial) rest h = refl
reply_again (ToGet (Collected floor)) rest h = rw (stamp_again floor rest h) refl
reply_again (ToGet Unknown) rest h = refl
reply_again (ToFound found) rest h = rw (found_again found rest h) refl
reply_again (ToCollect count) rest h = rw (count_again count rest h) refl
reply_again (ToDiscard (Dropped count)) rest h = rw (count_again count rest h) refl
reply_again (ToDiscard FullMarks) rest h = refl
