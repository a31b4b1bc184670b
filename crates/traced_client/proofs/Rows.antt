-- The rows of the clients that came: for `ClientWords`.
use Rattle.std.proofs.Common.{◌≡◌, ◌⊎◌, ◌+◌, ℕ, Bool, true, false, cond, List, [], ◌∷◌, length, Option, Some, None, Result, Ok, Err, inl, inr, refl, ap, sym, subst, ◌∙◌, arith}
use Rattle.std.specs.Prelude.{IsSome, OnOk, is_err, nat_eq}
use mathlib.Core.List.{IsPrefix}
use Rattle.indexmap.specs.IndexMap.{IndexMap, IsUnchanged, Updates, get}
use Rattle.plain_store.specs.Words.{◌∈◌}
use Rattle.plain_store.proofs.Members.{filter_in, in_cases}
use Rattle.history.specs.declared.entry.HistoryEntry.{HistoryEntry}
use Rattle.history.specs.declared.entry.HistoryEntry.TheVariants.{Joined}
use Rattle.history.specs.declared.entry.JoinedClient.{JoinedClient}
use Rattle.history.specs.Entries.{count, is_of, own}
use Rattle.history.proofs.Counts.{count_later, equal_test}
use Rattle.traced_client.specs.Clients.{HaveRows, row_of}

-- a list of one has no two
one_of_one : {X : Type 0} (xs : List X) (x y : X) → length xs ≡ 1 → x ∈ xs → y ∈ xs → x ≡ y
one_of_one [] x y one h k = absurd h
one_of_one (a ∷ []) x y one (inl e) (inl f) = e ∙ sym f
one_of_one (a ∷ []) x y one (inl e) (inr k) = absurd k
one_of_one (a ∷ []) x y one (inr h) k = absurd h
one_of_one (a ∷ b ∷ xs) x y one h k = absurd (omega (arith, one))

some_with : {X : Type 0} (b : Bool) (told : X) (o : Option X) → IsSome o → IsSome (cond b (Some told) o)
some_with true told o some = refl
some_with false told o some = some

module _ {X S : Type 0} where
  -- a row that is written over stays
  row_stays : (old new : IndexMap ℕ X S) (row : ℕ) (told : X) → Updates nat_eq old new row (Some told) → (other : ℕ) → IsSome (get nat_eq old other) → IsSome (get nat_eq new other)
  row_stays old new row told updates other some =
      subst (λ (o : Option X). IsSome o) (sym (updates.0 other)) (some_with (nat_eq row other) told (get nat_eq old other) some)

  pub rows_stay : (seen : List HistoryEntry) (old new : IndexMap ℕ X S) (row : ℕ) (told : X) → Updates nat_eq old new row (Some told) → HaveRows seen old → HaveRows seen new
  rows_stay seen old new row told updates have member joined = row_stays old new row told updates _ (have member joined)

  -- so does the one that is written
  row_there : (old new : IndexMap ℕ X S) (row other : ℕ) (told : X) → Updates nat_eq old new row (Some told) → other ≡ row → IsSome (get nat_eq new other)
  row_there old new row other told updates same = subst (λ (n : ℕ). IsSome (get nat_eq new n)) (sym same) (subst (λ (o : Option X). IsSome o) (sym updates.1) refl)

  -- room that is made changes no row
  pub rows_same : (seen : List HistoryEntry) (old new : IndexMap ℕ X S) → IsUnchanged old new → HaveRows seen old → HaveRows seen new
  rows_same seen old new same have member joined = rw same (have member joined)

  -- of a client that has no row no entry was seen
  pub none_joined : (seen : List HistoryEntry) (rows : IndexMap ℕ X S) (tenant client row : ℕ) → row ≡ row_of tenant client → get nat_eq rows row ≡ None → HaveRows seen rows
      → (other : JoinedClient) → Joined other ∈ seen → other.tenant ≡ tenant → other.client ≡ client → ⊥
  none_joined seen rows tenant client row at none have other joined of_tenant is =
      let same : row_of other.tenant other.client ≡ row = omega (arith, of_tenant, is, at) in
      let some : IsSome (get nat_eq rows row) = subst (λ (n : ℕ). IsSome (get nat_eq rows n)) same (have other joined) in
      let P : Option X → Type 0 = λ o. IsSome o in
      let both : P None = subst P none some in
      cc

  -- the one client that joined since then has a row
  pub joined_rows : (seen now : List HistoryEntry) (old new : IndexMap ℕ X S) (member : JoinedClient) (row : ℕ) (told : X) → IsPrefix seen now → count 0 now ≡ count 0 seen + 1
      → Joined member ∈ now → (Joined member ∈ seen → ⊥) → row ≡ row_of member.tenant member.client → Updates nat_eq old new row (Some told) → HaveRows seen old → HaveRows now new
  joined_rows seen now old new member row told pre counted joined fresh at updates have other has = go (behind other has)
    where
      later : List HistoryEntry
      later = own 0 pre.0

      one : length later ≡ 1
      one = omega (arith, counted, count_later 0 seen now pre)

      behind : (m : JoinedClient) → Joined m ∈ now → (Joined m ∈ seen) ⊎ (Joined m ∈ later)
      behind m h = from (in_cases seen pre.0 (Joined m) (subst (λ (l : List HistoryEntry). Joined m ∈ l) (sym pre.1) h))
        where
          from : (Joined m ∈ seen) ⊎ (Joined m ∈ pre.0) → (Joined m ∈ seen) ⊎ (Joined m ∈ later)
          from (inl before) = inl before
          from (inr after) = inr (filter_in (is_of 0) pre.0 (Joined m) after (equal_test 0 0 refl))

      its : Joined member ∈ later
      its = from (behind member joined)
        where
          from : (Joined member ∈ seen) ⊎ (Joined member ∈ later) → Joined member ∈ later
          from (inl before) = absurd (fresh before)
          from (inr after) = after

      go : (Joined other ∈ seen) ⊎ (Joined other ∈ later) → IsSome (get nat_eq new (row_of other.tenant other.client))
      go (inl before) = row_stays old new row told updates _ (have other before)
      go (inr after) =
          let same : Joined other ≡ Joined member = one_of_one later (Joined other) (Joined member) one after its in
          let is : other ≡ member = cc in
          row_there old new row _ told updates (ap (λ (m : JoinedClient). row_of m.tenant m.client) is ∙ sym at)

pub ok_holds : {V E : Type 0} (result : Result V E) (P : Type 0) → is_err result ≡ false → OnOk result P → P
ok_holds (Ok value) P fine holds = holds
ok_holds (Err error) P fine holds = cc
